-- Turns one after another over lists of streams, which may change between them in any way, and who has them.
use Rattle.std.specs.Prelude.{◌≡◌, ◌≢◌, ◌<◌, ℕ, ◌+◌, Bool, true, ◌==◌, List, [], ◌∷◌, slice_set, Option, Some, None, if◌then◌else◌}
use Rattle.h3_scheduler.specs.Rounds.{after_turn, round_at}
use Rattle.h3_scheduler.specs.Streams.{Stream, Streams, any_by, id_of, is_it, next_turn, stream_at, takes_turn}
use Rattle.h3_scheduler.specs.declared.round.Round.{Round}

-- the streams as they are then, a number above all ids that are open, and the stream whose turn is over
pub record Turn : Type 0 where
  pub streams : Streams
  pub bound : ℕ
  pub id : ℕ

-- the rounds once a turn is over, if the stream is there: that of its urgency goes on, or another begins
abbrev pub ended_at : List Round → ℕ → ℕ → Option Stream → List Round
ended_at rounds id bound None = rounds
ended_at rounds id bound (Some there) =
    slice_set rounds there.priority.urgency (after_turn (round_at rounds there.priority.urgency) id bound)

abbrev pub rounds_after : List Round → Turn → List Round
rounds_after rounds t = ended_at rounds t.id t.bound (stream_at t.streams t.id)

-- the stream whose turn is over, if it has this urgency
abbrev pub at_urgency : ℕ → ℕ → Option Stream → Option ℕ
at_urgency urgency id None = None
at_urgency urgency id (Some there) = if there.priority.urgency == urgency then Some id else None

abbrev pub turn_of : ℕ → Turn → Option ℕ
turn_of urgency t = at_urgency urgency t.id (stream_at t.streams t.id)

-- a stream takes turns at this urgency
abbrev pub has_turns : ℕ → Streams → ℕ → Bool
has_turns urgency streams id = any_by id_of (takes_turn urgency streams) streams id

-- A turn at this urgency, if it is one, is that of the stream whose turn it is there, and is not that of the one that waits.
abbrev pub IsAnothers : ℕ → List Round → Streams → ℕ → Option ℕ → Type 0
IsAnothers urgency rounds streams waiting None = Unit
IsAnothers urgency rounds streams waiting (Some id) = (next_turn (round_at rounds urgency) urgency streams ≡ Some id) × (id ≢ waiting)

-- Through all of them a stream waits for its turn, and those of its urgency have theirs.
abbrev pub Waits : ℕ → ℕ → List Round → List Turn → Type 0
Waits urgency waiting rounds [] = Unit
Waits urgency waiting rounds (t ∷ turns) =
    (has_turns urgency t.streams waiting ≡ true) × (waiting < t.bound) × IsAnothers urgency rounds t.streams waiting (turn_of urgency t)
    × Waits urgency waiting (rounds_after rounds t) turns

-- how many turns a stream has at this urgency
abbrev pub turns_in : ℕ → ℕ → List Turn → ℕ
turns_in urgency id [] = 0
turns_in urgency id (t ∷ turns) = (if is_it (turn_of urgency t) id then 1 else 0) + turns_in urgency id turns
