-- Turns one after another over places, as an endpoint has them: what happens between them may change all but the rounds.
use Rattle.std.specs.Prelude.{◌≡◌, ◌≢◌, ◌<◌, ℕ, ◌+◌, Bool, true, false, ◌&&◌, ◌==◌, List, [], ◌∷◌, Option, Some, if◌then◌else◌}
use Rattle.h3_scheduler.specs.Least.{IsLeast}
use Rattle.h3_scheduler.specs.Places.{takes_at, IsNext, Places}
use Rattle.h3_scheduler.specs.Rounds.{after_turn, round_at}
use Rattle.h3_scheduler.specs.declared.round.Round.{Round}

-- the places and the rounds as they are then, a number above all ids that are open, and the stream whose turn is over, with its urgency
pub record PlaceTurn : Type 0 where
  pub places : Places
  pub rounds : List Round
  pub bound : ℕ
  pub urgency : ℕ
  pub id : ℕ

-- A stream takes turns at an urgency.
pub record TakesTurns (places : Places) (urgency id : ℕ) : Type 0 where
  pub plain : Option ℕ
  pub least : IsLeast (places urgency false) 0 plain
  pub takes : takes_at places urgency plain id ≡ true

-- The stream that sent is the one that was to send next, has no other urgency, and is not the one that waits.
pub record WasNext (t : PlaceTurn) (waiting : ℕ) : Type 0 where
  pub next : IsNext t.places t.rounds (Some t.id)
  pub one : (urgency : ℕ) (incremental : Bool) → t.places urgency incremental t.id ≡ true → urgency ≡ t.urgency
  pub other : t.id ≢ waiting

abbrev pub WasNextIf : Bool → PlaceTurn → ℕ → Type 0
WasNextIf true t waiting = WasNext t waiting
WasNextIf false t waiting = Unit

-- the round of an urgency once the turn is over
abbrev pub round_if : Bool → Round → PlaceTurn → Round
round_if is r t = if is then after_turn r t.id t.bound else r

-- Through all of them a stream waits for its turn, and of its urgency those send that are next.
abbrev pub WaitsAtPlaces : ℕ → ℕ → Round → List PlaceTurn → Type 0
WaitsAtPlaces urgency waiting r [] = Unit
WaitsAtPlaces urgency waiting r (t ∷ turns) =
    (round_at t.rounds urgency ≡ r) × TakesTurns t.places urgency waiting × (waiting < t.bound) × WasNextIf (t.urgency == urgency) t waiting
    × WaitsAtPlaces urgency waiting (round_if (t.urgency == urgency) r t) turns

-- how many turns a stream has at this urgency
abbrev pub turns_at : ℕ → ℕ → List PlaceTurn → ℕ
turns_at urgency id [] = 0
turns_at urgency id (t ∷ turns) = (if (t.urgency == urgency) && (t.id == id) then 1 else 0) + turns_at urgency id turns
