-- Worked examples: each stream that is next sends.
use Rattle.std.specs.Prelude.{◌≡◌, ℕ, zero, suc, ◌+◌, nat_lt, List, [], ◌∷◌, Option, Some, None, if◌then◌else◌}
use Rattle.h3_scheduler.specs.Streams.{Streams, next_of}
use Rattle.h3_scheduler.specs.Turns.{rounds_after}
use Rattle.h3_scheduler.specs.declared.round.Round.{Round}

-- the lowest number above the ids of all streams
abbrev pub bound_of : Streams → ℕ
bound_of [] = 0
bound_of (s ∷ streams) = if nat_lt s.0 (bound_of streams) then bound_of streams else s.0 + 1

abbrev pub behind : ℕ → List ℕ × List Round → List ℕ × List Round
behind id rest = (id ∷ rest.0, rest.1)

abbrev pub sends : (List Round → List ℕ × List Round) → Streams → List Round → Option ℕ → List ℕ × List Round
sends go streams rounds None = ([], rounds)
sends go streams rounds (Some id) = behind id (go (rounds_after rounds (record { streams = streams; bound = bound_of streams; id = id })))

-- who has so many turns, and what is left of the rounds
abbrev pub turns : ℕ → Streams → List Round → List ℕ × List Round
turns zero streams rounds = ([], rounds)
turns (suc n) streams rounds = sends (turns n streams) streams rounds (next_of rounds streams)

-- the streams as they are, so many turns, and the ids that have them
abbrev pub Part : Type 0
Part = Streams × ℕ × List ℕ

-- The parts follow one another.
abbrev pub Told : List Round → List Part → Type 0
Told rounds [] = Unit
Told rounds (part ∷ parts) = ((turns part.1 part.0 rounds).0 ≡ part.2) × Told (turns part.1 part.0 rounds).1 parts
