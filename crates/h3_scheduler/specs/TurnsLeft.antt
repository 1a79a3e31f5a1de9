-- How many turns a stream can have before one that waits has its own, and whose turn it can be meanwhile.
use Rattle.std.specs.Prelude.{◌≡◌, ◌⊎◌, ◌<◌, ℕ, Bool, true, false, nat_le, if◌then◌else◌}
use Rattle.h3_scheduler.specs.Rounds.{is_in}
use Rattle.h3_scheduler.specs.declared.round.Round.{Round}

-- how many turns a stream can have at most before the one that waits has its own
abbrev pub left_by : Bool → Bool → Bool → ℕ
left_by in_round later again = if in_round then (if later then 1 else 0) else (if again then 2 else 1)

abbrev pub left : Round → ℕ → ℕ → ℕ
left r waiting id = left_by (is_in r waiting) (nat_le r.from id) (is_in r id)

abbrev pub one_if : Bool → ℕ
one_if b = if b then 1 else 0

-- whose turn it can be while one waits: one of the round, in front of it if it has its turn there; or one of another round, in front of it
abbrev pub TurnFacts : Round → ℕ → ℕ → Type 0
TurnFacts r waiting n = ((is_in r n ≡ true) × (is_in r waiting ≡ true → n < waiting)) ⊎ ((is_in r n ≡ false) × (is_in r waiting ≡ false) × (n < waiting))
