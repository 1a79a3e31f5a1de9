-- Rounds of the streams of one urgency.
use Rattle.std.specs.Prelude.{ℕ, ◌+◌, Bool, ◌&&◌, nat_le, nat_lt, if◌then◌else◌, List, [], ◌∷◌, slice_get, Option, Some, None, unwrap_or}
use Rattle.h3_scheduler.specs.declared.round.Round.{Round}

-- the id has a turn in the round
abbrev pub is_in : Round → ℕ → Bool
is_in r id = nat_le r.from id && nat_lt id r.until

-- an id that has a turn in the round
abbrev pub within : Round → Option ℕ → Option ℕ
within r None = None
within r (Some id) = if is_in r id then Some id else None

-- what is left of the round after a turn; where the stream had none in it another round began with it, of the ids below this bound
abbrev pub after_turn : Round → ℕ → ℕ → Round
after_turn r id bound = record { from = id + 1; until = if is_in r id then r.until else bound }

-- none has a turn, so the next stream begins a round
abbrev pub no_round : Round
no_round = record { from = 0; until = 0 }

-- the round of an urgency
abbrev pub round_at : List Round → ℕ → Round
round_at rounds urgency = unwrap_or (slice_get rounds urgency) no_round

abbrev pub no_rounds : List Round
no_rounds = no_round ∷ no_round ∷ no_round ∷ no_round ∷ no_round ∷ no_round ∷ no_round ∷ no_round ∷ []
