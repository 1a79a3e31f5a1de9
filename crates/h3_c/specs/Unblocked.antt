-- What the export promises that names the next stream that is unblocked.
use Rattle.std.specs.Prelude.{◌≡◌, ◌⊎◌, ℕ, Some, None}
use Rattle.h3_session.specs.Unblocked.{ShowsNextUnblocked}
use Rattle.h3_c.specs.declared.numbers.Told.{Told}
use Rattle.h3_c.specs.Numbers.{ok, none}
use Rattle.h3_c.specs.Seen.{Seen}

-- `h3_next_unblocked`: the least id from there on of a stream that is unblocked; or none is, and no id is written
abbrev pub UnblocksNext : Seen → ℕ → Told → ℕ → ℕ → Type 0
UnblocksNext v from n before after = ((n ≡ ok) × ShowsNextUnblocked v.endpoint from (Some after)) ⊎ ((n ≡ none) × ShowsNextUnblocked v.endpoint from None × (after ≡ before))
