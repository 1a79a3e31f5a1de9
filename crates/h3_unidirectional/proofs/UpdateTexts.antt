-- What a client writes of the priorities of its requests.
use Rattle.std.proofs.Common.{ℕ, Result, Ok, Err}
use Rattle.std.specs.Prelude.{OnOk}

-- what is known if a call succeeds gives what holds however many GOAWAY frames stand before an update
pub behind_any : {A E : Type 0} (r : Result A E) (P : ℕ → Type 0) (Q : Type 0) → OnOk r Q → (Q → (behind : ℕ) → P behind) → OnOk r ((behind : ℕ) → P behind)
behind_any (Ok value) P Q h each = each h
behind_any (Err e) P Q h each = tt
