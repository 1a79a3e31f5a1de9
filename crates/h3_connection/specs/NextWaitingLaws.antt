-- The least number that passes a test, when the test is written in other words or is that of two.
use Rattle.std.specs.Prelude.{◌≡◌, ℕ, Bool, Option, Some, None}
use Rattle.std.proofs.Common.{◌∙◌}
use Rattle.h3_connection.specs.NextWaiting.{IsLeast}

-- another test that answers the same
pub least_same : (passes others : ℕ → Bool) (from : ℕ) (found : Option ℕ) → ((q : ℕ) → others q ≡ passes q) → IsLeast passes from found → IsLeast others from found
least_same passes others from None same h = λ q there. same q ∙ h q there
least_same passes others from (Some id) same h = (h.0, same id ∙ h.1, λ q there less. same q ∙ h.2 q there less)
