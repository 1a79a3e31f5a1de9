-- The least number that passes a test, and the lesser of two.
use Rattle.std.specs.Prelude.{◌≡◌, ◌<◌, ◌≤◌, ℕ, Bool, true, false, nat_lt, if◌then◌else◌, Option, Some, None}

-- the least number from there on that passes a test; none where none passes
abbrev pub IsLeast : (ℕ → Bool) → ℕ → Option ℕ → Type 0
IsLeast passes from None = (q : ℕ) → from ≤ q → passes q ≡ false
IsLeast passes from (Some id) = (from ≤ id) × (passes id ≡ true) × ((q : ℕ) → from ≤ q → q < id → passes q ≡ false)

-- the lesser of two numbers, where either may be missing
abbrev pub lesser_of : Option ℕ → Option ℕ → Option ℕ
lesser_of None other = other
lesser_of (Some one) None = Some one
lesser_of (Some one) (Some other) = if nat_lt other one then Some other else Some one
