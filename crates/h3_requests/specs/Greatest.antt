-- The greatest number that passes a test, and one that does.
use Rattle.std.specs.Prelude.{◌≡◌, ◌<◌, ℕ, Bool, true, false, nat_lt, if◌then◌else◌, Option, Some, None}

-- the greatest number that passes; none where none passes
abbrev pub IsGreatest : (ℕ → Bool) → Option ℕ → Type 0
IsGreatest passes None = (q : ℕ) → passes q ≡ false
IsGreatest passes (Some id) = (passes id ≡ true) × ((q : ℕ) → id < q → passes q ≡ false)

-- a number that passes; none where none passes
abbrev pub IsOneOf : (ℕ → Bool) → Option ℕ → Type 0
IsOneOf passes None = (q : ℕ) → passes q ≡ false
IsOneOf passes (Some id) = passes id ≡ true

-- the greater of two numbers, where either may be missing
abbrev pub greater_of : Option ℕ → Option ℕ → Option ℕ
greater_of None other = other
greater_of (Some one) None = Some one
greater_of (Some one) (Some other) = if nat_lt one other then Some other else Some one
