-- The lesser of two numbers.
use Rattle.std.specs.Prelude.{ℕ, nat_lt, if◌then◌else◌, Option, Some, None}

-- the lesser of two numbers, where either may be missing
abbrev pub lesser_of : Option ℕ → Option ℕ → Option ℕ
lesser_of None other = other
lesser_of (Some one) None = Some one
lesser_of (Some one) (Some other) = if nat_lt other one then Some other else Some one
