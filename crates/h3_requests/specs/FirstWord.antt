-- The first of words by their numbers.
use Rattle.std.specs.Prelude.{◌≡◌, ◌<◌, ◌≤◌, ℕ, ◌^◌, Option, Some, None}

-- The first number from there on whose word has a bit, and that word; none where none has one.
abbrev pub IsFirstWord : (ℕ → ℕ) → ℕ → Option (ℕ × ℕ) → Type 0
IsFirstWord words from None = (q : ℕ) → from ≤ q → words q ≡ 0
IsFirstWord words from (Some found) = (from ≤ found.0) × (words found.0 ≡ found.1) × (0 < found.1) × (found.1 < 2 ^ 64) × ((q : ℕ) → from ≤ q → q < found.0 → words q ≡ 0)
