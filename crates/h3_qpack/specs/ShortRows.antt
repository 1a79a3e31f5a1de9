-- Rows of the code whose words have at most so many bits.
use Rattle.std.specs.Prelude.{ℕ, ◌≤◌, List}
use Rattle.std.specs.List.{AllByRecursion}

-- no row is of longer words
abbrev pub RowsWithin : ℕ → List (ℕ × List ℕ) → Type 0
RowsWithin most rows = AllByRecursion (λ row. row.0 ≤ most) rows
