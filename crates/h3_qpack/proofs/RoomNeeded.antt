-- How many bytes instructions take that are one integer.
use Rattle.std.proofs.Common.{ℕ, ◌+◌, ◌^◌, ◌<◌, ◌≤◌, length, arith}
use Rattle.h3_field.specs.Integer.{prefixed}
use Rattle.h3_field.specs.IntegerWritingLaws.{prefixed_short}

pub capacity_fits : (capacity len room : ℕ) → capacity < 2 ^ 30 → len + 6 ≤ room → len + length (prefixed 5 1 capacity) ≤ room
capacity_fits capacity len room small fits = let short = prefixed_short 5 1 5 capacity (omega arith) (omega (arith, small)) in omega (arith, short, fits)

pub increment_fits : (count len room : ℕ) → count < 2 ^ 62 → len + 10 ≤ room → len + length (prefixed 6 0 count) ≤ room
increment_fits count len room few fits = let short = prefixed_short 6 0 9 count (omega arith) (omega (arith, few)) in omega (arith, short, fits)
