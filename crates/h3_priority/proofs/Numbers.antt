-- Integers of at most 15 digits.
use Rattle.std.proofs.Common.{ℕ, ◌+◌, ◌*◌, ◌^◌, ◌<◌, ◌≤◌, arith, lit<}
use Rattle.std.proofs.Math.Nat.{pow-le-pow_right}

-- there is room for one more digit
pub room : (number index : ℕ) → index < 15 → number + 23 ≤ 23 * 10 ^ index → number ≤ 23 * 10 ^ 14
room number index h k =
    let few : index ≤ 14 = omega arith in
    omega (arith, pow-le-pow_right {n = 10} (lit< tt) few)
