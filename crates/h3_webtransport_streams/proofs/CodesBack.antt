-- Codes of an application read back, and none is a reserved one.
use Rattle.std.proofs.Common.{◌≡◌, ℕ, ◌+◌, ◌-◌, ◌*◌, ◌/◌, ◌%◌, ◌^◌, ◌<◌, ◌≤◌, Bool, true, false, ◌==◌, ◌||◌, refl, sym, ap, ◌∙◌, arith, if◌then◌else◌}
use Rattle.std.specs.Prelude.{nat_le, nat_lt, Option, Some, None}
use Rattle.std.proofs.lemmas.Grind.{common_steps}
use Rattle.h3_webtransport_streams.specs.Codes.{code_of, first_code, number_behind, number_of}

-- the codes behind the first one: each 31st is left out
behind : (number : ℕ) → (first_code + number + number / 30) - first_code ≡ number + number / 30
behind number = omega arith

parts : (number : ℕ) → (number + number / 30) / 31 ≡ number / 30
parts number = omega arith

not_left_out : (number : ℕ) → ((number + number / 30) % 31 == 30) ≡ false
not_left_out number = let below : (number + number / 30) % 31 < 30 = omega arith in grind (arith, common_steps, below)

pub reads_back : (number : ℕ) → number < 2 ^ 32 → number_of (code_of number) ≡ Some number
reads_back number below =
    let above : nat_lt (code_of number) first_code ≡ false = grind (arith, common_steps) in
    let same : (number + number / 30) - (number + number / 30) / 31 ≡ number = omega (arith, parts number) in
    let few : nat_le (2 ^ 32) number ≡ false = grind (arith, common_steps, below) in
    rw (above, behind number, not_left_out number, same, few) refl

pub is_not_reserved : (number n : ℕ) → code_of number ≡ 0x1f * n + 0x21 → ⊥
is_not_reserved number n e = omega (arith, e)
