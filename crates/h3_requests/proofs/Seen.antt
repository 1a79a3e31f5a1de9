-- Which of the first request streams are there, by how many are.
use Rattle.std.proofs.Common.{arith, ◌≡◌, ◌<◌, ◌≤◌, ◌*◌, ◌^◌, ◌∙◌, ℕ, zero, suc, Bool, true, false, refl, sym, ap, inl, inr}
use Rattle.std.specs.Prelude.{◌&&◌, nat_le}
use Rattle.std.proofs.lemmas.Bool.{cases_eq}
use Rattle.std.proofs.lemmas.Grind.{common_steps}
use Rattle.h3_connection.specs.FirstRequests.{count_below, first_pass}
use Rattle.h3_connection.specs.FirstRequestLaws.{each_passes}

and_false : (b : Bool) → (b && false) ≡ false
and_false true = refl
and_false false = refl

one_fails : (test : ℕ → Bool) (count n : ℕ) → n < count → test (4 * n) ≡ false → first_pass test count ≡ false
one_fails test zero n few fails = absurd (omega (arith, few))
one_fails test (suc count) n few fails = elim (cases_eq n count) [
  | inl same ↦ ap (λ b. b && first_pass test count) (ap (λ m. test (4 * m)) (sym same) ∙ fails)
  | inr differs ↦ ap (λ b. test (4 * count) && b) (one_fails test count n (omega (arith, few, differs)) fails) ∙ and_false (test (4 * count))
]

-- by the first one that is not there
pub all_below : (test : ℕ → Bool) (seen id : ℕ) → id ≤ 2 ^ 62 → ((n : ℕ) → n < seen → test (4 * n) ≡ true) → (seen < 2 ^ 60 → test (4 * seen) ≡ false) → nat_le id (4 * seen) ≡ first_pass test (count_below id)
all_below test seen id fits there next = by_test (nat_le id (4 * seen)) refl
  where
    by_test : (t : Bool) → nat_le id (4 * seen) ≡ t → nat_le id (4 * seen) ≡ first_pass test (count_below id)
    by_test true is =
        let up : id ≤ 4 * seen = grind (arith, common_steps, is) in
        let within : count_below id ≤ seen = omega (arith, up) in
        is ∙ sym (each_passes test (count_below id) (λ n few. there n (omega (arith, few, within))))
    by_test false is =
        let above : 4 * seen < id = grind (arith, common_steps, is) in
        let few : seen < 2 ^ 60 = omega (arith, above, fits) in
        let past : seen < count_below id = omega (arith, above) in
        is ∙ sym (one_fails test (count_below id) seen past (next few))
