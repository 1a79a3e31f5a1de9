-- Each of the first request streams passes a test.
use Rattle.std.proofs.Common.{arith, ◌≡◌, ◌<◌, ◌*◌, ◌∙◌, ℕ, zero, suc, Bool, true, refl, ap, inl, inr}
use Rattle.std.specs.Prelude.{◌&&◌}
use Rattle.std.proofs.lemmas.Bool.{and_parts, cases_eq}
use Rattle.h3_connection.specs.FirstRequests.{first_pass}

pub each_passes : (test : ℕ → Bool) (count : ℕ) → ((n : ℕ) → n < count → test (4 * n) ≡ true) → first_pass test count ≡ true
each_passes test zero all = refl
each_passes test (suc count) all =
    ap (λ b. b && first_pass test count) (all count (omega arith)) ∙ each_passes test count (λ n few. all n (omega (arith, few)))

pub one_passes : (test : ℕ → Bool) (count n : ℕ) → first_pass test count ≡ true → n < count → test (4 * n) ≡ true
one_passes test zero n all few = absurd (omega (arith, few))
one_passes test (suc count) n all few =
    let parts = and_parts (test (4 * count)) (first_pass test count) all in
    elim (cases_eq n count) [
      | inl same ↦ ap (λ m. test (4 * m)) same ∙ parts.0
      | inr differs ↦ one_passes test count n parts.1 (omega (arith, few, differs))
    ]
