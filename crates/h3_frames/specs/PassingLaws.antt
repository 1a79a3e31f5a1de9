-- Passing bytes of two lists, one behind the other.
use Rattle.std.proofs.Common.{◌≡◌, ℕ, ◌+◌, ◌-◌, ◌≤◌, min, List, ◌++◌, length, drop, arith, sym, ◌∙◌, ap, ap₂, inl, inr}
use Rattle.std.proofs.lemmas.List.{drop-drop, drop-append-le, drop_all, length-drop}
use Rattle.std.proofs.lemmas.Bool.{cases_lt}
use Rattle.std.proofs.Math.Seq.{drop-append-add}

-- from a place in the first on, as far as it goes, and then of the second
pub pass : (cnt at k : ℕ) (first second : List ℕ) → at ≤ length first → k ≡ min cnt (length first - at)
    → drop (at + k) first ++ drop (cnt - k) second ≡ drop cnt (drop at first ++ second)
pass cnt at k first second inside e = elim (cases_lt (length first - at) cnt) [
  | inl past ↦
      let all : k ≡ length first - at = omega arith in
      let size : length (drop at first) ≡ k = omega (arith, length-drop at first) in
      let sum : cnt ≡ length (drop at first) + (cnt - k) = omega arith in
      ap (λ l. l ++ drop (cnt - k) second) (drop_all (at + k) first (omega arith)) ∙ sym (ap (λ n. drop n (drop at first ++ second)) sum ∙ drop-append-add (drop at first) second (cnt - k))
  | inr within ↦
      let same : k ≡ cnt = omega arith in
      let none : cnt - k ≡ 0 = omega arith in
      ap₂ (λ x y. drop (at + x) first ++ drop y second) same none
      ∙ ap (λ l. l ++ second) (sym (drop-drop cnt at first))
      ∙ sym (drop-append-le cnt (drop at first) second (omega (arith, length-drop at first)))
]

-- so many of the first
pub pass_first : (cnt at k : ℕ) (first : List ℕ) → at ≤ length first → k ≡ min cnt (length first - at) → drop (at + k) first ≡ drop cnt (drop at first)
pass_first cnt at k first inside e = elim (cases_lt (length first - at) cnt) [
  | inl past ↦ drop_all (at + k) first (omega arith) ∙ sym (drop-drop cnt at first ∙ drop_all (at + cnt) first (omega arith))
  | inr within ↦
      let same : k ≡ cnt = omega arith in
      ap (λ n. drop (at + n) first) same ∙ sym (drop-drop cnt at first)
]

-- and the others of the second
pub pass_second : (cnt at k : ℕ) (first second : List ℕ) → k ≡ min cnt (length first - at) → drop (cnt - k) second ≡ drop (cnt - length (drop at first)) second
pass_second cnt at k first second e = ap (λ n. drop n second) (omega (arith, length-drop at first))
