-- A list that is kept from a place on, around its end.
use Rattle.std.proofs.Common.{◌≡◌, ◌<◌, ℕ, zero, suc, ◌+◌, List, ◌∷◌, ◌++◌, Bool, true, false, ◌||◌, length, take, drop, refl, sym, ap, ◌∙◌, arith, append-nil, take-append-drop}
use Rattle.std.proofs.Math.ListN.{set}
use Rattle.std.proofs.Math.Seq.{take-append-add}
use Rattle.std.proofs.lemmas.List.{drop_all, drop-set, length-drop, take-set, take-take}
use Rattle.std.proofs.lemmas.List.Folds.{list_any-append}
use Rattle.std.specs.List.{list_any}

-- from a place on, and around the end up to it
abbrev pub around : List ℕ → ℕ → List ℕ
around xs at = drop at xs ++ take at xs

-- Without the last of 32, it is what stands around the place before.
without_last : (xs : List ℕ) (at before : ℕ) → length xs ≡ 32 → at < 32 → (at ≡ 0 → before ≡ 31) → (0 < at → before + 1 ≡ at) → drop (before + 1) xs ++ take before xs ≡ take 31 (around xs at)
without_last xs zero before size inside first behind =
    let last : before ≡ 31 = first refl in
    ap (λ n. drop (n + 1) xs ++ take n xs) last ∙ ap (λ l. l ++ take 31 xs) (drop_all 32 xs (omega (arith, size))) ∙ ap (take 31) (sym (append-nil xs))
without_last xs (suc n) before size inside first behind =
    let next : before + 1 ≡ suc n = behind (omega arith) in
    let many : length (drop (suc n) xs) + before ≡ 31 = omega (arith, length-drop (suc n) xs, size, next, inside) in
    ap (λ k. drop k xs ++ take before xs) next
    ∙ ap (λ l. drop (suc n) xs ++ l) (sym (take-take before (suc n) xs (omega (arith, next))))
    ∙ sym (take-append-add (drop (suc n) xs) (take (suc n) xs) before)
    ∙ ap (λ k. take k (around xs (suc n))) many

-- The last of 32 gives way to a new one, which stands in front of the others.
pub put_in_front : (xs : List ℕ) (at before x : ℕ) → length xs ≡ 32 → at < 32 → (at ≡ 0 → before ≡ 31) → (0 < at → before + 1 ≡ at) → around (set xs before x) before ≡ x ∷ take 31 (around xs at)
put_in_front xs at before x size inside first behind =
    ap (λ l. l ++ take before (set xs before x)) (drop-set xs before x (omega (arith, size, place at before inside first behind)))
    ∙ ap (λ l. x ∷ (drop (before + 1) xs ++ l)) (take-set xs before x) ∙ ap (λ l. x ∷ l) (without_last xs at before size inside first behind)
  where
    place : (at before : ℕ) → at < 32 → (at ≡ 0 → before ≡ 31) → (0 < at → before + 1 ≡ at) → before < 32
    place zero before inside first behind = omega (arith, first refl)
    place (suc n) before inside first behind = omega (arith, inside, behind (omega arith))

-- Whether one passes a test is asked in any order.
pub any_around : (test : ℕ → Bool) (xs : List ℕ) (at : ℕ) → list_any test xs ≡ list_any test (around xs at)
any_around test xs at =
    ap (list_any test) (sym (take-append-drop at xs)) ∙ list_any-append test (take at xs) (drop at xs)
    ∙ either (list_any test (take at xs)) (list_any test (drop at xs)) ∙ sym (list_any-append test (drop at xs) (take at xs))
  where
    either : (a b : Bool) → (a || b) ≡ (b || a)
    either true true = refl
    either true false = refl
    either false true = refl
    either false false = refl
