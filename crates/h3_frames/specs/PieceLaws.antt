-- What holds of pieces whose first bytes are passed, and to which one is added.
use Rattle.std.proofs.Common.{◌≡◌, ℕ, zero, suc, ◌+◌, ◌-◌, ◌<◌, ◌≤◌, List, [], ◌∷◌, ◌++◌, length, drop, arith, refl, sym, ◌∙◌, ap, inl, inr, length-append, if◌then◌else◌, Option, Some, None, append-nil}
use Rattle.std.specs.List.{concat}
use Rattle.std.proofs.lemmas.List.{drop-append-le, drop_all, drop-drop, length-drop}
use Rattle.std.proofs.lemmas.List.Folds.{concat-append}
use Rattle.std.proofs.lemmas.Bool.{cases_lt, lt-ltb, le-ltb}
use Rattle.std.proofs.Math.Seq.{drop-append-add}
use Rattle.h3_frames.specs.Pieces.{without, IsRest, ending, with_piece, first_of}

pub without-none : (pieces : List (List ℕ)) → without 0 pieces ≡ pieces
without-none [] = refl
without-none (p ∷ pieces) = refl

-- within the first piece
pub without-within : (n : ℕ) (p : List ℕ) (pieces : List (List ℕ)) → 0 < n → n < length p → without n (p ∷ pieces) ≡ drop n p ∷ pieces
without-within zero p pieces some h = absurd (omega (arith, some))
without-within (suc n) p pieces some h = ap (λ b. if b then drop (suc n) p ∷ pieces else without (suc n - length p) pieces) (lt-ltb (suc n) (length p) h)

-- and past it
pub without-past : (n : ℕ) (p : List ℕ) (pieces : List (List ℕ)) → 0 < n → length p ≤ n → without n (p ∷ pieces) ≡ without (n - length p) pieces
without-past zero p pieces some h = absurd (omega (arith, some))
without-past (suc n) p pieces some h = ap (λ b. if b then drop (suc n) p ∷ pieces else without (suc n - length p) pieces) (le-ltb (suc n) (length p) h)

-- the bytes of what is left
pub concat-without : (n : ℕ) (pieces : List (List ℕ)) → concat (without n pieces) ≡ drop n (concat pieces)
concat-without n [] = sym (drop_all n [] (omega arith))
concat-without zero (p ∷ pieces) = refl
concat-without (suc n) (p ∷ pieces) = elim (cases_lt (suc n) (length p)) [
  | inl h ↦ ap concat (without-within (suc n) p pieces (omega arith) h) ∙ sym (drop-append-le (suc n) p (concat pieces) (omega (arith, h)))
  | inr h ↦
      let k = suc n - length p in
      let sum : suc n ≡ length p + k = omega (arith, h) in
      ap concat (without-past (suc n) p pieces (omega arith) h) ∙ concat-without k pieces
      ∙ sym (ap (λ m. drop m (p ++ concat pieces)) sum ∙ drop-append-add p (concat pieces) k)
]

-- pieces behind those that are passed stay
pub without-append : (n : ℕ) (pieces others : List (List ℕ)) → n ≤ length (concat pieces) → without n (pieces ++ others) ≡ without n pieces ++ others
without-append n [] others h = ap (λ m. without m others) (omega (arith, h)) ∙ without-none others
without-append zero (p ∷ pieces) others h = refl
without-append (suc n) (p ∷ pieces) others h = elim (cases_lt (suc n) (length p)) [
  | inl less ↦ without-within (suc n) p (pieces ++ others) (omega arith) less ∙ sym (ap (λ l. l ++ others) (without-within (suc n) p pieces (omega arith) less))
  | inr past ↦
      let few : suc n - length p ≤ length (concat pieces) = omega (arith, h, length-append p (concat pieces)) in
      without-past (suc n) p (pieces ++ others) (omega arith) past ∙ without-append (suc n - length p) pieces others few ∙ sym (ap (λ l. l ++ others) (without-past (suc n) p pieces (omega arith) past))
]

-- some bytes are passed, and then more
within-within : (m n : ℕ) (p : List ℕ) (pieces : List (List ℕ)) → 0 < m → 0 < n → n < length p → without m (drop n p ∷ pieces) ≡ without (n + m) (p ∷ pieces)
within-within m n p pieces some first inside = elim (cases_lt m (length (drop n p))) [
  | inl h ↦
      without-within m (drop n p) pieces some h ∙ ap (λ l. l ∷ pieces) (drop-drop m n p)
      ∙ sym (without-within (n + m) p pieces (omega (arith, some)) (omega (arith, h, length-drop n p)))
  | inr h ↦
      without-past m (drop n p) pieces some h ∙ ap (λ k. without k pieces) (omega (arith, length-drop n p, inside, h))
      ∙ sym (without-past (n + m) p pieces (omega (arith, some)) (omega (arith, h, length-drop n p)))
]

pub without-without : (m n : ℕ) (pieces : List (List ℕ)) → without m (without n pieces) ≡ without (n + m) pieces
without-without m n [] = refl
without-without m zero (p ∷ pieces) = ap (λ k. without k (p ∷ pieces)) (omega arith)
without-without zero (suc n) (p ∷ pieces) =
    let sum : suc n ≡ suc n + 0 = omega arith in
    without-none (without (suc n) (p ∷ pieces)) ∙ ap (λ k. without k (p ∷ pieces)) sum
without-without (suc m) (suc n) (p ∷ pieces) = elim (cases_lt (suc n) (length p)) [
  | inl h ↦ ap (without (suc m)) (without-within (suc n) p pieces (omega arith) h) ∙ within-within (suc m) (suc n) p pieces (omega arith) (omega arith) h
  | inr h ↦
      let sum : (suc n - length p) + suc m ≡ suc n + suc m - length p = omega (arith, h) in
      ap (without (suc m)) (without-past (suc n) p pieces (omega arith) h) ∙ without-without (suc m) (suc n - length p) pieces
      ∙ ap (λ k. without k pieces) sum ∙ sym (without-past (suc n + suc m) p pieces (omega arith) (omega (arith, h)))
]

pub rest_same : (all new : List (List ℕ)) → new ≡ all → IsRest all new
rest_same all new e = (0, omega arith, e ∙ sym (without-none all))

pub ending_rest : (size : ℕ) (all new : List (List ℕ)) → new ≡ ending size all → IsRest all new
ending_rest size all new e = (length (concat all) - size, omega arith, e)

pub rest_then : (all mid new : List (List ℕ)) → IsRest all mid → IsRest mid new → IsRest all new
rest_then all mid new a b =
    let size = ap length (ap concat a.2 ∙ concat-without a.0 all) ∙ length-drop a.0 (concat all) in
    (a.0 + b.0, omega (arith, a.1, b.1, size), b.2 ∙ ap (without b.0) a.2 ∙ without-without b.0 a.0 all)

pub rest_behind : (all new others : List (List ℕ)) → IsRest all new → IsRest (all ++ others) (new ++ others)
rest_behind all new others a =
    let size = ap length (concat-append all others) ∙ length-append (concat all) (concat others) in
    (a.0, omega (arith, a.1, size), ap (λ l. l ++ others) a.2 ∙ sym (without-append a.0 all others a.1))

-- how many bytes are left says which
pub rest_is : (size : ℕ) (all new : List (List ℕ)) → size ≡ length (concat new) → IsRest all new → new ≡ ending size all
rest_is size all new e a =
    let there = ap length (ap concat a.2 ∙ concat-without a.0 all) ∙ length-drop a.0 (concat all) in
    a.2 ∙ ap (λ n. without n all) (omega (arith, e, there, a.1))

-- a piece that is not empty is added
pub with_piece-some : (pieces : List (List ℕ)) (x : List ℕ) → 0 < length x → with_piece pieces x ≡ pieces ++ x ∷ []
with_piece-some pieces [] h = absurd (omega arith)
with_piece-some pieces (byte ∷ bytes) h = refl

-- the bytes with one piece more
pub concat-with_piece : (pieces : List (List ℕ)) (x : List ℕ) → concat (with_piece pieces x) ≡ concat pieces ++ x
concat-with_piece pieces [] = sym (append-nil (concat pieces))
concat-with_piece pieces (byte ∷ bytes) =
    concat-append pieces ((byte ∷ bytes) ∷ []) ∙ ap (λ l. concat pieces ++ l) (append-nil (byte ∷ bytes))

-- the first piece, and the others
pub first_is : (pieces others : List (List ℕ)) (first : List ℕ) → (Some first, others) ≡ first_of pieces → pieces ≡ first ∷ others
first_is [] others first e = let none : Some first ≡ None = ap (λ (x : Option (List ℕ) × List (List ℕ)). x.0) e in absurd (cc)
first_is (p ∷ pieces) others first e =
    let same : Some first ≡ Some p = ap (λ (x : Option (List ℕ) × List (List ℕ)). x.0) e in
    let behind : others ≡ pieces = ap (λ (x : Option (List ℕ) × List (List ℕ)). x.1) e in
    cc
