-- The settings of a payload that have no meaning here, pair by pair.
use Rattle.std.proofs.Common.{◌≡◌, ℕ, zero, suc, ◌+◌, ◌-◌, ◌<◌, ◌≤◌, Bool, true, false, List, [], ◌∷◌, ◌++◌, length, take, filter, arith, ◌∙◌, ap, refl, sym, append_assoc, append-nil, length-append, cond, Some, None}
use Rattle.h3_proto.specs.OtherSettings.{is_other, others_among}
use Rattle.h3_proto.specs.Pairs.{pair_at, pairs_in, split_of}
use Rattle.h3_proto.specs.PairLaws.{split_none, split_pair}

-- those that were kept, and those that are still to be kept of these bytes
abbrev pub kept_with : ℕ → List (ℕ × ℕ) → List ℕ → List (ℕ × ℕ)
kept_with most kept bytes = kept ++ others_among (most - length kept) (pairs_in (split_of bytes))

take_none : {X : Type 0} (n : ℕ) (xs : List X) → n ≡ 0 → take n xs ≡ []
take_none n xs none = ap (λ k. take k xs) none

take_nothing : {X : Type 0} (n : ℕ) → take {A = X} n [] ≡ []
take_nothing zero = refl
take_nothing (suc n) = refl

take_one : {X : Type 0} (n : ℕ) (x : X) (xs : List X) → 0 < n → take n (x ∷ xs) ≡ x ∷ take (n - 1) xs
take_one zero x xs h = absurd (omega (arith, h))
take_one (suc n) x xs h = let less : n ≡ suc n - 1 = omega arith in ap (λ k. x ∷ take k xs) less

-- no more are kept
pub kept_enough : (most : ℕ) (kept : List (ℕ × ℕ)) (bytes : List ℕ) → most ≤ length kept → kept_with most kept bytes ≡ kept
kept_enough most kept bytes h = ap (λ l. kept ++ l) (take_none (most - length kept) _ (omega (arith, h))) ∙ append-nil kept

-- no pair is whole
pub kept_end : (most : ℕ) (kept : List (ℕ × ℕ)) (bytes : List ℕ) → pair_at bytes ≡ None → kept_with most kept bytes ≡ kept
kept_end most kept bytes none =
    ap (λ s. kept ++ others_among (most - length kept) (pairs_in s)) (split_none bytes none) ∙ ap (λ l. kept ++ l) (take_nothing (most - length kept)) ∙ append-nil kept

among_other : (n : ℕ) (p : ℕ × ℕ) (pairs : List (ℕ × ℕ)) → is_other p.0 ≡ true → 0 < n → others_among n (p ∷ pairs) ≡ p ∷ others_among (n - 1) pairs
among_other n p pairs is h =
    ap (λ b. take n (cond b (p ∷ filter (λ q. is_other q.0) pairs) (filter (λ q. is_other q.0) pairs))) is ∙ take_one n p (filter (λ q. is_other q.0) pairs) h

among_else : (n : ℕ) (p : ℕ × ℕ) (pairs : List (ℕ × ℕ)) → is_other p.0 ≡ false → others_among n (p ∷ pairs) ≡ others_among n pairs
among_else n p pairs is = ap (λ b. take n (cond b (p ∷ filter (λ q. is_other q.0) pairs) (filter (λ q. is_other q.0) pairs))) is

-- one more is kept
pub kept_one : (most : ℕ) (kept : List (ℕ × ℕ)) (p : ℕ × ℕ) (bytes rest : List ℕ) → pair_at bytes ≡ Some (p, rest) → is_other p.0 ≡ true → length kept < most
    → kept_with most kept bytes ≡ kept_with most (kept ++ p ∷ []) rest
kept_one most kept p bytes rest at is h =
    let one : most - length kept - 1 ≡ most - length (kept ++ p ∷ []) = omega (arith, length-append kept (p ∷ [])) in
    ap (λ s. kept ++ others_among (most - length kept) (pairs_in s)) (split_pair p bytes rest at)
    ∙ ap (λ l. kept ++ l) (among_other (most - length kept) p (pairs_in (split_of rest)) is (omega (arith, h)))
    ∙ sym (append_assoc kept (p ∷ []) (others_among (most - length kept - 1) (pairs_in (split_of rest))))
    ∙ ap (λ n. (kept ++ p ∷ []) ++ others_among n (pairs_in (split_of rest))) one

-- or it has a meaning, or is reserved
pub kept_same : (most : ℕ) (kept : List (ℕ × ℕ)) (p : ℕ × ℕ) (bytes rest : List ℕ) → pair_at bytes ≡ Some (p, rest) → is_other p.0 ≡ false → kept_with most kept bytes ≡ kept_with most kept rest
kept_same most kept p bytes rest at is =
    ap (λ s. kept ++ others_among (most - length kept) (pairs_in s)) (split_pair p bytes rest at)
    ∙ ap (λ l. kept ++ l) (among_else (most - length kept) p (pairs_in (split_of rest)) is)
