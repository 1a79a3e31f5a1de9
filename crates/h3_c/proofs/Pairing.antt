-- Numbers are paired one pair after the other.
use Rattle.std.proofs.Common.{◌≡◌, ◌<◌, ◌≤◌, ℕ, zero, suc, ◌+◌, ◌*◌, ◌%◌, ◌/◌, Bool, true, false, List, [], ◌∷◌, ◌++◌, length, take, drop, append-nil, append_assoc, Option, Some, None, refl, sym, ap, ◌∙◌, subst, arith}
use Rattle.std.specs.Prelude.{◌≢◌, nat_lt, slice_index_or, option_map, if◌then◌else◌}
use Rattle.std.proofs.Math.ListN.{set}
use Rattle.std.proofs.lemmas.Bool.{lt-ltb, le-ltb}
use Rattle.std.proofs.lemmas.List.{drop_all, drop_more, take_more_set}
use Rattle.h3_c.specs.Further.{paired, pairs_given}

-- what the pairs so far and those of the rest are together
abbrev pub with_rest : List (ℕ × ℕ) → List ℕ → Option (List (ℕ × ℕ))
with_rest pairs numbers = option_map (λ more. pairs ++ more) (paired numbers)

mapped_none : (o : Option (List (ℕ × ℕ))) → option_map (λ more. [] ++ more) o ≡ o
mapped_none None = refl
mapped_none (Some more) = refl

pub begun : (pairs : List (ℕ × ℕ)) (numbers : List ℕ) → with_rest (take 0 pairs) (drop (2 * 0) numbers) ≡ paired numbers
begun pairs numbers = mapped_none (paired numbers)

mapped : (pairs : List (ℕ × ℕ)) (p : ℕ × ℕ) (o : Option (List (ℕ × ℕ))) → option_map (λ more. (pairs ++ p ∷ []) ++ more) o ≡ option_map (λ more. pairs ++ more) (option_map (λ more. p ∷ more) o)
mapped pairs p None = refl
mapped pairs p (Some more) = ap Some (append_assoc pairs (p ∷ []) more)

abbrev number_at : List ℕ → ℕ → ℕ
number_at numbers at = slice_index_or numbers at 0

-- the next two numbers
two_more : (numbers : List ℕ) (at : ℕ) → 2 * at + 1 < length numbers
    → drop (2 * at) numbers ≡ number_at numbers (2 * at) ∷ (number_at numbers (2 * at + 1) ∷ drop (2 * (at + 1)) numbers)
two_more numbers at inside =
    let next : 2 * at + 1 + 1 ≡ 2 * (at + 1) = omega arith in
    drop_more numbers (2 * at) 0 (omega (arith, inside))
    ∙ ap (λ l. number_at numbers (2 * at) ∷ l) (drop_more numbers (2 * at + 1) 0 inside ∙ ap (λ n. number_at numbers (2 * at + 1) ∷ drop n numbers) next)

pub next : (numbers : List ℕ) (at : ℕ) (pairs : List (ℕ × ℕ)) (all : Option (List (ℕ × ℕ))) → 2 * at + 1 < length numbers → at < length pairs
    → with_rest (take at pairs) (drop (2 * at) numbers) ≡ all
    → with_rest (take (at + 1) (set pairs at (number_at numbers (2 * at), number_at numbers (2 * at + 1)))) (drop (2 * (at + 1)) numbers) ≡ all
next numbers at pairs all inside room before =
    let p : ℕ × ℕ = (number_at numbers (2 * at), number_at numbers (2 * at + 1)) in
    let rest = drop (2 * (at + 1)) numbers in
    ap (λ l. with_rest l rest) (take_more_set pairs at p room)
    ∙ mapped (take at pairs) p (paired rest)
    ∙ ap (with_rest (take at pairs)) (sym (two_more numbers at inside))
    ∙ before

-- no number is left
at_end : (numbers : List ℕ) (len : ℕ) (pairs : List (ℕ × ℕ)) → length numbers ≡ 2 * len → len ≤ 8 → with_rest (take len pairs) (drop (2 * len) numbers) ≡ paired numbers
    → pairs_given numbers ≡ Some (take len pairs)
at_end numbers len pairs even few before =
    ap (λ b. if b then None else paired numbers) (le-ltb 16 (length numbers) (omega (arith, even, few)))
    ∙ sym before
    ∙ ap (with_rest (take len pairs)) (drop_all (2 * len) numbers (omega (arith, even)))
    ∙ ap Some (append-nil (take len pairs))

pub whole : (numbers : List ℕ) (len at : ℕ) (pairs : List (ℕ × ℕ)) → length numbers % 2 ≡ 0 → len ≡ length numbers / 2 → len ≤ 8 → len ≤ at → at ≤ len
    → with_rest (take at pairs) (drop (2 * at) numbers) ≡ paired numbers → pairs_given numbers ≡ Some (take len pairs)
whole numbers len at pairs even half few done within before =
    let is : at ≡ len = omega (arith, done, within) in
    at_end numbers len pairs (omega (arith, even, half)) few (subst (λ n. with_rest (take n pairs) (drop (2 * n) numbers) ≡ paired numbers) is before)

-- one is left over
odd_is : (numbers : List ℕ) (half : ℕ) → length numbers ≡ 2 * half + 1 → paired numbers ≡ None
odd_is [] half odd = absurd (omega (arith, odd))
odd_is (id ∷ []) half odd = refl
odd_is (id ∷ (value ∷ numbers)) zero odd = absurd (omega (arith, odd))
odd_is (id ∷ (value ∷ numbers)) (suc half) odd = ap (option_map (λ pairs. (id, value) ∷ pairs)) (odd_is numbers half (omega (arith, odd)))

if_none : (b : Bool) (o : Option (List (ℕ × ℕ))) → o ≡ None → (if b then None else o) ≡ None
if_none true o is = refl
if_none false o is = is

pub left_over : (numbers : List ℕ) → length numbers % 2 ≢ 0 → pairs_given numbers ≡ None
left_over numbers odd =
    let half : length numbers ≡ 2 * (length numbers / 2) + 1 = omega (arith, odd) in
    if_none (nat_lt 16 (length numbers)) (paired numbers) (odd_is numbers (length numbers / 2) half)

-- there are too many
pub too_many : (numbers : List ℕ) → 8 < length numbers / 2 → pairs_given numbers ≡ None
too_many numbers many = ap (λ b. if b then None else paired numbers) (lt-ltb 16 (length numbers) (omega (arith, many)))
