-- How the counts of sections go with the sections.
use Rattle.std.proofs.Math.Seq.{take-length}
use Rattle.std.proofs.lemmas.List.{take-append-le}
use Rattle.std.proofs.Common.{take, ◌≡◌, ◌≢◌, ℕ, zero, suc, ◌+◌, ◌-◌, ◌<◌, ◌≤◌, Bool, true, false, ◌&&◌, List, [], ◌∷◌, ◌++◌, length, drop, refl, sym, ◌∙◌, ap, arith, nat_lt, if◌then◌else◌, get_or, set, add-one}
use Rattle.std.specs.Prelude.{◌==◌}
use Rattle.std.specs.List.{AllByRecursion}
use Rattle.std.proofs.lemmas.Grind.{common_steps}
use Rattle.std.proofs.lemmas.List.Sums.{sum_by-cons, sum_by-append}
use Rattle.std.proofs.lemmas.Bool.{and_parts}
use Rattle.h3_table.specs.declared.tracking.TrackedSection.{TrackedSection}
use Rattle.h3_table.specs.Tracking.{reference_count, reference_counts, is_free_to}

pub length-reference_counts : (first count : ℕ) (ts : List TrackedSection) → length (reference_counts first count ts) ≡ count
length-reference_counts first zero ts = refl
length-reference_counts first (suc count) ts = omega (arith, length-reference_counts (first + 1) count ts)

-- the entry behind the last
pub reference_counts-last : (first count : ℕ) (ts : List TrackedSection) → reference_counts first (count + 1) ts ≡ reference_counts first count ts ++ reference_count (first + count) ts ∷ []
reference_counts-last first count ts = rw add-one (last first count)
  where
    last : (first count : ℕ) → reference_counts first (suc count) ts ≡ reference_counts first count ts ++ reference_count (first + count) ts ∷ []
    last first zero = let same : first + 0 ≡ first = omega arith in rw same refl
    last first (suc count) = let same : first + 1 + count ≡ first + suc count = omega arith in
        ap (λ ns. reference_count first ts ∷ ns) (last (first + 1) count ∙ ap (λ n. reference_counts (first + 1) count ts ++ reference_count n ts ∷ []) same)

pub drop-reference_counts : (n first count : ℕ) (ts : List TrackedSection) → n ≤ count → drop n (reference_counts first count ts) ≡ reference_counts (first + n) (count - n) ts
drop-reference_counts zero first count ts le = let same : first + 0 ≡ first = omega arith in let less : count - 0 ≡ count = omega arith in rw (same, less) refl
drop-reference_counts (suc n) first zero ts le = absurd (omega (arith, le))
drop-reference_counts (suc n) first (suc count) ts le =
    let same : first + 1 + n ≡ first + suc n = omega arith in
    let less : suc count - suc n ≡ count - n = omega arith in
    rw less (drop-reference_counts n (first + 1) count ts (omega (arith, le)) ∙ ap (λ k. reference_counts k (count - n) ts) same)

-- no section has an entry behind the last as its oldest
pub none_holds : (number : ℕ) (ts : List TrackedSection) → AllByRecursion (λ t. t.oldest < number) ts → reference_count number ts ≡ 0
none_holds number [] h = refl
none_holds number (t ∷ ts) h = grind (arith, common_steps, none_holds number ts h.1, sum_by-cons (λ (t : TrackedSection). if t.oldest == number then 1 else 0) t ts, h.0)

pub reference_count-append : (number : ℕ) (ts us : List TrackedSection) → reference_count number (ts ++ us) ≡ reference_count number ts + reference_count number us
reference_count-append number ts us = sum_by-append (λ (t : TrackedSection). if t.oldest == number then 1 else 0) ts us

pub reference_count-length : (number : ℕ) (ts : List TrackedSection) → reference_count number ts ≤ length ts
reference_count-length number [] = omega arith
reference_count-length number (t ∷ ts) = grind (arith, common_steps, reference_count-length number ts, sum_by-cons (λ (t : TrackedSection). if t.oldest == number then 1 else 0) t ts)

-- the count of an entry stands at its place
pub held_at : (first count : ℕ) (ts : List TrackedSection) (place d : ℕ) → place < count → get_or (reference_counts first count ts) place d ≡ reference_count (first + place) ts
held_at first zero ts place d lt = absurd (omega (arith, lt))
held_at first (suc count) ts zero d lt = let same : first + 0 ≡ first = omega arith in rw same refl
held_at first (suc count) ts (suc place) d lt =
    let same : first + 1 + place ≡ first + suc place = omega arith in
    held_at (first + 1) count ts place d (omega (arith, lt)) ∙ ap (λ n. reference_count n ts) same

-- lists of sections whose counts differ at one entry alone
pub held_set : (first count place v : ℕ) (ts us : List TrackedSection) → place < count → reference_count (first + place) us ≡ v
    → ((n : ℕ) → n ≢ first + place → reference_count n us ≡ reference_count n ts) → reference_counts first count us ≡ set (reference_counts first count ts) place v
held_set first zero place v ts us lt there others = absurd (omega (arith, lt))
held_set first (suc count) zero v ts us lt there others =
    let same : first + 0 ≡ first = omega arith in
    let here : reference_count first us ≡ v = ap (λ n. reference_count n us) (sym same) ∙ there in
    rw here (ap (λ ns. v ∷ ns) (unchanged (first + 1) count (λ n le. others n (omega (arith, le)))))
  where
    unchanged : (from count : ℕ) → ((n : ℕ) → from ≤ n → reference_count n us ≡ reference_count n ts) → reference_counts from count us ≡ reference_counts from count ts
    unchanged from zero h = refl
    unchanged from (suc count) h = rw (h from (omega arith)) (ap (λ ns. reference_count from ts ∷ ns) (unchanged (from + 1) count (λ n le. h n (omega (arith, le)))))
held_set first (suc count) (suc place) v ts us lt there others =
    let same : first + 1 + place ≡ first + suc place = omega arith in
    rw (others first (omega arith))
    (ap (λ ns. reference_count first ts ∷ ns) (held_set (first + 1) count place v ts us (omega (arith, lt)) (ap (λ n. reference_count n us) same ∙ there) (λ n ne. others n (λ e. ne (e ∙ sym same)))))

-- Sections that hold an entry up to a number stand in the way.
pub stands_in_way : (number last : ℕ) (ts : List TrackedSection) → number ≤ last → reference_count number ts ≢ 0 → is_free_to last ts ≡ false
stands_in_way number last [] le ne = absurd (ne refl)
stands_in_way number last (t ∷ ts) le ne = by_test (t.oldest == number) refl (stands_in_way number last ts le)
  where
    and_false : (b : Bool) → (b && false) ≡ false
    and_false true = refl
    and_false false = refl

    by_test : (b : Bool) → (t.oldest == number) ≡ b → (reference_count number ts ≢ 0 → is_free_to last ts ≡ false) → is_free_to last (t ∷ ts) ≡ false
    by_test true e later = let far : nat_lt last t.oldest ≡ false = grind (arith, common_steps) in rw far refl
    by_test false e later =
        let same : reference_count number (t ∷ ts) ≡ reference_count number ts = grind (arith, common_steps, sum_by-cons (λ (t : TrackedSection). if t.oldest == number then 1 else 0) t ts) in
        rw (later (λ z. ne (same ∙ z))) (and_false (nat_lt last t.oldest))

pub is_free : (evicted last : ℕ) (ts : List TrackedSection) → AllByRecursion (λ t. evicted < t.oldest) ts → ((n : ℕ) → evicted < n → n ≤ last → reference_count n ts ≡ 0) → is_free_to last ts ≡ true
is_free evicted last [] there none = refl
is_free evicted last (t ∷ ts) there none =
    rw (is_free evicted last ts there.1 (λ n lt le. omega (arith, none n lt le, less n)), beyond) refl
  where
    less : (n : ℕ) → reference_count n ts ≤ reference_count n (t ∷ ts)
    less n = grind (arith, common_steps, sum_by-cons (λ (t : TrackedSection). if t.oldest == n then 1 else 0) t ts)

    itself : reference_count t.oldest (t ∷ ts) ≢ 0
    itself e = grind (arith, common_steps, sum_by-cons (λ (u : TrackedSection). if u.oldest == t.oldest then 1 else 0) t ts)

    beyond : nat_lt last t.oldest ≡ true
    beyond = far (nat_lt last t.oldest) refl
      where
        far : (b : Bool) → nat_lt last t.oldest ≡ b → b ≡ true
        far true e = refl
        far false e = absurd (itself (none t.oldest there.0 (grind (arith, common_steps))))

pub there_later : (evicted made later : ℕ) (ts : List TrackedSection) → made ≤ later → AllByRecursion (λ s. (evicted < s.oldest) × (s.oldest ≤ made)) ts
    → AllByRecursion (λ s. (evicted < s.oldest) × (s.oldest ≤ later)) ts
there_later evicted made later [] le h = tt
there_later evicted made later (t ∷ ts) le h = ((h.0.0, omega (arith, h.0.1, le)), there_later evicted made later ts le h.1)

pub above_evicted : (evicted made : ℕ) (ts : List TrackedSection) → AllByRecursion (λ s. (evicted < s.oldest) × (s.oldest ≤ made)) ts → AllByRecursion (λ s. evicted < s.oldest) ts
above_evicted evicted made [] h = tt
above_evicted evicted made (t ∷ ts) h = (h.0.0, above_evicted evicted made ts h.1)

-- what no section names up to a number is above it
pub above_free : (evicted made last : ℕ) (ts : List TrackedSection) → is_free_to last ts ≡ true → AllByRecursion (λ s. (evicted < s.oldest) × (s.oldest ≤ made)) ts
    → AllByRecursion (λ s. (last < s.oldest) × (s.oldest ≤ made)) ts
above_free evicted made last [] free h = tt
above_free evicted made last (t ∷ ts) free h =
    let e = and_parts (nat_lt last t.oldest) (is_free_to last ts) free in
    ((grind (arith, common_steps), h.0.1), above_free evicted made last ts e.1 h.1)

-- the count of an entry that is there
pub held_count : (evicted : ℕ) (refs : List ℕ) (ts : List TrackedSection) (number v : ℕ) → refs ≡ reference_counts (evicted + 1) (length refs) ts → evicted < number → number ≤ evicted + length refs
    → v ≡ get_or refs (number - evicted - 1) v → v ≡ reference_count number ts
held_count evicted refs ts number v counts low high is =
    let same : evicted + 1 + (number - evicted - 1) ≡ number = omega (arith, low) in
    is ∙ ap (λ ns. get_or ns (number - evicted - 1) v) counts ∙ held_at (evicted + 1) (length refs) ts (number - evicted - 1) v (omega (arith, low, high)) ∙ ap (λ n. reference_count n ts) same

-- the last entry, which none holds, is taken away
pub reference_counts-front : (first count : ℕ) (ts : List TrackedSection) → 0 < count → take (count - 1) (reference_counts first count ts) ≡ reference_counts first (count - 1) ts
reference_counts-front first count ts above =
    let back : count ≡ count - 1 + 1 = omega (arith, above) in
    ap (λ n. take (count - 1) (reference_counts first n ts)) back
    ∙ ap (take (count - 1)) (reference_counts-last first (count - 1) ts)
    ∙ take-append-le (count - 1) (reference_counts first (count - 1) ts) _ (omega (arith, length-reference_counts first (count - 1) ts))
    ∙ take-all (count - 1) (reference_counts first (count - 1) ts) (sym (length-reference_counts first (count - 1) ts))
  where
    take-all : (n : ℕ) (xs : List ℕ) → n ≡ length xs → take n xs ≡ xs
    take-all n xs e = rw e (take-length xs)

pub there_before : (evicted made : ℕ) (ts : List TrackedSection) → 0 < made → reference_count made ts ≡ 0 → AllByRecursion (λ s. (evicted < s.oldest) × (s.oldest ≤ made)) ts
    → AllByRecursion (λ s. (evicted < s.oldest) × (s.oldest ≤ made - 1)) ts
there_before evicted made [] above none h = tt
there_before evicted made (t ∷ ts) above none h =
    let sum = sum_by-cons (λ (t : TrackedSection). if t.oldest == made then 1 else 0) t ts in
    ((h.0.0, other (t.oldest == made) refl sum), there_before evicted made ts above (omega (arith, none, sum)) h.1)
  where
    other : (b : Bool) → (t.oldest == made) ≡ b → reference_count made (t ∷ ts) ≡ (if t.oldest == made then 1 else 0) + reference_count made ts → t.oldest ≤ made - 1
    other true e sum = absurd (one (if t.oldest == made then 1 else 0) (rw e refl) (omega (arith, none, sum)))
      where
        one : (n : ℕ) → n ≡ 1 → n ≡ 0 → ⊥
        one n a b = omega (arith, a, b)
    other false e sum = grind (arith, common_steps, h.0.1)
