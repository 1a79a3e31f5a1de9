-- A section is taken away, and so is its reference.
use Rattle.std.proofs.Common.{◌≡◌, ◌≢◌, ◌<◌, ◌≤◌, ℕ, ◌+◌, ◌-◌, Bool, true, false, List, [], ◌∷◌, ◌++◌, length, refl, sym, ◌∙◌, ap, subst, arith, if◌then◌else◌, get_or, set}
use Rattle.std.specs.Prelude.{◌==◌}
use Rattle.std.specs.List.{AllByRecursion}
use Rattle.std.proofs.lemmas.Grind.{common_steps}
use Rattle.std.proofs.lemmas.List.Sums.{sum_by-cons}
use Rattle.h3_table.specs.declared.tracking.TrackedSection.{TrackedSection}
use Rattle.h3_table.specs.Tracking.{reference_count, reference_counts}
use Rattle.h3_table.specs.Sections.{IsWithoutOne}
use Rattle.h3_table.specs.ReleasingLaws.{All-join}
use Rattle.h3_table.proofs.ReferenceCounts.{held_at, held_set, reference_count-append}

-- the sections name entries that are there
abbrev pub AreThere : ℕ → List ℕ → List TrackedSection → Type 0
AreThere evicted refs ts = AllByRecursion (λ s. (evicted < s.oldest) × (s.oldest ≤ evicted + length refs)) ts

All-parts : (P : TrackedSection → Type 0) (xs ys : List TrackedSection) → AllByRecursion P (xs ++ ys) → AllByRecursion P xs × AllByRecursion P ys
All-parts P [] ys h = (tt, h)
All-parts P (x ∷ xs) ys h = let e = All-parts P xs ys h.1 in ((h.0, e.0), e.1)

-- what holds of each section held of the one that was taken, and holds of the others
pub All-without : (P : TrackedSection → Type 0) (n : ℕ) (ts us : List TrackedSection) → IsWithoutOne n ts us → AllByRecursion P ts → AllByRecursion P us
All-without P n ts us w h =
    let e = All-parts P w.front (w.taken ∷ w.back) (subst (AllByRecursion P) w.was h) in
    subst (AllByRecursion P) (sym w.is) (All-join P w.front w.back e.0 e.1.1)

pub taken_there : (evicted n : ℕ) (refs : List ℕ) (ts us : List TrackedSection) → IsWithoutOne n ts us → AreThere evicted refs ts → (evicted < n) × (n ≤ evicted + length refs)
taken_there evicted n refs ts us w h =
    let e = All-parts (λ s. (evicted < s.oldest) × (s.oldest ≤ evicted + length refs)) w.front (w.taken ∷ w.back) (subst (AreThere evicted refs) w.was h) in
    (omega (arith, e.1.0.0, w.names), omega (arith, e.1.0.1, w.names))

counts_without : (k n : ℕ) (ts us : List TrackedSection) → IsWithoutOne n ts us → reference_count k ts ≡ reference_count k us + (if n == k then 1 else 0)
counts_without k n ts us w =
    let was = ap (reference_count k) w.was ∙ reference_count-append k w.front (w.taken ∷ w.back) in
    let is = ap (reference_count k) w.is ∙ reference_count-append k w.front w.back in
    let one = sum_by-cons (λ (t : TrackedSection). if t.oldest == k then 1 else 0) w.taken w.back in
    let same = ap {B = ℕ} (λ m. if m == k then 1 else 0) w.names in
    omega (arith, was, is, one, same)

own_count : (n : ℕ) → ◌≡◌ {A = ℕ} (if n == n then 1 else 0) 1
own_count n = by_test (n == n) refl
  where
    by_test : (b : Bool) → (n == n) ≡ b → ◌≡◌ {A = ℕ} (if n == n then 1 else 0) 1
    by_test true e = rw e refl
    by_test false e = absurd (grind (arith, common_steps))

other_count : (n k : ℕ) → k ≢ n → ◌≡◌ {A = ℕ} (if n == k then 1 else 0) 0
other_count n k ne = by_test (n == k) refl
  where
    by_test : (b : Bool) → (n == k) ≡ b → ◌≡◌ {A = ℕ} (if n == k then 1 else 0) 0
    by_test true e = absurd (ne (grind (arith, common_steps)))
    by_test false e = rw e refl

count_at : (evicted n : ℕ) (refs : List ℕ) (ts : List TrackedSection) → refs ≡ reference_counts (evicted + 1) (length refs) ts → evicted < n → n ≤ evicted + length refs → get_or refs (n - evicted - 1) 0 ≡ reference_count n ts
count_at evicted n refs ts counts low high =
    let same : evicted + 1 + (n - evicted - 1) ≡ n = omega (arith, low) in
    ap (λ ns. get_or ns (n - evicted - 1) 0) counts ∙ held_at (evicted + 1) (length refs) ts (n - evicted - 1) 0 (omega (arith, low, high)) ∙ ap (λ k. reference_count k ts) same

-- its entry is counted
pub taken_counts : (evicted n : ℕ) (refs : List ℕ) (ts us : List TrackedSection) → refs ≡ reference_counts (evicted + 1) (length refs) ts → AreThere evicted refs ts → IsWithoutOne n ts us → 0 < get_or refs (n - evicted - 1) 0
taken_counts evicted n refs ts us counts there w =
    let e = taken_there evicted n refs ts us w there in
    omega (arith, count_at evicted n refs ts counts e.0 e.1, counts_without n n ts us w, own_count n)

-- and once less behind that
pub counted_without : (evicted n : ℕ) (refs left : List ℕ) (ts us : List TrackedSection) → refs ≡ reference_counts (evicted + 1) (length refs) ts → AreThere evicted refs ts → IsWithoutOne n ts us
    → left ≡ set refs (n - evicted - 1) (get_or refs (n - evicted - 1) 0 - 1) → left ≡ reference_counts (evicted + 1) (length refs) us
counted_without evicted n refs left ts us counts there w is =
    let e = taken_there evicted n refs ts us w there in
    let same : evicted + 1 + (n - evicted - 1) ≡ n = omega (arith, e.0) in
    let v = get_or refs (n - evicted - 1) 0 - 1 in
    is ∙ ap (λ ns. set ns (n - evicted - 1) v) counts
    ∙ sym (held_set (evicted + 1) (length refs) (n - evicted - 1) v ts us (omega (arith, e.0, e.1))
    (ap (λ k. reference_count k us) same ∙ omega (arith, count_at evicted n refs ts counts e.0 e.1, counts_without n n ts us w, own_count n))
    (λ k ne. omega (arith, counts_without k n ts us w, other_count n k (λ s. ne (s ∙ sym same)))))
