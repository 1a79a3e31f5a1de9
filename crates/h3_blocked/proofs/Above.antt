-- Sums over the numbers above one.
use Rattle.std.proofs.Common.{arith, ◌≡◌, ◌<◌, ◌≤◌, ℕ, zero, suc, ◌+◌, ◌-◌, ◌^◌, List, [], ◌∷◌, refl, sym, ◌∙◌, ap, inl, inr}
use Rattle.std.specs.Prelude.{◌≢◌, nat_lt, if◌then◌else◌, sum_by}
use Rattle.std.specs.List.{range_with_len}
use Rattle.std.proofs.lemmas.Bool.{cases_lt, cases_eq, lt-ltb, le-ltb}
use Rattle.std.proofs.lemmas.List.Sums.{sum_by-cons, sum_by-le-sum_by}
use Rattle.h3_blocked.specs.Counting.{one_if, sum_above, where_above, number_at, HasCount, IsOneNumber, IsSound}
use Rattle.h3_blocked.specs.declared.counts.Blocked.{Blocked}

same_in : (u v : ℕ → ℕ) (a n : ℕ) → ((k : ℕ) → a ≤ k → k < a + n → v k ≡ u k) → sum_by v (range_with_len a n) ≡ sum_by u (range_with_len a n)
same_in u v a zero same = refl
same_in u v a (suc n) same =
    let rest = same_in u v (a + 1) n (λ k le lt. same k (omega (arith, le)) (omega (arith, lt))) in
    omega (arith, sum_by-cons u a (range_with_len (a + 1) n), sum_by-cons v a (range_with_len (a + 1) n), same a (omega arith) (omega arith), rest)

-- they differ at one number alone, which is among these
one_in : (u v : ℕ → ℕ) (id a n : ℕ) → a ≤ id → id < a + n → ((k : ℕ) → k ≢ id → v k ≡ u k) → sum_by v (range_with_len a n) + u id ≡ sum_by u (range_with_len a n) + v id
one_in u v id a zero le lt others = absurd (omega (arith, le, lt))
one_in u v id a (suc n) le lt others = elim (cases_eq a id) [
  | inl same ↦
      let rest = same_in u v (a + 1) n (λ k more less. others k (λ is. absurd (omega (arith, is, more, same)))) in
      omega (arith, sum_by-cons u a (range_with_len (a + 1) n), sum_by-cons v a (range_with_len (a + 1) n), ap u same, ap v same, rest)
  | inr differs ↦
      let rest = one_in u v id (a + 1) n (omega (arith, le, differs)) (omega (arith, lt)) others in
      omega (arith, sum_by-cons u a (range_with_len (a + 1) n), sum_by-cons v a (range_with_len (a + 1) n), others a differs, rest)
]

at_above : (n k : ℕ) (f : ℕ → ℕ) → n < k → where_above n f k ≡ f k
at_above n k f less = rw (lt-ltb n k less) refl

at_below : (n k : ℕ) (f : ℕ → ℕ) → k ≤ n → where_above n f k ≡ 0
at_below n k f more = rw (le-ltb n k more) refl

-- and one that differs at one number another one
one_above : (n id : ℕ) (f g : ℕ → ℕ) → id < 2 ^ 64 → ((k : ℕ) → k ≢ id → g k ≡ f k) → sum_above n g + where_above n f id ≡ sum_above n f + where_above n g id
unfolding sum_above
one_above n id f g few others = one_in (where_above n f) (where_above n g) id 0 (2 ^ 64) (omega arith) few (λ k differs. ap (λ m. if nat_lt n k then m else 0) (others k differs))

-- one more,
pub grown : (n id : ℕ) (f g : ℕ → ℕ) → id < 2 ^ 64 → IsOneNumber id (f id + 1) f g → sum_above n g ≡ sum_above n f + one_if (nat_lt n id)
grown n id f g few one = elim (cases_lt n id) [
  | inl less ↦ omega (arith, one_above n id f g few one.others, at_above n id f less, at_above n id g less, one.own, ap one_if (lt-ltb n id less))
  | inr more ↦ omega (arith, one_above n id f g few one.others, at_below n id f more, at_below n id g more, ap one_if (le-ltb n id more))
]

-- and one less
pub shrunk : (n id : ℕ) (f g : ℕ → ℕ) → id < 2 ^ 64 → 0 < f id → IsOneNumber id (f id - 1) f g → sum_above n g + one_if (nat_lt n id) ≡ sum_above n f
shrunk n id f g few some one = elim (cases_lt n id) [
  | inl less ↦ omega (arith, some, one_above n id f g few one.others, at_above n id f less, at_above n id g less, one.own, ap one_if (lt-ltb n id less))
  | inr more ↦ omega (arith, one_above n id f g few one.others, at_below n id f more, at_below n id g more, ap one_if (le-ltb n id more))
]

-- above two numbers, between which there is one
two_above : (n m id : ℕ) (f : ℕ → ℕ) → id < 2 ^ 64 → ((k : ℕ) → k ≢ id → where_above n f k ≡ where_above m f k) → sum_above n f + where_above m f id ≡ sum_above m f + where_above n f id
unfolding sum_above
two_above n m id f few each = one_in (where_above m f) (where_above n f) id 0 (2 ^ 64) (omega arith) few each

-- without what there is at one number, when there is nothing before it
pub stepped : (n k : ℕ) (f : ℕ → ℕ) → n < k → k < 2 ^ 64 → ((j : ℕ) → n < j → j < k → f j ≡ 0) → sum_above n f ≡ f k + sum_above k f
stepped n k f less few none =
    let each : (j : ℕ) → j ≢ k → where_above n f j ≡ where_above k f j = λ j differs. elim (cases_lt n j) [
      | inl past ↦ elim (cases_lt k j) [
        | inl behind ↦ at_above n j f past ∙ sym (at_above k j f behind)
        | inr before ↦ at_above n j f past ∙ none j past (omega (arith, before, differs)) ∙ sym (at_below k j f before)
      ]
      | inr before ↦ at_below n j f before ∙ sym (at_below k j f (omega (arith, before, less)))
    ] in
    omega (arith, two_above n k k f few each, at_above n k f less, at_below k k f (omega arith))

-- where there is nothing in between it is the same
pub passed_over : (n m : ℕ) (f : ℕ → ℕ) → n ≤ m → ((j : ℕ) → n < j → j ≤ m → j < 2 ^ 64 → f j ≡ 0) → sum_above n f ≡ sum_above m f
unfolding sum_above
passed_over n m f le none = same_in (where_above m f) (where_above n f) 0 (2 ^ 64) (λ j least few. elim (cases_lt m j) [
  | inl past ↦ at_above n j f (omega (arith, le, past)) ∙ sym (at_above m j f past)
  | inr before ↦ elim (cases_lt n j) [
    | inl between ↦ at_above n j f between ∙ none j between before (omega (arith, few)) ∙ sym (at_below m j f before)
    | inr below ↦ at_below n j f below ∙ sym (at_below m j f before)
  ]
])

fewer_at : (n m : ℕ) (f : ℕ → ℕ) → n ≤ m → (j : ℕ) → where_above m f j ≤ where_above n f j
fewer_at n m f le j = elim (cases_lt m j) [
  | inl past ↦ omega (arith, at_above n j f (omega (arith, le, past)), at_above m j f past)
  | inr before ↦ omega (arith, at_below m j f before)
]

-- above a greater number there is no more
pub fewer : (n m : ℕ) (f : ℕ → ℕ) → n ≤ m → sum_above m f ≤ sum_above n f
unfolding sum_above
fewer n m f le = sum_by-le-sum_by (where_above m f) (where_above n f) (range_with_len 0 (2 ^ 64)) (fewer_at n m f le)

-- nor at one number
pub no_more_at : (n k : ℕ) (f : ℕ → ℕ) → n < k → k < 2 ^ 64 → f k + sum_above k f ≤ sum_above n f
no_more_at n k f less few =
    let least : sum_above (k - 1) f ≡ f k + sum_above k f = stepped (k - 1) k f (omega (arith, less)) few (λ j a b. absurd (omega (arith, a, b))) in
    omega (arith, least, fewer n (k - 1) f (omega (arith, less)))

zero_in : (u : ℕ → ℕ) (ks : List ℕ) → ((k : ℕ) → u k ≡ 0) → sum_by u ks ≡ 0
zero_in u [] none = refl
zero_in u (k ∷ ks) none = omega (arith, sum_by-cons u k ks, none k, zero_in u ks none)

zero_at : (n : ℕ) (f : ℕ → ℕ) → ((k : ℕ) → f k ≡ 0) → (k : ℕ) → where_above n f k ≡ 0
zero_at n f none k = elim (cases_lt n k) [
  | inl less ↦ at_above n k f less ∙ none k
  | inr more ↦ at_below n k f more
]

-- where there is nothing the sum is 0
pub none_above : (n : ℕ) (f : ℕ → ℕ) → ((k : ℕ) → f k ≡ 0) → sum_above n f ≡ 0
unfolding sum_above
none_above n f none = zero_in (where_above n f) (range_with_len 0 (2 ^ 64)) (zero_at n f none)

-- The counts above one are not more than all.
pub few_above : (b : Blocked) (n : ℕ) → IsSound b → sum_above n (number_at b) ≤ 2 ^ 62
few_above b n h = omega (arith, fewer 0 n (number_at b) (omega arith), h.total, h.few)

pub few_at : (b : Blocked) (count : ℕ) → IsSound b → 0 < count → count < 2 ^ 64 → number_at b count ≤ b.total
few_at b count h some few = omega (arith, no_more_at 0 count (number_at b) some few, h.total)

-- one more was placed,
pub placed_sound : (b n : Blocked) (count : ℕ) → count < 2 ^ 64 → 0 < count → IsSound b → b.total < 2 ^ 62 → IsOneNumber count (number_at b count + 1) (number_at b) (number_at n)
    → n.total ≡ b.total + 1 → n.passed ≡ b.passed → n.above_passed ≡ b.above_passed + one_if (nat_lt b.passed count) → IsSound n
placed_sound b n count few some h less one total passed above =
    let all : one_if (nat_lt 0 count) ≡ 1 = ap one_if (lt-ltb 0 count some) in
    record {
      total = omega (arith, grown 0 count (number_at b) (number_at n) few one, all, h.total, total);
      few = omega (arith, total, less);
      passed = ap (λ p. sum_above p (number_at n)) passed ∙ grown b.passed count (number_at b) (number_at n) few one ∙ ap (λ m. m + one_if (nat_lt b.passed count)) h.passed ∙ sym above;
    }

-- or one was taken out
pub taken_sound : (b n : Blocked) (count : ℕ) → count < 2 ^ 64 → 0 < count → 0 < number_at b count → IsSound b → IsOneNumber count (number_at b count - 1) (number_at b) (number_at n)
    → n.total ≡ b.total - 1 → n.passed ≡ b.passed → n.above_passed ≡ b.above_passed - one_if (nat_lt b.passed count) → IsSound n
taken_sound b n count few some there h one total passed above =
    let all : one_if (nat_lt 0 count) ≡ 1 = ap one_if (lt-ltb 0 count some) in
    let left : sum_above b.passed (number_at n) ≡ n.above_passed = omega (arith, shrunk b.passed count (number_at b) (number_at n) few there one, h.passed, above) in
    record {
      total = omega (arith, shrunk 0 count (number_at b) (number_at n) few there one, all, h.total, total);
      few = omega (arith, total, h.few);
      passed = ap (λ p. sum_above p (number_at n)) passed ∙ left;
    }

-- A count that is among the counts, and is not the newest, is one for which a stream waits.
pub placed : (b : Blocked) (count : ℕ) → count < 2 ^ 64 → 0 < count → HasCount b count → b.newest ≢ count → 0 < number_at b count
placed b count few some has differs =
    let f = number_at b in
    let least : sum_above (count - 1) f ≡ f count + sum_above count f = stepped (count - 1) count f (omega (arith, some)) few (λ j x y. absurd (omega (arith, x, y))) in
    let newest : one_if (nat_lt (count - 1) b.newest) ≡ one_if (nat_lt count b.newest) = elim (cases_lt count b.newest) [
      | inl less ↦ ap one_if (lt-ltb (count - 1) b.newest (omega (arith, less))) ∙ sym (ap one_if (lt-ltb count b.newest less))
      | inr more ↦ ap one_if (le-ltb (count - 1) b.newest (omega (arith, more, differs))) ∙ sym (ap one_if (le-ltb count b.newest more))
    ] in
    omega (arith, least, newest, has some)
