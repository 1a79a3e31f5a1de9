-- The greatest number that passes a test, found in parts.
use Rattle.std.proofs.Common.{◌≡◌, ◌<◌, ◌≤◌, ℕ, zero, suc, ◌+◌, ◌/◌, ◌%◌, ◌^◌, Bool, true, false, ◌||◌, ◌&&◌, List, [], ◌∷◌, length, refl, sym, ◌∙◌, ap, subst, inl, inr, arith, if◌then◌else◌, slice_get}
use Rattle.std.specs.Prelude.{◌==◌, ◌⊎◌, not, Option, Some, None, IfSome, IsSome, is_some, nat_lt}
use Rattle.std.specs.List.{range_with_len}
use Rattle.std.proofs.lemmas.Bool.{cases_eq}
use Rattle.std.proofs.lemmas.Grind.{common_steps}
use Rattle.h3_connection.specs.State.{RequestState, kept_at}
use Rattle.h3_connection.specs.StreamSets.{Streams, stream_at}
use Rattle.h3_blocked.specs.SumLaws.{kept_is_at}
use Rattle.h3_requests.specs.Done.{is_sought}
use Rattle.h3_requests.specs.Greatest.{IsGreatest, greater_of}
use Rattle.h3_requests.specs.Listed.{either, listed_at, put_first, streams_of}
use Rattle.h3_requests.specs.Over.{AreMarked, IsOver, over_in, way_at}
use Rattle.h3_requests.specs.Row.{held_by, held_in, in_place}
use Rattle.h3_requests.specs.declared.over.Way.{Way}
use Rattle.h3_requests.specs.declared.under_way.row.Place.{Place}
use Rattle.h3_requests.proofs.Found.{found}
use Rattle.h3_requests.proofs.Ways.{over_sent, over_settled, told_over, told_some, way_there}

-- it is no greater than what was found
abbrev pub IsUpTo : ℕ → Option ℕ → Type 0
IsUpTo q None = ⊥
IsUpTo q (Some id) = q ≤ id

-- Of the numbers that were looked at this is the greatest that passes.
pub record Found (passes : ℕ → Bool) (looked : ℕ → Type 0) (found : Option ℕ) : Type 0 where
  pub one : IfSome found (λ id. (passes id ≡ true) × (id < 2 ^ 64))
  pub all : (q : ℕ) → looked q → passes q ≡ true → IsUpTo q found

up_to : (q id : ℕ) (found : Option ℕ) → (q ≡ id) ⊎ IsUpTo q found → IsUpTo q (greater_of found (Some id))
up_to q id None (inl same) = omega (arith, same)
up_to q id None (inr nothing) = absurd nothing
up_to q id (Some other) h = by_test (nat_lt other id) refl
  where
    by_test : (t : Bool) → nat_lt other id ≡ t → IsUpTo q (if t then Some id else Some other)
    by_test true is = let less : other < id = grind (arith, common_steps, is) in elim h [ inl same ↦ omega (arith, same) | inr up ↦ omega (arith, up, less) ]
    by_test false is = let least : id ≤ other = grind (arith, common_steps, is) in elim h [ inl same ↦ omega (arith, same, least) | inr up ↦ up ]

one_of : (P : ℕ → Type 0) (id : ℕ) (found : Option ℕ) → P id → IfSome found P → IfSome (greater_of found (Some id)) P
one_of P id None here there = here
one_of P id (Some other) here there = by_test (nat_lt other id)
  where
    by_test : (t : Bool) → IfSome (if t then Some id else Some other) P
    by_test true = here
    by_test false = there

-- one more was looked at, which passes,
pub passes_too : (passes : ℕ → Bool) (looked later : ℕ → Type 0) (found : Option ℕ) (id : ℕ) → Found passes looked found → passes id ≡ true → id < 2 ^ 64
    → ((q : ℕ) → later q → passes q ≡ true → (q ≡ id) ⊎ looked q) → Found passes later (greater_of found (Some id))
passes_too passes looked later found id h is few more =
    record {
      one = one_of (λ q. (passes q ≡ true) × (q < 2 ^ 64)) id found (is, few) h.one;
      all = λ q there passed. up_to q id found (elim (more q there passed) [ inl same ↦ inl same | inr was ↦ inr (h.all q was passed) ]);
    }

-- or does not
pub passes_not : (passes : ℕ → Bool) (looked later : ℕ → Type 0) (found : Option ℕ) (id : ℕ) → Found passes looked found → passes id ≡ false
    → ((q : ℕ) → later q → passes q ≡ true → (q ≡ id) ⊎ looked q) → Found passes later found
passes_not passes looked later found id h is more =
    record {
      one = h.one;
      all = λ q there passed. elim (more q there passed) [
        | inl same ↦ absurd (let wrong : true ≡ false = sym passed ∙ ap passes same ∙ is in cc)
        | inr was ↦ h.all q was passed
      ];
    }

-- All that pass were looked at.
pub all_looked : (passes : ℕ → Bool) (looked : ℕ → Type 0) (found : Option ℕ) → ((q : ℕ) → passes q ≡ true → looked q) → Found passes looked found → IsGreatest passes found
all_looked passes looked None all h = λ q. by_test q (passes q) refl
  where
    by_test : (q : ℕ) (t : Bool) → passes q ≡ t → t ≡ false
    by_test q true is = absurd (h.all q (all q is) is)
    by_test q false is = refl
all_looked passes looked (Some id) all h = (h.one.0, λ q above. by_test q (passes q) refl above)
  where
    by_test : (q : ℕ) (t : Bool) → passes q ≡ t → id < q → t ≡ false
    by_test q true is above = let up : q ≤ id = h.all q (all q is) is in absurd (omega (arith, up, above))
    by_test q false is above = refl

-- the greater of two that fit does
pub fits_both : (one other : Option ℕ) → IfSome one (λ id. id < 2 ^ 64) → IfSome other (λ id. id < 2 ^ 64) → IfSome (greater_of one other) (λ id. id < 2 ^ 64)
fits_both None other h k = k
fits_both (Some x) None h k = h
fits_both (Some x) (Some y) h k = by_test (nat_lt x y)
  where
    by_test : (t : Bool) → IfSome (if t then Some y else Some x) (λ id. id < 2 ^ 64)
    by_test true = k
    by_test false = h

or_true : (b : Bool) → (b || true) ≡ true
or_true true = refl
or_true false = refl

or_false : (b : Bool) → (b || false) ≡ b
or_false true = refl
or_false false = refl

neither : (a b : Bool) → a ≡ false → b ≡ false → (a || b) ≡ false
neither a b p q = rw (p, q) refl

-- Of two tests the greatest number that passes either is the greater of both.
pub greatest_of_both : (f g h : ℕ → Bool) (one other : Option ℕ) → ((q : ℕ) → h q ≡ (f q || g q)) → IsGreatest f one → IsGreatest g other → IsGreatest h (greater_of one other)
greatest_of_both f g h None None is a b = λ q. is q ∙ neither _ _ (a q) (b q)
greatest_of_both f g h None (Some y) is a b = (is y ∙ ap (λ t. f y || t) b.0 ∙ or_true (f y), λ q above. is q ∙ neither _ _ (a q) (b.1 q above))
greatest_of_both f g h (Some x) None is a b = (is x ∙ ap (λ t. t || g x) a.0, λ q above. is q ∙ neither _ _ (a.1 q above) (b q))
greatest_of_both f g h (Some x) (Some y) is a b = by_test (nat_lt x y) refl
  where
    by_test : (t : Bool) → nat_lt x y ≡ t → IsGreatest h (if t then Some y else Some x)
    by_test true e = let less : x < y = grind (arith, common_steps, e) in (is y ∙ ap (λ t. f y || t) b.0 ∙ or_true (f y), λ q above. is q ∙ neither _ _ (a.1 q (omega (arith, less, above))) (b.1 q above))
    by_test false e = let least : y ≤ x = grind (arith, common_steps, e) in (is x ∙ ap (λ t. t || g x) a.0, λ q above. is q ∙ neither _ _ (a.1 q above) (b.1 q (omega (arith, least, above))))

-- the same by another test that answers alike
pub greatest_alike : (f g : ℕ → Bool) (one : Option ℕ) → ((q : ℕ) → g q ≡ f q) → IsGreatest f one → IsGreatest g one
greatest_alike f g None same h = λ q. same q ∙ h q
greatest_alike f g (Some id) same h = (same id ∙ h.0, λ q above. same q ∙ h.1 q above)

-- what is found in a list is what stands there, or none
found_or_none : {X : Type 0} (P : Option X → Type 0) (f : ℕ → Option X) (id : ℕ) (qs : List ℕ) → P None → P (f id) → P (stream_at (listed_at f qs) id)
found_or_none P f id [] none some = none
found_or_none {X} P f id (q ∷ qs) none some = by_what (f q) refl (found_or_none P f id qs none some)
  where
    by_test : (x : X) (t : Bool) → (q == id) ≡ t → f q ≡ Some x → P (stream_at (listed_at f qs) id) → P (if t then Some x else stream_at (listed_at f qs) id)
    by_test x true e is later = let same : q ≡ id = grind (arith, common_steps, e) in subst P (ap f (sym same) ∙ is) some
    by_test x false e is later = later

    by_what : (o : Option X) → f q ≡ o → P (stream_at (listed_at f qs) id) → P (stream_at (put_first q o (listed_at f qs)) id)
    by_what None is later = later
    by_what (Some x) is later = by_test x (q == id) refl is later

in_streams : {X : Type 0} (P : Option X → Type 0) (f : ℕ → Option X) (id : ℕ) → P None → P (f id) → P (stream_at (streams_of f) id)
unfolding streams_of
in_streams P f id none some = found_or_none P f id (range_with_len 0 (2 ^ 64)) none some

-- What holds of what stands at an id, and of none, holds of what is found there.
pub kept_there : {X : Type 0} (P : Option X → Type 0) (f : ℕ → Option X) (model : Streams X) (id : ℕ) → streams_of f ≡ model → P None → P (f id) → P (kept_at model id)
kept_there P f model id view none some = subst P (sym (kept_is_at (streams_of f) id) ∙ ap (λ l. kept_at l id) view) (in_streams P f id none some)

-- What is greatest by what stands at each id is so by what is found there.
pub greatest_listed : {X : Type 0} (test : Option X → Bool) (f : ℕ → Option X) (model : Streams X) (one : Option ℕ) → streams_of f ≡ model → test None ≡ false → IfSome one (λ id. id < 2 ^ 64)
    → IsGreatest (λ q. test (f q)) one → IsGreatest (λ q. test (kept_at model q)) one
greatest_listed test f model None view none few h = λ q. kept_there (λ o. test o ≡ false) f model q view none (h q)
greatest_listed test f model (Some id) view none few h = (
  ap (λ l. test (kept_at l id)) (sym view) ∙ ap test (found f id few) ∙ h.0,
  λ q above. kept_there (λ o. test o ≡ false) f model q view none (h.1 q above),
)

-- What stands in one of two places where both have none passes a test there, or in the other.
pub passes_beside : (test : Option RequestState → Bool) (a b : Option RequestState) → test None ≡ false → (IsSome a → b ≡ None) → test (either a b) ≡ (test a || test b)
passes_beside test None b none apart = sym (ap (λ t. t || test b) none)
passes_beside test (Some x) b none apart = sym (ap (λ o. test (Some x) || test o) (apart refl) ∙ ap (λ t. test (Some x) || t) none ∙ or_false _)

-- it is there in either
pub there_beside : (a b : Option RequestState) → is_some (either a b) ≡ (is_sought false a || is_some b)
there_beside None b = refl
there_beside (Some x) b = refl

both_true : (a b : Bool) → a ≡ true → b ≡ true → (a && b) ≡ true
both_true a b p q = rw (p, q) refl

-- what is over is done
done_over : (o : Option RequestState) → IfSome o IsOver → is_sought true o ≡ false
done_over None h = refl
done_over (Some r) h = ap (λ b. not (true && b)) (both_true _ _ (over_settled r h) (over_sent r h))

pub undone_beside : (a b : Option RequestState) → IfSome b IsOver → is_sought true (either a b) ≡ is_sought true a
undone_beside None b h = done_over b h
undone_beside (Some x) b h = refl

-- a number that is sought is there
pub some_sought : (undone : Bool) (o : Option RequestState) → is_sought undone o ≡ true → IsSome o
some_sought undone None h = absurd (cc)
some_sought undone (Some r) h = refl

named : (p : Place) (q : ℕ) → IsSome (in_place p q) → p.id ≡ q
named p q some = by_test (p.id == q) refl some
  where
    by_test : (t : Bool) → (p.id == q) ≡ t → IsSome (if t then p.stream else None) → p.id ≡ q
    by_test true e some = grind (arith, common_steps, e)
    by_test false e some = absurd (cc)

-- One that stands in a row, whose place is the next one, has that one's id,
pub next_in_row : (places : List Place) (index : ℕ) (p : Place) (q : ℕ) → slice_get places index ≡ Some p → q / 4 % 128 < index + 1 → IsSome (held_in places q) → (q ≡ p.id) ⊎ (q / 4 % 128 < index)
next_in_row places index p q at less is = elim (cases_eq (q / 4 % 128) index) [
  | inl same ↦ inl (sym (named p q (subst (λ o. IsSome o) (ap (λ i. held_by (slice_get places i) q) same ∙ ap (λ o. held_by o q) at) is)))
  | inr differs ↦ inr (omega (arith, less, differs))
]

within : {X : Type 0} (xs : List X) (i : ℕ) → IsSome (slice_get xs i) → i < length xs
within [] i some = absurd (cc)
within (x ∷ xs) zero some = omega arith
within (x ∷ xs) (suc i) some = let less = within xs i some in omega (arith, less)

some_by : (o : Option Place) (q : ℕ) → IsSome (held_by o q) → IsSome o
some_by None q some = absurd (cc)
some_by (Some p) q some = refl

-- and its place is there
pub in_the_row : (places : List Place) (q : ℕ) → IsSome (held_in places q) → q / 4 % 128 < length places
in_the_row places q is = within places (q / 4 % 128) (some_by (slice_get places (q / 4 % 128)) q is)

-- Streams that are marked with the ways in which they are over are over, and one is there where its mark is not 0.
pub all_over : (ways : ℕ → List Way) (groups marks codes : ℕ → ℕ) (model : Streams RequestState) → streams_of (over_in ways groups marks codes) ≡ model → AreMarked ways groups marks → (id : ℕ) → IfSome (kept_at model id) IsOver
all_over ways groups marks codes model view h id =
    kept_there (λ o. IfSome o IsOver) (over_in ways groups marks codes) model id view tt (told_over (way_at (ways (groups id)) (marks id)) (codes id) (h.over (groups id) (marks id)))

pub greatest_marked : (ways : ℕ → List Way) (groups marks codes : ℕ → ℕ) (model : Streams RequestState) (one : Option ℕ) → streams_of (over_in ways groups marks codes) ≡ model → AreMarked ways groups marks → IfSome one (λ id. id < 2 ^ 64)
    → IsGreatest (λ q. nat_lt 0 (marks q)) one → IsGreatest (λ q. is_some (kept_at model q)) one
greatest_marked ways groups marks codes model one view h few greatest =
    greatest_listed is_some (over_in ways groups marks codes) model one view refl few
    (greatest_alike (λ q. nat_lt 0 (marks q)) (λ q. is_some (over_in ways groups marks codes q)) one
    (λ q. told_some (way_at (ways (groups q)) (marks q)) (codes q) ∙ way_there (ways (groups q)) (marks q) (h.known q)) greatest)
