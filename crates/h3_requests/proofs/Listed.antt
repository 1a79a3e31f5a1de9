-- What is found in the streams of all ids.
use Rattle.std.proofs.Common.{◌≡◌, ◌<◌, ◌≤◌, ℕ, zero, suc, ◌+◌, ◌^◌, Bool, true, false, ◌||◌, List, [], ◌∷◌, refl, sym, ◌∙◌, ap, arith}
use Rattle.std.specs.Prelude.{◌==◌, ◌≢◌, Option, Some, None, if◌then◌else◌}
use Rattle.std.specs.List.{list_any, range_with_len}
use Rattle.std.proofs.lemmas.Grind.{common_steps}
use Rattle.h3_connection.specs.StreamSets.{Streams, stream_at, HaveDistinctIds}
use Rattle.h3_requests.specs.Listed.{put_first, listed_at, streams_of}

itself : (n : ℕ) → (n == n) ≡ true
itself n = grind (arith, common_steps)

same : (a b : ℕ) → (a == b) ≡ true → a ≡ b
same a b e = grind (arith, common_steps)

apart : (a b : ℕ) → (a == b) ≡ false → a ≢ b
apart a b e is = let both : false ≡ true = sym e ∙ ap (λ m. a == m) (sym is) ∙ itself a in cc

-- where nothing stands nothing is found
at_none : {X : Type 0} (f : ℕ → Option X) (id : ℕ) (qs : List ℕ) → f id ≡ None → stream_at (listed_at f qs) id ≡ None
at_none f id [] none = refl
at_none {X} f id (q ∷ qs) none = step (f q) refl (at_none f id qs none)
  where
    by_test : (x : X) (t : Bool) → (q == id) ≡ t → f q ≡ Some x → stream_at (listed_at f qs) id ≡ None → (if t then Some x else stream_at (listed_at f qs) id) ≡ None
    by_test x true e is later = sym is ∙ ap f (same q id e) ∙ none
    by_test x false e is later = later

    step : (o : Option X) → f q ≡ o → stream_at (listed_at f qs) id ≡ None → stream_at (put_first q o (listed_at f qs)) id ≡ None
    step None is later = later
    step (Some x) is later = by_test x (q == id) refl is later

-- what stands at an id is found there
at_some : {X : Type 0} (f : ℕ → Option X) (id : ℕ) (x : X) (qs : List ℕ) → f id ≡ Some x → list_any (λ q. q == id) qs ≡ true → stream_at (listed_at f qs) id ≡ Some x
at_some f id x [] is among = absurd (cc)
at_some {X} f id x (q ∷ qs) is among = by_test (q == id) refl among (at_some f id x qs is)
  where
    by_test : (t : Bool) → (q == id) ≡ t → (t || list_any (λ p. p == id) qs) ≡ true → (list_any (λ p. p == id) qs ≡ true → stream_at (listed_at f qs) id ≡ Some x)
        → stream_at (put_first q (f q) (listed_at f qs)) id ≡ Some x
    by_test true e some later = rw (ap f (same q id e) ∙ is, e) refl
    by_test false e some later = other (f q) e (later some)
      where
        other : (o : Option X) → (q == id) ≡ false → stream_at (listed_at f qs) id ≡ Some x → stream_at (put_first q o (listed_at f qs)) id ≡ Some x
        other None ne found = found
        other (Some y) ne found = rw ne found

-- a number in a row is found there
numbered : (q a n : ℕ) → a ≤ q → q < a + n → list_any (λ other. other == q) (range_with_len a n) ≡ true
numbered q a zero le lt = absurd (omega (arith, le, lt))
numbered q a (suc n) le lt = by_test (a == q) refl (λ more. numbered q (a + 1) n more (omega (arith, lt)))
  where
    by_test : (t : Bool) → (a == q) ≡ t → (a + 1 ≤ q → list_any (λ other. other == q) (range_with_len (a + 1) n) ≡ true) → (t || list_any (λ other. other == q) (range_with_len (a + 1) n)) ≡ true
    by_test true e later = refl
    by_test false e later = let ne = apart a q e in later (omega (arith, le, ne))

by_what : {X : Type 0} (f : ℕ → Option X) (id : ℕ) (qs : List ℕ) (o : Option X) → f id ≡ o → list_any (λ q. q == id) qs ≡ true → stream_at (listed_at f qs) id ≡ o
by_what f id qs None is among = at_none f id qs is
by_what f id qs (Some x) is among = at_some f id x qs is among

-- What stands at an id is found there.
pub found : {X : Type 0} (f : ℕ → Option X) (id : ℕ) → id < 2 ^ 64 → stream_at (streams_of f) id ≡ f id
unfolding streams_of
found f id few = by_what f id (range_with_len 0 (2 ^ 64)) (f id) refl (numbered id 0 (2 ^ 64) (omega arith) (omega (arith, few)))

alike_in : {X : Type 0} (f g : ℕ → Option X) (qs : List ℕ) → ((q : ℕ) → g q ≡ f q) → listed_at g qs ≡ listed_at f qs
alike_in f g [] same = refl
alike_in f g (q ∷ qs) same = ap (λ o. put_first q o (listed_at g qs)) (same q) ∙ ap (put_first q (f q)) (alike_in f g qs same)

-- Where the same stands at each number the streams are the same.
pub same_streams : {X : Type 0} (f g : ℕ → Option X) → ((q : ℕ) → g q ≡ f q) → streams_of g ≡ streams_of f
unfolding streams_of
same_streams f g same = alike_in f g (range_with_len 0 (2 ^ 64)) same

-- where the same stands at one id the same is found there
alike_at : {X : Type 0} (f g : ℕ → Option X) (id : ℕ) (qs : List ℕ) → g id ≡ f id → stream_at (listed_at g qs) id ≡ stream_at (listed_at f qs) id
alike_at f g id [] is = refl
alike_at {X} f g id (q ∷ qs) is = by_test (q == id) refl (alike_at f g id qs is)
  where
    passed : (o : Option X) (streams : Streams X) → (q == id) ≡ false → stream_at (put_first q o streams) id ≡ stream_at streams id
    passed None streams ne = refl
    passed (Some x) streams ne = rw ne refl

    here : (o : Option X) (t : Bool) → stream_at (listed_at g qs) id ≡ stream_at (listed_at f qs) id → (q == id) ≡ true → stream_at (put_first q o (listed_at g qs)) id ≡ stream_at (put_first q o (listed_at f qs)) id
    here None t later e = later
    here (Some x) t later e = rw e refl

    by_test : (t : Bool) → (q == id) ≡ t → stream_at (listed_at g qs) id ≡ stream_at (listed_at f qs) id
        → stream_at (put_first q (g q) (listed_at g qs)) id ≡ stream_at (put_first q (f q) (listed_at f qs)) id
    by_test true e later =
        ap (λ o. stream_at (put_first q o (listed_at g qs)) id) (ap g (same q id e) ∙ is ∙ sym (ap f (same q id e))) ∙ here (f q) true later e
    by_test false e later = passed (g q) (listed_at g qs) e ∙ later ∙ sym (passed (f q) (listed_at f qs) e)

pub found_alike : {X : Type 0} (f g : ℕ → Option X) (id : ℕ) → g id ≡ f id → stream_at (streams_of g) id ≡ stream_at (streams_of f) id
unfolding streams_of
found_alike f g id is = alike_at f g id (range_with_len 0 (2 ^ 64)) is

-- a number that is not among them is not found
not_among : {X : Type 0} (f : ℕ → Option X) (id a n : ℕ) → id < a → stream_at (listed_at f (range_with_len a n)) id ≡ None
not_among f id a zero less = refl
not_among {X} f id a (suc n) less = by_what_stands (f a) (let ne : (a == id) ≡ false = grind (arith, common_steps) in ne) (not_among f id (a + 1) n (omega (arith, less)))
  where
    by_what_stands : (o : Option X) → (a == id) ≡ false → stream_at (listed_at f (range_with_len (a + 1) n)) id ≡ None → stream_at (put_first a o (listed_at f (range_with_len (a + 1) n))) id ≡ None
    by_what_stands None ne later = later
    by_what_stands (Some x) ne later = rw ne later

distinct_in : {X : Type 0} (f : ℕ → Option X) (a n : ℕ) → HaveDistinctIds (listed_at f (range_with_len a n))
distinct_in f a zero = tt
distinct_in {X} f a (suc n) = by_what_stands (f a) (not_among f a (a + 1) n (omega arith)) (distinct_in f (a + 1) n)
  where
    by_what_stands : (o : Option X) → stream_at (listed_at f (range_with_len (a + 1) n)) a ≡ None → HaveDistinctIds (listed_at f (range_with_len (a + 1) n))
        → HaveDistinctIds (put_first a o (listed_at f (range_with_len (a + 1) n)))
    by_what_stands None none later = later
    by_what_stands (Some x) none later = (none, later)

-- No id stands twice.
pub distinct : {X : Type 0} (f : ℕ → Option X) → HaveDistinctIds (streams_of f)
unfolding streams_of
distinct f = distinct_in f 0 (2 ^ 64)

none_in : {X : Type 0} (f : ℕ → Option X) (qs : List ℕ) → ((q : ℕ) → f q ≡ None) → listed_at f qs ≡ []
none_in f [] none = refl
none_in f (q ∷ qs) none = ap (λ o. put_first q o (listed_at f qs)) (none q) ∙ none_in f qs none

-- Where nothing stands there is no stream.
pub nothing : {X : Type 0} (f : ℕ → Option X) → ((q : ℕ) → f q ≡ None) → streams_of f ≡ []
unfolding streams_of
nothing f none = none_in f (range_with_len 0 (2 ^ 64)) none
