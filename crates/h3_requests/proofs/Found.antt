-- What is found in the streams of a map, by what is stored of each.
use Rattle.std.proofs.Common.{◌≡◌, ◌<◌, ℕ, ◌^◌, [], refl, sym, ◌∙◌, ap, inl, inr, arith}
use Rattle.std.specs.Prelude.{Option, Some, None, ◌≢◌, IfSome}
use Rattle.std.proofs.lemmas.Bool.{cases_eq}
use Rattle.h3_blocked.specs.Sums.{TakesOut}
use Rattle.h3_blocked.specs.SumLaws.{kept_is_at}
use Rattle.h3_connection.specs.Calls.{AllSame, Sets}
use Rattle.h3_connection.specs.State.{RequestState, kept_at}
use Rattle.h3_connection.specs.StreamSets.{Streams, HaveDistinctIds}
use Rattle.h3_requests.specs.Listed.{streams_of}
use Rattle.h3_requests.specs.Lending.{Writes}
use Rattle.h3_requests.specs.Stored.{over_at, stored_at, streams_in, under_way_at}
use Rattle.h3_requests.specs.Listed.{either}
use Rattle.h3_requests.specs.UnderWayLending.{WritesThere}
use Rattle.h3_requests.specs.declared.map.StreamMap.{StreamMap}
use Rattle.h3_requests.proofs.Listed as listed

-- what stands at an id is found there,
pub found : {X : Type 0} (f : ℕ → Option X) (id : ℕ) → id < 2 ^ 64 → kept_at (streams_of f) id ≡ f id
found f id few = kept_is_at (streams_of f) id ∙ listed.found f id few

-- and where the same stands the same is found
pub found_alike : {X : Type 0} (f g : ℕ → Option X) (id : ℕ) → g id ≡ f id → kept_at (streams_of g) id ≡ kept_at (streams_of f) id
found_alike f g id is = kept_is_at (streams_of g) id ∙ listed.found_alike f g id is ∙ sym (kept_is_at (streams_of f) id)

-- one stream is set,
pub sets : {X : Type 0} (f g : ℕ → Option X) (id : ℕ) (x : X) → id < 2 ^ 64 → g id ≡ Some x → ((q : ℕ) → q ≢ id → g q ≡ f q) → Sets (streams_of f) (streams_of g) id x
sets f g id x few here others = record { here = found g id few ∙ here; others = λ q differs. found_alike f g q (others q differs) }

-- or taken out,
pub takes_out : {X : Type 0} (f g : ℕ → Option X) (id : ℕ) → id < 2 ^ 64 → g id ≡ None → ((q : ℕ) → q ≢ id → g q ≡ f q) → TakesOut (streams_of f) (streams_of g) id
takes_out f g id few here others = record { here = found g id few ∙ here; others = λ q differs. found_alike f g q (others q differs) }

-- or each is as it was
pub all_same : {X : Type 0} (f g : ℕ → Option X) → ((q : ℕ) → g q ≡ f q) → AllSame (streams_of f) (streams_of g)
all_same f g same = record { each = λ q. ap (λ l. kept_at l q) (listed.same_streams f g same) }

-- the same but at one id, and there too
pub at_each : {X : Type 0} (f g : ℕ → Option X) (id : ℕ) → g id ≡ f id → ((q : ℕ) → q ≢ id → g q ≡ f q) → (q : ℕ) → g q ≡ f q
at_each f g id here others q = elim (cases_eq q id) [
  | inl same ↦ ap g same ∙ here ∙ sym (ap f same)
  | inr differs ↦ others q differs
]

-- an id, as a number
pub few : (number id : ℕ) → number ≡ id → number < 2 ^ 62 → id < 2 ^ 64
few number id is below = omega (arith, is, below)

-- what is stored of a stream
abbrev pub stored : {X : Type 0} → (under_way over : Streams X) → ℕ → Option X
stored under_way over q = either (kept_at under_way q) (kept_at over q)

stored_alike : {X : Type 0} (u v o p : Streams X) (q : ℕ) → kept_at v q ≡ kept_at u q → kept_at p q ≡ kept_at o q → stored v p q ≡ stored u o q
stored_alike u v o p q under_way over = ap (λ x. either x (kept_at p q)) under_way ∙ ap (either (kept_at u q)) over

-- what is found of a stream, by what is found of it among those under way
pub under : (s : StreamMap) (number id : ℕ) (o : Option RequestState) → number ≡ id → number < 2 ^ 62 → o ≡ kept_at s.under_way number → kept_at (streams_in s) id ≡ either o (over_at s id)
under s number id o is below same = found (stored_at s) id (few number id is below) ∙ ap (λ x. either x (over_at s id)) (ap (kept_at s.under_way) (sym is) ∙ sym same)

-- what is found of one that is not under way is what is over
pub over_found : (s : StreamMap) (number id : ℕ) → number ≡ id → number < 2 ^ 62 → under_way_at s id ≡ None → kept_at (streams_in s) id ≡ over_at s id
over_found s number id is below none = found (stored_at s) id (few number id is below) ∙ ap (λ o. either o (over_at s id)) none

-- where none is found none is under way
pub none_under : {X : Type 0} (o p : Option X) → either o p ≡ None → o ≡ None
none_under None p h = refl
none_under (Some x) p h = absurd (cc)

-- nothing is stored,
pub none_stored : (s : StreamMap) → s.under_way ≡ [] → s.over ≡ [] → streams_in s ≡ []
none_stored s under_way over = listed.nothing (stored_at s) (λ q. ap (λ l. either (kept_at l q) (over_at s q)) under_way ∙ ap (λ l. kept_at l q) over)

-- or the same
pub same_stored : (s n : StreamMap) → n.under_way ≡ s.under_way → n.over ≡ s.over → streams_in n ≡ streams_in s
same_stored s n under_way over =
    listed.same_streams (stored_at s) (stored_at n) (λ q. stored_alike s.under_way n.under_way s.over n.over q (ap (λ l. kept_at l q) under_way) (ap (λ l. kept_at l q) over))

-- a stream is put among those under way,
pub put_in : {X : Type 0} (u v o p : Streams X) (id : ℕ) (x : X) → id < 2 ^ 64 → Sets u v id x → p ≡ o → Sets (streams_of (stored u o)) (streams_of (stored v p)) id x
put_in u v o p id x below put same =
    sets (stored u o) (stored v p) id x below (ap (λ y. either y (kept_at p id)) put.here) (λ q differs. stored_alike u v o p q (put.others q differs) (ap (λ l. kept_at l q) same))

-- or set among those that are over,
set_over : {X : Type 0} (u o p : Streams X) (id : ℕ) (x : X) → id < 2 ^ 64 → kept_at u id ≡ None → Sets o p id x → Sets (streams_of (stored u o)) (streams_of (stored u p)) id x
set_over u o p id x below none s = sets (stored u o) (stored u p) id x below (ap (λ y. either y (kept_at p id)) none ∙ s.here) (λ q differs. stored_alike u u o p q refl (s.others q differs))

pub over_set : (change : RequestState → RequestState) (u o p : Streams RequestState) (id : ℕ) → id < 2 ^ 62 → kept_at u id ≡ None → IfSome (kept_at o id) (λ r. Sets o p id (change r))
    → IfSome (kept_at o id) (λ r. Sets (streams_of (stored u o)) (streams_of (stored u p)) id (change r))
over_set change u o p id below none h = by_what (kept_at o id) h
  where
    by_what : (there : Option RequestState) → IfSome there (λ r. Sets o p id (change r)) → IfSome there (λ r. Sets (streams_of (stored u o)) (streams_of (stored u p)) id (change r))
    by_what None h = tt
    by_what (Some r) h = set_over u o p id (change r) (omega (arith, below)) none h

-- or taken out of both,
pub taken_out : {X : Type 0} (u v o p : Streams X) (id : ℕ) → id < 2 ^ 64 → TakesOut u v id → TakesOut o p id → TakesOut (streams_of (stored u o)) (streams_of (stored v p)) id
taken_out u v o p id below first second =
    takes_out (stored u o) (stored v p) id below (ap (λ y. either y (kept_at p id)) first.here ∙ second.here)
    (λ q differs. stored_alike u v o p q (first.others q differs) (second.others q differs))

-- or is from now on among those that are over
pub retired : {X : Type 0} (u v o p : Streams X) (id : ℕ) (x : X) → kept_at u id ≡ Some x → Sets o p id x → TakesOut u v id → streams_of (stored v p) ≡ streams_of (stored u o)
retired u v o p id x was over gone =
    let at : stored v p id ≡ stored u o id = ap (λ y. either y (kept_at p id)) gone.here ∙ over.here ∙ sym (ap (λ y. either y (kept_at o id)) was) in
    listed.same_streams (stored u o) (stored v p) (at_each (stored u o) (stored v p) id at (λ q differs. stored_alike u v o p q (gone.others q differs) (over.others q differs)))

-- no id stands twice
pub distinct_in : (s : StreamMap) → HaveDistinctIds (streams_in s)
distinct_in s = listed.distinct (stored_at s)

-- a stream that was lent is given back
pub writes : (s n : StreamMap) (id : ℕ) (x : RequestState) → id < 2 ^ 64 → n.over ≡ s.over → WritesThere s.under_way n.under_way id x → Writes (streams_in s) (streams_in n) (under_way_at s id) id x
writes s n id x below over wrote = (
  λ some. put_in s.under_way n.under_way s.over n.over id x below (wrote.0 some) over,
  λ there. all_same (stored_at s) (stored_at n) (λ q. stored_alike s.under_way n.under_way s.over n.over q (ap (λ l. kept_at l q) (wrote.1 there)) (ap (λ l. kept_at l q) over)),
  distinct_in n,
  λ y there. found (stored_at s) id below ∙ ap (λ o. either o (over_at s id)) there,
)
