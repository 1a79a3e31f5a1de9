-- The least stream that is unblocked, found in parts.
use Rattle.std.proofs.Common.{◌≡◌, ◌<◌, ◌≤◌, ℕ, ◌+◌, ◌-◌, ◌^◌, Bool, true, false, ◌&&◌, refl, sym, ◌∙◌, ap, inl, inr, arith, if◌then◌else◌}
use Rattle.std.specs.Prelude.{◌⊎◌, Option, Some, None, IfSome, IsSome, nat_le, nat_lt}
use Rattle.std.proofs.lemmas.Bool.{cases_lt, le-ltb, lt-ltb}
use Rattle.std.proofs.lemmas.Grind.{common_steps}
use Rattle.std.proofs.lemmas.List.Sums.{sum_by-le-sum_by}
use Rattle.h3_blocked.specs.Counting.{above, counted, waiting_above, Agrees}
use Rattle.h3_blocked.specs.SumLaws.{kept_is_at, total-without}
use Rattle.h3_blocked.specs.Sums.{part_of, without_stream}
use Rattle.h3_blocked.specs.declared.counts.Blocked.{Blocked}
use Rattle.h3_connection.specs.NextWaiting.{IsLeast}
use Rattle.h3_connection.specs.State.{RequestState, kept_at}
use Rattle.h3_connection.specs.StreamSets.{Streams, stream_at}
use Rattle.h3_requests.specs.Lesser.{lesser_of}
use Rattle.h3_requests.specs.Listed.{either, streams_of}
use Rattle.h3_requests.specs.Over.{IsOver}
use Rattle.h3_requests.specs.Unblocked.{is_next, is_unblocked, unblocks}
use Rattle.h3_requests.proofs.Found.{found}
use Rattle.h3_requests.proofs.Seeking.{kept_there}
use Rattle.h3_requests.proofs.Ways.{over_waits}

-- it is no less than what was found
abbrev pub IsFrom : ℕ → Option ℕ → Type 0
IsFrom q None = ⊥
IsFrom q (Some id) = id ≤ q

-- Of the numbers that were looked at this is the least that passes.
pub record Least (passes : ℕ → Bool) (looked : ℕ → Type 0) (found : Option ℕ) : Type 0 where
  pub one : IfSome found (λ id. (passes id ≡ true) × (id < 2 ^ 64))
  pub all : (q : ℕ) → looked q → passes q ≡ true → IsFrom q found

from_there : (q id : ℕ) (found : Option ℕ) → (q ≡ id) ⊎ IsFrom q found → IsFrom q (lesser_of found (Some id))
from_there q id None (inl same) = omega (arith, same)
from_there q id None (inr nothing) = absurd nothing
from_there q id (Some other) h = by_test (nat_lt id other) refl
  where
    by_test : (t : Bool) → nat_lt id other ≡ t → IsFrom q (if t then Some id else Some other)
    by_test true is = let less : id < other = grind (arith, common_steps, is) in elim h [ inl same ↦ omega (arith, same) | inr up ↦ omega (arith, up, less) ]
    by_test false is = let least : other ≤ id = grind (arith, common_steps, is) in elim h [ inl same ↦ omega (arith, same, least) | inr up ↦ up ]

one_of : (P : ℕ → Type 0) (id : ℕ) (found : Option ℕ) → P id → IfSome found P → IfSome (lesser_of found (Some id)) P
one_of P id None here there = here
one_of P id (Some other) here there = by_test (nat_lt id other)
  where
    by_test : (t : Bool) → IfSome (if t then Some id else Some other) P
    by_test true = here
    by_test false = there

-- one more was looked at, which passes,
pub passes_too : (passes : ℕ → Bool) (looked later : ℕ → Type 0) (found : Option ℕ) (id : ℕ) → Least passes looked found → passes id ≡ true → id < 2 ^ 64
    → ((q : ℕ) → later q → passes q ≡ true → (q ≡ id) ⊎ looked q) → Least passes later (lesser_of found (Some id))
passes_too passes looked later found id h is few more =
    record {
      one = one_of (λ q. (passes q ≡ true) × (q < 2 ^ 64)) id found (is, few) h.one;
      all = λ q there passed. from_there q id found (elim (more q there passed) [ inl same ↦ inl same | inr was ↦ inr (h.all q was passed) ]);
    }

-- or does not
pub passes_not : (passes : ℕ → Bool) (looked later : ℕ → Type 0) (found : Option ℕ) (id : ℕ) → Least passes looked found → passes id ≡ false
    → ((q : ℕ) → later q → passes q ≡ true → (q ≡ id) ⊎ looked q) → Least passes later found
passes_not passes looked later found id h is more =
    record {
      one = h.one;
      all = λ q there passed. elim (more q there passed) [
        | inl same ↦ absurd (let wrong : true ≡ false = sym passed ∙ ap passes same ∙ is in cc)
        | inr was ↦ h.all q was passed
      ];
    }

first_true : (a b : Bool) → (a && b) ≡ true → a ≡ true
first_true true b h = refl
first_true false b h = absurd (cc)

second_true : (a b : Bool) → (a && b) ≡ true → b ≡ true
second_true true b h = h
second_true false b h = absurd (cc)

both_true : (a b : Bool) → a ≡ true → b ≡ true → (a && b) ≡ true
both_true a b p q = rw (p, q) refl

not_before : (from q : ℕ) → from ≤ q → nat_le from q ≡ true
not_before from q there = grind (arith, common_steps, there)

there_from : (from q : ℕ) → nat_le from q ≡ true → from ≤ q
there_from from q is = grind (arith, common_steps, is)

-- All from an id on that pass were looked at.
pub all_looked : (passes : ℕ → Bool) (from : ℕ) (looked : ℕ → Type 0) (found : Option ℕ) → ((q : ℕ) → (nat_le from q && passes q) ≡ true → looked q)
    → Least (λ q. nat_le from q && passes q) looked found → IsLeast passes from found
all_looked passes from looked None all h = λ q there. by_test q there (passes q) refl
  where
    by_test : (q : ℕ) → from ≤ q → (t : Bool) → passes q ≡ t → t ≡ false
    by_test q there true is = let both : (nat_le from q && passes q) ≡ true = both_true _ _ (not_before from q there) is in absurd (h.all q (all q both) both)
    by_test q there false is = refl
all_looked passes from looked (Some id) all h = (there_from from id (first_true _ _ h.one.0), second_true _ _ h.one.0, λ q there below. by_test q there (passes q) refl below)
  where
    by_test : (q : ℕ) → from ≤ q → (t : Bool) → passes q ≡ t → q < id → t ≡ false
    by_test q there true is below =
        let both : (nat_le from q && passes q) ≡ true = both_true _ _ (not_before from q there) is in
        let up : id ≤ q = h.all q (all q both) both in
        absurd (omega (arith, up, below))
    by_test q there false is below = refl

-- the lesser of two that fit does
pub fits_both : (one other : Option ℕ) → IfSome one (λ id. id < 2 ^ 64) → IfSome other (λ id. id < 2 ^ 64) → IfSome (lesser_of one other) (λ id. id < 2 ^ 64)
fits_both None other h k = k
fits_both (Some x) None h k = h
fits_both (Some x) (Some y) h k = by_test (nat_lt y x)
  where
    by_test : (t : Bool) → IfSome (if t then Some y else Some x) (λ id. id < 2 ^ 64)
    by_test true = k
    by_test false = h

-- What is least by what stands at each id is so by what is found there.
pub least_listed : {X : Type 0} (test : Option X → Bool) (f : ℕ → Option X) (model : Streams X) (from : ℕ) (one : Option ℕ) → streams_of f ≡ model → test None ≡ false → IfSome one (λ id. id < 2 ^ 64)
    → IsLeast (λ q. test (f q)) from one → IsLeast (λ q. test (kept_at model q)) from one
least_listed test f model from None view none few h = λ q there. kept_there (λ o. test o ≡ false) f model q view none (h q there)
least_listed test f model from (Some id) view none few h = (
  h.0,
  ap (λ l. test (kept_at l id)) (sym view) ∙ ap test (found f id few) ∙ h.1,
  λ q there below. kept_there (λ o. test o ≡ false) f model q view none (h.2 q there below),
)

over_not : (inserted : ℕ) (o : Option RequestState) → IfSome o IsOver → is_unblocked inserted o ≡ false
over_not inserted None h = refl
over_not inserted (Some r) h = ap (unblocks inserted) (over_waits (Some r) h)

-- what is over is not unblocked
pub under_way_alone : (inserted : ℕ) (a b : Option RequestState) → IfSome b IsOver → is_unblocked inserted (either a b) ≡ is_unblocked inserted a
under_way_alone inserted None b h = over_not inserted b h
under_way_alone inserted (Some x) b h = refl

-- one that is next is there,
pub some_next : (inserted from q : ℕ) (o : Option RequestState) → is_next inserted from q o ≡ true → IsSome o
some_next inserted from q None h = absurd (let wrong : false ≡ true = second_true (nat_le from q) false h in cc)
some_next inserted from q (Some r) h = refl

-- A stream that waits for more than these waits,
fewer_wait : (n : ℕ) (r : RequestState) → counted n r ≤ counted 0 r
fewer_wait n r = elim (cases_lt n r.incoming.waits_for) [
  | inl less ↦ rw (lt-ltb n r.incoming.waits_for less, lt-ltb 0 r.incoming.waits_for (omega (arith, less))) (omega arith)
  | inr more ↦ rw (le-ltb n r.incoming.waits_for more) (omega arith)
]

-- and one that is unblocked waits, and not for more: so more wait than wait for more.
more_wait : (inserted : ℕ) (streams : Streams RequestState) (id : ℕ) (r : RequestState) → kept_at streams id ≡ Some r → 0 < r.incoming.waits_for → r.incoming.waits_for ≤ inserted
    → waiting_above inserted streams < waiting_above 0 streams
more_wait inserted streams id r there some reached =
    let at : stream_at streams id ≡ Some r = sym (kept_is_at streams id) ∙ there in
    let here : (n : ℕ) → waiting_above n streams ≡ waiting_above n (without_stream streams id) + counted n r = λ n. sym (total-without (counted n) streams id) ∙ ap (λ o. waiting_above n (without_stream streams id) + part_of (counted n) o) at in
    let rest : waiting_above inserted (without_stream streams id) ≤ waiting_above 0 (without_stream streams id) =
    sum_by-le-sum_by (λ s. counted inserted s.1) (λ s. counted 0 s.1) (without_stream streams id) (λ s. fewer_wait inserted s.1) in
    let itself : counted inserted r ≡ 0 = rw (le-ltb inserted r.incoming.waits_for reached) refl in
    let waits : counted 0 r ≡ 1 = rw (lt-ltb 0 r.incoming.waits_for some) refl in
    omega (arith, here inserted, here 0, rest, itself, waits)

none_at : (inserted : ℕ) (streams : Streams RequestState) (id : ℕ) (o : Option RequestState) → kept_at streams id ≡ o → waiting_above inserted streams ≡ waiting_above 0 streams → is_unblocked inserted o ≡ false
none_at inserted streams id None there same = refl
none_at inserted streams id (Some r) there same = by_test (unblocks inserted r.incoming.waits_for) refl
  where
    by_test : (t : Bool) → unblocks inserted r.incoming.waits_for ≡ t → t ≡ false
    by_test false is = refl
    by_test true is =
        let waits : nat_lt 0 r.incoming.waits_for ≡ true = first_true (nat_lt 0 r.incoming.waits_for) (nat_le r.incoming.waits_for inserted) is in
        let some : 0 < r.incoming.waits_for = grind (arith, common_steps, waits) in
        let reached : r.incoming.waits_for ≤ inserted = there_from r.incoming.waits_for inserted (second_true (nat_lt 0 r.incoming.waits_for) (nat_le r.incoming.waits_for inserted) is) in
        let more : waiting_above inserted streams < waiting_above 0 streams = more_wait inserted streams id r there some reached in
        absurd (omega (arith, more, same))

-- If all that wait do so for more than these, none is unblocked.
pub none_unblocked : (counts : Blocked) (streams : Streams RequestState) (inserted from : ℕ) → Agrees counts streams → above inserted counts ≡ above 0 counts
    → IsLeast (λ q. is_unblocked inserted (kept_at streams q)) from None
none_unblocked counts streams inserted from agrees same = λ q there. none_at inserted streams q (kept_at streams q) refl (sym (agrees inserted) ∙ same ∙ agrees 0)
