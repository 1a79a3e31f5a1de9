-- What becomes of the number of streams that wait when one of them changes, comes or goes.
use Rattle.std.proofs.Common.{arith, ◌≡◌, ℕ, ◌+◌, ◌-◌, ◌≤◌, refl, sym, ◌∙◌, ap, inl, inr}
use Rattle.std.specs.Prelude.{Option, Some, None, count_by, nat_lt, option_map}
use Rattle.std.proofs.lemmas.Bool.{cases_lt, lt-ltb, le-ltb}
use Rattle.std.proofs.lemmas.List.Sums.{sum_by-le-sum_by}
use Rattle.h3_blocked.specs.Counting.{waiting_above, Agrees, one_if, waits_at, Replaces, HasCount, counted}
use Rattle.h3_blocked.specs.declared.counts.Blocked.{Blocked}
use Rattle.h3_blocked.specs.Sums.{part_of, without_stream, TakesOut}
use Rattle.h3_blocked.specs.SumLaws.{total-without, total_sets, total_takes_out, total_parts, kept_is_at}
use Rattle.h3_connection.specs.Calls.{Sets}
use Rattle.h3_connection.specs.Incoming.{Incoming}
use Rattle.h3_connection.specs.State.{RequestState, kept_at}
use Rattle.h3_connection.specs.StreamSets.{Streams, HaveDistinctIds, stream_at}

none_above : (n : ℕ) → one_if (nat_lt n 0) ≡ 0
none_above n = ap one_if (le-ltb n 0 (omega arith))

counted_at : (n : ℕ) (o : Option RequestState) → part_of (counted n) o ≡ one_if (nat_lt n (waits_at o))
counted_at n None = sym (none_above n)
counted_at n (Some r) = refl

-- a stream is set
waiting_set : (old new : Streams RequestState) (id : ℕ) (x : RequestState) → HaveDistinctIds old → HaveDistinctIds new → Sets old new id x
    → (n : ℕ) → waiting_above n new + one_if (nat_lt n (waits_at (kept_at old id))) ≡ waiting_above n old + one_if (nat_lt n x.incoming.waits_for)
waiting_set old new id x h k sets n = omega (arith, total_sets (counted n) old new id x h k sets, counted_at n (kept_at old id))

-- a stream is taken out
waiting_takes_out : (old new : Streams RequestState) (id : ℕ) → HaveDistinctIds old → HaveDistinctIds new → TakesOut old new id
    → (n : ℕ) → waiting_above n new + one_if (nat_lt n (waits_at (kept_at old id))) ≡ waiting_above n old
waiting_takes_out old new id h k takes n = omega (arith, total_takes_out (counted n) old new id h k takes, counted_at n (kept_at old id))

-- the receivers alone, as a history has them
pub waiting_list : (streams : Streams RequestState) (incoming : Streams Incoming) → HaveDistinctIds streams → HaveDistinctIds incoming
    → ((q : ℕ) → option_map (λ r. r.incoming) (kept_at streams q) ≡ stream_at incoming q) → (n : ℕ) → waiting_above n streams ≡ count_by (λ s. nat_lt n s.1.waits_for) incoming
waiting_list streams incoming h k same n = total_parts (λ r. r.incoming) (λ i. one_if (nat_lt n i.waits_for)) streams incoming h k same

-- The counts go along: a stream is set, and its count replaced,
pub agrees_set : (counts others : Blocked) (old new : Streams RequestState) (id : ℕ) (x : RequestState) → HaveDistinctIds old → HaveDistinctIds new → Agrees counts old → Sets old new id x
    → Replaces counts others (waits_at (kept_at old id)) x.incoming.waits_for → Agrees others new
agrees_set counts others old new id x h k agrees sets replaced n = omega (arith, waiting_set old new id x h k sets n, agrees n, replaced n)

-- or it waits for as much as before,
pub agrees_set_same : (counts : Blocked) (old new : Streams RequestState) (id : ℕ) (x : RequestState) → HaveDistinctIds old → HaveDistinctIds new → Agrees counts old → Sets old new id x
    → x.incoming.waits_for ≡ waits_at (kept_at old id) → Agrees counts new
agrees_set_same counts old new id x h k agrees sets same n = omega (arith, waiting_set old new id x h k sets n, agrees n, ap (λ w. one_if (nat_lt n w)) same)

-- and one goes, and its count.
pub agrees_takes_out : (counts others : Blocked) (old new : Streams RequestState) (id : ℕ) → HaveDistinctIds old → HaveDistinctIds new → Agrees counts old → TakesOut old new id
    → Replaces counts others (waits_at (kept_at old id)) 0 → Agrees others new
agrees_takes_out counts others old new id h k agrees takes replaced n = omega (arith, waiting_takes_out old new id h k takes n, agrees n, replaced n, none_above n)

fewer_above : (w : ℕ) (r : RequestState) → counted w r ≤ counted (w - 1) r
fewer_above w r = elim (cases_lt w r.incoming.waits_for) [
  | inl less ↦ rw (lt-ltb w r.incoming.waits_for less, lt-ltb (w - 1) r.incoming.waits_for (omega (arith, less))) (omega arith)
  | inr more ↦ rw (le-ltb w r.incoming.waits_for more) (omega arith)
]

-- The count of a stream that is there is among the counts.
pub has_count : (counts : Blocked) (streams : Streams RequestState) (id : ℕ) (r : RequestState) → Agrees counts streams → kept_at streams id ≡ Some r → HasCount counts r.incoming.waits_for
has_count counts streams id r agrees there some =
    let w : ℕ = r.incoming.waits_for in
    let found : stream_at streams id ≡ Some r = sym (kept_is_at streams id) ∙ there in
    let here : (n : ℕ) → waiting_above n streams ≡ waiting_above n (without_stream streams id) + counted n r = λ n. sym (total-without (counted n) streams id) ∙ ap (λ o. waiting_above n (without_stream streams id) + part_of (counted n) o) found in
    let rest : waiting_above w (without_stream streams id) ≤ waiting_above (w - 1) (without_stream streams id) =
    sum_by-le-sum_by (λ s. counted w s.1) (λ s. counted (w - 1) s.1) (without_stream streams id) (λ s. fewer_above w s.1) in
    let itself : counted w r ≡ 0 = ap one_if (le-ltb w w (omega arith)) in
    let lower : counted (w - 1) r ≡ 1 = ap one_if (lt-ltb (w - 1) w (omega (arith, some))) in
    omega (arith, agrees w, agrees (w - 1), here w, here (w - 1), rest, itself, lower)
