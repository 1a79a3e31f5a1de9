-- No more streams of an endpoint wait for insertions than streams of the world.
use Rattle.std.proofs.Common.{arith, ◌≡◌, ℕ, true, false, ap, zero, suc, ◌+◌, List, [], ◌∷◌, ◌∙◌, Some, Bool, refl, None, if◌then◌else◌, ◌≤◌, nat_lt}
use Rattle.std.specs.Prelude.{◌&&◌, count_by, slice_get, slice_set, unwrap_or, ◌==◌}
use Rattle.std.proofs.lemmas.Bool.{le-ltb}
use Rattle.h3_proto.specs.declared.stream.Side.{Side}
use Rattle.h3_proto.specs.declared.stream.Side.TheVariants.{Client, Server}
use Rattle.h3_world.specs.World.{no_exchange, Exchange}
use Rattle.std.proofs.lemmas.List.Sums.{sum_by-cons}
use Rattle.h3_connection.specs.Incoming.{Incoming}
use Rattle.h3_connection.specs.StreamSets.{Streams, stream_at, HaveDistinctIds}
use Rattle.std.proofs.lemmas.Grind.{common_steps}
use Rattle.h3_proto.specs.StreamIds.{index_of}
use Rattle.h3_headline.specs.FlowLaws.{places_differ, same_number, set_elsewhere}
use Rattle.h3_headline.specs.Waiting.{WaitsAt, one_if, waiting_above, waits_in}

none_waits : (n : ℕ) (side : Side) → waits_in n side no_exchange ≡ false
none_waits n Client = ap (λ b. b && true) (le-ltb n 0 (omega arith))
none_waits n Server = ap (λ b. b && true) (le-ltb n 0 (omega arith))

-- one exchange fewer that waits
without_one : (n : ℕ) (side : Side) (es : List Exchange) (k : ℕ) (e : Exchange) → slice_get es k ≡ Some e → waits_in n side e ≡ true
    → count_by (waits_in n side) es ≡ count_by (waits_in n side) (slice_set es k no_exchange) + 1
without_one n side [] k e at waits = cc
without_one n side (x ∷ es) zero e at waits =
    let same : x ≡ e = ap (λ o. unwrap_or o x) at in
    let here : waits_in n side x ≡ true = ap (waits_in n side) same ∙ waits in
    omega (
      arith,
      sum_by-cons (λ y. one_if (waits_in n side y)) x es,
      sum_by-cons (λ y. one_if (waits_in n side y)) no_exchange es,
      ap one_if here,
      ap one_if (none_waits n side),
    )
without_one n side (x ∷ es) (suc k) e at waits =
    omega (
      arith,
      without_one n side es k e at waits,
      sum_by-cons (λ y. one_if (waits_in n side y)) x es,
      sum_by-cons (λ y. one_if (waits_in n side y)) x (slice_set es k no_exchange),
    )

not_first : (streams : Streams Incoming) (q id : ℕ) (j : Incoming) → stream_at streams q ≡ None → stream_at streams id ≡ Some j → (q == id) ≡ false
not_first streams q id j none at = by_id (q == id) refl
  where
    by_id : (t : Bool) → (q == id) ≡ t → t ≡ false
    by_id true e = let same : stream_at streams q ≡ Some j = ap (stream_at streams) (same_number q id e) ∙ at in absurd (cc)
    by_id false e = refl

later_at : (streams : Streams Incoming) (q id : ℕ) (i j : Incoming) → stream_at streams q ≡ None → stream_at streams id ≡ Some j → stream_at ((q, i) ∷ streams) id ≡ Some j
later_at streams q id i j none at = ap (λ b. if b then Some i else stream_at streams id) (not_first streams q id j none at) ∙ at

pub self : (q : ℕ) → (q == q) ≡ true
self q = grind (arith, common_steps)

-- **No more streams wait than exchanges do.**
pub no_more_wait : (n : ℕ) (side : Side) (streams : Streams Incoming) (es : List Exchange) → HaveDistinctIds streams
    → ((id : ℕ) (i : Incoming) → stream_at streams id ≡ Some i → nat_lt n i.waits_for ≡ true → WaitsAt n side es id) → waiting_above n streams ≤ count_by (waits_in n side) es
no_more_wait n side [] es distinct each = omega arith
no_more_wait n side ((q, i) ∷ streams) es distinct each = by_first (nat_lt n i.waits_for) refl (no_more_wait n side streams es distinct.1) (no_more_wait n side streams (slice_set es (index_of q) no_exchange) distinct.1)
  where
    count : waiting_above n ((q, i) ∷ streams) ≡ one_if (nat_lt n i.waits_for) + waiting_above n streams
    count = sum_by-cons (λ s. one_if (nat_lt n s.1.waits_for)) (q, i) streams

    by_first : (b : Bool) → nat_lt n i.waits_for ≡ b
        → (((id : ℕ) (j : Incoming) → stream_at streams id ≡ Some j → nat_lt n j.waits_for ≡ true → WaitsAt n side es id) → waiting_above n streams ≤ count_by (waits_in n side) es)
        → (((id : ℕ) (j : Incoming) → stream_at streams id ≡ Some j → nat_lt n j.waits_for ≡ true → WaitsAt n side (slice_set es (index_of q) no_exchange) id)
        → waiting_above n streams ≤ count_by (waits_in n side) (slice_set es (index_of q) no_exchange))
        → waiting_above n ((q, i) ∷ streams) ≤ count_by (waits_in n side) es
    by_first false e same less = omega (arith, count, ap one_if e, same (λ id j at waits. each id j (later_at streams q id i j distinct.0 at) waits))
    by_first true e same less =
        let w = each q i (ap (λ b. if b then Some i else stream_at streams q) (self q)) e in
        omega (arith, count, ap one_if e, without_one n side es (index_of q) w.e w.at w.waits, less (λ id j at waits. elsewhere w id j at waits))
      where
        elsewhere : WaitsAt n side es q → (id : ℕ) (j : Incoming) → stream_at streams id ≡ Some j → nat_lt n j.waits_for ≡ true → WaitsAt n side (slice_set es (index_of q) no_exchange) id
        elsewhere w id j at waits =
            let o = each id j (later_at streams q id i j distinct.0 at) waits in
            let apart = places_differ q id w.request o.request (not_first streams q id j distinct.0 at) in
            record { request = o.request; e = o.e; at = set_elsewhere es (index_of q) (index_of id) no_exchange apart ∙ o.at; waits = o.waits }
