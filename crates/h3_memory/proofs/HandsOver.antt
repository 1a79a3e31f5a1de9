-- Something more is handed over: it is kept behind what is kept, and its writer has let it go.
use Rattle.std.proofs.Common.{◌≡◌, ◌⊎◌, inl, inr, ℕ, ◌+◌, Bool, true, false, ◌||◌, List, [], ◌∷◌, ◌++◌, refl, sym, ap, ◌∙◌, arith, if◌then◌else◌, Some, None}
use Rattle.std.specs.Prelude.{◌==◌, map, option_map}
use Rattle.h3_proto.specs.declared.stream.Side.{Side}
use Rattle.h3_connection.specs.declared.arrival.Arrival.{Arrival}
use Rattle.h3_connection.specs.Endpoint.{EndpointHistory, Own}
use Rattle.h3_connection.specs.Incoming.{Incoming}
use Rattle.h3_connection.specs.Outgoing.{Outgoing}
use Rattle.h3_connection.specs.OwnIds.{other, is_own, control_id, encoder_id, decoder_id}
use Rattle.h3_connection.specs.Sending.{advance, order_after, own_advanced, take_at}
use Rattle.h3_connection.specs.StreamSets.{HaveDistinctIds, Streams, stream_at, set_stream}
use Rattle.h3_connection.specs.declared.order.SendOrder.{SendOrder}
use Rattle.h3_world.specs.Setup.{Setup}
use Rattle.h3_world.specs.Delivering.{is_closed}
use Rattle.h3_world.specs.Streams.{is_open}
use Rattle.h3_world.specs.World.{World}
use Rattle.h3_headline.specs.FlowLaws.{same_number}
use Rattle.h3_headline.specs.MovesLaws.{stands_ordered}
use Rattle.h3_headline.specs.OwnEventLaws.{own_outgoing}
use Rattle.h3_headline.specs.Standing.{StandsAt}
use Rattle.h3_memory.specs.Kept.{Delivery, Bytes, End, Reset}
use Rattle.h3_memory.specs.Keeping.{ComesFirst, Held, MayAllBeRead, ahead, bytes_in, came_of, handed_own, handed_stream, text_of}
use Rattle.h3_memory.proofs.Ahead.{at_mapped, further_taken}
use Rattle.h3_memory.proofs.BehindOwn.{not_it}
use Rattle.h3_memory.proofs.BehindReads.{message_untaken}
use Rattle.h3_memory.proofs.KeptMore.{IsNext, kept_more, may_more}
use Rattle.h3_memory.proofs.ReadAll.{came_behind, closed_behind}
use Rattle.h3_memory.proofs.ReadingEnds.{Two, next_kept, own_taken, taken_alike}
use Rattle.h3_memory.proofs.ReadingState.{Reading}

-- bytes among more deliveries
pub bytes_more : (id : ℕ) (ds : List Delivery) (d : Delivery) → bytes_in id (ds ++ d ∷ []) ≡ bytes_in id ds + bytes_in id (d ∷ [])
bytes_more id [] d = omega arith
bytes_more id (Bytes stream count ∷ ds) d =
    let n = if stream == id then count else 0 in
    omega (arith, bytes_more id ds d)
bytes_more id (End stream ∷ ds) d = bytes_more id ds d
bytes_more id (Reset stream ∷ ds) d = bytes_more id ds d

own_more : (side : Side) (own : Own) (ds : List Delivery) (d : Delivery) → handed_own side (handed_own side own ds) (d ∷ []) ≡ handed_own side own (ds ++ d ∷ [])
own_more side own ds d =
    taken_alike own _ _ _ _ _ _ (omega (arith, bytes_more (control_id side) ds d)) (omega (arith, bytes_more (encoder_id side) ds d)) (omega (arith, bytes_more (decoder_id side) ds d))

-- a stream of which no bytes are handed over stays
one_same : (ds : List Delivery) (d : Delivery) (q : ℕ) (o : Outgoing) → bytes_in q (d ∷ []) ≡ 0 → handed_stream (ds ++ d ∷ []) (q, o) ≡ handed_stream ds (q, o)
one_same ds d q o none =
    let same : o.taken + bytes_in q (ds ++ d ∷ []) ≡ o.taken + bytes_in q ds = omega (arith, bytes_more q ds d, none) in
    ap (λ n. (q, record o { taken = n })) same

all_same : (streams : Streams Outgoing) (ds : List Delivery) (d : Delivery) → ((q : ℕ) → bytes_in q (d ∷ []) ≡ 0) → map (handed_stream (ds ++ d ∷ [])) streams ≡ map (handed_stream ds) streams
all_same [] ds d none = refl
all_same ((q, o) ∷ streams) ds d none = ap (λ x. x ∷ map (handed_stream (ds ++ d ∷ [])) streams) (one_same ds d q o (none q)) ∙ ap (λ l. handed_stream ds (q, o) ∷ l) (all_same streams ds d none)

-- nor do bytes of a stream that is not among them matter
missing_same : (streams : Streams Outgoing) (ds : List Delivery) (id count : ℕ) → stream_at streams id ≡ None → map (handed_stream (ds ++ Bytes id count ∷ [])) streams ≡ map (handed_stream ds) streams
missing_same [] ds id count none = refl
missing_same ((q, o) ∷ streams) ds id count none = by_id (missing_same streams ds id count) (q == id) refl none
  where
    swapped : (q == id) ≡ false → (id == q) ≡ false
    swapped e = Rattle.h3_memory.proofs.TextsOf.flipped id q ∙ e

    by_id : (stream_at streams id ≡ None → map (handed_stream (ds ++ Bytes id count ∷ [])) streams ≡ map (handed_stream ds) streams) → (b : Bool) → (q == id) ≡ b → (if b then Some o else stream_at streams id) ≡ None → map (handed_stream (ds ++ Bytes id count ∷ [])) ((q, o) ∷ streams) ≡ map (handed_stream ds) ((q, o) ∷ streams)
    by_id later true e missing = cc
    by_id later false e missing =
        ap (λ x. x ∷ map (handed_stream (ds ++ Bytes id count ∷ [])) streams) (one_same ds (Bytes id count) q o (not_it id q count (swapped e)))
        ∙ ap (λ l. handed_stream ds (q, o) ∷ l) (later missing)

-- those of one that is
set_more : (streams : Streams Outgoing) (ds : List Delivery) (id count : ℕ) (o : Outgoing) → HaveDistinctIds streams → stream_at streams id ≡ Some o
    → set_stream (map (handed_stream ds) streams) id (record o { taken = o.taken + bytes_in id ds + count }) ≡ map (handed_stream (ds ++ Bytes id count ∷ [])) streams
set_more [] ds id count o distinct here = cc
set_more ((q, p) ∷ streams) ds id count o distinct here = by_id (set_more streams ds id count o distinct.1) (q == id) refl here
  where
    F : ℕ × Outgoing → ℕ × Outgoing
    F = handed_stream (ds ++ Bytes id count ∷ [])

    p_is : {x y : Outgoing} → Some x ≡ Some y → x ≡ y
    p_is e = cc

    by_id : (stream_at streams id ≡ Some o → set_stream (map (handed_stream ds) streams) id (record o { taken = o.taken + bytes_in id ds + count }) ≡ map F streams) → (b : Bool) → (q == id) ≡ b → (if b then Some p else stream_at streams id) ≡ Some o
        → (if b then (id, record o { taken = o.taken + bytes_in id ds + count }) ∷ map (handed_stream ds) streams
        else handed_stream ds (q, p) ∷ set_stream (map (handed_stream ds) streams) id (record o { taken = o.taken + bytes_in id ds + count }))
        ≡ F (q, p) ∷ map F streams
    by_id later true e is =
        let same = same_number q id e in
        let count_is : bytes_in id (Bytes id count ∷ []) ≡ count = ap (λ b. (if b then count else 0) + 0) (Rattle.h3_headline.specs.WaitingLaws.self id) ∙ plus_none count in
        let taken_is : o.taken + bytes_in id ds + count ≡ o.taken + bytes_in id (ds ++ Bytes id count ∷ []) = omega (arith, bytes_more id ds (Bytes id count), count_is) in
        ap (λ n. (id, record o { taken = n }) ∷ map (handed_stream ds) streams) taken_is
        ∙ ap (λ l. (id, record o { taken = o.taken + bytes_in id (ds ++ Bytes id count ∷ []) }) ∷ l) (sym (missing_same streams ds id count (ap (stream_at streams) (sym same) ∙ distinct.0)))
        ∙ ap (λ (x : Outgoing). F (id, x) ∷ map F streams) (sym (p_is is))
        ∙ ap (λ n. F (n, p) ∷ map F streams) (sym same)
      where
        plus_none : (n : ℕ) → n + 0 ≡ n
        plus_none n = omega arith
    by_id later false e is =
        ap (λ l. handed_stream ds (q, p) ∷ l) (later is)
        ∙ ap (λ x. x ∷ map F streams) (sym (one_same ds (Bytes id count) q p (not_it id q count (Rattle.h3_memory.proofs.TextsOf.flipped id q ∙ e))))

-- A writer that let these go is ahead of the one behind, whose turn to send may be another one's now.
pub record LetsGo (e : EndpointHistory) (ds : List Delivery) (held : Held) (incoming : Streams Incoming) (kept : List Arrival) (gone : EndpointHistory) : Type 0 where
  pub order : SendOrder
  pub is : gone ≡ ahead (record e { order = order }) ds held incoming kept

-- **A writer lets bytes go.**
pub advanced_ahead : (setup : Setup) (w : World) (side : Side) (e g : EndpointHistory) (ds : List Delivery) (held : Held) (incoming : Streams Incoming) (kept : List Arrival) (id count : ℕ) → StandsAt setup w side e → HaveDistinctIds e.outgoing
    → (is_own side id || is_open w side id) ≡ true → g ≡ ahead e ds held incoming kept → LetsGo e (ds ++ Bytes id count ∷ []) held incoming kept (advance g id count)
advanced_ahead setup w side e g ds held incoming kept id count h distinct there is =
    record { order = order; is = ap (λ x. advance x id count) is ∙ ap (λ (x : EndpointHistory). record x { order = order }) (by_own (is_own side id) refl) }
  where
    f : EndpointHistory
    f = ahead e ds held incoming kept

    more : List Delivery
    more = ds ++ Bytes id count ∷ []

    order : SendOrder
    order = order_after f id count (stream_at f.outgoing id)

    own_is : is_own side id ≡ true → own_advanced (handed_own e.side e.own ds) e.side id count ≡ handed_own e.side e.own more
    own_is own = sym (own_taken e.side (handed_own e.side e.own ds) id count (ap (λ s. is_own s id) h.side_is ∙ own)) ∙ own_more e.side e.own ds (Bytes id count)

    off_is : is_own side id ≡ false → handed_own e.side e.own ds ≡ handed_own e.side e.own more
    off_is off = sym (message_untaken e.side (handed_own e.side e.own ds) id count (ap (λ s. is_own s id) h.side_is ∙ off)) ∙ own_more e.side e.own ds (Bytes id count)

    by_own : (b : Bool) → is_own side id ≡ b → take_at f id count (stream_at f.outgoing id) ≡ ahead e more held incoming kept
    by_own true own =
        let none : stream_at e.outgoing id ≡ None = own_outgoing setup w side id e h own in
        ap (take_at f id count) (at_mapped ds e.outgoing id ∙ ap (option_map (further_taken ds id)) none)
        ∙ ap (λ o. record f { own = o }) (own_is own)
        ∙ ap (λ l. record f { own = handed_own e.side e.own more; outgoing = l }) (sym (missing_same e.outgoing ds id count none))
    by_own false off =
        let opened : is_open w side id ≡ true = Rattle.h3_memory.proofs.TextsOf.second_is (is_own side id) (is_open w side id) off there in
        let some = h.outgoing id ∙ ap (λ b. if b then Some (Rattle.h3_world.specs.Order.outgoing_of (Rattle.h3_world.specs.Streams.flow w side id)) else None) opened in
        ap (take_at f id count) (at_mapped ds e.outgoing id ∙ ap (option_map (further_taken ds id)) some)
        ∙ ap (λ l. record f { outgoing = l }) (set_more e.outgoing ds id count (Rattle.h3_world.specs.Order.outgoing_of (Rattle.h3_world.specs.Streams.flow w side id)) distinct some)
        ∙ ap (λ o. record f { own = o; outgoing = map (handed_stream more) e.outgoing }) (off_is off)

-- or the end or the reset, of which it keeps nothing
pub told_ahead : (e g : EndpointHistory) (ds : List Delivery) (d : Delivery) (held : Held) (incoming : Streams Incoming) (kept : List Arrival) → ((q : ℕ) → bytes_in q (d ∷ []) ≡ 0)
    → g ≡ ahead e ds held incoming kept → LetsGo e (ds ++ d ∷ []) held incoming kept g
told_ahead e g ds d held incoming kept none is =
    record {
      order = e.order;
      is = is ∙ ap (λ o. record (ahead e ds held incoming kept) { own = o }) (sym (Rattle.h3_memory.proofs.ReadingEnds.own_untaken e.side (handed_own e.side e.own ds) d (none (control_id e.side)) (none (encoder_id e.side)) (none (decoder_id e.side))) ∙ own_more e.side e.own ds d)
          ∙ ap (λ l. record (ahead e ds held incoming kept) { own = handed_own e.side e.own (ds ++ d ∷ []); outgoing = l }) (sym (all_same e.outgoing ds d none));
    }

-- both stand as before, whosever turn it is
two_ordered : (setup : Setup) (w : World) (side : Side) (er ew : EndpointHistory) (order : SendOrder) → Two setup w side er ew → Two setup w side er (record ew { order = order })
two_ordered setup w side er ew order t =
    record {
      both = record {
        here = t.both.here;
        there = stands_ordered setup w (other side) ew order t.both.there;
        writes_here = t.both.writes_here;
        writes_there = t.both.writes_there;
        sends_here = t.both.sends_here;
        sends_there = t.both.sends_there;
      };
      sound = t.sound;
      few = t.few;
      next_id = next_kept setup w side er ew er (record ew { order = order }) _ t refl refl refl;
    }

-- What comes first still does.
first_still : (arrivals : List Arrival) (id : ℕ) (a : Arrival) → ComesFirst id arrivals → ComesFirst id (arrivals ++ a ∷ [])
first_still [] id a first = absurd first
first_still (b ∷ arrivals) id a first = first

-- **The state with one more handed over, by what its writer is then.**
pub hands_over : (setup : Setup) (w : World) (side : Side) (mine ds : List Delivery) (f g after : EndpointHistory) (arrivals : List Arrival) (d : Delivery) (a : Arrival) → (r : Reading setup w side mine ds f g arrivals)
    → MayAllBeRead setup w (other side) (came_behind (came_of w (other side)) ds) (closed_behind (is_closed w (other side)) ds) (d ∷ []) → IsNext (text_of setup w (other side)) (came_behind (came_of w (other side)) ds) d a
    → LetsGo r.ew (ds ++ d ∷ []) r.there.held r.there.incoming r.there.arrivals after → Reading setup w side mine (ds ++ d ∷ []) f after (arrivals ++ a ∷ [])
hands_over setup w side mine ds f g after arrivals d a r may next gone =
    record {
      er = r.er;
      ew = record r.ew { order = gone.order };
      two = two_ordered setup w side r.er r.ew gone.order r.two;
      here = record {
        held = r.here.held;
        incoming = r.here.incoming;
        is = r.here.is;
        resumes = r.here.resumes;
        kept = kept_more (text_of setup w (other side)) (came_of w (other side)) _ ds arrivals d a next r.here.kept;
        may = may_more setup w (other side) (came_of w (other side)) (is_closed w (other side)) ds d may r.here.may;
        early = λ unknown. by_early (r.here.early unknown);
        untold = r.here.untold;
        distinct = r.here.distinct;
      };
      there = record {
        held = r.there.held;
        incoming = r.there.incoming;
        arrivals = r.there.arrivals;
        is = gone.is;
        resumes = r.there.resumes;
        kept = r.there.kept;
        may = r.there.may;
        early = r.there.early;
        untold = r.there.untold;
        distinct = r.there.distinct;
      };
    }
  where
    by_early : (r.here.held.decoder ≡ []) ⊎ ComesFirst (decoder_id (other side)) arrivals → (r.here.held.decoder ≡ []) ⊎ ComesFirst (decoder_id (other side)) (arrivals ++ a ∷ [])
    by_early (inl none) = inl none
    by_early (inr first) = inr (first_still arrivals (decoder_id (other side)) a first)
