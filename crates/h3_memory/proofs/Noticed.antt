-- Where a memory answer leaves something kept, each request stream of it is open: the endpoints stand in the world that says so.
use Rattle.std.proofs.Common.{◌≡◌, ℕ, Bool, true, false, ◌||◌, List, [], ◌∷◌, refl, sym, ap, ◌∙◌, subst, if◌then◌else◌, None}
use Rattle.std.specs.Prelude.{◌==◌, fold}
use Rattle.h3_proto.specs.declared.stream.Side.{Side}
use Rattle.h3_proto.specs.declared.stream.Side.TheVariants.{Client, Server}
use Rattle.h3_connection.specs.Arrivals.{stream_of}
use Rattle.h3_connection.specs.declared.arrival.Arrival.{Arrival}
use Rattle.h3_connection.specs.declared.arrival.Arrival.TheVariants.{BytesCame, EndCame, ResetCame}
use Rattle.h3_connection.specs.Delivering.{opened_at}
use Rattle.h3_connection.specs.Endpoint.{EndpointHistory, kind_of}
use Rattle.h3_connection.specs.Endpoint.Kind.{PeerUnidirectional}
use Rattle.h3_connection.specs.Keeping.{keeping, opened_as, opened_by}
use Rattle.h3_connection.specs.OwnIds.{other, is_own}
use Rattle.h3_connection.specs.StreamSets.{stream_at}
use Rattle.h3_world.specs.Setup.{Setup}
use Rattle.h3_world.specs.Delivering.{is_closed}
use Rattle.h3_world.specs.Sound.{IsSoundWorld}
use Rattle.h3_world.specs.Streams.{flow, with_flow, has_outgoing, is_open}
use Rattle.h3_world.specs.World.{World}
use Rattle.h3_headline.specs.ComingLaws.{kind_is}
use Rattle.h3_headline.specs.FlowLaws.{open_there}
use Rattle.h3_headline.specs.OwnEventLaws.{each_own}
use Rattle.h3_headline.specs.Standing.{ReceivesAt}
use Rattle.h3_memory.specs.Kept.{Delivery, Bytes, End, Reset, noticed, noticed_all}
use Rattle.h3_memory.specs.Kept as kept
use Rattle.h3_memory.specs.Keeping.{AreKept, MayAllBeRead, StandsKeeping, bytes_in, came_of, held_of, text_of, with_closed, with_count, without_held}
use Rattle.h3_memory.specs.Writing.{WritesOn}
use Rattle.h3_memory.proofs.AheadPulls.{at_resumed}
use Rattle.h3_memory.proofs.CatchesUp.{keeping_so, standing_of}
use Rattle.h3_memory.proofs.Growing.{kept_on, may_on}
use Rattle.h3_memory.proofs.KeptAlike.{none_of_closed}
use Rattle.h3_memory.proofs.MemoryKept.{Notices}
use Rattle.h3_memory.proofs.OpenedBehind.{opened_two, opens_ahead, opens_alone, seen_flow}
use Rattle.h3_memory.proofs.ReadingEnds.{ends_of}
use Rattle.h3_memory.proofs.ReadingState.{Reading}
use Rattle.h3_memory.proofs.TextsOf.{request_apart}
use Rattle.h3_memory.proofs.UnsettledPull.{writes_on}
use Rattle.h3_memory.proofs.Written.{leaves_at}

-- What is kept and what came of it name the same streams, in order.
abbrev NameAlike : List Delivery → List Arrival → Type 0
NameAlike [] [] = Unit {0}
NameAlike (d ∷ ds) (a ∷ arrivals) = (stream_of a ≡ kept.stream_of d) × NameAlike ds arrivals
NameAlike [] (a ∷ arrivals) = ⊥
NameAlike (d ∷ ds) [] = ⊥

named_alike : (text : ℕ → List ℕ) (came : ℕ → ℕ) (held : ℕ → List ℕ) (ds : List Delivery) (arrivals : List Arrival) → AreKept text came held ds arrivals → NameAlike ds arrivals
named_alike text came held [] [] h = tt
named_alike text came held (Bytes id count ∷ ds) (BytesCame i bytes ∷ arrivals) h = (h.0, named_alike text (with_count came id count) (without_held held id) ds arrivals h.2)
named_alike text came held (End id ∷ ds) (EndCame i ∷ arrivals) h = (h.0, named_alike text came held ds arrivals h.1)
named_alike text came held (Reset id ∷ ds) (ResetCame i code ∷ arrivals) h = (h.0, named_alike text came held ds arrivals h.2)
named_alike text came held [] (a ∷ arrivals) h = absurd h
named_alike text came held (Bytes id count ∷ ds) [] h = absurd h
named_alike text came held (Bytes id count ∷ ds) (EndCame i ∷ arrivals) h = absurd h
named_alike text came held (Bytes id count ∷ ds) (ResetCame i code ∷ arrivals) h = absurd h
named_alike text came held (End id ∷ ds) [] h = absurd h
named_alike text came held (End id ∷ ds) (BytesCame i bytes ∷ arrivals) h = absurd h
named_alike text came held (End id ∷ ds) (ResetCame i code ∷ arrivals) h = absurd h
named_alike text came held (Reset id ∷ ds) [] h = absurd h
named_alike text came held (Reset id ∷ ds) (BytesCame i bytes ∷ arrivals) h = absurd h
named_alike text came held (Reset id ∷ ds) (EndCame i ∷ arrivals) h = absurd h

-- Each of these streams has been opened by its writer, and nothing closed it.
abbrev GoOn : World → Side → List Delivery → Type 0
GoOn w writer [] = Unit {0}
GoOn w writer (d ∷ ds) = (has_outgoing w writer (kept.stream_of d) ≡ true) × (is_closed w writer (kept.stream_of d) ≡ false) × GoOn w writer ds

open_outgoing : (own opened : Bool) → opened ≡ true → (own || opened) ≡ true
open_outgoing true opened e = refl
open_outgoing false opened e = e

not_shut : (b c : Bool) → (if b then true else c) ≡ false → c ≡ false
not_shut true c e = cc
not_shut false c e = e

go_on : (setup : Setup) (w : World) (writer : Side) (came : ℕ → ℕ) (shut : ℕ → Bool) (ds : List Delivery) → ((i : ℕ) → shut i ≡ false → is_closed w writer i ≡ false) → MayAllBeRead setup w writer came shut ds → GoOn w writer ds
go_on setup w writer came shut [] before may = tt
go_on setup w writer came shut (Bytes id count ∷ ds) before may = (may.0, before id may.1, go_on setup w writer (with_count came id count) shut ds before may.3)
go_on setup w writer came shut (End id ∷ ds) before may =
    (open_outgoing (is_own writer id) (is_open w writer id) may.0, before id may.1, go_on setup w writer came (with_closed shut id) ds (λ i e. before i (not_shut (i == id) (shut i) e)) may.4)
go_on setup w writer came shut (Reset id ∷ ds) before may =
    (open_outgoing (is_own writer id) (is_open w writer id) may.0, before id may.1, go_on setup w writer came (with_closed shut id) ds (λ i e. before i (not_shut (i == id) (shut i) e)) may.3)

go_on_then : (setup : Setup) (w v : World) (writer : Side) (ds : List Delivery) → WritesOn setup w v writer → GoOn w writer ds → GoOn v writer ds
go_on_then setup w v writer [] on h = tt
go_on_then setup w v writer (d ∷ ds) on h = (on.writes.outgoing (kept.stream_of d) h.0, on.closed (kept.stream_of d) ∙ h.1, go_on_then setup w v writer ds on h.2)

-- a critical stream of the peer is no request's
peer_kind : (side : Side) (id : ℕ) → is_own (other side) id ≡ true → kind_of side id ≡ PeerUnidirectional
peer_kind Client id own = each_own (λ i. kind_of Client i ≡ PeerUnidirectional) Server id own refl refl refl
peer_kind Server id own = each_own (λ i. kind_of Server i ≡ PeerUnidirectional) Client id own refl refl refl

second_of : (a b : Bool) → a ≡ false → (a || b) ≡ true → b ≡ true
second_of true b e h = absurd (cc)
second_of false b e h = h

-- what is noticed leaves a world sound, and what is kept as it is
abbrev pub NoticesEach : Setup → Side → Type 0
NoticesEach setup writer = (w : World) (id : ℕ) → IsSoundWorld setup w → has_outgoing w writer id ≡ true → is_closed w writer id ≡ false → Notices setup w (noticed w writer id)

module _ (setup : Setup) (side : Side) (mine ds : List Delivery) (g : EndpointHistory) (arrivals : List Arrival) (notices : NoticesEach setup (other side)) where
  -- nothing of a stream that is not open to the side was handed over
  unopened : (w : World) (er : EndpointHistory) (f : EndpointHistory) (r : Reading setup w side mine ds f g arrivals) (id : ℕ) → is_open w (other side) id ≡ true → stream_at r.er.incoming id ≡ None → bytes_in id mine ≡ 0
  unopened w er f r id sending none = by_open (is_open w side id) refl (subst (ReceivesAt (is_open w side id) (flow w (other side) id)) none (r.two.both.here.incoming id))
    where
      off : is_own side id ≡ false
      off = request_apart side id (open_there w (other side) id sending).request

      by_open : (b : Bool) → is_open w side id ≡ b → ReceivesAt b (flow w (other side) id) None → bytes_in id mine ≡ 0
      by_open true e h = absurd h
      by_open false e h = none_of_closed setup w side _ _ mine id (ap (λ b. b || is_open w side id) off ∙ e) r.there.may

  -- one stream
  message_noticed : (w : World) (f : EndpointHistory) (id : ℕ) (r : Reading setup w side mine ds f g arrivals) → is_open w (other side) id ≡ true → Notices setup w (with_flow w (other side) id (seen_flow (flow w (other side) id)))
      → Reading setup (with_flow w (other side) id (seen_flow (flow w (other side) id))) side mine ds (opened_at f id (stream_at f.incoming id)) g arrivals
  message_noticed w f id r sending n =
      let v = with_flow w (other side) id (seen_flow (flow w (other side) id)) in
      let x = opened_at r.er id (stream_at r.er.incoming id) in
      let on = leaves_at setup w v (other side) n.leaves in
      let alone = opens_alone r.er id (stream_at r.er.incoming id) in
      let o = opens_ahead mine r.here.held side r.er r.here.incoming id (stream_at r.er.incoming id) (stream_at r.here.incoming id) r.here.resumes (at_resumed side r.er.announced r.er.incoming r.here.incoming id r.here.resumes)
      (unopened w r.er f r id sending) in
      record {
        er = x;
        ew = r.ew;
        two = opened_two setup w side id r.er r.ew r.two sending n.sound;
        here = record {
          held = r.here.held;
          incoming = o.incoming;
          is = ap (λ e. opened_at e id (stream_at e.incoming id)) r.here.is ∙ o.is;
          resumes = o.resumes;
          kept = kept_on setup w v (other side) (held_of (other side) r.here.held) ds arrivals on r.here.may r.here.kept;
          may = may_on setup w v (other side) ds on r.here.may;
          early = λ unknown. r.here.early (ap (λ p. p.settings) (sym alone.peer) ∙ unknown);
          untold = λ i none. r.here.untold i (sym (on.came i) ∙ none);
          distinct = alone.distinct r.here.distinct;
        };
        there = writes_on setup w v side mine ds r.ew g (leaves_at setup w v side n.leaves) r.there;
      }

  one_noticed : (w : World) (f : EndpointHistory) (id : ℕ) (a : Arrival) (r : Reading setup w side mine ds f g arrivals) → stream_of a ≡ id → has_outgoing w (other side) id ≡ true → Notices setup w (noticed w (other side) id)
      → Reading setup (noticed w (other side) id) side mine ds (opened_by f a) g arrivals
  one_noticed w f id a r of outgoing n =
      subst (λ i. Reading setup (noticed w (other side) id) side mine ds (opened_as (kind_of f.side i) f i) g arrivals) (sym of) (by_own (is_own (other side) id) refl n)
    where
      side_is : f.side ≡ side
      side_is = ap (λ (e : EndpointHistory). e.side) r.here.is ∙ r.two.both.here.side_is

      v : World
      v = with_flow w (other side) id (seen_flow (flow w (other side) id))

      by_own : (b : Bool) → is_own (other side) id ≡ b → Notices setup w (if b then w else with_flow w (other side) id (seen_flow (flow w (other side) id)))
          → Reading setup (if b then w else with_flow w (other side) id (seen_flow (flow w (other side) id))) side mine ds (opened_as (kind_of f.side id) f id) g arrivals
      by_own true own n = subst (λ k. Reading setup w side mine ds (opened_as k f id) g arrivals) (sym (ap (λ s. kind_of s id) side_is ∙ peer_kind side id own)) r
      by_own false off n =
          let sending = second_of (is_own (other side) id) (is_open w (other side) id) off outgoing in
          subst (λ k. Reading setup v side mine ds (opened_as k f id) g arrivals) (sym (kind_is f.side id (open_there w (other side) id sending).request)) (message_noticed w f id r sending n)

  all_noticed : (todo : List Delivery) (come : List Arrival) (w : World) (f : EndpointHistory) → NameAlike todo come → GoOn w (other side) todo → Reading setup w side mine ds f g arrivals
      → Reading setup (noticed_all w (other side) todo) side mine ds (fold opened_by f come) g arrivals
  all_noticed [] [] w f named go r = r
  all_noticed [] (a ∷ come) w f named go r = absurd named
  all_noticed (d ∷ todo) [] w f named go r = absurd named
  all_noticed (d ∷ todo) (a ∷ come) w f named go r =
      let id = kept.stream_of d in
      let v = noticed w (other side) id in
      let n = notices w id r.two.sound go.0 go.1 in
      all_noticed todo come v (opened_by f a) named.1 (go_on_then setup w v (other side) todo (leaves_at setup w v (other side) n.leaves) go.2) (one_noticed w f id a r named.0 go.0 n)

-- **All that is left is noticed.**
pub noticed_stands : (setup : Setup) (w : World) (side : Side) (mine ds : List Delivery) (f g : EndpointHistory) (arrivals : List Arrival) → NoticesEach setup (other side) → Reading setup w side mine ds f g arrivals
    → StandsKeeping setup (keeping_so side (noticed_all w (other side) ds) mine ds) (ends_of side (keeping f arrivals) g)
noticed_stands setup w side mine ds f g arrivals notices r =
    let named = named_alike (text_of setup w (other side)) (came_of w (other side)) (held_of (other side) r.here.held) ds arrivals r.here.kept in
    let go = go_on setup w (other side) (came_of w (other side)) (is_closed w (other side)) ds (λ i e. e) r.here.may in
    standing_of setup (noticed_all w (other side) ds) side mine ds (fold opened_by f arrivals) g (keeping f arrivals) arrivals (all_noticed setup side mine ds g arrivals notices ds arrivals w f named go r) refl
