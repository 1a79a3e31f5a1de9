-- Both endpoints stand in a world in which one request stream got further towards a side.
use Rattle.std.proofs.Common.{◌≡◌, ℕ, Bool, true, false, refl, sym, ap, ◌∙◌, if◌then◌else◌, Some, subst, List, None}
use Rattle.std.specs.Prelude.{◌==◌}
use Rattle.h3_connection.specs.StreamSets.{Streams, stream_at, set_stream}
use Rattle.h3_connection.specs.StreamSetLaws.{set-here, set-other, set-distinct}
use Rattle.h3_proto.specs.declared.stream.Side.{Side}
use Rattle.h3_connection.specs.Endpoint.{EndpointHistory, Own}
use Rattle.h3_connection.specs.OwnIds.{other}
use Rattle.h3_world.specs.Setup.{Setup}
use Rattle.h3_world.specs.World.{World, party}
use Rattle.h3_world.specs.Streams.{is_open, flow}
use Rattle.h3_field.specs.Instruction.{DecoderInstruction}
use Rattle.h3_connection.specs.Incoming.{Incoming, nothing_came}
use Rattle.h3_world.specs.Flow.{Flow}
use Rattle.h3_world.specs.Order.{outgoing_of}
use Rattle.h3_connection.specs.Outgoing.{nothing_sent, Outgoing}
use Rattle.h3_connection.specs.declared.order.SendOrder.{SendOrder}
use Rattle.h3_headline.specs.Arriving.{Moves, Receives, saying}
use Rattle.h3_headline.specs.FlowLaws.{other-other, same_number}
use Rattle.h3_headline.specs.Standing.{HasControlOf, HasDecoderStreamOf, HasEncoderStreamOf, ReceivesAt, ReceivesFlow, StandsAt}

-- the stream under an id after one was set
pub set_at : {X : Type 0} (streams : Streams X) (id i : ℕ) (x : X) → stream_at (set_stream streams id x) i ≡ (if id == i then Some x else stream_at streams i)
set_at streams id i x = by_id (id == i) refl
  where
    by_id : (t : Bool) → (id == i) ≡ t → stream_at (set_stream streams id x) i ≡ (if t then Some x else stream_at streams i)
    by_id true e = ap (λ j. stream_at (set_stream streams id x) j) (sym (same_number id i e)) ∙ set-here streams id x
    by_id false e = set-other streams id i x e

pub stands_moved : (setup : Setup) (w v : World) (side : Side) (e f : EndpointHistory) → StandsAt setup w side e → Moves setup v side e f → StandsAt setup v side f
stands_moved setup w v side e f h m =
    record {
      side_is = ap (λ x. x.side) m.same ∙ h.side_is;
      announced = ap (λ x. x.announced) m.same ∙ h.announced;
      any = h.any;
      remembered = h.remembered;
      no_fault = ap (λ x. x.closed) m.same ∙ h.no_fault;
      nothing_kept = ap (λ x. x.kept) m.same ∙ h.nothing_kept;
      own = m.own;
      encoder = m.encoder;
      control = subst (HasControlOf setup side (party v (other side)).own) (sym m.same) m.control;
      encoder_stream = subst (HasEncoderStreamOf setup side (party v (other side)).own) (sym m.same) m.encoder_stream;
      decoder_stream = subst (HasDecoderStreamOf setup side (party v (other side)).own) (sym m.same) m.decoder_stream;
      no_others = λ id off. ap (λ x. stream_at x.unidirectional id) m.same ∙ h.no_others id off;
      outgoing = m.outgoing;
      incoming = m.incoming;
      distinct = m.distinct;
    }

-- Whose turn it is to send is no part of what it stands in.
pub stands_ordered : (setup : Setup) (w : World) (side : Side) (e : EndpointHistory) (order : SendOrder) → StandsAt setup w side e → StandsAt setup w side (record e { order = order })
stands_ordered setup w side e order h =
    record {
      side_is = h.side_is;
      announced = h.announced;
      any = h.any;
      remembered = h.remembered;
      no_fault = h.no_fault;
      nothing_kept = h.nothing_kept;
      own = h.own;
      encoder = h.encoder;
      control = h.control;
      encoder_stream = h.encoder_stream;
      decoder_stream = h.decoder_stream;
      no_others = h.no_others;
      outgoing = h.outgoing;
      incoming = h.incoming;
      distinct = h.distinct;
    }

-- what was open to it stays so
stays_open : (w : World) (side : Side) (id i : ℕ) → is_open w side id ≡ true → (if id == i then true else is_open w side i) ≡ is_open w side i
stays_open w side id i opened = by_id (id == i) refl
  where
    by_id : (t : Bool) → (id == i) ≡ t → (if t then true else is_open w side i) ≡ is_open w side i
    by_id true e = sym (ap (is_open w side) (sym (same_number id i e)) ∙ opened)
    by_id false e = refl

-- Its receiver, which had the stream open.
pub receiver_stands : (setup : Setup) (w v : World) (side : Side) (id : ℕ) (more : List DecoderInstruction) (g : Flow) (e f : EndpointHistory) (j : Incoming) → StandsAt setup w side e
    → Receives w v side id more g → is_open w side id ≡ true → ReceivesFlow g j
    → f ≡ record e { incoming = set_stream e.incoming id j; own = saying e.own more } → StandsAt setup v side f
receiver_stands setup w v side id more g e f j h r opened keeps is =
    subst (StandsAt setup v side) (sym is)
    (stands_moved setup w v side e (record e { incoming = set_stream e.incoming id j; own = saying e.own more }) h
    (record {
      same = refl;
      own = ap (λ (o : Own). saying o more) h.own ∙ sym (ap (λ p. p.own) r.here);
      encoder = h.encoder ∙ sym (ap (λ p. p.encoder) r.here);
      control = subst (λ p. HasControlOf setup side p.own e) (sym r.there) h.control;
      encoder_stream = subst (λ p. HasEncoderStreamOf setup side p.own e) (sym r.there) h.encoder_stream;
      decoder_stream = subst (λ p. HasDecoderStreamOf setup side p.own e) (sym r.there) h.decoder_stream;
      outgoing = λ i. h.outgoing i
          ∙ ap (λ b. if b then Some (outgoing_of (flow w side i)) else None) (sym (r.open_here i ∙ stays_open w side id i opened))
          ∙ ap (λ o. if is_open v side i then Some (outgoing_of o) else None) (sym (r.from_it i));
      incoming = λ i. receives_at i;
      distinct = set-distinct e.incoming id j h.distinct;
    }))
  where
    by_id : (i : ℕ) (t : Bool) → (id == i) ≡ t
        → ReceivesAt (if t then true else is_open w side i) (if t then g else flow w (other side) i) (if t then Some j else stream_at e.incoming i)
    by_id i true same = keeps
    by_id i false same = h.incoming i

    receives_at : (i : ℕ) → ReceivesAt (is_open v side i) (flow v (other side) i) (stream_at (set_stream e.incoming id j) i)
    receives_at i =
        subst (λ b. ReceivesAt b (flow v (other side) i) (stream_at (set_stream e.incoming id j) i)) (sym (r.open_here i))
        (subst (λ o. ReceivesAt (if id == i then true else is_open w side i) o (stream_at (set_stream e.incoming id j) i)) (sym (r.to_it i))
        (subst (ReceivesAt (if id == i then true else is_open w side i) (if id == i then g else flow w (other side) i)) (sym (set_at e.incoming id i j))
        (by_id i (id == i) refl)))

-- One that opens with what comes: nothing was sent on it.
pub opening_stands : (setup : Setup) (w v : World) (side : Side) (id : ℕ) (more : List DecoderInstruction) (g : Flow) (e f : EndpointHistory) (j : Incoming) → StandsAt setup w side e
    → Receives w v side id more g → outgoing_of (flow w side id) ≡ nothing_sent → ReceivesFlow g j
    → f ≡ record e { incoming = set_stream (set_stream e.incoming id nothing_came) id j; outgoing = set_stream e.outgoing id nothing_sent; own = saying e.own more }
    → StandsAt setup v side f
opening_stands setup w v side id more g e f j h r unsent keeps is =
    subst (StandsAt setup v side) (sym is)
    (stands_moved setup w v side e (record e { incoming = set_stream (set_stream e.incoming id nothing_came) id j; outgoing = set_stream e.outgoing id nothing_sent; own = saying e.own more }) h
    (record {
      same = refl;
      own = ap (λ (o : Own). saying o more) h.own ∙ sym (ap (λ p. p.own) r.here);
      encoder = h.encoder ∙ sym (ap (λ p. p.encoder) r.here);
      control = subst (λ p. HasControlOf setup side p.own e) (sym r.there) h.control;
      encoder_stream = subst (λ p. HasEncoderStreamOf setup side p.own e) (sym r.there) h.encoder_stream;
      decoder_stream = subst (λ p. HasDecoderStreamOf setup side p.own e) (sym r.there) h.decoder_stream;
      outgoing = λ i. sends_at i;
      incoming = λ i. receives_at i;
      distinct = set-distinct (set_stream e.incoming id nothing_came) id j (set-distinct e.incoming id nothing_came h.distinct);
    }))
  where
    sends : (i : ℕ) (t : Bool) → (id == i) ≡ t
        → (if t then Some nothing_sent else stream_at e.outgoing i) ≡ (if (if t then true else is_open w side i) then Some (outgoing_of (flow w side i)) else None)
    sends i true same = ap Some (sym (ap (λ q. outgoing_of (flow w side q)) (sym (same_number id i same)) ∙ unsent))
    sends i false same = h.outgoing i

    sends_at : (i : ℕ) → stream_at (set_stream e.outgoing id nothing_sent) i ≡ (if is_open v side i then Some (outgoing_of (flow v side i)) else None)
    sends_at i =
        set_at e.outgoing id i nothing_sent ∙ sends i (id == i) refl
        ∙ ap (λ b. if b then Some (outgoing_of (flow w side i)) else None) (sym (r.open_here i))
        ∙ ap (λ o. if is_open v side i then Some (outgoing_of o) else None) (sym (r.from_it i))

    by_id : (i : ℕ) (t : Bool) → (id == i) ≡ t
        → ReceivesAt (if t then true else is_open w side i) (if t then g else flow w (other side) i) (if t then Some j else (if t then Some nothing_came else stream_at e.incoming i))
    by_id i true same = keeps
    by_id i false same = h.incoming i

    receives_at : (i : ℕ) → ReceivesAt (is_open v side i) (flow v (other side) i) (stream_at (set_stream (set_stream e.incoming id nothing_came) id j) i)
    receives_at i =
        subst (λ b. ReceivesAt b (flow v (other side) i) (stream_at (set_stream (set_stream e.incoming id nothing_came) id j) i)) (sym (r.open_here i))
        (subst (λ o. ReceivesAt (if id == i then true else is_open w side i) o (stream_at (set_stream (set_stream e.incoming id nothing_came) id j) i)) (sym (r.to_it i))
        (subst (ReceivesAt (if id == i then true else is_open w side i) (if id == i then g else flow w (other side) i))
        (sym (set_at (set_stream e.incoming id nothing_came) id i j ∙ ap (λ o. if id == i then Some j else o) (set_at e.incoming id i nothing_came)))
        (by_id i (id == i) refl)))

-- Its sender, of whose part so much was taken, and which has not read what the receiver's decoder wrote.
pub sender_stands : (setup : Setup) (w v : World) (side : Side) (id : ℕ) (more : List DecoderInstruction) (g : Flow) (e f : EndpointHistory) (outgoing : Streams Outgoing) → StandsAt setup w (other side) e
    → Receives w v side id more g → f ≡ record e { outgoing = outgoing }
    → HasDecoderStreamOf setup (other side) (saying (party w side).own more) e
    → ((i : ℕ) → stream_at outgoing i ≡ (if is_open w (other side) i then Some (outgoing_of (if id == i then g else flow w (other side) i)) else None))
    → StandsAt setup v (other side) f
sender_stands setup w v side id more g e f outgoing h r is heard sends =
    subst (StandsAt setup v (other side)) (sym is)
    (stands_moved setup w v (other side) e (record e { outgoing = outgoing }) h
    (record {
      same = refl;
      own = h.own ∙ sym (ap (λ p. p.own) r.there);
      encoder = h.encoder ∙ sym (ap (λ p. p.encoder) r.there);
      control = subst (λ o. HasControlOf setup (other side) o e) (sym own_there) (was h.control);
      encoder_stream = subst (λ o. HasEncoderStreamOf setup (other side) o e) (sym own_there) (was_encoder h.encoder_stream);
      decoder_stream = subst (λ o. HasDecoderStreamOf setup (other side) o e) (sym own_there) heard;
      outgoing = λ i. sends i
          ∙ ap (λ b. if b then Some (outgoing_of (if id == i then g else flow w (other side) i)) else None) (sym (r.open_there i))
          ∙ ap (λ o. if is_open v (other side) i then Some (outgoing_of o) else None) (sym (r.to_it i));
      incoming = λ i. subst (λ b. ReceivesAt b (flow v (other (other side)) i) (stream_at e.incoming i)) (sym (r.open_there i))
          (subst (λ o. ReceivesAt (is_open w (other side) i) o (stream_at e.incoming i)) (sym (back i)) (h.incoming i));
      distinct = h.distinct;
    }))
  where
    own_there : (party v (other (other side))).own ≡ saying (party w side).own more
    own_there = ap (λ s. (party v s).own) (other-other side) ∙ ap (λ p. p.own) r.here

    was : HasControlOf setup (other side) (party w (other (other side))).own e → HasControlOf setup (other side) (saying (party w side).own more) e
    was k = subst (λ s. HasControlOf setup (other side) (party w s).own e) (other-other side) k

    was_encoder : HasEncoderStreamOf setup (other side) (party w (other (other side))).own e → HasEncoderStreamOf setup (other side) (saying (party w side).own more) e
    was_encoder k = subst (λ s. HasEncoderStreamOf setup (other side) (party w s).own e) (other-other side) k

    back : (i : ℕ) → flow v (other (other side)) i ≡ flow w (other (other side)) i
    back i = subst (λ s. flow v s i ≡ flow w s i) (sym (other-other side)) (r.from_it i)
