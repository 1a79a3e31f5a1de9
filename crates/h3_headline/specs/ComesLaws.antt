-- What comes on a request stream is taken by its reader, and both ends stand in the world after it.
use Rattle.std.proofs.Common.{◌≡◌, ℕ, Bool, true, false, List, refl, sym, subst, if◌then◌else◌, [], ap, ◌∙◌, ◌∷◌, Option, Some, None, length, ◌<◌, ◌^◌}
use Rattle.std.specs.Prelude.{◌==◌, ◌||◌, is_some, unwrap_or}
use Rattle.std.specs.List.{AllByRecursion}
use Rattle.h3_field.specs.Instruction.{DecoderInstruction}
use Rattle.h3_field.specs.InstructionAnswer.{IsReply}
use Rattle.h3_proto.specs.declared.stream.Side.{Side}
use Rattle.h3_connection.specs.Endpoint.{EndpointHistory, Own, replied, kind_of}
use Rattle.h3_connection.specs.OwnIds.{other, decoder_id}
use Rattle.h3_world.specs.Setup.{Setup}
use Rattle.h3_world.specs.Flow.{Flow}
use Rattle.h3_world.specs.Streams.{flow, with_flow, is_open}
use Rattle.h3_world.specs.World.{World, Party, party, with_party}
use Rattle.h3_connection.specs.declared.arrival.Arrival.TheVariants.{EndCame, ResetCame, BytesCame}
use Rattle.h3_world.specs.Sound.{IsSoundWorld}
use Rattle.h3_field.specs.Instruction.DecoderInstruction.{CancelStream}
use Rattle.h3_connection.specs.declared.event.StreamFault.{StreamFault}
use Rattle.h3_connection.specs.declared.event.StreamFault.TheVariants as stream_fault
use Rattle.h3_connection.specs.Delivering.{cancellation, opened, incoming_at, opened_at, with_incoming, given_up_once, taken, reset_at, bytes_at, end_at, delivery_refusal}
use Rattle.h3_world.specs.Delivering.{delivered_reset, reset_code}
use Rattle.h3_world.specs.Sending.{given_up}
use Rattle.h3_connection.specs.Incoming.{nothing_came, Incoming}
use Rattle.h3_connection.specs.StreamSets.{stream_at}
use Rattle.h3_connection.specs.Arrivals.{stream_of}
use Rattle.h3_connection.specs.declared.arrival.Arrival.{Arrival}
use Rattle.h3_connection.specs.Endpoint.Kind.{Request}
use Rattle.h3_connection.specs.Keeping.{read_arrival, arrives, arrives_behind}
use Rattle.h3_connection.specs.declared.event.Refusal.{Refusal}
use Rattle.h3_connection.specs.Control.{Found}
use Rattle.h3_headline.specs.Arriving.{Comes, Receives, ended_flow, flow_given_up, found_none, losing, owning, reset_flow, saying}
use Rattle.h3_headline.specs.Calls.{Both}
use Rattle.h3_headline.specs.CancelLaws.{flow_answered}
use Rattle.h3_headline.specs.ComingLaws.{incoming_none, incoming_there, is_unseen, kind_is, saying_nothing}
use Rattle.h3_headline.specs.DeliverLaws.{end_over, flow_received, goes_on}
use Rattle.h3_headline.specs.FlowLaws.{open_there, other-other}
use Rattle.h3_headline.specs.OwnWritesLaws.{saying_writable}
use Rattle.h3_headline.specs.ResetLaws.{reset_stands}
use Rattle.h3_headline.specs.SendingLaws.{flow_count}
use Rattle.h3_headline.specs.Standing.{HasDecoderStreamOf, IsReadable, IsWritable, StandsAt, are_settings_there}
use Rattle.h3_headline.specs.Steps.{IsThere}
use Rattle.h3_headline.specs.WaitingLaws.{self}
use Rattle.h3_headline.specs.WritesMoreLaws.{decoder_stream_more}
use Rattle.h3_headline.specs.WritingLaws.{hears, party_count, sound_party}

-- What was written and sent stays readable, where a flow to the side changes in its marks alone and its decoder writes more.
pub received_both : (setup : Setup) (w v : World) (side : Side) (id : ℕ) (more : List DecoderInstruction) (g : Flow) (e f x y : EndpointHistory) → Both setup w side e f → Receives w v side id more g
    → g.sent ≡ (flow w (other side) id).sent → AllByRecursion IsReply more → StandsAt setup v side x → StandsAt setup v (other side) y → Both setup v side x y
received_both setup w v side id more g e f x y h r sent replies here there =
    record {
      here = here;
      there = there;
      writes_here = subst (λ (p : Party). IsWritable side p.own) (sym r.here) (saying_writable side (party w side).own more h.writes_here replies);
      writes_there = subst (λ (p : Party). IsWritable (other side) p.own) (sym r.there) h.writes_there;
      sends_here = λ i. subst (λ (o : Flow). AllByRecursion (IsReadable setup (other side)) o.sent) (sym (r.from_it i)) (h.sends_here i);
      sends_there = λ i. subst (λ (o : Flow). AllByRecursion (IsReadable setup side) o.sent) (sym (r.to_it i)) (by_id i (id == i) refl);
    }
  where
    by_id : (i : ℕ) (t : Bool) → (id == i) ≡ t → AllByRecursion (IsReadable setup side) (if t then g else flow w (other side) i).sent
    by_id i true same = subst (AllByRecursion (IsReadable setup side)) (sym sent) (h.sends_there id)
    by_id i false same = h.sends_there i

-- The end comes.
pub end_comes_over : (setup : Setup) (w : World) (side : Side) (id : ℕ) (er ew : EndpointHistory) → Both setup w side er ew → IsSoundWorld setup w → is_open w (other side) id ≡ true
    → ((flow w (other side) id).ended || (flow w (other side) id).reset_came) ≡ false
    → Comes setup w (with_flow w (other side) id (ended_flow (flow w (other side) id))) side er ew (EndCame id)
end_comes_over setup w side id er ew h sound sending goes =
    let g = ended_flow (flow w (other side) id) in
    let c = end_over setup w side id er ew h.here h.there sound sending goes in
    record {
      after = c.after;
      arrived = c.arrived;
      both = received_both setup w (with_flow w (other side) id g) side id [] g er ew c.after ew h (flow_received w side id g (open_there w (other side) id sending) refl) refl tt c.reader c.writer;
      count = flow_count w (other side) id g;
    }

-- The reset comes: first the flow is marked, and then given up where it was not.
receives_then : (w u v : World) (side : Side) (id : ℕ) (more : List DecoderInstruction) (f g : Flow) → Receives w u side id [] f → Receives u v side id more g → Receives w v side id more g
receives_then w u v side id more f g r s =
    let kept : party u side ≡ party w side = r.here ∙ ap (λ (o : Own). owning (party w side) o) (saying_nothing (party w side).own) in
    record {
      here = s.here ∙ ap (λ (p : Party). owning p (saying p.own more)) kept;
      there = s.there ∙ r.there;
      to_it = λ i. s.to_it i ∙ ap (λ (o : Flow). if id == i then g else o) (r.to_it i) ∙ one_set (id == i) g f (flow w (other side) i);
      from_it = λ i. s.from_it i ∙ r.from_it i;
      open_here = λ i. s.open_here i ∙ ap (λ b. if id == i then true else b) (r.open_here i) ∙ one_set (id == i) true true (is_open w side i);
      open_there = λ i. s.open_there i ∙ r.open_there i;
    }
  where
    one_set : {X : Type 0} (t : Bool) (a b c : X) → (if t then a else (if t then b else c)) ≡ (if t then a else c)
    one_set true a b c = refl
    one_set false a b c = refl

reset_receives : (w : World) (side : Side) (id : ℕ) → is_open w (other side) id ≡ true
    → Receives w (delivered_reset w (other side) id) side id (cancellation id (flow w (other side) id).fault) (flow_given_up (flow w (other side) id) (stream_fault.Reset reset_code))
reset_receives w side id sending = subst (λ s. Receives w (reset_to s) side id (cancellation id f.fault) (flow_given_up f fault)) (sym (other-other side)) (by_fault f.fault)
  where
    f : Flow
    f = flow w (other side) id

    fault : StreamFault
    fault = stream_fault.Reset reset_code

    u : World
    u = with_flow w (other side) id (reset_flow f)

    reset_to : Side → World
    reset_to s = if is_some f.fault then u else given_up u s id fault

    marked : Receives w u side id [] (reset_flow f)
    marked = flow_received w side id (reset_flow f) (open_there w (other side) id sending) refl

    given : Receives w (given_up u side id fault) side id (CancelStream id ∷ []) (losing (reset_flow f) fault)
    given =
        let at_id : flow u (other side) id ≡ reset_flow f = marked.to_it id ∙ ap (λ b. if b then reset_flow f else f) (self id) in
        let opened_to : is_open u side id ≡ true = marked.open_here id ∙ ap (λ b. if b then true else is_open w side id) (self id) in
        subst (Receives w (given_up u side id fault) side id (CancelStream id ∷ [])) (ap (λ (o : Flow). losing o fault) at_id)
        (receives_then w u (given_up u side id fault) side id (CancelStream id ∷ []) (reset_flow f) (losing (flow u (other side) id) fault) marked
        (flow_answered u side id (CancelStream id ∷ []) (losing (flow u (other side) id) fault) opened_to refl))

    by_fault : (o : Option StreamFault)
        → Receives w (if is_some o then u else given_up u side id fault) side id (cancellation id o) (if is_some o then reset_flow f else losing (reset_flow f) fault)
    by_fault (Some first) = marked
    by_fault None = given

reset_count : (w : World) (writer : Side) (id : ℕ) → length (delivered_reset w writer id).exchanges ≡ length w.exchanges
reset_count w writer id = by_fault (is_some (flow w writer id).fault)
  where
    u : World
    u = with_flow w writer id (reset_flow (flow w writer id))

    by_fault : (b : Bool) → length (if b then u else given_up u (other writer) id (stream_fault.Reset reset_code)).exchanges ≡ length w.exchanges
    by_fault true = flow_count w writer id _
    by_fault false = flow_count (with_party u (other writer) _) (other (other writer)) id _ ∙ party_count u (other writer) _ ∙ flow_count w writer id _

-- the same parts were sent
reset_sent : (f : Flow) (fault : StreamFault) → (flow_given_up f fault).sent ≡ f.sent
reset_sent f fault = by_fault (is_some f.fault)
  where
    by_fault : (b : Bool) → (if b then reset_flow f else losing (reset_flow f) fault).sent ≡ f.sent
    by_fault true = refl
    by_fault false = refl

-- Of a stream that was given up, or not, the reader has the same fault.
fault_at : (setup : Setup) (w : World) (side : Side) (id : ℕ) (e : EndpointHistory) → StandsAt setup w side e → IsSoundWorld setup w → IsThere w id → (incoming_at e id).fault ≡ (flow w (other side) id).fault
fault_at setup w side id e h sound there = by_open (is_open w side id) refl
  where
    by_open : (b : Bool) → is_open w side id ≡ b → (incoming_at e id).fault ≡ (flow w (other side) id).fault
    by_open true opened =
        let i = incoming_there setup w side id e h opened in
        ap (λ o. (unwrap_or o nothing_came).fault) i.1 ∙ i.2.fault
    by_open false closed = ap (λ o. (unwrap_or o nothing_came).fault) (incoming_none setup w side id e h closed) ∙ (is_unseen setup w side id sound there closed).kept.fault

canceled_is_reply : (id : ℕ) (o : Option StreamFault) → id < 2 ^ 62 → AllByRecursion IsReply (cancellation id o)
canceled_is_reply id (Some first) small = tt
canceled_is_reply id None small = (small, tt)

-- opening a stream writes nothing
replied_is : (e : EndpointHistory) (id : ℕ) (o : Option Incoming) (i : Incoming) (more : List DecoderInstruction)
    → replied (with_incoming (opened_at e id o) id i) more ≡ record (with_incoming (opened_at e id o) id i) { own = saying e.own more }
replied_is e id None i more = refl
replied_is e id (Some x) i more = refl

pub reset_comes_over : (setup : Setup) (w : World) (side : Side) (id : ℕ) (er ew : EndpointHistory) → Both setup w side er ew → IsSoundWorld setup w → is_open w (other side) id ≡ true → id < 2 ^ 62
    → ((flow w (other side) id).ended || (flow w (other side) id).reset_came) ≡ false
    → Comes setup w (delivered_reset w (other side) id) side er ew (ResetCame id reset_code)
reset_comes_over setup w side id er ew h sound sending small goes =
    let f = flow w (other side) id in
    let fault = stream_fault.Reset reset_code in
    let v = delivered_reset w (other side) id in
    let own = (party w side).own in
    let there = open_there w (other side) id sending in
    let more = cancellation id f.fault in
    let r = reset_receives w side id sending in
    let heard : HasDecoderStreamOf setup (other side) (saying own more) ew =
    decoder_stream_more (other side) (are_settings_there setup (other (other side)) own.control_taken) own.decoder_taken own.replies more (stream_at ew.unidirectional (decoder_id (other (other side)))) ew.decoder_on ew.decoder_unread
    (sound_party setup w side sound).writer.decoder (hears setup w side ew h.there).decoder_stream in
    let stand = reset_stands setup w v side id fault er ew h.here h.there sound sending r heard in
    let i : Incoming = record (incoming_at er id) { was_reset = true } in
    let streams = with_incoming (opened er id) id (given_up_once i fault) in
    record {
      after = record streams { own = saying er.own more };
      arrived = goes_on setup w side id er (ResetCame id reset_code) h.here sound there refl goes ∙ ap (λ k. taken None None er (reset_at er id reset_code k)) (kind_is er.side id there.request)
          ∙ ap (λ q. found_none (replied streams (cancellation id q))) (fault_at setup w side id er h.here sound there)
          ∙ ap found_none (replied_is er id (stream_at er.incoming id) (given_up_once i fault) more);
      both = received_both setup w v side id more (flow_given_up f fault) er ew (record streams { own = saying er.own more }) ew h r (reset_sent f fault) (canceled_is_reply id f.fault small) stand.0 stand.1;
      count = reset_count w (other side) id;
    }

-- What comes on a request stream opens no other one.
opened_next : (e : EndpointHistory) (id : ℕ) (o : Option Incoming) → (opened_at e id o).next_id ≡ e.next_id
opened_next e id None = refl
opened_next e id (Some i) = refl

read_next : (e : EndpointHistory) (a : Arrival) → kind_of e.side (stream_of a) ≡ Request → (read_arrival e a).0.next_id ≡ e.next_id
read_next e (BytesCame id bytes) k = ap (λ q. (bytes_at e id bytes q).0.next_id) k ∙ opened_next e id (stream_at e.incoming id)
read_next e (EndCame id) k = ap (λ q. (end_at e id q).0.next_id) k ∙ opened_next e id (stream_at e.incoming id)
read_next e (ResetCame id code) k = ap (λ q. (reset_at e id code q).0.next_id) k ∙ opened_next e id (stream_at e.incoming id)

taken_next : (c : Option ℕ) (r : Option Refusal) (e : EndpointHistory) (found : Found) → found.0.next_id ≡ e.next_id → (taken c r e found).1.next_id ≡ e.next_id
taken_next (Some code) r e found same = refl
taken_next None (Some x) e found same = refl
taken_next None None e (new, None) same = same
taken_next None None e (new, Some code) same = same

pub arrives_next : (e : EndpointHistory) (a : Arrival) → e.kept ≡ [] → kind_of e.side (stream_of a) ≡ Request → (arrives e a).1.next_id ≡ e.next_id
arrives_next e a none kind = ap (λ k. (arrives_behind k e a).1.next_id) none ∙ taken_next e.closed (delivery_refusal e (stream_of a)) e (read_arrival e a) (read_next e a kind)
