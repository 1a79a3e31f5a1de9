-- Bytes, the end or the reset of a request stream go over: both endpoints answer as the world and stand in it after that.
use Rattle.std.proofs.Common.{◌≡◌, ◌-◌, List, [], ◌∷◌, ◌++◌, refl, ap, ◌∙◌, append-nil, Bool, true, false, length, drop, if◌then◌else◌, ℕ, Option, Some, None, arith, sym, subst}
use Rattle.std.specs.Prelude.{flat_map, ◌||◌, is_some, ◌==◌}
use Rattle.std.proofs.lemmas.Grind.{flat_map-append, common_steps}
use Rattle.h3_connection.specs.Outgoing as sender
use Rattle.h3_world.specs.Flow.{Part, own_part, part_bytes, Flow, flow_bytes}
use Rattle.h3_world.specs.Flow.Part.{Interim, Head, Body, Trailer, End}
use Rattle.std.proofs.lemmas.List.{length-drop}
use Rattle.h3_connection.specs.Endpoint.{bytes_waiting, EndpointHistory, own_waiting, Own}
use Rattle.h3_world.specs.Flow as flows
use Rattle.h3_proto.specs.declared.stream.Side.{Side}
use Rattle.h3_connection.specs.Delivering.{opened, delivery_refusal, taken, closed_refusal, opened_at, with_incoming, incoming_at, with_end, end_at}
use Rattle.h3_connection.specs.Outgoing.{Outgoing}
use Rattle.h3_connection.specs.StreamSets.{stream_at, set_stream}
use Rattle.h3_world.specs.Setup.{Setup}
use Rattle.h3_world.specs.World.{World, party}
use Rattle.h3_world.specs.Streams.{flow, is_open, has_outgoing, waiting, with_flow}
use Rattle.h3_world.specs.Order.{outgoing_of}
use Rattle.h3_connection.specs.OwnIds.{is_own, control_id, encoder_id, decoder_id, other}
use Rattle.h3_connection.specs.Shown as shown
use Rattle.h3_connection.specs.Arrivals.{stream_of}
use Rattle.h3_connection.specs.declared.arrival.Arrival.{Arrival}
use Rattle.h3_connection.specs.Keeping.{arrives, arrives_behind, read_arrival}
use Rattle.h3_world.specs.Sound.{IsSoundWorld}
use Rattle.h3_connection.specs.Incoming.{Incoming}
use Rattle.h3_connection.specs.declared.arrival.Arrival.TheVariants.{EndCame}
use Rattle.h3_headline.specs.Arriving.{EndComes, Receives, Sends, ended_flow, left_to_send, owning, saying, with_own}
use Rattle.h3_headline.specs.ComingLaws.{coming_refusal, kind_is, saying_nothing, stands_after_coming}
use Rattle.h3_headline.specs.FlowLaws.{flow-with_flow, flow-with_peer, is_open-own, is_open-peer, open_there, other-other, party-with_flow, same_number}
use Rattle.h3_headline.specs.MovesLaws.{sender_stands, set_at}
use Rattle.h3_headline.specs.ReceivingLaws.{end_comes}
use Rattle.h3_headline.specs.Standing.{HasDecoderStreamOf, StandsAt}
use Rattle.h3_headline.specs.Steps.{IsThere}

-- the bytes of the parts are those that the sender's endpoint has
pub sent_bytes : (parts : List Part) → flat_map sender.written_part (flat_map own_part parts) ≡ flat_map part_bytes parts
sent_bytes [] = refl
sent_bytes (part ∷ parts) =
    flat_map-append sender.written_part (own_part part) (flat_map own_part parts) ∙ ap (λ l. l ++ flat_map sender.written_part (flat_map own_part parts)) (one part)
    ∙ ap (λ l. part_bytes part ++ l) (sent_bytes parts)
  where
    one : (part : Part) → flat_map sender.written_part (own_part part) ≡ part_bytes part
    one (Interim s) = append-nil (part_bytes (Interim s))
    one (Head s) = append-nil (part_bytes (Head s))
    one (Body bytes own) = append-nil (part_bytes (Body bytes own))
    one (Trailer s) = append-nil (part_bytes (Trailer s))
    one End = refl

pub left_length : (f : Flow) → length (left_to_send f) ≡ flows.bytes_waiting f
left_length f = by_reset f.is_reset
  where
    by_reset : (b : Bool) → length (if b then [] else drop f.delivered (flow_bytes f)) ≡ (if b then 0 else length (flow_bytes f) - f.delivered)
    by_reset true = refl
    by_reset false = length-drop f.delivered (flow_bytes f)

pub sends_at : (setup : Setup) (w : World) (side : Side) (id : ℕ) (e : EndpointHistory) → StandsAt setup w side e → is_open w side id ≡ true → Sends setup w side id e
sends_at setup w side id e h opened =
    let f = flow w side id in
    let stream : stream_at e.outgoing id ≡ Some (outgoing_of f) = h.outgoing id ∙ ap (λ b. if b then Some (outgoing_of f) else None) opened in
    let left : bytes_waiting e id ≡ left_to_send f =
    ap (λ (o : Option Outgoing). elim o [ None ↦ own_waiting e id | Some x ↦ sender.part_bytes_waiting x ]) stream
    ∙ ap (λ l. if f.is_reset then [] else drop f.delivered l) (sent_bytes f.sent) in
    record { stream = stream; left = left; waits = ap length left ∙ left_length f }

-- whether a side has a stream to hand over
pub has_outgoing_is : (setup : Setup) (w : World) (side : Side) (id : ℕ) (e : EndpointHistory) → StandsAt setup w side e → shown.has_outgoing e id ≡ has_outgoing w side id
has_outgoing_is setup w side id e h =
    ap (λ s. is_own s id || is_some (stream_at e.outgoing id)) h.side_is ∙ ap (λ o. is_own side id || is_some o) (h.outgoing id) ∙ by_open (is_open w side id)
  where
    by_open : (b : Bool) → (is_own side id || is_some (if b then Some (outgoing_of (flow w side id)) else None)) ≡ (is_own side id || b)
    by_open true = refl
    by_open false = refl

or_false : (a b : Bool) → (a || b) ≡ false → (a ≡ false) × (b ≡ false)
or_false true b e = absurd (grind (arith, common_steps, e))
or_false false b e = (refl, e)

-- so many bytes of a request stream wait
pub waiting_is : (setup : Setup) (w : World) (side : Side) (id : ℕ) → is_own side id ≡ false → waiting setup w side id ≡ flows.bytes_waiting (flow w side id)
waiting_is setup w side id off =
    let last = or_false (id == control_id side || id == encoder_id side) (id == decoder_id side) off in
    let two = or_false (id == control_id side) (id == encoder_id side) last.0 in
    rw (two.0, two.1, last.1) refl

-- The worlds of a change of one flow to a side.
pub flow_received : (w : World) (side : Side) (id : ℕ) (g : Flow) → IsThere w id → g.seen ≡ true → Receives w (with_flow w (other side) id g) side id [] g
flow_received w side id g there seen =
    record {
      here = party-with_flow w (other side) side id g ∙ sym (ap (λ (o : Own). owning (party w side) o) (saying_nothing (party w side).own));
      there = party-with_flow w (other side) (other side) id g;
      to_it = λ i. flow-with_flow w (other side) id i g there;
      from_it = λ i. flow-with_peer w side id i g there;
      open_here = λ i. is_open-peer w side id i g there seen;
      open_there = λ i. is_open-own w (other side) id i g there;
    }

-- what its sender has of the receiver's decoder stream stays
pub still_heard : (setup : Setup) (w : World) (side : Side) (e : EndpointHistory) → StandsAt setup w (other side) e → HasDecoderStreamOf setup (other side) (saying (party w side).own []) e
still_heard setup w side e h =
    subst (λ (o : Own). HasDecoderStreamOf setup (other side) o e) (sym (saying_nothing (party w side).own))
    (subst (λ s. HasDecoderStreamOf setup (other side) (party w s).own e) (other-other side) h.decoder_stream)

-- The sender's part, where a flow that it sends is changed.
pub sends_set : (setup : Setup) (w : World) (side : Side) (id : ℕ) (g : Flow) (e : EndpointHistory) → StandsAt setup w side e → is_open w side id ≡ true → (i : ℕ)
    → stream_at (set_stream e.outgoing id (outgoing_of g)) i ≡ (if is_open w side i then Some (outgoing_of (if id == i then g else flow w side i)) else None)
sends_set setup w side id g e h opened i = set_at e.outgoing id i (outgoing_of g) ∙ by_id (id == i) refl
  where
    by_id : (t : Bool) → (id == i) ≡ t → (if t then Some (outgoing_of g) else stream_at e.outgoing i) ≡ (if is_open w side i then Some (outgoing_of (if t then g else flow w side i)) else None)
    by_id true same = sym (ap (λ b. if b then Some (outgoing_of g) else None) (ap (is_open w side) (sym (same_number id i same)) ∙ opened))
    by_id false same = h.outgoing i

-- or changed in nothing that is seen of it there
pub sends_same : (setup : Setup) (w : World) (side : Side) (id : ℕ) (g : Flow) (e : EndpointHistory) → StandsAt setup w side e → outgoing_of g ≡ outgoing_of (flow w side id) → (i : ℕ)
    → stream_at e.outgoing i ≡ (if is_open w side i then Some (outgoing_of (if id == i then g else flow w side i)) else None)
sends_same setup w side id g e h same i = h.outgoing i ∙ ap (λ o. if is_open w side i then Some o else None) (by_id (id == i) refl)
  where
    by_id : (t : Bool) → (id == i) ≡ t → outgoing_of (flow w side i) ≡ outgoing_of (if t then g else flow w side i)
    by_id true at = ap (λ j. outgoing_of (flow w side j)) (sym (same_number id i at)) ∙ sym same
    by_id false at = refl

pub taken_none : (setup : Setup) (w : World) (side : Side) (e : EndpointHistory) (a : Arrival) → StandsAt setup w side e
    → arrives e a ≡ taken None (delivery_refusal e (stream_of a)) e (read_arrival e a)
taken_none setup w side e a h = ap (λ k. arrives_behind k e a) h.nothing_kept ∙ ap (λ c. taken c (delivery_refusal e (stream_of a)) e (read_arrival e a)) h.no_fault

-- else it is taken
pub goes_on : (setup : Setup) (w : World) (side : Side) (id : ℕ) (e : EndpointHistory) (a : Arrival) → StandsAt setup w side e → IsSoundWorld setup w → IsThere w id → stream_of a ≡ id
    → ((flow w (other side) id).ended || (flow w (other side) id).reset_came) ≡ false → arrives e a ≡ taken None None e (read_arrival e a)
goes_on setup w side id e a h sound there of open_still =
    taken_none setup w side e a h
    ∙ ap (λ r. taken None r e (read_arrival e a)) (ap (delivery_refusal e) of ∙ coming_refusal setup w side id e h sound there ∙ ap closed_refusal open_still)

pub silent_own : (e : EndpointHistory) (streams : EndpointHistory) → streams ≡ record streams { own = e.own } → record streams { own = saying e.own [] } ≡ streams
silent_own e streams same = ap (λ (o : Own). with_own streams o) (saying_nothing e.own) ∙ sym same

-- opening a stream writes nothing
pub opened_own : (e : EndpointHistory) (id : ℕ) (o : Option Incoming) (j : Incoming)
    → with_incoming (opened_at e id o) id j ≡ record (with_incoming (opened_at e id o) id j) { own = e.own }
opened_own e id None j = refl
opened_own e id (Some i) j = refl

pub end_over : (setup : Setup) (w : World) (side : Side) (id : ℕ) (er ew : EndpointHistory) → StandsAt setup w side er → StandsAt setup w (other side) ew → IsSoundWorld setup w
    → is_open w (other side) id ≡ true → ((flow w (other side) id).ended || (flow w (other side) id).reset_came) ≡ false
    → EndComes setup (with_flow w (other side) id (ended_flow (flow w (other side) id))) side id er ew
end_over setup w side id er ew hr hw sound sending goes =
    let f = flow w (other side) id in
    let v = with_flow w (other side) id (ended_flow f) in
    let there = open_there w (other side) id sending in
    let r = flow_received w side id (ended_flow f) there refl in
    let new = with_incoming (opened er id) id (with_end (incoming_at er id)) in
    let stands = stands_after_coming setup w v side id [] (ended_flow f) er with_end hr sound there r (λ i k. end_comes f i k) in
    record {
      after = new;
      arrived = goes_on setup w side id er (EndCame id) hr sound there refl goes ∙ ap (λ k. taken None None er (end_at er id k)) (kind_is er.side id there.request);
      reader = subst (StandsAt setup v side) (silent_own er new (opened_own er id (stream_at er.incoming id) (with_end (incoming_at er id)))) stands;
      writer =
          sender_stands setup w v side id [] (ended_flow f) ew ew ew.outgoing hw r refl
          (still_heard setup w side ew hw) (sends_same setup w (other side) id (ended_flow f) ew hw refl);
    }
