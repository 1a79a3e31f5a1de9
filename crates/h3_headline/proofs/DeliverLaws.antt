-- Bytes, the end or the reset of a request stream go over: both endpoints answer as the world and stand in it after that.
use Rattle.std.proofs.Common.{◌≡◌, ℕ, ◌-◌, take, None, true, ap, ◌∙◌, Option, Some, ◌≤◌, Bool, false, [], length, drop, refl, sym, subst, arith, if◌then◌else◌}
use Rattle.h3_proto.specs.declared.stream.Side.{Side}
use Rattle.h3_connection.specs.declared.arrival.Arrival.TheVariants.{BytesCame}
use Rattle.h3_connection.specs.Endpoint.{EndpointHistory, bytes_waiting}
use Rattle.h3_connection.specs.Keeping.{arrives, read_arrival}
use Rattle.h3_connection.specs.OwnIds.{other}
use Rattle.h3_connection.specs.Outgoing.{Outgoing}
use Rattle.h3_connection.specs.Sending.{advance, advance_at, order_after, take_at}
use Rattle.h3_world.specs.Setup.{Setup}
use Rattle.h3_world.specs.World.{World}
use Rattle.std.specs.Prelude.{◌||◌}
use Rattle.h3_connection.specs.Arrivals.{stream_of}
use Rattle.h3_connection.specs.declared.arrival.Arrival.{Arrival}
use Rattle.h3_connection.specs.Delivering.{closed_refusal, delivery_refusal, taken, opened, incoming_at, with_incoming, kept, bytes_at}
use Rattle.h3_connection.specs.declared.event.Refusal.TheVariants as refusal
use Rattle.h3_world.specs.Streams.{flow, with_flow, is_open}
use Rattle.h3_world.specs.Sound.{IsSoundWorld}
use Rattle.h3_connection.specs.StreamSets.{stream_at, set_stream}
use Rattle.h3_world.specs.Flow.{flow_bytes}
use Rattle.h3_world.specs.Flow as flows
use Rattle.h3_world.specs.Order.{outgoing_of}
use Rattle.h3_headline.specs.Arriving.{come}
use Rattle.h3_headline.specs.ComingLaws.{coming_refusal, kind_is, stands_after_coming}
use Rattle.h3_headline.specs.DeliverLaws.{flow_received, goes_on, opened_own, sends_at, sends_set, silent_own, still_heard, taken_none}
use Rattle.h3_headline.specs.FlowLaws.{open_there}
use Rattle.h3_headline.specs.MovesLaws.{sender_stands, stands_ordered}
use Rattle.h3_headline.specs.ReceivingLaws.{bytes_come}
use Rattle.h3_headline.specs.Standing.{StandsAt}
use Rattle.h3_headline.specs.Steps.{IsThere}

-- Bytes came.
pub record BytesCome (setup : Setup) (v : World) (side : Side) (id : ℕ) (count : ℕ) (er ew : EndpointHistory) : Type 0 where
  pub after : EndpointHistory
  pub arrived : arrives er (BytesCame id (take count (bytes_waiting ew id))) ≡ (None, after)
  pub reader : StandsAt setup v side after
  pub writer : StandsAt setup v (other side) (advance ew id count)

-- **What comes behind the end or the reset is refused, with nothing changed.**
pub after_end : (setup : Setup) (w : World) (side : Side) (id : ℕ) (e : EndpointHistory) (a : Arrival) → StandsAt setup w side e → IsSoundWorld setup w → IsThere w id → stream_of a ≡ id
    → ((flow w (other side) id).ended || (flow w (other side) id).reset_came) ≡ true → arrives e a ≡ (Some refusal.AfterEnd, e)
after_end setup w side id e a h sound there of closed =
    taken_none setup w side e a h
    ∙ ap (λ r. taken None r e (read_arrival e a)) (ap (delivery_refusal e) of ∙ coming_refusal setup w side id e h sound there ∙ ap closed_refusal closed)

pub bytes_over : (setup : Setup) (w : World) (side : Side) (id count : ℕ) (er ew : EndpointHistory) → StandsAt setup w side er → StandsAt setup w (other side) ew → IsSoundWorld setup w
    → is_open w (other side) id ≡ true → count ≤ flows.bytes_waiting (flow w (other side) id) → ((flow w (other side) id).ended || (flow w (other side) id).reset_came) ≡ false
    → BytesCome setup (with_flow w (other side) id (come (flow w (other side) id) count)) side id count er ew
bytes_over setup w side id count er ew hr hw sound sending fits goes =
    let f = flow w (other side) id in
    let v = with_flow w (other side) id (come f count) in
    let there = open_there w (other side) id sending in
    let s = sends_at setup w (other side) id ew hw sending in
    let there_sent : Option Outgoing = Some (outgoing_of f) in
    let bytes = take count (bytes_waiting ew id) in
    let r = flow_received w side id (come f count) there refl in
    let is : bytes ≡ take count (drop f.delivered (flow_bytes f)) = ap (take count) s.left ∙ by_reset f.is_reset (subst (λ n. count ≤ n) refl fits) in
    let new = with_incoming (opened er id) id (kept (incoming_at er id) bytes) in
    let stands = stands_after_coming setup w v side id [] (come f count) er (λ i. kept i bytes) hr sound there r (λ i k. bytes_come f i bytes count k is) in
    record {
      after = new;
      arrived = goes_on setup w side id er (BytesCame id bytes) hr sound there refl goes ∙ ap (λ k. taken None None er (bytes_at er id bytes k)) (kind_is er.side id there.request);
      reader = subst (StandsAt setup v side) (silent_own er new (opened_own er id (stream_at er.incoming id) (kept (incoming_at er id) bytes))) stands;
      writer =
          subst (StandsAt setup v (other side)) (sym (ap (advance_at ew id count) s.stream))
          (stands_ordered setup v (other side) (take_at ew id count there_sent) (order_after ew id count there_sent)
          (sender_stands setup w v side id [] (come f count) ew (take_at ew id count there_sent) (set_stream ew.outgoing id (outgoing_of (come f count))) hw r refl
          (still_heard setup w side ew hw) (sends_set setup w (other side) id (come f count) ew hw sending)));
    }
  where
    by_reset : (b : Bool) → count ≤ (if b then 0 else length (flow_bytes (flow w (other side) id)) - (flow w (other side) id).delivered)
        → take count (if b then [] else drop (flow w (other side) id).delivered (flow_bytes (flow w (other side) id))) ≡ take count (drop (flow w (other side) id).delivered (flow_bytes (flow w (other side) id)))
    by_reset true few =
        let none : count ≡ 0 = omega (arith, few) in
        ap (λ n. take n []) none ∙ sym (ap (λ n. take n (drop (flow w (other side) id).delivered (flow_bytes (flow w (other side) id)))) none)
    by_reset false few = refl
