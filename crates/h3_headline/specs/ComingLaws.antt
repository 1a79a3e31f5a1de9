-- What comes on a request stream: its receiver stands in the world after it.
use Rattle.std.proofs.Common.{ℕ, zero, suc, ◌<◌, List, [], ◌∷◌, length, arith, sym, subst, if◌then◌else◌, ◌≡◌, false, ap, ◌∙◌, Bool, true, refl, nat_lt, Option, Some, None, append-nil}
use Rattle.std.specs.List.{AllByRecursion}
use Rattle.std.specs.Prelude.{slice_get, unwrap_or, ◌&&◌, not, flat_map, ◌||◌}
use Rattle.h3_world.specs.World.{World, Exchange, no_exchange, party, Party}
use Rattle.h3_world.specs.Streams.{exchange, flow, is_open}
use Rattle.h3_world.specs.Sound.{IsSoundExchange, IsSoundFlow, IsSoundWorld}
use Rattle.h3_proto.specs.StreamIds.{index_of, is_request_stream}
use Rattle.h3_proto.specs.declared.stream.Side.{Side}
use Rattle.h3_proto.specs.declared.stream.Side.TheVariants.{Client, Server}
use Rattle.h3_world.specs.Setup.{Setup}
use Rattle.h3_connection.specs.Outgoing.{nothing_sent}
use Rattle.h3_world.specs.Flow.{Flow, Part, own_part, part_bytes, flow_bytes}
use Rattle.h3_world.specs.Order.{outgoing_of, is_end, last_part}
use Rattle.std.proofs.lemmas.Grind.{common_steps}
use Rattle.h3_connection.specs.Delivering.{opened, closed_refusal, request_refusal, refusal_at, delivery_refusal, opened_at, incoming_at, with_incoming}
use Rattle.h3_connection.specs.Endpoint.{EndpointHistory, kind_of, Own}
use Rattle.h3_connection.specs.Endpoint.Kind.{Request}
use Rattle.h3_connection.specs.Incoming.{Incoming, nothing_came}
use Rattle.h3_connection.specs.OwnIds.{other}
use Rattle.h3_connection.specs.StreamSets.{stream_at}
use Rattle.h3_field.specs.Instruction.{DecoderInstruction}
use Rattle.h3_headline.specs.Arriving.{IsUnseen, Receives, made, saying, with_replies}
use Rattle.h3_headline.specs.FlowLaws.{there_open}
use Rattle.h3_headline.specs.MovesLaws.{opening_stands, receiver_stands}
use Rattle.h3_headline.specs.ReceivingLaws.{nothing_seen}
use Rattle.h3_headline.specs.Standing.{ReceivesAt, ReceivesFlow, StandsAt}
use Rattle.h3_headline.specs.Steps.{IsThere}

-- an exchange that is there is sound
exchange_at : (w : World) (es : List Exchange) (n : ℕ) → AllByRecursion (IsSoundExchange w) es → n < length es → IsSoundExchange w (unwrap_or (slice_get es n) no_exchange)
exchange_at w [] n h less = absurd (omega (arith, less))
exchange_at w (e ∷ es) zero h less = h.0
exchange_at w (e ∷ es) (suc n) h less = exchange_at w es n h.1 (omega (arith, less))

pub sound_exchange : (w : World) (id : ℕ) → AllByRecursion (IsSoundExchange w) w.exchanges → IsThere w id → IsSoundExchange w (exchange w id)
sound_exchange w id h there =
    subst (λ b. IsSoundExchange w (if b then unwrap_or (slice_get w.exchanges (index_of id)) no_exchange else no_exchange)) (sym there.request)
    (exchange_at w w.exchanges (index_of id) h there.place)

pub sound_flow : (setup : Setup) (w : World) (side : Side) (id : ℕ) → IsSoundWorld setup w → IsThere w id → IsSoundFlow (party w side) (flow w side id)
sound_flow setup w Client id h there = (sound_exchange w id h.exchanges there).request
sound_flow setup w Server id h there = (sound_exchange w id h.exchanges there).response

sent_nothing : (p : Party) (g : Flow) → IsSoundFlow p g → g.sent ≡ [] → g.is_reset ≡ false → outgoing_of g ≡ nothing_sent
sent_nothing p g sound none whole =
    let zero_bytes : length (flow_bytes g) ≡ 0 = ap (λ (l : List Part). length (flat_map part_bytes l)) none in
    let undelivered : g.delivered ≡ 0 = omega (arith, sound.delivered, zero_bytes) in
    ap (λ (l : List Part). made (flat_map own_part l) g.delivered (not g.is_reset && is_end (last_part l)) g.is_reset) none
    ∙ ap (λ n. made [] n (not g.is_reset && false) g.is_reset) undelivered
    ∙ ap (λ b. made [] 0 (not b && false) b) whole

no_test : (a b : Bool) → (a && b) ≡ false → a ≡ true → b ≡ false
no_test true b e h = e
no_test false b e h = absurd (grind (arith, common_steps, h))

pub is_unseen : (setup : Setup) (w : World) (side : Side) (id : ℕ) → IsSoundWorld setup w → IsThere w id → is_open w side id ≡ false → IsUnseen w side id
is_unseen setup w Client id sound there closed = absurd (clash (there_open w id there) closed)
  where
    clash : is_open w Client id ≡ true → is_open w Client id ≡ false → ⊥
    clash a b = grind (arith, common_steps, a, b)
is_unseen setup w Server id sound there closed =
    let e = sound_exchange w id sound.exchanges there in
    let unseen : (exchange w id).request.seen ≡ false = no_test (is_request_stream id && nat_lt (index_of id) (length w.exchanges)) (exchange w id).request.seen closed (there_open w id there) in
    let nothing = e.unsent unseen in
    record {
      server = refl;
      unsent = sent_nothing w.server (exchange w id).response e.response nothing.0 nothing.2;
      unseen = unseen;
      kept = nothing_seen w.client (exchange w id).request e.request unseen (e.unread unseen);
    }

-- what a side has of an open stream
pub incoming_there : (setup : Setup) (w : World) (side : Side) (id : ℕ) (e : EndpointHistory) → StandsAt setup w side e → is_open w side id ≡ true
    → (i : Incoming) × (stream_at e.incoming id ≡ Some i) × ReceivesFlow (flow w (other side) id) i
incoming_there setup w side id e h opened = by_stream (stream_at e.incoming id) refl (subst (λ b. ReceivesAt b (flow w (other side) id) (stream_at e.incoming id)) opened (h.incoming id))
  where
    by_stream : (o : Option Incoming) → stream_at e.incoming id ≡ o → ReceivesAt true (flow w (other side) id) (stream_at e.incoming id)
        → (i : Incoming) × (stream_at e.incoming id ≡ Some i) × ReceivesFlow (flow w (other side) id) i
    by_stream (Some i) is k = (i, is, subst (ReceivesAt true (flow w (other side) id)) is k)
    by_stream None is k = absurd (subst (ReceivesAt true (flow w (other side) id)) is k)

pub incoming_none : (setup : Setup) (w : World) (side : Side) (id : ℕ) (e : EndpointHistory) → StandsAt setup w side e → is_open w side id ≡ false → stream_at e.incoming id ≡ None
incoming_none setup w side id e h closed = by_stream (stream_at e.incoming id) refl (subst (λ b. ReceivesAt b (flow w (other side) id) (stream_at e.incoming id)) closed (h.incoming id))
  where
    by_stream : (o : Option Incoming) → stream_at e.incoming id ≡ o → ReceivesAt false (flow w (other side) id) (stream_at e.incoming id) → stream_at e.incoming id ≡ None
    by_stream (Some i) is k = absurd (subst (ReceivesAt false (flow w (other side) id)) is k)
    by_stream None is k = is

pub kind_is : (side : Side) (id : ℕ) → is_request_stream id ≡ true → kind_of side id ≡ Request
kind_is side id request = rw request refl

some_refusal : (side : Side) (i : Incoming) → request_refusal side (Some i) ≡ closed_refusal (i.ended || i.was_reset)
some_refusal Client i = refl
some_refusal Server i = refl

closed_is : (setup : Setup) (w : World) (side : Side) (id : ℕ) (e : EndpointHistory) → StandsAt setup w side e → IsSoundWorld setup w → IsThere w id
    → request_refusal e.side (stream_at e.incoming id) ≡ closed_refusal ((flow w (other side) id).ended || (flow w (other side) id).reset_came)
closed_is setup w side id e h sound there = by_open (is_open w side id) refl
  where
    by_open : (b : Bool) → is_open w side id ≡ b → request_refusal e.side (stream_at e.incoming id) ≡ closed_refusal ((flow w (other side) id).ended || (flow w (other side) id).reset_came)
    by_open true opened =
        let i = incoming_there setup w side id e h opened in
        ap (request_refusal e.side) i.1 ∙ some_refusal e.side i.0
        ∙ ap (λ b. closed_refusal (b || i.0.was_reset)) i.2.ended ∙ ap (λ b. closed_refusal ((flow w (other side) id).ended || b)) i.2.was_reset
    by_open false closed =
        let u = is_unseen setup w side id sound there closed in
        ap (request_refusal e.side) (incoming_none setup w side id e h closed) ∙ ap (λ s. request_refusal s None) (h.side_is ∙ u.server)
        ∙ ap (λ b. closed_refusal (b || nothing_came.was_reset)) u.kept.ended ∙ ap (λ b. closed_refusal ((flow w (other side) id).ended || b)) u.kept.was_reset

-- **Why what comes is refused at the receiver.**
pub coming_refusal : (setup : Setup) (w : World) (side : Side) (id : ℕ) (e : EndpointHistory) → StandsAt setup w side e → IsSoundWorld setup w → IsThere w id
    → delivery_refusal e id ≡ closed_refusal ((flow w (other side) id).ended || (flow w (other side) id).reset_came)
coming_refusal setup w side id e h sound there = ap (refusal_at e id) (kind_is e.side id there.request) ∙ closed_is setup w side id e h sound there

-- **What comes changes the stream: its receiver stands in the world after it.**
pub stands_after_coming : (setup : Setup) (w v : World) (side : Side) (id : ℕ) (more : List DecoderInstruction) (g : Flow) (e : EndpointHistory) (change : Incoming → Incoming)
    → StandsAt setup w side e → IsSoundWorld setup w → IsThere w id → Receives w v side id more g
    → ((i : Incoming) → ReceivesFlow (flow w (other side) id) i → ReceivesFlow g (change i))
    → StandsAt setup v side (record (with_incoming (opened e id) id (change (incoming_at e id))) { own = saying e.own more })
stands_after_coming setup w v side id more g e change h sound there r changes = by_open (is_open w side id) refl
  where
    after : Option Incoming → EndpointHistory
    after o = record (with_incoming (opened_at e id o) id (change (unwrap_or o nothing_came))) { own = saying e.own more }

    by_open : (b : Bool) → is_open w side id ≡ b → StandsAt setup v side (after (stream_at e.incoming id))
    by_open true opened =
        let i = incoming_there setup w side id e h opened in
        receiver_stands setup w v side id more g e (after (stream_at e.incoming id)) (change i.0) h r opened (changes i.0 i.2) (ap after i.1)
    by_open false closed =
        let u = is_unseen setup w side id sound there closed in
        opening_stands setup w v side id more g e (after (stream_at e.incoming id)) (change nothing_came) h r u.unsent (changes nothing_came u.kept)
        (ap after (incoming_none setup w side id e h closed))

-- with nothing said
pub saying_nothing : (own : Own) → saying own [] ≡ own
saying_nothing own = ap (λ (replies : List DecoderInstruction). with_replies own replies) (append-nil own.replies)
