-- What is handed over is judged by both endpoints as in the world in which its reader has read all that it keeps.
use Rattle.std.proofs.Common.{◌≡◌, ℕ, ◌+◌, ◌-◌, ◌≤◌, Bool, true, false, ◌||◌, List, [], ◌∷◌, ◌++◌, length, take, drop, refl, sym, ap, ◌∙◌, subst, arith, if◌then◌else◌, Option, Some, None}
use Rattle.std.specs.Prelude.{is_some, map, option_map, unwrap_or}
use Rattle.h3_proto.specs.declared.stream.Side.{Side}
use Rattle.h3_proto.specs.declared.stream.Side.TheVariants.{Client, Server}
use Rattle.h3_connection.specs.Arrivals.{is_closed_in, stream_of}
use Rattle.h3_connection.specs.declared.arrival.Arrival.{Arrival}
use Rattle.h3_connection.specs.declared.event.Refusal.{Refusal}
use Rattle.h3_connection.specs.Control.{Found}
use Rattle.h3_connection.specs.Delivering.{closed_refusal, delivery_refusal, refusal_at, request_refusal, taken}
use Rattle.h3_connection.specs.Endpoint.{EndpointHistory, bytes_waiting}
use Rattle.h3_connection.specs.Incoming.{Incoming}
use Rattle.h3_connection.specs.Keeping.{arrival_refusal, arrives, arrives_behind, read_all, read_arrival, refused_behind, unkept, unless_faulty}
use Rattle.h3_connection.specs.Outgoing.{Outgoing}
use Rattle.h3_connection.specs.OwnIds.{other, is_own}
use Rattle.h3_connection.specs.Shown as shown
use Rattle.h3_connection.specs.StreamSets.{Streams, stream_at}
use Rattle.h3_connection.specs.Unidirectional as unidirectional
use Rattle.h3_connection.specs.declared.setup.Announced.{Announced}
use Rattle.h3_world.specs.Setup.{Setup}
use Rattle.h3_world.specs.Delivering.{is_closed}
use Rattle.h3_world.specs.Flow as flows
use Rattle.h3_world.specs.Flow.{Flow, flow_bytes}
use Rattle.h3_world.specs.Streams.{flow, is_open, has_outgoing, waiting}
use Rattle.h3_world.specs.World.{World, party}
use Rattle.h3_headline.specs.ComingLaws.{coming_refusal, kind_is}
use Rattle.h3_headline.specs.DeliverLaws.{sends_at, waiting_is}
use Rattle.h3_headline.specs.FlowLaws.{open_there}
use Rattle.h3_headline.specs.OwnEventLaws.{own_outgoing, own_waits}
use Rattle.h3_headline.specs.OwnOverLaws.{waiting_own}
use Rattle.h3_headline.specs.RoleLaws.{peer_stream}
use Rattle.h3_headline.specs.Standing.{StandsAt, WritesNoMore}
use Rattle.h3_memory.specs.Kept.{Delivery, read_deliveries}
use Rattle.h3_memory.specs.Keeping.{Held, ahead, came_of, handed_stream, text_of}
use Rattle.h3_memory.proofs.Ahead.{at_mapped, further_taken}
use Rattle.h3_memory.proofs.AheadPulls.{ResumesAt, at_resumed}
use Rattle.h3_memory.proofs.KeptMore.{caught_up_is, refused_is}
use Rattle.h3_memory.proofs.OwnAhead.{own_stream_is}
use Rattle.h3_memory.proofs.ReadingEnds.{taken_alike}
use Rattle.h3_memory.proofs.ReadingState.{Reading}
use Rattle.h3_memory.proofs.TextsOf.{by_truth, second_is, message_text_is, message_came_is, message_closed_is, own_closed_never, own_left_is}

-- The writer: what it has of a stream, however much of it counts as delivered.
some_mapped : (mine : List Delivery) (id : ℕ) (o : Option Outgoing) → is_some (option_map (further_taken mine id) o) ≡ is_some o
some_mapped mine id None = refl
some_mapped mine id (Some o) = refl

pub outgoing_ahead : (e : EndpointHistory) (mine : List Delivery) (held : Held) (incoming : Streams Incoming) (kept : List Arrival) (id : ℕ) → shown.has_outgoing (ahead e mine held incoming kept) id ≡ shown.has_outgoing e id
outgoing_ahead e mine held incoming kept id = ap (λ o. is_own e.side id || is_some o) (at_mapped mine e.outgoing id) ∙ ap (λ b. is_own e.side id || b) (some_mapped mine id (stream_at e.outgoing id))

finished_mapped : (mine : List Delivery) (id : ℕ) (o : Option Outgoing) → unwrap_or (option_map (λ (x : Outgoing). x.is_finished) (option_map (further_taken mine id) o)) false ≡ unwrap_or (option_map (λ (x : Outgoing). x.is_finished) o) false
finished_mapped mine id None = refl
finished_mapped mine id (Some o) = refl

pub finished_ahead : (e : EndpointHistory) (mine : List Delivery) (held : Held) (incoming : Streams Incoming) (kept : List Arrival) (id : ℕ) → shown.is_finished (ahead e mine held incoming kept) id ≡ shown.is_finished e id
finished_ahead e mine held incoming kept id = ap (λ o. unwrap_or (option_map (λ (x : Outgoing). x.is_finished) o) false) (at_mapped mine e.outgoing id) ∙ finished_mapped mine id (stream_at e.outgoing id)

reset_mapped : (mine : List Delivery) (id : ℕ) (o : Option Outgoing) → unwrap_or (option_map (λ (x : Outgoing). x.is_reset) (option_map (further_taken mine id) o)) false ≡ unwrap_or (option_map (λ (x : Outgoing). x.is_reset) o) false
reset_mapped mine id None = refl
reset_mapped mine id (Some o) = refl

pub reset_ahead : (e : EndpointHistory) (mine : List Delivery) (held : Held) (incoming : Streams Incoming) (kept : List Arrival) (id : ℕ) → shown.is_reset (ahead e mine held incoming kept) id ≡ shown.is_reset e id
reset_ahead e mine held incoming kept id = ap (λ o. unwrap_or (option_map (λ (x : Outgoing). x.is_reset) o) false) (at_mapped mine e.outgoing id) ∙ reset_mapped mine id (stream_at e.outgoing id)

-- With nothing ahead as many bytes wait.
none_more : (n : ℕ) → n + 0 ≡ n
none_more n = omega arith

streams_none : (streams : Streams Outgoing) → map (handed_stream []) streams ≡ streams
streams_none [] = refl
streams_none ((q, o) ∷ streams) = ap (λ n. (q, record o { taken = n }) ∷ map (handed_stream []) streams) (none_more o.taken) ∙ ap (λ l. (q, o) ∷ l) (streams_none streams)

pub waiting_ahead : (e : EndpointHistory) (held : Held) (incoming : Streams Incoming) (kept : List Arrival) (id : ℕ) → bytes_waiting (ahead e [] held incoming kept) id ≡ bytes_waiting e id
waiting_ahead e held incoming kept id =
    ap (λ o. bytes_waiting (record (ahead e [] held incoming kept) { own = o }) id) (taken_alike e.own _ _ _ _ _ _ (none_more e.own.control_taken) (none_more e.own.encoder_taken) (none_more e.own.decoder_taken))
    ∙ ap (λ l. bytes_waiting (record (ahead e [] held incoming kept) { own = e.own; outgoing = l }) id) (streams_none e.outgoing)

-- What waits of a stream, where its reader keeps nothing.
pub record Waits (setup : Setup) (w : World) (side : Side) (g : EndpointHistory) (id : ℕ) : Type 0 where
  pub waits : shown.waiting g id ≡ waiting setup w side id
  pub front : (count : ℕ) → count ≤ waiting setup w side id → take count (bytes_waiting g id) ≡ take count (drop (came_of w side id) (text_of setup w side id))

pub waits_at : (setup : Setup) (w : World) (side : Side) (e : EndpointHistory) (held : Held) (incoming : Streams Incoming) (kept : List Arrival) (id : ℕ) → StandsAt setup w side e → WritesNoMore (party w side).own → has_outgoing w side id ≡ true
    → Waits setup w side (ahead e [] held incoming kept) id
waits_at setup w side e held incoming kept id h none there = by_truth (is_own side id) own_waits_so message_waits
  where
    same : bytes_waiting (ahead e [] held incoming kept) id ≡ bytes_waiting e id
    same = waiting_ahead e held incoming kept id

    own_waits_so : is_own side id ≡ true → Waits setup w side (ahead e [] held incoming kept) id
    own_waits_so own =
        record {
          waits = ap length same ∙ own_waits setup w side id e h none own;
          front = λ count fits. ap (take count) (same ∙ waiting_own setup w side id e h (own_outgoing setup w side id e h own) ∙ own_left_is setup w side id none own);
        }

    f : Flow
    f = flow w side id

    by_reset : (b : Bool) (count : ℕ) → count ≤ (if b then 0 else length (flow_bytes f) - f.delivered) → take count (if b then [] else drop f.delivered (flow_bytes f)) ≡ take count (drop f.delivered (flow_bytes f))
    by_reset true count few =
        let none : count ≡ 0 = omega (arith, few) in
        ap (λ n. take n []) none ∙ sym (ap (λ n. take n (drop f.delivered (flow_bytes f))) none)
    by_reset false count few = refl

    message_waits : is_own side id ≡ false → Waits setup w side (ahead e [] held incoming kept) id
    message_waits off =
        let opened = second_is (is_own side id) (is_open w side id) off there in
        let s = sends_at setup w side id e h opened in
        let there_wait : waiting setup w side id ≡ flows.bytes_waiting f = waiting_is setup w side id off in
        record {
          waits = ap length same ∙ s.waits ∙ sym there_wait;
          front = λ count fits. ap (take count) (same ∙ s.left) ∙ by_reset f.is_reset count (subst (λ n. count ≤ n) there_wait fits)
              ∙ sym (ap (λ n. take count (drop n (text_of setup w side id))) (message_came_is w side id off) ∙ ap (λ l. take count (drop f.delivered l)) (message_text_is setup w side id off));
        }

-- The reader: what comes is refused as at the one behind.
refused_alike : (side : Side) (who : Side) (own : Announced) (id : ℕ) (o n : Option Incoming) → ResumesAt who own id o n → request_refusal side n ≡ request_refusal side o
refused_alike side who own id None None h = refl
refused_alike side who own id None (Some new) h = absurd h
refused_alike side who own id (Some old) None h = absurd h
refused_alike Client who own id (Some old) (Some new) h = ap (λ (i : Incoming). closed_refusal (i.ended || i.was_reset)) h.same
refused_alike Server who own id (Some old) (Some new) h = ap (λ (i : Incoming). closed_refusal (i.ended || i.was_reset)) h.same

pub refused_ahead : (setup : Setup) (w : World) (side : Side) (mine ds : List Delivery) (f g : EndpointHistory) (arrivals : List Arrival) (id : ℕ) → Reading setup w side mine ds f g arrivals → has_outgoing w (other side) id ≡ true
    → delivery_refusal f id ≡ closed_refusal (is_closed w (other side) id)
refused_ahead setup w side mine ds f g arrivals id r there = ap (λ x. delivery_refusal x id) r.here.is ∙ by_truth (is_own (other side) id) of_own of_message
  where
    s : Side
    s = other side

    e : EndpointHistory
    e = r.er

    h : StandsAt setup w side e
    h = r.two.both.here

    F : EndpointHistory
    F = ahead e mine r.here.held r.here.incoming []

    of_own : is_own s id ≡ true → delivery_refusal F id ≡ closed_refusal (is_closed w s id)
    of_own own =
        let o = own_stream_is setup w side e id h own in
        ap (refusal_at F id) o.kind
        ∙ ap (λ x. closed_refusal (unidirectional.is_closed x)) (peer_stream o.came o.role (stream_at e.unidirectional id) o.stream)
        ∙ sym (ap closed_refusal (own_closed_never w s id own))

    of_message : is_own s id ≡ false → delivery_refusal F id ≡ closed_refusal (is_closed w s id)
    of_message off =
        let opened = second_is (is_own s id) (is_open w s id) off there in
        let is_there = open_there w s id opened in
        let kind = kind_is e.side id is_there.request in
        ap (refusal_at F id) kind
        ∙ refused_alike e.side side e.announced id (stream_at e.incoming id) (stream_at r.here.incoming id) (at_resumed side e.announced e.incoming r.here.incoming id r.here.resumes)
        ∙ sym (ap (refusal_at e id) kind) ∙ coming_refusal setup w side id e h r.two.sound is_there ∙ sym (ap closed_refusal (message_closed_is w s id off))

-- What arrives, with anything kept or nothing.
goes_itself : (x : Found) → unless_faulty (read_all []) x ≡ x
goes_itself (e, None) = refl
goes_itself (e, Some code) = refl

refused_itself : (o : Option Refusal) → refused_behind false o ≡ o
refused_itself None = refl
refused_itself (Some r) = refl

pub arrives_is : (e : EndpointHistory) (a : Arrival) → arrives e a ≡ taken e.closed (arrival_refusal e (stream_of a)) e (read_all (e.kept ++ a ∷ []) (unkept e))
arrives_is e a = by_kept e.kept refl
  where
    by_kept : (l : List Arrival) → e.kept ≡ l → arrives_behind l e a ≡ taken e.closed (refused_behind (is_closed_in l (stream_of a)) (delivery_refusal e (stream_of a))) e (read_all (l ++ a ∷ []) (unkept e))
    by_kept [] none =
        ap (λ o. taken e.closed o e (read_arrival e a)) (sym (refused_itself (delivery_refusal e (stream_of a))))
        ∙ ap (taken e.closed (refused_behind false (delivery_refusal e (stream_of a))) e) (sym (goes_itself (read_arrival e a)) ∙ ap (λ k. unless_faulty (read_all []) (read_arrival (record e { kept = k }) a)) none)
    by_kept (k ∷ l) some = ap (λ z. taken e.closed (refused_behind (is_closed_in z (stream_of a)) (delivery_refusal e (stream_of a))) e (read_all (k ∷ l ++ a ∷ []) (unkept e))) some

-- **An end or a reset that came, or is kept, refuses what comes behind it.**
pub arrives_so : (setup : Setup) (w : World) (side : Side) (mine ds : List Delivery) (f g : EndpointHistory) (a : Arrival) → Reading setup w side mine ds (unkept f) g f.kept → has_outgoing w (other side) (stream_of a) ≡ true
    → arrives f a ≡ taken None (closed_refusal (is_closed (read_deliveries setup w (other side) ds) (other side) (stream_of a))) f (read_all (f.kept ++ a ∷ []) (unkept f))
arrives_so setup w side mine ds f g a r there =
    let id = stream_of a in
    let alive : f.closed ≡ None = ap (λ (x : EndpointHistory). x.closed) r.here.is ∙ r.two.both.here.no_fault in
    let refused : arrival_refusal f id ≡ closed_refusal (is_closed (read_deliveries setup w (other side) ds) (other side) id) =
    ap (refused_behind (is_closed_in f.kept id)) (refused_ahead setup w side mine ds (unkept f) g f.kept id r there)
    ∙ refused_is (text_of setup w (other side)) (came_of w (other side)) _ (is_closed w (other side)) ds f.kept id r.here.kept
    ∙ sym (ap closed_refusal ((caught_up_is setup w side ds r.here.may).closed id)) in
    arrives_is f a ∙ ap (λ c. taken c (arrival_refusal f id) f (read_all (f.kept ++ a ∷ []) (unkept f))) alive ∙ ap (λ o. taken None o f (read_all (f.kept ++ a ∷ []) (unkept f))) refused
