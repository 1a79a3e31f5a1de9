-- Where the answer of a pull is settled: at the endpoint behind as in the world, and for good.
use Rattle.std.proofs.Common.{◌≡◌, ℕ, zero, suc, ◌+◌, ◌≤◌, ◌<◌, Bool, true, false, List, [], ◌∷◌, ◌++◌, length, refl, sym, ap, ◌∙◌, subst, arith, if◌then◌else◌, Option, Some, None, nat_lt}
use Rattle.std.specs.Prelude.{not, ◌%◌, ◌||◌, ◌==◌, is_some, slice_get, unwrap_or}
use Rattle.std.proofs.lemmas.Grind.{common_steps}
use Rattle.h3_field.specs.Instruction.DecoderInstruction.{CancelStream}
use Rattle.h3_proto.specs.StreamIds.{is_request_stream, index_of}
use Rattle.h3_proto.specs.declared.stream.Side.{Side}
use Rattle.h3_proto.specs.declared.stream.Side.TheVariants.{Client, Server}
use Rattle.h3_connection.specs.Endpoint.{EndpointHistory, kind_of}
use Rattle.h3_connection.specs.Endpoint.Kind.{Request, ServerOpened, OwnUnidirectional, PeerUnidirectional}
use Rattle.h3_connection.specs.Keeping.{settles, settles_at, is_settled_request, is_settled_peer}
use Rattle.h3_connection.specs.OwnIds.{other, is_own, control_id, encoder_id, decoder_id}
use Rattle.h3_connection.specs.StreamSets.{stream_at}
use Rattle.h3_connection.specs.Unidirectional.{Unidirectional, Role, untold}
use Rattle.h3_connection.specs.Unidirectional.Role.{Untold, Control, Encoder, Decoder}
use Rattle.h3_connection.specs.declared.event.Item.TheVariants as item
use Rattle.h3_connection.specs.declared.event.Pull.TheVariants as pull
use Rattle.h3_connection.specs.declared.event.StreamFault.{StreamFault}
use Rattle.h3_connection.specs.declared.event.StreamFault.TheVariants.{Reset}
use Rattle.h3_world.specs.Setup.{Setup}
use Rattle.h3_world.specs.Delivering.{further, having_listened, delivered, delivered_own, delivered_message, delivered_reset, is_closed, reset_code}
use Rattle.h3_world.specs.Flow.{Flow}
use Rattle.h3_world.specs.Order.{is_over}
use Rattle.h3_world.specs.Pulling.{fault_or, pull_unidirectional, pull_unopened, settled}
use Rattle.h3_world.specs.Sending.{given_up}
use Rattle.h3_world.specs.Sound.{IsSoundWorld}
use Rattle.h3_world.specs.Streams.{exchange, flow, with_flow, has_outgoing, is_open}
use Rattle.h3_world.specs.World.{World, Exchange, Party, no_exchange, party, with_party}
use Rattle.h3_headline.specs.ComingLaws.{incoming_there, incoming_none, is_unseen, kind_is}
use Rattle.h3_headline.specs.FlowLaws.{open_there, there-with_party, flow-with_party, other-other}
use Rattle.h3_headline.specs.OwnEventLaws.{each_own}
use Rattle.h3_headline.specs.SendingLaws.{flow_count}
use Rattle.h3_headline.specs.Standing.{StandsAt, IsPeerStream}
use Rattle.h3_headline.specs.Steps.{IsThere}
use Rattle.h3_memory.specs.Keeping.{MayAllBeRead, came_of}
use Rattle.h3_memory.specs.Kept.{Delivery, Bytes, End, KeepingWorld, kept_at, caught_up, is_settled, read_delivery, read_deliveries}
use Rattle.h3_memory.specs.Kept as kept
use Rattle.h3_memory.specs.SoundKeeping.{CanBeRead}
use Rattle.h3_memory.proofs.ReadsLeave.{one_read, rest_readable}
use Rattle.h3_memory.proofs.WorldsWritten.{each_flow}

abbrev settled_flow : Flow → Bool
settled_flow f = is_some f.fault || is_over f

-- under other ids nothing was sent
none_flow : (w : World) (s : Side) (id : ℕ) → exchange w id ≡ no_exchange → settled_flow (flow w s id) ≡ false
none_flow w Client id e = ap (λ x. settled_flow x.request) e
none_flow w Server id e = ap (λ x. settled_flow x.response) e

no_request : (w : World) (id : ℕ) → is_request_stream id ≡ false → exchange w id ≡ no_exchange
no_request w id off = ap (λ b. if b then unwrap_or (slice_get w.exchanges (index_of id)) no_exchange else no_exchange) off

beyond : (es : List Exchange) (n : ℕ) → length es ≤ n → unwrap_or (slice_get es n) no_exchange ≡ no_exchange
beyond [] n h = refl
beyond (e ∷ es) zero h = absurd (omega (arith, h))
beyond (e ∷ es) (suc n) h = beyond es n (omega (arith, h))

not_there : (w : World) (id : ℕ) → length w.exchanges ≤ index_of id → exchange w id ≡ no_exchange
not_there w id far = by_request (is_request_stream id)
  where
    by_request : (b : Bool) → (if b then unwrap_or (slice_get w.exchanges (index_of id)) no_exchange else no_exchange) ≡ no_exchange
    by_request true = beyond w.exchanges (index_of id) far
    by_request false = refl

below_of : (a b : ℕ) → nat_lt a b ≡ true → a < b
below_of a b e = grind (arith, common_steps, e)

above_of : (a b : ℕ) → nat_lt a b ≡ false → b ≤ a
above_of a b e = grind (arith, common_steps, e)

-- no unidirectional stream of the peer is settled
peer_unsettled : (came : ℕ) (role : Role) (o : Option Unidirectional) → ((x : Unidirectional) → is_settled_peer (Some (record x { role = role })) ≡ false) → IsPeerStream came role o → is_settled_peer o ≡ false
peer_unsettled came role None plain is = refl
peer_unsettled came role (Some o) plain is = ap (λ x. is_settled_peer (Some x)) is ∙ by_came (came == 0)
  where
    by_came : (b : Bool) → is_settled_peer (Some (record untold { role = if b then Untold [] else role })) ≡ false
    by_came true = refl
    by_came false = plain untold

no_peer_settled : (setup : Setup) (w : World) (side : Side) (id : ℕ) (e : EndpointHistory) → StandsAt setup w side e → is_settled_peer (stream_at e.unidirectional id) ≡ false
no_peer_settled setup w side id e h = by_own (is_own (other side) id) refl
  where
    by_own : (b : Bool) → is_own (other side) id ≡ b → is_settled_peer (stream_at e.unidirectional id) ≡ false
    by_own false off = ap is_settled_peer (h.no_others id off)
    by_own true own =
        each_own (λ i. is_settled_peer (stream_at e.unidirectional i) ≡ false) (other side) id own
        (peer_unsettled (party w (other side)).own.control_taken Control (stream_at e.unidirectional (control_id (other side))) (λ x. refl) h.control.stream_is)
        (peer_unsettled (party w (other side)).own.encoder_taken Encoder (stream_at e.unidirectional (encoder_id (other side))) (λ x. refl) h.encoder_stream.stream_is)
        (peer_unsettled (party w (other side)).own.decoder_taken Decoder (stream_at e.unidirectional (decoder_id (other side))) (λ x. refl) h.decoder_stream.stream_is)

-- **It is settled at an endpoint where it is in the world in which that one stands.**
pub settles_there : (setup : Setup) (w : World) (side : Side) (id : ℕ) (e : EndpointHistory) → StandsAt setup w side e → IsSoundWorld setup w → settles e id ≡ is_settled w side id
settles_there setup w side id e h sound = by_request (is_request_stream id) refl
  where
    f : Flow
    f = flow w (other side) id

    unseen : (b : Bool) → nat_lt (index_of id) (length w.exchanges) ≡ b → is_request_stream id ≡ true → is_open w side id ≡ false → settled_flow (flow w (other side) id) ≡ false
    unseen true e request closed =
        let k = (is_unseen setup w side id sound (record { request = request; place = below_of _ _ e }) closed).kept in
        ap (λ b. is_some b || is_over (flow w (other side) id)) (sym k.fault) ∙ sym k.is_over
    unseen false e request closed = none_flow w (other side) id (not_there w id (above_of _ _ e))

    by_open : (b : Bool) → is_open w side id ≡ b → is_request_stream id ≡ true → is_settled_request (stream_at e.incoming id) ≡ settled_flow (flow w (other side) id)
    by_open true opened request =
        let i = incoming_there setup w side id e h opened in
        ap is_settled_request i.1 ∙ ap (λ x. is_some x || i.0.is_over) i.2.fault ∙ ap (λ b. is_some (flow w (other side) id).fault || b) i.2.is_over
    by_open false closed request = ap is_settled_request (incoming_none setup w side id e h closed) ∙ sym (unseen (nat_lt (index_of id) (length w.exchanges)) refl request closed)

    other_kinds : (a b : Bool) → settles_at e id (if a then ServerOpened else (if b then OwnUnidirectional else PeerUnidirectional)) ≡ false
    other_kinds true b = refl
    other_kinds false true = refl
    other_kinds false false = no_peer_settled setup w side id e h

    by_request : (b : Bool) → is_request_stream id ≡ b → settles_at e id (kind_of e.side id) ≡ settled_flow (flow w (other side) id)
    by_request true request = ap (settles_at e id) (kind_is e.side id request) ∙ by_open (is_open w side id) refl request
    by_request false off =
        ap (λ t. settles_at e id (if t then Request else (if id % 4 == 1 then ServerOpened else (if id % 4 == control_id e.side then OwnUnidirectional else PeerUnidirectional)))) off
        ∙ other_kinds (id % 4 == 1) (id % 4 == control_id e.side) ∙ sym (none_flow w (other side) id (no_request w id off))

-- What was settled is so once more is read.
abbrev StillSettled : Flow → Flow → Type 0
StillSettled f g = settled_flow f ≡ true → settled_flow g ≡ true

flow_settled : (w : World) (writer : Side) (i id : ℕ) (g : Flow) → IsThere w i → StillSettled (flow w writer i) g → StillSettled (flow w writer id) (flow (with_flow w writer i g) writer id)
flow_settled w writer i id g there h = each_flow StillSettled (λ f e. e) w writer i g there h id

party_settled : (w : World) (side writer : Side) (p : Party) (id : ℕ) → StillSettled (flow w writer id) (flow (with_party w side p) writer id)
party_settled w side writer p id e = ap settled_flow (flow-with_party w side writer p id) ∙ e

second_of : (a b : Bool) → a ≡ false → (a || b) ≡ true → b ≡ true
second_of true b e h = absurd (cc)
second_of false b e h = h

bytes_settled : (setup : Setup) (w : World) (writer : Side) (i count id : ℕ) → has_outgoing w writer i ≡ true → StillSettled (flow w writer id) (flow (delivered setup w writer i count) writer id)
bytes_settled setup w writer i count id outgoing = by_own (is_own writer i) refl
  where
    by_own : (b : Bool) → is_own writer i ≡ b → StillSettled (flow w writer id) (flow (if b then delivered_own setup w writer i count else delivered_message w writer i count) writer id)
    by_own true own e =
        let u = with_party w writer (further (party w writer) writer i count) in
        party_settled u (other writer) writer (having_listened setup w u writer) id (party_settled w writer writer (further (party w writer) writer i count) id e)
    by_own false off e =
        flow_settled w writer i id (record (flow w writer i) { delivered = (flow w writer i).delivered + count; seen = true }) (open_there w writer i (second_of (is_own writer i) (is_open w writer i) off outgoing)) (λ k. k) e

reset_settled : (w : World) (writer : Side) (i id : ℕ) → IsThere w i → StillSettled (flow w writer id) (flow (delivered_reset w writer i) writer id)
reset_settled w writer i id there e = by_fault (is_some (flow w writer i).fault)
  where
    u : World
    u = with_flow w writer i (record (flow w writer i) { seen = true; reset_came = true })

    mid : settled_flow (flow (with_flow w writer i (record (flow w writer i) { seen = true; reset_came = true })) writer id) ≡ true
    mid = flow_settled w writer i id (record (flow w writer i) { seen = true; reset_came = true }) there (λ k. k) e

    p : Party
    p = record (party u (other writer)) { own = record (party u (other writer)).own { replies = (party u (other writer)).own.replies ++ CancelStream i ∷ [] } }

    still_there : IsThere (with_flow w writer i (record (flow w writer i) { seen = true; reset_came = true })) i
    still_there = record { request = there.request; place = subst (λ n. index_of i < n) (sym (flow_count w writer i (record (flow w writer i) { seen = true; reset_came = true }))) there.place }

    by_fault : (b : Bool) → settled_flow (flow (if b then u else given_up u (other writer) i (Reset reset_code)) writer id) ≡ true
    by_fault true = mid
    by_fault false =
        subst (λ s. settled_flow (flow (with_flow (with_party u (other writer) p) s i (record (flow u s i) { fault = Some (Reset reset_code); waits_for = 0 })) writer id) ≡ true) (sym (other-other writer))
        (flow_settled (with_party u (other writer) p) writer i id (record (flow u writer i) { fault = Some (Reset reset_code); waits_for = 0 }) (there-with_party u (other writer) p i still_there) (λ k. refl)
        (party_settled u (other writer) writer p id mid))

read_settled : (setup : Setup) (w : World) (writer : Side) (came : ℕ → ℕ) (shut : ℕ → Bool) (d : Delivery) (ds : List Delivery) (id : ℕ) → MayAllBeRead setup w writer came shut (d ∷ ds)
    → StillSettled (flow w writer id) (flow (read_delivery setup w writer d) writer id)
read_settled setup w writer came shut (Bytes i count) ds id may = bytes_settled setup w writer i count id may.0
read_settled setup w writer came shut (End i) ds id may = flow_settled w writer i id (record (flow w writer i) { seen = true; ended = true }) (open_there w writer i may.0) (λ e. e)
read_settled setup w writer came shut (kept.Reset i) ds id may = reset_settled w writer i id (open_there w writer i may.0)

all_settled : (setup : Setup) (w : World) (writer : Side) (ds : List Delivery) (id : ℕ) → CanBeRead setup w writer ds → StillSettled (flow w writer id) (flow (read_deliveries setup w writer ds) writer id)
all_settled setup w writer [] id may e = e
all_settled setup w writer (d ∷ ds) id may e =
    let u = read_delivery setup w writer d in
    all_settled setup u writer ds id (rest_readable setup w u writer d ds (one_read setup w writer (came_of w writer) (is_closed w writer) d ds may) may) (read_settled setup w writer (came_of w writer) (is_closed w writer) d ds id may e)

-- **Also where all that is kept has been read.**
pub settled_later : (setup : Setup) (k : KeepingWorld) (side : Side) (id : ℕ) → CanBeRead setup k.world (other side) (kept_at k side) → is_settled k.world side id ≡ true → is_settled (caught_up setup k side) side id ≡ true
settled_later setup k side id may e = all_settled setup k.world (other side) (kept_at k side) id may e

-- then nothing is said of its pause
pub settled_some : (w : World) (side : Side) (id : ℕ) → is_settled w side id ≡ true → is_some (settled w side id) ≡ true
settled_some w side id e = by_tests (id % 4 == control_id (other side)) (is_request_stream id) (is_open w side id) (flow w (other side) id).fault (is_over (flow w (other side) id)) e
  where
    by_tests : (a b c : Bool) (fault : Option StreamFault) (over : Bool) → (is_some fault || over) ≡ true
        → is_some (if a then Some (pull_unidirectional w (other side) id) else (if not b then Some pull.NoMessages else (if not c then Some (pull_unopened side) else fault_or fault (if over then Some (pull.Item item.End) else None)))) ≡ true
    by_tests true b c fault over k = refl
    by_tests false false c fault over k = refl
    by_tests false true false fault over k = refl
    by_tests false true true (Some fault) over k = refl
    by_tests false true true None true k = refl
    by_tests false true true None false k = cc
