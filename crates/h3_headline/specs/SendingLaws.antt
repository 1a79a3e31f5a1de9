-- A call of one end: where its refusal is the world's, both ends stand in the world after it.
use Rattle.h3_proto.specs.declared.stream.Side.{Side}
use Rattle.h3_proto.specs.declared.stream.Side.TheVariants.{Client, Server}
use Rattle.h3_connection.specs.OwnIds.{other}
use Rattle.h3_world.specs.Setup.{Setup}
use Rattle.h3_world.specs.Ends.{Ends, end_at, with_end}
use Rattle.h3_world.specs.World.{World, Party}
use Rattle.std.proofs.Common.{◌*◌, ◌^◌, ◌≤◌, length, ◌≡◌, refl, sym, ap, ◌∙◌, subst, Option, Some, None, ℕ, Bool, true, false, List, ◌∷◌, if◌then◌else◌}
use Rattle.h3_world.specs.declared.event.Answer.{Answer}
use Rattle.h3_world.specs.Sound.{IsSoundWorld}
use Rattle.h3_connection.specs.Endpoint.{EndpointHistory}
use Rattle.h3_connection.specs.Refusals.{first_of}
use Rattle.h3_connection.specs.Sending.{does, outgoing_at, closed_or, unless_closed}
use Rattle.h3_connection.specs.declared.event.Refusal.{Refusal}
use Rattle.h3_world.specs.Ends as ends_of
use Rattle.h3_world.specs.Machine as machine
use Rattle.std.specs.Prelude.{not, is_some, unwrap_or, ◌==◌}
use Rattle.h3_connection.specs.Outgoing.{Outgoing, nothing_sent}
use Rattle.h3_connection.specs.Sending as sender
use Rattle.h3_connection.specs.declared.event.Refusal.TheVariants as refusal
use Rattle.h3_world.specs.Order.{outgoing_of}
use Rattle.h3_world.specs.Streams.{flow, is_open, with_flow}
use Rattle.h3_connection.specs.StreamSets.{stream_at, set_stream}
use Rattle.h3_world.specs.Flow.{Flow}
use Rattle.h3_connection.specs.Incoming.{Incoming}
use Rattle.std.specs.List.{AllByRecursion}
use Rattle.h3_headline.specs.Calls.{Both, Does, Extends, Serves}
use Rattle.h3_headline.specs.DeliverLaws.{sends_set}
use Rattle.h3_headline.specs.FlowLaws.{flow-with_flow, flow-with_other, flow-with_peer, is_open-own, is_open-peer_kept, open_there, other-other, party-with_flow, same_number, set_length}
use Rattle.h3_headline.specs.MovesLaws.{stands_moved}
use Rattle.h3_headline.specs.Standing.{HasControlOf, HasDecoderStreamOf, HasEncoderStreamOf, IsReadable, IsWritable, ReceivesAt, ReceivesFlow, Stands, StandsAt}

pub both_of : (setup : Setup) (w : World) (side : Side) (ends : Ends) → Stands setup w ends → Both setup w side (end_at ends side) (end_at ends (other side))
both_of setup w Client ends h =
    record { here = h.at_client; there = h.at_server; writes_here = h.client_writes; writes_there = h.server_writes; sends_here = h.requests; sends_there = h.responses }
both_of setup w Server ends h =
    record { here = h.at_server; there = h.at_client; writes_here = h.server_writes; writes_there = h.client_writes; sends_here = h.responses; sends_there = h.requests }

pub stands_served : (setup : Setup) (given : Answer × Ends) (to : Answer × World) → Serves setup given to → 4 * length to.1.exchanges ≤ 2 ^ 62 → IsSoundWorld setup to.1
    → Stands setup to.1 given.1
stands_served setup given to h few sound =
    record {
      at_client = h.both.here;
      at_server = h.both.there;
      next_id = h.next_id;
      few = few;
      sound = sound;
      client_writes = h.both.writes_here;
      server_writes = h.both.writes_there;
      requests = h.both.sends_here;
      responses = h.both.sends_there;
    }

-- where one end changed
from_client : (setup : Setup) (v : World) (side : Side) (ends : Ends) (new : EndpointHistory) → Both setup v side new (end_at ends (other side))
    → Both setup v Client (with_end ends side new).client (with_end ends side new).server
from_client setup v Client ends new h = record { here = h.here; there = h.there; writes_here = h.writes_here; writes_there = h.writes_there; sends_here = h.sends_here; sends_there = h.sends_there }
from_client setup v Server ends new h = record { here = h.there; there = h.here; writes_here = h.writes_there; writes_there = h.writes_here; sends_here = h.sends_there; sends_there = h.sends_here }

same_next : (ends : Ends) (side : Side) (new : EndpointHistory) → new.next_id ≡ (end_at ends side).next_id → (with_end ends side new).client.next_id ≡ ends.client.next_id
same_next ends Client new e = e
same_next ends Server new e = refl

-- of a call that opens no stream
pub does_on : (setup : Setup) (w v : World) (ends : Ends) (side : Side) (success : Answer) (new : EndpointHistory) → Stands setup w ends → new.next_id ≡ (end_at ends side).next_id
    → length v.exchanges ≡ length w.exchanges → Both setup v side new (end_at ends (other side)) → Does setup v ends side success success new
does_on setup w v ends side success new h next count both = record { same = refl; both = both; next_id = same_next ends side new next ∙ h.next_id ∙ sym (ap (λ n. 4 * n) count) }

-- **A call is refused as the world says, or done.**
pub call_agrees : (setup : Setup) (w after : World) (ends : Ends) (side : Side) (given success : Answer) (r q : Option Refusal) (new : EndpointHistory) → Stands setup w ends → r ≡ q
    → (q ≡ None → Does setup after ends side given success new)
    → Serves setup (ends_of.done ends side given (does r (end_at ends side) new)) (machine.done q w success after)
call_agrees setup w after ends side given success r q new h same goes =
    subst (λ o. Serves setup (ends_of.done ends side given (does o (end_at ends side) new)) (machine.done q w success after)) (sym same) (by_refusal q refl)
  where
    by_refusal : (o : Option Refusal) → q ≡ o → Serves setup (ends_of.done ends side given (does o (end_at ends side) new)) (machine.done o w success after)
    by_refusal (Some x) e =
        record {
          answer = refl;
          both = from_client setup w side ends (end_at ends side) (both_of setup w side ends h);
          next_id = same_next ends side (end_at ends side) refl ∙ h.next_id;
        }
    by_refusal None e =
        let d = goes e in
        record { answer = d.same; both = from_client setup after side ends new d.both; next_id = d.next_id }

-- A stream that is not open is refused first, and else the rules go by what was sent on it.
pub rules_agree : (setup : Setup) (w : World) (side : Side) (id : ℕ) (e : EndpointHistory) (rules : Outgoing → List (Bool × Refusal)) → StandsAt setup w side e
    → first_of ((not (sender.is_open e id), refusal.NotOpen) ∷ rules (outgoing_at e id)) ≡ first_of ((not (is_open w side id), refusal.NotOpen) ∷ rules (outgoing_of (flow w side id)))
rules_agree setup w side id e rules h = ap judged (h.outgoing id) ∙ by_open (is_open w side id)
  where
    judged : Option Outgoing → Option Refusal
    judged o = first_of ((not (is_some o), refusal.NotOpen) ∷ rules (unwrap_or o nothing_sent))

    by_open : (b : Bool) → judged (if b then Some (outgoing_of (flow w side id)) else None) ≡ first_of ((not b, refusal.NotOpen) ∷ rules (outgoing_of (flow w side id)))
    by_open true = refl
    by_open false = refl

pub goes_unclosed : (setup : Setup) (w : World) (side : Side) (e : EndpointHistory) (r : Option Refusal) → StandsAt setup w side e → unless_closed e r ≡ r
goes_unclosed setup w side e r h = ap (λ c. closed_or c r) h.no_fault

pub refusal_agrees : (setup : Setup) (w : World) (side : Side) (id : ℕ) (e : EndpointHistory) (rules : Outgoing → List (Bool × Refusal)) → StandsAt setup w side e
    → unless_closed e (first_of ((not (sender.is_open e id), refusal.NotOpen) ∷ rules (outgoing_at e id)))
    ≡ first_of ((not (is_open w side id), refusal.NotOpen) ∷ rules (outgoing_of (flow w side id)))
refusal_agrees setup w side id e rules h = goes_unclosed setup w side e _ h ∙ rules_agree setup w side id e rules h

-- what is not refused so is open
pub not_refused_open : (b : Bool) (rules : List (Bool × Refusal)) → first_of ((not b, refusal.NotOpen) ∷ rules) ≡ None → (b ≡ true) × (first_of rules ≡ None)
not_refused_open true rules e = (refl, e)
not_refused_open false rules e = cc

pub not_refused : (b : Bool) (x : Refusal) (rules : List (Bool × Refusal)) → first_of ((b, x) ∷ rules) ≡ None → (b ≡ false) × (first_of rules ≡ None)
not_refused true x rules e = cc
not_refused false x rules e = (refl, e)

sender_on : (setup : Setup) (w : World) (side : Side) (id n : ℕ) (g : Flow) (e : EndpointHistory) → StandsAt setup w side e → is_open w side id ≡ true
    → StandsAt setup (with_flow w side id g) side (record e { outgoing = set_stream e.outgoing id (outgoing_of g); sent = n })
sender_on setup w side id n g e h opened =
    let v = with_flow w side id g in
    let there = open_there w side id opened in
    stands_moved setup w v side e (record e { outgoing = set_stream e.outgoing id (outgoing_of g); sent = n }) h
    (record {
      same = refl;
      own = h.own ∙ sym (ap (λ (p : Party). p.own) (party-with_flow w side side id g));
      encoder = h.encoder ∙ sym (ap (λ (p : Party). p.encoder) (party-with_flow w side side id g));
      control = subst (λ (p : Party). HasControlOf setup side p.own e) (sym (party-with_flow w side (other side) id g)) h.control;
      encoder_stream = subst (λ (p : Party). HasEncoderStreamOf setup side p.own e) (sym (party-with_flow w side (other side) id g)) h.encoder_stream;
      decoder_stream = subst (λ (p : Party). HasDecoderStreamOf setup side p.own e) (sym (party-with_flow w side (other side) id g)) h.decoder_stream;
      outgoing = λ i. sends_set setup w side id g e h opened i
          ∙ ap (λ b. if b then Some (outgoing_of (if id == i then g else flow w side i)) else None) (sym (is_open-own w side id i g there))
          ∙ ap (λ o. if is_open v side i then Some (outgoing_of o) else None) (sym (flow-with_flow w side id i g there));
      incoming = λ i. subst (λ b. ReceivesAt b (flow v (other side) i) (stream_at e.incoming i)) (sym (is_open-own w side id i g there))
          (subst (λ o. ReceivesAt (is_open w side i) o (stream_at e.incoming i)) (sym (flow-with_other w side id i g there)) (h.incoming i));
      distinct = h.distinct;
    })

receiver_on : (setup : Setup) (w : World) (side : Side) (id : ℕ) (g : Flow) (e : EndpointHistory) → StandsAt setup w side e → is_open w (other side) id ≡ true → g.seen ≡ (flow w (other side) id).seen
    → ((i : Incoming) → ReceivesFlow (flow w (other side) id) i → ReceivesFlow g i) → StandsAt setup (with_flow w (other side) id g) side e
receiver_on setup w side id g e h opened seen keeps =
    let v = with_flow w (other side) id g in
    let there = open_there w (other side) id opened in
    stands_moved setup w v side e e h
    (record {
      same = refl;
      own = h.own ∙ sym (ap (λ (p : Party). p.own) (party-with_flow w (other side) side id g));
      encoder = h.encoder ∙ sym (ap (λ (p : Party). p.encoder) (party-with_flow w (other side) side id g));
      control = subst (λ (p : Party). HasControlOf setup side p.own e) (sym (party-with_flow w (other side) (other side) id g)) h.control;
      encoder_stream = subst (λ (p : Party). HasEncoderStreamOf setup side p.own e) (sym (party-with_flow w (other side) (other side) id g)) h.encoder_stream;
      decoder_stream = subst (λ (p : Party). HasDecoderStreamOf setup side p.own e) (sym (party-with_flow w (other side) (other side) id g)) h.decoder_stream;
      outgoing = λ i. h.outgoing i
          ∙ ap (λ b. if b then Some (outgoing_of (flow w side i)) else None) (sym (is_open-peer_kept w side id i g there seen))
          ∙ ap (λ o. if is_open v side i then Some (outgoing_of o) else None) (sym (flow-with_peer w side id i g there));
      incoming = λ i. subst (λ b. ReceivesAt b (flow v (other side) i) (stream_at e.incoming i)) (sym (is_open-peer_kept w side id i g there seen))
          (subst (λ o. ReceivesAt (is_open w side i) o (stream_at e.incoming i)) (sym (flow-with_flow w (other side) id i g there)) (by_id i (id == i) refl));
      distinct = h.distinct;
    })
  where
    receives : (b : Bool) (o : Option Incoming) → ReceivesAt b (flow w (other side) id) o → ReceivesAt b g o
    receives true (Some x) k = keeps x k
    receives true None k = k
    receives false (Some x) k = k
    receives false None k = k

    by_id : (i : ℕ) (t : Bool) → (id == i) ≡ t → ReceivesAt (is_open w side i) (if t then g else flow w (other side) i) (stream_at e.incoming i)
    by_id i true same = receives (is_open w side i) (stream_at e.incoming i) (subst (λ j. ReceivesAt (is_open w side i) (flow w (other side) j) (stream_at e.incoming i)) (sym (same_number id i same)) (h.incoming i))
    by_id i false same = h.incoming i

-- **Both ends, where a flow that is open got further at its sender.**
pub flow_extended : (setup : Setup) (w : World) (side : Side) (id n : ℕ) (g : Flow) (e f : EndpointHistory) → Both setup w side e f → is_open w side id ≡ true → Extends setup side (flow w side id) g
    → Both setup (with_flow w side id g) side (record e { outgoing = set_stream e.outgoing id (outgoing_of g); sent = n }) f
flow_extended setup w side id n g e f h opened x =
    let v = with_flow w side id g in
    let there = open_there w side id opened in
    record {
      here = sender_on setup w side id n g e h.here opened;
      there = subst (λ s. StandsAt setup (with_flow w s id g) (other side) f) (other-other side)
          (receiver_on setup w (other side) id g f h.there (subst (λ s. is_open w s id ≡ true) (sym (other-other side)) opened) (subst (λ s. g.seen ≡ (flow w s id).seen) (sym (other-other side)) x.seen)
          (subst (λ s. (i : Incoming) → ReceivesFlow (flow w s id) i → ReceivesFlow g i) (sym (other-other side)) x.kept));
      writes_here = subst (λ (p : Party). IsWritable side p.own) (sym (party-with_flow w side side id g)) h.writes_here;
      writes_there = subst (λ (p : Party). IsWritable (other side) p.own) (sym (party-with_flow w side (other side) id g)) h.writes_there;
      sends_here = λ i. subst (λ (o : Flow). AllByRecursion (IsReadable setup (other side)) o.sent) (sym (flow-with_flow w side id i g there)) (by_id i (id == i) refl);
      sends_there = λ i. subst (λ (o : Flow). AllByRecursion (IsReadable setup side) o.sent) (sym (flow-with_other w side id i g there)) (h.sends_there i);
    }
  where
    by_id : (i : ℕ) (t : Bool) → (id == i) ≡ t → AllByRecursion (IsReadable setup (other side)) (if t then g else flow w side i).sent
    by_id i true same = x.readable (h.sends_here id)
    by_id i false same = h.sends_here i

pub flow_count : (w : World) (side : Side) (id : ℕ) (g : Flow) → length (with_flow w side id g).exchanges ≡ length w.exchanges
flow_count w Client id g = set_length w.exchanges _ _
flow_count w Server id g = set_length w.exchanges _ _
