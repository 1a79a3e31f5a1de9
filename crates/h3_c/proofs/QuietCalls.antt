-- The calls that say what goes first, and that QUIC took a FIN, change nothing of which a schedule speaks. Nor does a datagram that came, if it closes
-- nothing.
use Rattle.std.proofs.Common.{◌≡◌, ℕ, Bool, true, false, if◌then◌else◌, List, [], ◌∷◌, take, refl, sym, ap, subst, ◌∙◌, Option, Some, None}
use Rattle.std.specs.Prelude.{◌==◌, ◌&&◌, not, is_none, is_some, option_map, unwrap_or}
use Rattle.h3_capsule.specs.Datagram.{datagram_of}
use Rattle.h3_priority.specs.Priority.{PriorityParameters}
use Rattle.h3_proto.specs.StreamIds.{is_request_stream}
use Rattle.h3_connection.specs.ByPriority.{hold, hold_at, hold_refusal, held, priority_refusal, prioritized, set_priority}
use Rattle.h3_connection.specs.Calls.{IsSame}
use Rattle.h3_connection.specs.Endpoint.{EndpointHistory}
use Rattle.h3_connection.specs.EndsWaiting.{end_taken, end_taken_at, end_taken_if}
use Rattle.h3_connection.specs.Order.{gives_way}
use Rattle.h3_connection.specs.Outgoing.{Outgoing as Out, is_end_next, nothing_sent}
use Rattle.h3_connection.specs.Prioritizing.{is_sent, said, saying, set_initial_priority, use_updates, used, used_at}
use Rattle.h3_connection.specs.Refusals.{first_of}
use Rattle.h3_connection.specs.Sending.{closed_or, does, is_open, outgoing_at, with_outgoing}
use Rattle.h3_connection.specs.SendingContracts.{DoesOrRefuses}
use Rattle.h3_connection.specs.State.{EndpointState, RequestState, StandsFor, SameAt, IsOfOutgoing}
use Rattle.h3_connection.specs.StreamSets.{Streams, stream_at}
use Rattle.h3_connection.specs.declared.event.Refusal.{Refusal}
use Rattle.h3_connection.specs.declared.event.Refusal.TheVariants as refusal
use Rattle.h3_connection.specs.declared.order.PrioritySource.{PrioritySource}
use Rattle.h3_connection.specs.declared.order.PrioritySource.TheVariants.{Field, Update}
use Rattle.h3_session.specs.Datagrams.{is_off, quarter_read, read_datagram, read_unless, unless_off}
use Rattle.h3_session.specs.declared.endpoint.datagrams.DatagramRead.{DatagramRead}
use Rattle.h3_session.specs.declared.endpoint.datagrams.DatagramRead.TheVariants.{For, Early, Late, Off, Fault}
use Rattle.h3_c.specs.Datagrams.{read_given}
use Rattle.h3_c.proofs.Unordered.{unordered}
use Rattle.h3_c.proofs.Views.{plain, seen_as, unordered_out}

-- Where nothing has changed, the same histories are stood for.
pub stands_unchanged : (s t : EndpointState) (e : EndpointHistory) → IsSame s t → StandsFor s e → StandsFor t e
stands_unchanged s t e same h =
    record {
      side = same.rest.side ∙ h.side;
      announced = same.rest.announced ∙ h.announced;
      closed = same.rest.closed ∙ h.closed;
      next_id = same.next_id ∙ h.next_id;
      incoming = λ id. ap (option_map (λ (r : RequestState). r.incoming)) (same.requests.each id) ∙ h.incoming id;
      outgoing = λ id. subst (λ o. SameAt IsOfOutgoing (stream_at e.outgoing id) (option_map (λ (r : RequestState). r.outgoing) o)) (sym (same.requests.each id)) (h.outgoing id);
      unidirectional = λ id. same.rest.unidirectional.each id ∙ h.unidirectional id;
      distinct = h.distinct;
      control_on = same.rest.control_on ∙ h.control_on;
      encoder_on = same.rest.encoder_on ∙ h.encoder_on;
      decoder_on = same.rest.decoder_on ∙ h.decoder_on;
      peer = same.rest.peer ∙ h.peer;
      decoding = same.rest.decoding ∙ h.decoding;
      encoder = ap (λ x. x.encoder) same.rest.encoding ∙ h.encoder;
      decoder_unread = ap (λ x. x.unread) same.rest.encoding ∙ h.decoder_unread;
      own = record {
        control = ap (λ o. o.control) same.rest.own ∙ h.own.control;
        encoder = ap (λ o. o.encoder) same.rest.own ∙ h.own.encoder;
        decoder = ap (λ o. o.decoder) same.rest.own ∙ h.own.decoder;
        taken = h.own.taken;
      };
      last_goaway = same.rest.last_goaway ∙ h.last_goaway;
      kept = same.rest.kept ∙ h.kept;
      sent = same.rest.sent ∙ h.sent;
      order = same.rest.order ∙ h.order;
      reached = h.reached;
    }

-- another history, of which the same is known but for what sends first
pub record Stays (new : EndpointState) (e : EndpointHistory) : Type 0 where
  pub after : EndpointHistory
  pub stands : StandsFor new after
  pub same : unordered after ≡ unordered e

pub with_same : (e : EndpointHistory) (id : ℕ) (o p : Out) → stream_at e.outgoing id ≡ Some o → unordered_out p ≡ unordered_out o → unordered (with_outgoing e id p) ≡ unordered e
with_same e id o p at is = ap (λ l. record (unordered e) { outgoing = l }) (seen_as e.outgoing plain.out plain.out id o p at is (λ i x differs. refl))

-- `h3_end_taken`
end_same : (e : EndpointHistory) (id : ℕ) (o : Option Out) → stream_at e.outgoing id ≡ o → unordered (end_taken_at e id o).1 ≡ unordered e
end_same e id None at = refl
end_same e id (Some o) at = by (is_end_next o)
  where
    by : (b : Bool) → unordered (end_taken_if b e id o).1 ≡ unordered e
    by true = with_same e id o (record o { end_taken = true }) at refl
    by false = refl

pub end_taken_same : (e : EndpointHistory) (id : ℕ) → unordered (end_taken e id).1 ≡ unordered e
end_taken_same e id = end_same e id (stream_at e.outgoing id) refl

-- A call that does this is done, or nothing has changed.
pub does_same : (act : EndpointHistory → Option Refusal × EndpointHistory) (old new : EndpointState) (refused : Option Refusal) → DoesOrRefuses act old new refused
    → ((e : EndpointHistory) → (act e).0 ≡ None → unordered (act e).1 ≡ unordered e) → (e : EndpointHistory) → StandsFor old e → Stays new e
does_same act old new None d alike e h =
    let x = d.done e h (λ is. absurd (let never : None ≡ Some refusal.OutOfMemory = is in cc)) in
    record { after = (act e).1; stands = x.1; same = alike e (sym x.0) }
does_same act old new (Some r) d alike e h = record { after = e; stands = stands_unchanged old new e (d.same (λ is. absurd (let never : Some r ≡ None = is in cc))) h; same = refl }

does_none : (r : Option Refusal) (e new : EndpointHistory) → (does r e new).0 ≡ None → (r ≡ None) × ((does r e new).1 ≡ new)
does_none None e new is = (refl, refl)
does_none (Some r) e new is = absurd (let never : Some r ≡ None = is in cc)

-- what is not refused is open
passed : (closed : Option ℕ) (request is_there : Bool) → closed_or closed (first_of ((not request, refusal.NotRequestId) ∷ (not is_there, refusal.NotOpen) ∷ [])) ≡ None → is_there ≡ true
passed (Some code) request there is = absurd (let never : Some (refusal.Closed code) ≡ None = is in cc)
passed None false there is = absurd (let never : Some refusal.NotRequestId ≡ None = is in cc)
passed None true false is = absurd (let never : Some refusal.NotOpen ≡ None = is in cc)
passed None true true is = refl

-- a change of what goes before it
changes_same : (e : EndpointHistory) (id : ℕ) (change : Out → Out) → ((o : Out) → unordered_out (change o) ≡ unordered_out o) → (o : Option Out) → stream_at e.outgoing id ≡ o → is_some o ≡ true
    → unordered (with_outgoing e id (change (outgoing_at e id))) ≡ unordered e
changes_same e id change alike None at there = absurd (let never : false ≡ true = there in cc)
changes_same e id change alike (Some o) at there =
    let is : outgoing_at e id ≡ o = ap (λ x. unwrap_or x nothing_sent) at in
    with_same e id o (change (outgoing_at e id)) at (alike (outgoing_at e id) ∙ ap unordered_out is)

priority_same : (e : EndpointHistory) (id : ℕ) (change : Out → Out) (new : EndpointHistory) → ((o : Out) → unordered_out (change o) ≡ unordered_out o) → unordered new ≡ unordered (with_outgoing e id (change (outgoing_at e id)))
    → (does (priority_refusal e id) e new).0 ≡ None → unordered (does (priority_refusal e id) e new).1 ≡ unordered e
priority_same e id change new alike is none =
    let d = does_none (priority_refusal e id) e new none in
    let there = passed e.closed (is_request_stream id) (is_open e id) d.0 in
    ap unordered d.1 ∙ is ∙ changes_same e id change alike (stream_at e.outgoing id) refl there

-- `h3_set_priority`
pub set_priority_same : (id : ℕ) (p : PriorityParameters) (e : EndpointHistory) → (set_priority e id p).0 ≡ None → unordered (set_priority e id p).1 ≡ unordered e
set_priority_same id p e none = priority_same e id (prioritized p) _ (λ o. refl) refl none

-- `h3_set_initial_priority`
said_same : (source : PrioritySource) (p : PriorityParameters) (o : Out) → unordered_out (said source p o) ≡ unordered_out o
said_same source p o = by (gives_way o.precedence.source source)
  where
    by : (b : Bool) → unordered_out (if b then record o { precedence = record o.precedence { priority = p; source = source } } else o) ≡ unordered_out o
    by true = refl
    by false = refl

pub set_initial_same : (id : ℕ) (p : PriorityParameters) (e : EndpointHistory) → (set_initial_priority e id p).0 ≡ None → unordered (set_initial_priority e id p).1 ≡ unordered e
set_initial_same id p e none = priority_same e id (said Field p) (saying e id Field p) (said_same Field p) refl none

-- `h3_next_by_priority`
used_at_same : (e : EndpointHistory) (id : ℕ) (p : PriorityParameters) (o : Option Out) → stream_at e.outgoing id ≡ o → unordered (used_at e id p o) ≡ unordered e
used_at_same e id p None at = refl
used_at_same e id p (Some o) at = by (is_sent o)
  where
    by : (b : Bool) → unordered (if b then e else saying e id Update p) ≡ unordered e
    by true = refl
    by false = changes_same e id (said Update p) (said_same Update p) (Some o) at refl

used_same : (updates : Streams PriorityParameters) (e : EndpointHistory) → unordered (used e updates) ≡ unordered e
used_same [] e = refl
used_same ((id, p) ∷ updates) e = used_same updates (used_at e id p (stream_at e.outgoing id)) ∙ used_at_same e id p (stream_at e.outgoing id) refl

pub updates_same : (e : EndpointHistory) (count : ℕ) → unordered (use_updates e count) ≡ unordered e
updates_same e count = used_same (take count e.peer.updates.waiting) e

-- `h3_hold`
hold_at_same : (e : EndpointHistory) (id : ℕ) (is : Bool) (o : Option Out) → stream_at e.outgoing id ≡ o → unordered (hold_at e id is o) ≡ unordered e
hold_at_same e id is None at = refl
hold_at_same e id is (Some o) at = with_same e id o (held is o) at refl

pub hold_same : (id : ℕ) (is : Bool) (e : EndpointHistory) → (hold e id is).0 ≡ None → unordered (hold e id is).1 ≡ unordered e
hold_same id is e none = ap unordered (does_none (hold_refusal e id) e (hold_at e id is (stream_at e.outgoing id)) none).1 ∙ hold_at_same e id is (stream_at e.outgoing id) refl

-- `h3_read_datagram`
abbrev pub is_fault : DatagramRead → Bool
is_fault (Fault code) = true
is_fault _ = false

pub fault_told : (a : DatagramRead) (id from : ℕ) → ((read_given a id from).0.number == 2) ≡ is_fault a
fault_told (For stream place) id from = refl
fault_told (Early stream) id from = refl
fault_told Late id from = refl
fault_told Off id from = refl
fault_told (Fault code) id from = refl

quarter_same : (e : EndpointHistory) (bytes : List ℕ) (d : Option (ℕ × List ℕ)) → is_fault (quarter_read e bytes d).0 ≡ false → (quarter_read e bytes d).1 ≡ e
quarter_same e bytes None is = absurd (let never : true ≡ false = is in cc)
quarter_same e bytes (Some d) is = refl

off_same : (b : Bool) (e : EndpointHistory) (bytes : List ℕ) → is_fault (unless_off b e bytes).0 ≡ false → (unless_off b e bytes).1 ≡ e
off_same true e bytes is = refl
off_same false e bytes is = quarter_same e bytes (datagram_of bytes) is

read_same : (closed : Option ℕ) (e : EndpointHistory) (bytes : List ℕ) → (is_none closed && is_fault (read_unless closed e bytes).0) ≡ false → (read_unless closed e bytes).1 ≡ e
read_same None e bytes is = off_same (is_off e.announced.settings e.peer.settings) e bytes is
read_same (Some code) e bytes is = refl

pub datagram_same : (e : EndpointHistory) (bytes : List ℕ) → (is_none e.closed && is_fault (read_datagram e bytes).0) ≡ false → (read_datagram e bytes).1 ≡ e
datagram_same e bytes is = read_same e.closed e bytes is
