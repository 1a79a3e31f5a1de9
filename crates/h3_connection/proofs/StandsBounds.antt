-- Each call leaves what is stored with the bounds, by its contract alone: answered, refused, or refused memory.
use Rattle.std.proofs.Common.{◌≡◌, ℕ, Bool, true, false, List, refl, sym, ◌∙◌, ap, subst}
use Rattle.std.specs.Prelude.{length, min, Option, Some, None, Result, Ok, Err, option_map}
use Rattle.h3_field.specs.Field.{Field}
use Rattle.h3_header.specs.Head.{Head, head_fields}
use Rattle.h3_proto.specs.declared.stream.Side.{Side}
use Rattle.h3_connection.specs.Answers.{call_refused, body_refused}
use Rattle.h3_connection.specs.Arrivals.{Arrival}
use Rattle.h3_connection.specs.Bounds.{IsBounded, StandsBounded}
use Rattle.h3_connection.specs.Calls.{IsSame, MakesEnd}
use Rattle.h3_connection.specs.CallLists.{Result as Answer, done}
use Rattle.h3_connection.specs.EndsWaiting.{end_taken, TakesEnd}
use Rattle.h3_connection.specs.CallLists.Call.{OpenRequest, SendHead, SendBody, SendTrailer, Finish, Reset, Goaway, Advance, TakeEnd, Cancel}
use Rattle.h3_connection.specs.CallLists.Result.{Done, Opened}
use Rattle.h3_connection.specs.Endpoint.{EndpointHistory, bytes_waiting, new_endpoint}
use Rattle.h3_connection.specs.Keeping.{arrives, pulls}
use Rattle.h3_connection.specs.Pulling.{is_memory}
use Rattle.h3_connection.specs.ReceivingContracts.{Receives, PullsNext}
use Rattle.h3_connection.specs.Sending.{open_request, send_head, send_body, send_trailer, finish, reset, goaway, cancel, advance}
use Rattle.h3_connection.specs.SendingContracts.{DoesOrRefuses, DoesAlways, SendsSection, Opens, SendsHead, SendsTrailer, SendsBody, Finishes, Resets, GoesAway, Cancels, Advances}
use Rattle.h3_connection.specs.State.{EndpointState, StandsFor, OwnStands, IsOfOutgoing, SameAt}
use Rattle.h3_connection.specs.StreamSets.{stream_at}
use Rattle.h3_connection.specs.declared.event.DeliverError.{DeliverError}
use Rattle.h3_connection.specs.declared.event.DeliverError.TheVariants as deliver_error
use Rattle.h3_connection.specs.declared.event.Pull.{Pull}
use Rattle.h3_connection.specs.declared.event.Refusal.{Refusal}
use Rattle.h3_connection.specs.declared.event.Refusal.TheVariants as refusal
use Rattle.h3_connection.specs.declared.setup.Announced.{Announced}
use Rattle.h3_connection.proofs.Bounded.{arrives_on, pulls_on, call_on, new_on}
use Rattle.h3_connection.proofs.StoppedBounds.{kept_bounded, lost_bounded, cut_bounded}

-- where nothing has changed the same histories are stood for
stands_same : (old new : EndpointState) (e : EndpointHistory) → IsSame old new → StandsFor old e → StandsFor new e
stands_same old new e same h = record {
  side = same.rest.side ∙ h.side;
  announced = same.rest.announced ∙ h.announced;
  closed = same.rest.closed ∙ h.closed;
  next_id = same.next_id ∙ h.next_id;
  incoming = λ id. ap (option_map (λ r. r.incoming)) (same.requests.each id) ∙ h.incoming id;
  outgoing = λ id. subst (λ x. SameAt IsOfOutgoing (stream_at e.outgoing id) (option_map (λ r. r.outgoing) x)) (sym (same.requests.each id)) (h.outgoing id);
  unidirectional = λ id. same.rest.unidirectional.each id ∙ h.unidirectional id;
  distinct = h.distinct;
  control_on = same.rest.control_on ∙ h.control_on;
  encoder_on = same.rest.encoder_on ∙ h.encoder_on;
  decoder_on = same.rest.decoder_on ∙ h.decoder_on;
  peer = same.rest.peer ∙ h.peer;
  decoding = same.rest.decoding ∙ h.decoding;
  encoder = ap (λ x. x.encoder) same.rest.encoding ∙ h.encoder;
  decoder_unread = ap (λ x. x.unread) same.rest.encoding ∙ h.decoder_unread;
  own = subst (λ own. OwnStands own e) (sym same.rest.own) h.own;
  last_goaway = same.rest.last_goaway ∙ h.last_goaway;
  kept = same.rest.kept ∙ h.kept;
  sent = same.rest.sent ∙ h.sent;
  order = same.rest.order ∙ h.order;
  reached = h.reached;
}

same_bounded : (old new : EndpointState) → IsSame old new → StandsBounded old → StandsBounded new
same_bounded old new same h = record { history = h.history; stands = stands_same old new h.history same h.stands; bounded = h.bounded }

-- a new endpoint
pub made_bounded : (side : Side) (announced : Announced) (s : EndpointState) → MakesEnd side (Ok announced) s → StandsBounded s
made_bounded side announced s stands = record { history = new_endpoint side announced; stands = stands; bounded = new_on side announced }

-- what came
pub received_bounded : (old new : EndpointState) (a : Arrival) (result : Result Unit DeliverError) → Receives old new a result → StandsBounded old → StandsBounded new
received_bounded old new a (Ok it) r h = record { history = (arrives h.history a).1; stands = (r.done h.history h.stands refl).1; bounded = arrives_on h.history a h.bounded }
received_bounded old new a (Err (deliver_error.Refused why)) r h = record { history = (arrives h.history a).1; stands = (r.done h.history h.stands refl).1; bounded = arrives_on h.history a h.bounded }
received_bounded old new a (Err (deliver_error.OutOfMemory handed)) r h = same_bounded old new (r.back handed refl).1 h
received_bounded old new a (Err deliver_error.Kept) r h = kept_bounded h.history a new h.bounded (r.kept h.history h.stands refl).1

-- what was pulled
pub pulled_bounded : (old new : EndpointState) (id : ℕ) (result : Pull) → PullsNext old new id result → StandsBounded old → StandsBounded new
pulled_bounded old new id result p h = by (is_memory result) refl
  where
    by : (b : Bool) → is_memory result ≡ b → StandsBounded new
    by true is = lost_bounded h.history id new h.bounded (p.memory h.history h.stands is)
    by false is = record { history = (pulls h.history id).1; stands = (p.done h.history h.stands is).1; bounded = pulls_on h.history id h.bounded }

-- what a call does to a history keeps the bounds
abbrev Keeps : (EndpointHistory → Option Refusal × EndpointHistory) → Type 0
Keeps act = (e : EndpointHistory) → IsBounded e → IsBounded (act e).1

undone : (success : Answer) (p : Option Refusal × EndpointHistory) → IsBounded (done success p).1 → IsBounded p.1
undone success (Some r, e) h = h
undone success (None, e) h = h

-- a call that does this or changes nothing
does_bounded : (act : EndpointHistory → Option Refusal × EndpointHistory) (old new : EndpointState) (refused : Option Refusal) → Keeps act → DoesOrRefuses act old new refused → StandsBounded old → StandsBounded new
does_bounded act old new (Some r) keeps d h = same_bounded old new (d.same (λ x. cc)) h
does_bounded act old new None keeps d h = record { history = (act h.history).1; stands = (d.done h.history h.stands (λ x. cc)).1; bounded = keeps h.history h.bounded }

-- one that takes no memory
always_bounded : (act : EndpointHistory → Option Refusal × EndpointHistory) (old new : EndpointState) (refused : Option Refusal) → Keeps act → DoesAlways act old new refused → StandsBounded old → StandsBounded new
always_bounded act old new refused keeps d h = record { history = (act h.history).1; stands = (d.done h.history h.stands).1; bounded = keeps h.history h.bounded }

-- a section that is sent, or cut off
abbrev is_no_memory : Refusal → Bool
is_no_memory refusal.OutOfMemory = true
is_no_memory _ = false

no_memory_is : (r : Refusal) → is_no_memory r ≡ true → r ≡ refusal.OutOfMemory
no_memory_is refusal.OutOfMemory h = refl
no_memory_is _ h = cc

section_bounded : (act : EndpointHistory → Option Refusal × EndpointHistory) (old new : EndpointState) (id : ℕ) (fields : List Field) (refused : Option Refusal) → Keeps act
    → SendsSection act old new id fields refused → StandsBounded old → StandsBounded new
section_bounded act old new id fields None keeps s h = record { history = (act h.history).1; stands = (s.done h.history h.stands (λ x. cc)).1; bounded = keeps h.history h.bounded }
section_bounded act old new id fields (Some r) keeps s h = by (is_no_memory r) refl
  where
    by : (b : Bool) → is_no_memory r ≡ b → StandsBounded new
    by true is = cut_bounded h.history id fields new h.bounded (s.memory h.history h.stands (ap Some (no_memory_is r is))).1
    by false is = same_bounded old new (s.same (λ x. cc) (λ x. let wrong : true ≡ false = ap (λ o. elim o [ None ↦ false | Some y ↦ is_no_memory y ]) (sym x) ∙ is in cc)) h

pub opened_bounded : (old new : EndpointState) (result : Result ℕ Refusal) → Opens old new result → StandsBounded old → StandsBounded new
opened_bounded old new result o h = does_bounded open_request old new (call_refused result) (λ e b. undone (Opened e.next_id) (open_request e) (call_on e OpenRequest b)) o.opens h

pub head_bounded : (old new : EndpointState) (id : ℕ) (head : Head) (result : Result Unit Refusal) → SendsHead old new id head result → StandsBounded old → StandsBounded new
head_bounded old new id head result s h = section_bounded (λ e. send_head e id head) old new id (head_fields head) (call_refused result) (λ e b. undone Done (send_head e id head) (call_on e (SendHead id head) b)) s h

pub trailer_bounded : (old new : EndpointState) (id : ℕ) (head : Head) (result : Result Unit Refusal) → SendsTrailer old new id head result → StandsBounded old → StandsBounded new
trailer_bounded old new id head result s h = section_bounded (λ e. send_trailer e id head) old new id (head_fields head) (call_refused result) (λ e b. undone Done (send_trailer e id head) (call_on e (SendTrailer id head) b)) s h

pub body_bounded : (old new : EndpointState) (id : ℕ) (bytes : List ℕ) (result : Result Unit (Refusal × List ℕ)) → SendsBody old new id bytes result → StandsBounded old → StandsBounded new
body_bounded old new id bytes result s h = does_bounded (λ e. send_body e id bytes) old new (body_refused result) (λ e b. undone Done (send_body e id bytes) (call_on e (SendBody id bytes) b)) s.sends h

pub finish_bounded : (old new : EndpointState) (id : ℕ) (result : Result Unit Refusal) → Finishes old new id result → StandsBounded old → StandsBounded new
finish_bounded old new id result s h = always_bounded (λ e. finish e id) old new (call_refused result) (λ e b. undone Done (finish e id) (call_on e (Finish id) b)) s h

pub reset_bounded : (old new : EndpointState) (id : ℕ) (result : Result Unit Refusal) → Resets old new id result → StandsBounded old → StandsBounded new
reset_bounded old new id result s h = always_bounded (λ e. reset e id) old new (call_refused result) (λ e b. undone Done (reset e id) (call_on e (Reset id) b)) s h

pub goaway_bounded : (old new : EndpointState) (id : ℕ) (result : Result Unit Refusal) → GoesAway old new id result → StandsBounded old → StandsBounded new
goaway_bounded old new id result s h = does_bounded (λ e. goaway e id) old new (call_refused result) (λ e b. undone Done (goaway e id) (call_on e (Goaway id) b)) s h

pub cancel_bounded : (old new : EndpointState) (id : ℕ) (result : Result Unit Refusal) → Cancels old new id result → StandsBounded old → StandsBounded new
cancel_bounded old new id result s h = does_bounded (λ e. cancel e id) old new (call_refused result) (λ e b. undone Done (cancel e id) (call_on e (Cancel id) b)) s h

pub advance_bounded : (old new : EndpointState) (id count : ℕ) → Advances old new id count → StandsBounded old → StandsBounded new
advance_bounded old new id count a h =
    let taken : ℕ = min count (length (bytes_waiting h.history id)) in
    record { history = advance h.history id taken; stands = a h.history h.stands; bounded = call_on h.history (Advance id taken) h.bounded }

pub end_bounded : (old new : EndpointState) (id : ℕ) (result : Bool) → TakesEnd old new id result → StandsBounded old → StandsBounded new
end_bounded old new id result t h = record { history = (end_taken h.history id).1; stands = (t h.history h.stands).1; bounded = call_on h.history (TakeEnd id) h.bounded }
