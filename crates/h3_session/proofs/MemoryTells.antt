-- No call is refused for memory by its rules: an answer that tells of refused memory is none of the definitions.
use Rattle.std.proofs.Common.{◌≡◌, ◌⊎◌, inl, inr, ℕ, List, [], ◌∷◌, length, Bool, true, false, Option, Some, None, refl, sym, subst}
use Rattle.std.specs.Prelude.{◌&&◌, ◌||◌, not, ◌++◌, ◌%◌, ◌==◌, ◌^◌, nat_le, nat_lt, if◌then◌else◌, is_some}
use Rattle.h3_field.specs.Field.{Field, section_size}
use Rattle.h3_header.specs.Head.{Head, head_fields, has_pseudo}
use Rattle.h3_header.specs.Reads.{head_of_fields}
use Rattle.h3_proto.specs.declared.stream.Side.{Side}
use Rattle.h3_proto.specs.declared.stream.Side.TheVariants.{Client, Server}
use Rattle.h3_connection.specs.Arrivals.{stream_of, is_closed_in}
use Rattle.h3_connection.specs.Remembering.{settings_known}
use Rattle.h3_connection.specs.Control.{Found}
use Rattle.h3_connection.specs.Delivering.{incoming_at, taken, delivery_refusal, refusal_at, request_refusal, closed_refusal, server_opened_refusal, unidirectional_at}
use Rattle.h3_connection.specs.Endpoint.{EndpointHistory, Kind, is_critical_id, kind_of}
use Rattle.h3_connection.specs.Endpoint.Kind.{Request, ServerOpened, OwnUnidirectional, PeerUnidirectional}
use Rattle.h3_connection.specs.Incoming.{Incoming}
use Rattle.h3_connection.specs.Keeping.{arrives, arrives_behind, arrival_refusal, refused_behind, read_arrival, read_all, unkept}
use Rattle.h3_connection.specs.Lasts.{last_id}
use Rattle.h3_connection.specs.Outgoing.{takes_head, takes_body, takes_end, is_sent_off}
use Rattle.h3_connection.specs.OwnIds.{other}
use Rattle.h3_connection.specs.Pulling.{is_client, is_for}
use Rattle.h3_connection.specs.Refusals as refusals
use Rattle.h3_connection.specs.Sending as sender
use Rattle.h3_connection.specs.StreamSets.{stream_at}
use Rattle.h3_connection.specs.StrictSending.{broken_protocol, broken_trailer, early_trailer, passes_content, unless_malformed}
use Rattle.h3_connection.specs.Unidirectional.{is_closed}
use Rattle.h3_connection.specs.declared.arrival.Arrival.{Arrival}
use Rattle.h3_messages.specs.Content.{may_end}
use Rattle.h3_connection.specs.declared.event.Malformation.{Malformation}
use Rattle.h3_connection.specs.declared.event.Malformation.TheVariants as malformation
use Rattle.h3_connection.specs.declared.event.Refusal.{Refusal}
use Rattle.h3_connection.specs.declared.event.Refusal.TheVariants as refusal
use Rattle.h3_world.specs.EndLists as lists
use Rattle.h3_world.specs.Headline.{is_out_of_memory}
use Rattle.h3_world.specs.Lists.{unreadable}
use Rattle.h3_world.specs.Setup.{takes_any}
use Rattle.h3_world.specs.declared.event.Answer.TheVariants as answer

abbrev pub TellsNoMemory : Option Refusal → Type 0
TellsNoMemory None = Unit {0}
TellsNoMemory (Some r) = is_out_of_memory (answer.Refused r) ≡ false

-- what comes
closed_tells : (b : Bool) → TellsNoMemory (closed_refusal b)
closed_tells true = refl
closed_tells false = tt

at_kind : (e : EndpointHistory) (id : ℕ) (k : Kind) → TellsNoMemory (refusal_at e id k)
at_kind e id Request = by_stream e.side (stream_at e.incoming id)
  where
    by_stream : (side : Side) (o : Option Incoming) → TellsNoMemory (request_refusal side o)
    by_stream Client None = refl
    by_stream Server None = tt
    by_stream Client (Some i) = closed_tells (i.ended || i.was_reset)
    by_stream Server (Some i) = closed_tells (i.ended || i.was_reset)
at_kind e id ServerOpened = by_side e.side
  where
    by_side : (side : Side) → TellsNoMemory (server_opened_refusal side)
    by_side Client = tt
    by_side Server = refl
at_kind e id OwnUnidirectional = refl
at_kind e id PeerUnidirectional = closed_tells (is_closed (unidirectional_at e id))

behind_tells : (b : Bool) (o : Option Refusal) → TellsNoMemory o → TellsNoMemory (refused_behind b o)
behind_tells b (Some r) h = h
behind_tells true None h = refl
behind_tells false None h = tt

taken_tells : (c : Option ℕ) (o : Option Refusal) (e : EndpointHistory) (found : Found) → TellsNoMemory o → TellsNoMemory (taken c o e found).0
taken_tells (Some code) o e found h = refl
taken_tells None (Some r) e found h = h
taken_tells None None e (after, None) h = tt
taken_tells None None e (after, Some code) h = refl

pub arrives_tells : (e : EndpointHistory) (a : Arrival) → TellsNoMemory (arrives e a).0
arrives_tells e a = by_kept e.kept
  where
    by_kept : (kept : List Arrival) → TellsNoMemory (arrives_behind kept e a).0
    by_kept [] = taken_tells e.closed (delivery_refusal e (stream_of a)) e (read_arrival e a) (at_kind e (stream_of a) (kind_of e.side (stream_of a)))
    by_kept (k ∷ kept) =
        taken_tells e.closed (arrival_refusal e (stream_of a)) e (read_all (k ∷ kept ++ a ∷ []) (unkept e))
        (behind_tells (is_closed_in e.kept (stream_of a)) (delivery_refusal e (stream_of a)) (at_kind e (stream_of a) (kind_of e.side (stream_of a))))

-- what is sent, opened and given up
does_tells : (o : Option Refusal) (old new : EndpointHistory) → TellsNoMemory o → TellsNoMemory (sender.does o old new).0
does_tells None old new h = tt
does_tells (Some r) old new h = h

unless_closed_tells : (c : Option ℕ) (o : Option Refusal) → TellsNoMemory o → TellsNoMemory (sender.closed_or c o)
unless_closed_tells None o h = h
unless_closed_tells (Some code) o h = refl

if_tells : (b : Bool) (o p : Option Refusal) → TellsNoMemory o → TellsNoMemory p → TellsNoMemory (if b then o else p)
if_tells true o p h k = h
if_tells false o p h k = k

going_tells : (g : Option ℕ) (o : Option Refusal) → TellsNoMemory o → TellsNoMemory (refusals.going_away g o)
going_tells None o h = h
going_tells (Some id) o h = refl

raised_tells : (id : ℕ) (g : Option ℕ) → TellsNoMemory (refusals.raised id g)
raised_tells id None = tt
raised_tells id (Some earlier) = if_tells (nat_lt earlier id) (Some (refusal.Raised earlier)) None refl tt

pub open_tells : (e : EndpointHistory) → TellsNoMemory (sender.open_request e).0
open_tells e =
    does_tells (sender.open_refusal e) e _
    (unless_closed_tells e.closed _
    (if_tells (not (is_client e.side)) (Some refusal.NotClient) _ refl
    (going_tells (last_id e.peer.goaways) _ (if_tells (nat_le (2 ^ 62) e.next_id) (Some refusal.IdsUsedUp) None refl tt))))

-- a stream that is not open, and a part out of its order
unordered_tells : (b c : Bool) (later : Option Refusal) → TellsNoMemory later → TellsNoMemory (if b then Some refusal.NotOpen else (if c then Some refusal.OutOfOrder else later))
unordered_tells b c later h = if_tells b (Some refusal.NotOpen) (if c then Some refusal.OutOfOrder else later) refl (if_tells c (Some refusal.OutOfOrder) later refl h)

-- what refuses a section by its list: a rule that it breaks, or its size
abbrev by_list : Option Malformation → Bool → ℕ → Option Refusal
by_list broken large size = refusals.first_of (unless_malformed broken ((large, refusal.TooLarge size) ∷ []))

list_tells : (broken : Option Malformation) (large : Bool) (size : ℕ) → TellsNoMemory (by_list broken large size)
list_tells (Some why) large size = refl
list_tells None large size = if_tells large (Some (refusal.TooLarge size)) None refl tt

-- or what was sent in front of it
abbrev by_both : Option Malformation → Option Malformation → Bool → ℕ → Option Refusal
by_both early broken large size = refusals.first_of (unless_malformed early (unless_malformed broken ((large, refusal.TooLarge size) ∷ [])))

both_tell : (early broken : Option Malformation) (large : Bool) (size : ℕ) → TellsNoMemory (by_both early broken large size)
both_tell (Some why) broken large size = refl
both_tell None broken large size = list_tells broken large size

-- a malformed list tells none either
malformed_tells : (why : Option Malformation) (rules : List (Bool × Refusal)) → TellsNoMemory (refusals.first_of rules) → TellsNoMemory (refusals.first_of (unless_malformed why rules))
malformed_tells None rules h = h
malformed_tells (Some why) rules h = refl

-- nor does one that begins a message after a GOAWAY
begun_tells : (going : Option ℕ) (rules : List (Bool × Refusal)) → TellsNoMemory (refusals.first_of rules) → TellsNoMemory (refusals.first_of (refusals.unless_going going rules))
begun_tells None rules h = h
begun_tells (Some id) rules h = refl

pub head_tells : (e : EndpointHistory) (id : ℕ) (head : Head) → TellsNoMemory (sender.send_head e id head).0
head_tells e id head =
    let broken = sender.broken_head_at e id (head_fields head) in
    let listed = by_list broken (refusals.is_too_large (settings_known e.announced e.peer.settings) (head_fields head)) (section_size (head_fields head)) in
    let rules = unless_malformed broken ((refusals.is_too_large (settings_known e.announced e.peer.settings) (head_fields head), refusal.TooLarge (section_size (head_fields head))) ∷ []) in
    let sides : Bool × Refusal = (not (is_for (other e.side) head), refusal.WrongSide) in
    let going = (sender.sender_at e id).going in
    does_tells (sender.head_refusal e id head) e _
    (unless_closed_tells e.closed _
    (unordered_tells (not (sender.is_open e id)) (not (takes_head (sender.outgoing_at e id))) (refusals.first_of (refusals.unless_going going (unless_malformed (broken_protocol e.announced head) (sides ∷ rules))))
    (begun_tells going (unless_malformed (broken_protocol e.announced head) (sides ∷ rules))
    (malformed_tells (broken_protocol e.announced head) (sides ∷ rules)
    (if_tells (not (is_for (other e.side) head)) (Some refusal.WrongSide) listed refl
    (list_tells broken (refusals.is_too_large (settings_known e.announced e.peer.settings) (head_fields head)) (section_size (head_fields head))))))))

-- and a list that goes out as it is
pub fields_tell : (e : EndpointHistory) (id : ℕ) (fields : List Field) → TellsNoMemory (lists.send_fields e id fields).0
fields_tell e id fields =
    let unread = unreadable (takes_any e.announced) fields in
    let broken = sender.broken_head_at e id fields in
    let large = refusals.is_too_large (settings_known e.announced e.peer.settings) fields in
    let rules = unless_malformed broken ((large, refusal.TooLarge (section_size fields)) ∷ []) in
    let wrong = not (is_for (other e.side) (head_of_fields fields)) in
    let sides : Bool × Refusal = (wrong, refusal.WrongSide) in
    let going = (sender.sender_at e id).going in
    does_tells (lists.fields_refusal e id fields) e _
    (unless_closed_tells e.closed _
    (unordered_tells (not (sender.is_open e id)) (not (takes_head (sender.outgoing_at e id))) (refusals.first_of (refusals.unless_going going (unless_malformed unread (sides ∷ rules))))
    (begun_tells going (unless_malformed unread (sides ∷ rules))
    (malformed_tells unread (sides ∷ rules)
    (if_tells wrong (Some refusal.WrongSide) (by_list broken large (section_size fields)) refl (list_tells broken large (section_size fields)))))))

-- more content than the head said, or less
content_tells : (b : Bool) → TellsNoMemory (if b then Some (refusal.Malformed malformation.ContentLength) else None)
content_tells true = refl
content_tells false = tt

pub body_tells : (e : EndpointHistory) (id : ℕ) (bytes : List ℕ) → TellsNoMemory (sender.send_body e id bytes).0
body_tells e id bytes =
    does_tells (sender.body_refusal e id (length bytes)) e _
    (unless_closed_tells e.closed _
    (unordered_tells (not (sender.is_open e id)) (not (takes_body (sender.outgoing_at e id))) _ (content_tells (passes_content (sender.outgoing_at e id).content (length bytes)))))

pub trailer_tells : (e : EndpointHistory) (id : ℕ) (head : Head) → TellsNoMemory (sender.send_trailer e id head).0
trailer_tells e id head =
    let broken = broken_trailer e.announced (head_fields head) in
    let early = early_trailer (sender.outgoing_at e id).content in
    let listed = by_both early broken (refusals.is_too_large (settings_known e.announced e.peer.settings) (head_fields head)) (section_size (head_fields head)) in
    let rules = unless_malformed early (unless_malformed broken ((refusals.is_too_large (settings_known e.announced e.peer.settings) (head_fields head), refusal.TooLarge (section_size (head_fields head))) ∷ [])) in
    let pseudo : Bool × Refusal = (has_pseudo head, refusal.PseudoInTrailer) in
    does_tells (sender.trailer_refusal e id head) e _
    (unless_closed_tells e.closed _
    (unordered_tells (not (sender.is_open e id)) (not (takes_body (sender.outgoing_at e id))) (refusals.first_of (unless_malformed (broken_protocol e.announced head) (pseudo ∷ rules)))
    (malformed_tells (broken_protocol e.announced head) (pseudo ∷ rules)
    (if_tells (has_pseudo head) (Some refusal.PseudoInTrailer) listed refl
    (both_tell early broken (refusals.is_too_large (settings_known e.announced e.peer.settings) (head_fields head)) (section_size (head_fields head)))))))

pub trailer_fields_tell : (e : EndpointHistory) (id : ℕ) (fields : List Field) → TellsNoMemory (lists.send_trailer_fields e id fields).0
trailer_fields_tell e id fields =
    let unread = unreadable (takes_any e.announced) fields in
    let early = early_trailer (sender.outgoing_at e id).content in
    let broken = broken_trailer e.announced fields in
    let large = refusals.is_too_large (settings_known e.announced e.peer.settings) fields in
    let rules = unless_malformed early (unless_malformed broken ((large, refusal.TooLarge (section_size fields)) ∷ [])) in
    let pseudo : Bool × Refusal = (has_pseudo (head_of_fields fields), refusal.PseudoInTrailer) in
    does_tells (lists.trailer_fields_refusal e id fields) e _
    (unless_closed_tells e.closed _
    (unordered_tells (not (sender.is_open e id)) (not (takes_body (sender.outgoing_at e id))) (refusals.first_of (unless_malformed unread (pseudo ∷ rules)))
    (malformed_tells unread (pseudo ∷ rules)
    (if_tells (has_pseudo (head_of_fields fields)) (Some refusal.PseudoInTrailer) (by_both early broken large (section_size fields)) refl (both_tell early broken large (section_size fields))))))

pub finish_tells : (e : EndpointHistory) (id : ℕ) → TellsNoMemory (sender.finish e id).0
finish_tells e id =
    does_tells (sender.finish_refusal e id) e _ (unless_closed_tells e.closed _ (unordered_tells (not (sender.is_open e id)) (not (takes_end (sender.outgoing_at e id))) _ (content_tells (not (may_end (sender.outgoing_at e id).content)))))

-- a stream that the connection needs, one that is not open, and one that has ended
ended_tells : (b c d : Bool) → TellsNoMemory (if b then Some refusal.Critical else (if c then Some refusal.NotOpen else (if d then Some refusal.Ended else None)))
ended_tells b c d =
    if_tells b (Some refusal.Critical) (if c then Some refusal.NotOpen else (if d then Some refusal.Ended else None)) refl
    (if_tells c (Some refusal.NotOpen) (if d then Some refusal.Ended else None) refl (if_tells d (Some refusal.Ended) None refl tt))

pub reset_tells : (e : EndpointHistory) (id : ℕ) → TellsNoMemory (sender.reset e id).0
reset_tells e id =
    does_tells (sender.reset_refusal e id) e _ (unless_closed_tells e.closed _ (ended_tells (is_critical_id e id) (not (sender.is_open e id)) (is_sent_off (sender.outgoing_at e id))))

pub cancel_tells : (e : EndpointHistory) (id : ℕ) → TellsNoMemory (sender.cancel e id).0
cancel_tells e id =
    does_tells (sender.cancel_refusal e id) e _
    (unless_closed_tells e.closed _ (ended_tells (is_critical_id e id) (not (is_some (stream_at e.incoming id))) ((incoming_at e id).is_over || is_some (incoming_at e id).fault)))

pub goaway_tells : (e : EndpointHistory) (id : ℕ) → TellsNoMemory (sender.goaway e id).0
goaway_tells e id =
    does_tells (sender.goaway_refusal e id) e _
    (unless_closed_tells e.closed _ (if_tells (not (is_client e.side) && not (id % 4 == 0)) (Some refusal.NotRequestId) _ refl (raised_tells id (last_id e.own.goaways))))

-- So a refusal that tells of refused memory is none of the rules'.
pub not_by_rules : {X : Type 0} (r : Refusal) (o : Option Refusal) → TellsNoMemory o → Some r ≡ o → is_out_of_memory (answer.Refused r) ≡ true → X
not_by_rules r o h is memory =
    let told : is_out_of_memory (answer.Refused r) ≡ false = subst TellsNoMemory (sym is) h in
    absurd (cc)

-- Two refusals tell of refused memory.
pub memory_refusals : (r : Refusal) → is_out_of_memory (answer.Refused r) ≡ true → (r ≡ refusal.OutOfMemory) ⊎ (r ≡ refusal.Kept)
memory_refusals refusal.OutOfMemory h = inl refl
memory_refusals refusal.Kept h = inr refl
memory_refusals r h = absurd (cc)
