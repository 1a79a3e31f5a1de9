-- The refusals by what is stored are those of every history that it stands for: both are of one sender.
use Rattle.std.proofs.Common.{◌≡◌, ℕ, Bool, true, false, if◌then◌else◌, List, [], ◌∷◌, Option, Some, None, refl, ap, sym, ◌∙◌}
use Rattle.std.specs.Prelude.{◌≢◌, ◌^◌, not, ◌&&◌, nat_le, nat_lt, option_map, is_some, unwrap_or}
use Rattle.h3_header.specs.Head.{Head, has_pseudo}
use Rattle.h3_field.specs.Field.{Field}
use Rattle.h3_messages.specs.Content.{may_end}
use Rattle.h3_proto.specs.declared.stream.Side.{Side}
use Rattle.h3_proto.specs.StreamIds.{is_request_stream}
use Rattle.h3_outgoing.specs.HistoryLaws.{head_taken, body_taken, end_taken, sent_off}
use Rattle.h3_outgoing.specs.Sent as sent
use Rattle.h3_streams.specs.PlacedLaws.{critical_stands}
use Rattle.h3_connection.specs.Endpoint.{EndpointHistory, is_critical_id}
use Rattle.h3_connection.specs.Remembering.{settings_known}
use Rattle.h3_connection.specs.KeptGoaways.{keeps_last}
use Rattle.h3_connection.specs.KeptGoawayLaws.{last_kept}
use Rattle.h3_connection.specs.Lasts.{last_id}
use Rattle.h3_connection.specs.Outgoing.{Outgoing, nothing_sent, is_sent_off, takes_body, takes_head}
use Rattle.h3_connection.specs.Pulling.{is_client, is_for}
use Rattle.h3_connection.specs.OwnIds.{other}
use Rattle.h3_connection.specs.Refusals.{Sender, SenderStream, first_of, going_away, needed, not_next, of_list, or_later, raised, refusal_of_body, refusal_of_end, refusal_of_goaway, refusal_of_head, refusal_of_trailer, refusal_to_open, refusal_to_stop, seen, unless_going}
use Rattle.h3_connection.specs.Sending.{closed_or, outgoing_at, is_open, open_refusal, body_refusal, finish_refusal, reset_refusal, goaway_refusal, seen_at, sender_at, broken_head_at, known_of}
use Rattle.h3_connection.specs.State.{EndpointState, RequestState, StandsFor, IsOfOutgoing, SameAt, kept_at}
use Rattle.h3_connection.specs.StreamSets.{stream_at}
use Rattle.h3_connection.specs.StrictSending.{broken_head, broken_protocol, broken_trailer, early_trailer, passes_content, unless_malformed}
use Rattle.h3_connection.specs.declared.event.Malformation.{Malformation}
use Rattle.h3_connection.specs.declared.event.Malformation.TheVariants as malformation
use Rattle.h3_connection.specs.declared.event.Refusal.{Refusal}
use Rattle.h3_connection.specs.declared.event.Refusal.TheVariants as refusal
use Rattle.h3_requests.specs.Refused.{body_refused_at, data_refused_at, early_trailer_at, end_refused_at, head_refused_at, outgoing_in, seen_in, known_in}
use Rattle.h3_session.specs.SendingLists.{listed_head_refusal, listed_trailer_refusal, order_refusal, place_refusal}
use Rattle.h3_session.specs.Refused.{body_refused, end_refused, goaway_refused, head_refused, is_critical_in, list_refused, open_refused, own_head_refused, own_trailer_refused, protocol_refused, pseudo_refused, reset_refused, sender_on, side_refused, streams_of, trailer_refused, going_refused, head_refused_in, broken_head_in}
use Rattle.h3_connection.specs.StrictConnection.{begins_none_after}

-- a stream, by what is stored of its sender's part
record SameSender (o : Option Outgoing) (r : Option RequestState) : Type 0 where
  same : SameAt IsOfOutgoing o (option_map (λ r. r.outgoing) r)

stored : (s : EndpointState) (e : EndpointHistory) (id : ℕ) → StandsFor s e → SameSender (stream_at e.outgoing id) (kept_at s.requests id)
stored s e id h = record { same = h.outgoing id }

abbrev stream : Bool → Bool → Bool → Bool → SenderStream
stream is_open head body end = record { is_open = is_open; takes_head = head; takes_body = body; takes_end = end }

stream_same : (o : Option Outgoing) (r : Option RequestState) → SameSender o r → seen_in r ≡ seen (is_some o) (unwrap_or o nothing_sent)
stream_same None None h = refl
stream_same (Some o) (Some r) h =
    ap (λ b. stream true b (sent.takes_body r.outgoing) (sent.takes_end r.outgoing)) (head_taken o r.outgoing h.same)
    ∙ ap (λ b. stream true (takes_head o) b (sent.takes_end r.outgoing)) (body_taken o r.outgoing h.same)
    ∙ ap (stream true (takes_head o) (takes_body o)) (end_taken o r.outgoing h.same)
stream_same None (Some r) h = absurd h.same
stream_same (Some o) None h = absurd h.same

seen_same : (s : EndpointState) (e : EndpointHistory) (id : ℕ) → StandsFor s e → seen_in (kept_at s.requests id) ≡ seen_at e id
seen_same s e id h = stream_same (stream_at e.outgoing id) (kept_at s.requests id) (stored s e id h)

-- the sender
abbrev sender : Side → SenderStream → Option (List (ℕ × ℕ)) → Option ℕ → Sender
sender side v settings going = record { side = side; stream = v; settings = settings; going = going }

sender_same : (s : EndpointState) (e : EndpointHistory) (id : ℕ) → StandsFor s e → sender_on s id ≡ sender_at e id
sender_same s e id h =
    ap (λ side. sender side (seen_in (kept_at s.requests id)) (settings_known s.announced s.peer.settings) (begins_none_after s.announced side (last_id s.peer.goaways))) h.side
    ∙ ap (λ v. sender e.side v (settings_known s.announced s.peer.settings) (begins_none_after s.announced e.side (last_id s.peer.goaways))) (seen_same s e id h)
    ∙ ap (λ a. sender e.side (seen_at e id) (settings_known a s.peer.settings) (begins_none_after a e.side (last_id s.peer.goaways))) h.announced
    ∙ ap (λ p. sender e.side (seen_at e id) (settings_known e.announced p.settings) (begins_none_after e.announced e.side (last_id p.goaways))) h.peer
    ∙ ap (λ o. sender e.side (seen_at e id) (settings_known e.announced e.peer.settings) (begins_none_after e.announced e.side o)) (last_kept (keeps_last e.announced.choices) e.peer.goaways)

-- how much content is still to be sent
content_at : (o : Option Outgoing) (r : Option RequestState) → SameSender o r → (outgoing_in r).content ≡ (unwrap_or o nothing_sent).content
content_at None None h = refl
content_at (Some o) (Some r) h = let is : IsOfOutgoing o r.outgoing = h.same in is.content
content_at None (Some r) h = absurd h.same
content_at (Some o) None h = absurd h.same

content_same : (s : EndpointState) (e : EndpointHistory) (id : ℕ) → StandsFor s e → (outgoing_in (kept_at s.requests id)).content ≡ (outgoing_at e id).content
content_same s e id h = content_at (stream_at e.outgoing id) (kept_at s.requests id) (stored s e id h)

-- whether sending on it is over
over_at : (o : Option Outgoing) (r : Option RequestState) → SameSender o r → sent.is_sent_off (outgoing_in r) ≡ is_sent_off (unwrap_or o nothing_sent)
over_at None None h = refl
over_at (Some o) (Some r) h = sent_off o r.outgoing h.same
over_at None (Some r) h = absurd h.same
over_at (Some o) None h = absurd h.same

-- the rule that a list breaks
broken_same : (s : EndpointState) (e : EndpointHistory) (id : ℕ) (fields : List Field) → StandsFor s e → broken_head_in s id fields ≡ broken_head_at e id fields
broken_same s e id fields h =
    ap (λ side. broken_head side s.announced (settings_known s.announced s.peer.settings) (known_in (kept_at s.requests id)) fields) h.side
    ∙ ap (λ own. broken_head e.side own (settings_known own s.peer.settings) (known_in (kept_at s.requests id)) fields) h.announced
    ∙ ap (λ p. broken_head e.side e.announced (settings_known e.announced p.settings) (known_in (kept_at s.requests id)) fields) h.peer
    ∙ ap (λ i. broken_head e.side e.announced (settings_known e.announced e.peer.settings) (known_of i) fields) (h.incoming id)

-- Opening a request stream.
pub open_refusal_is : (s : EndpointState) (e : EndpointHistory) → StandsFor s e → open_refused s ≡ open_refusal e
open_refusal_is s e h =
    ap (λ p. closed_or s.closed (refusal_to_open s.side (last_id p.goaways) s.next_id)) h.peer
    ∙ ap (λ o. closed_or s.closed (refusal_to_open s.side o s.next_id)) (last_kept (keeps_last e.announced.choices) e.peer.goaways)
    ∙ rw (h.closed, h.side, h.next_id) refl

-- Finishing.
pub end_refusal_is : (s : EndpointState) (e : EndpointHistory) (id : ℕ) → StandsFor s e → end_refused s id ≡ finish_refusal e id
end_refusal_is s e id h =
    ap (λ c. closed_or c (end_refused_at (kept_at s.requests id))) h.closed
    ∙ ap (λ v. closed_or e.closed (refusal_of_end v (not (may_end (outgoing_in (kept_at s.requests id)).content)))) (seen_same s e id h)
    ∙ ap (λ c. closed_or e.closed (refusal_of_end (seen_at e id) (not (may_end c)))) (content_same s e id h)

-- Sending a body.
pub body_refusal_is : (s : EndpointState) (e : EndpointHistory) (id size : ℕ) → StandsFor s e → body_refused s id size ≡ body_refusal e id size
body_refusal_is s e id size h =
    ap (λ c. closed_or c (data_refused_at (kept_at s.requests id) size)) h.closed
    ∙ ap (λ v. closed_or e.closed (refusal_of_body v (passes_content (outgoing_in (kept_at s.requests id)).content size))) (seen_same s e id h)
    ∙ ap (λ c. closed_or e.closed (refusal_of_body (seen_at e id) (passes_content c size))) (content_same s e id h)

-- the stream's own refusal of a trailer, and of a head
pub order_refusal_is : (s : EndpointState) (e : EndpointHistory) (id : ℕ) → StandsFor s e → closed_or s.closed (body_refused_at (kept_at s.requests id)) ≡ order_refusal e id
order_refusal_is s e id h =
    ap (λ c. closed_or c (body_refused_at (kept_at s.requests id))) h.closed ∙ ap (λ v. closed_or e.closed (first_of (not_next v v.takes_body []))) (seen_same s e id h)

-- with nothing judged behind it
pub none_later : (first : Option Refusal) → or_later first None ≡ first
none_later (Some r) = refl
none_later None = refl

-- with the GOAWAY behind it
then_going : (a b : Bool) (p q : Refusal) (going : Option ℕ) → or_later (first_of ((a, p) ∷ (b, q) ∷ [])) (first_of (unless_going going [])) ≡ first_of ((a, p) ∷ (b, q) ∷ unless_going going [])
then_going true b p q going = refl
then_going false true p q going = refl
then_going false false p q None = refl
then_going false false p q (Some id) = refl

pub place_refusal_is : (s : EndpointState) (e : EndpointHistory) (id : ℕ) → StandsFor s e → closed_or s.closed (head_refused_in s id) ≡ place_refusal e id
place_refusal_is s e id h =
    let v = seen_in (kept_at s.requests id) in
    ap (λ c. closed_or c (head_refused_in s id)) h.closed
    ∙ ap (closed_or e.closed) (then_going (not v.is_open) (not v.takes_head) refusal.NotOpen refusal.OutOfOrder (sender_on s id).going)
    ∙ ap (λ (x : Sender). closed_or e.closed (first_of (not_next x.stream x.stream.takes_head (unless_going x.going [])))) (sender_same s e id h)

-- The rules of a head are asked in parts, one behind the other: that of the stream, that of the side, and those of the list.
in_parts : (closed : Option ℕ) (a b c : Bool) (p q r : Refusal) (going : Option ℕ) (protocol : Option Malformation) (list : List (Bool × Refusal))
    → or_later (closed_or closed (or_later (or_later (first_of ((a, p) ∷ (b, q) ∷ [])) (first_of (unless_going going []))) (or_later (first_of (unless_malformed protocol [])) (first_of ((c, r) ∷ []))))) (first_of list)
    ≡ closed_or closed (first_of ((a, p) ∷ (b, q) ∷ unless_going going (unless_malformed protocol ((c, r) ∷ list))))
in_parts (Some code) a b c p q r going protocol list = refl
in_parts None true b c p q r going protocol list = refl
in_parts None false true c p q r going protocol list = refl
in_parts None false false c p q r (Some id) protocol list = refl
in_parts None false false c p q r None (Some why) list = refl
in_parts None false false true p q r None None list = refl
in_parts None false false false p q r None None list = refl

-- of a trailer, also what was sent in front of it
in_more_parts : (closed : Option ℕ) (a b c : Bool) (p q r : Refusal) (protocol early : Option Malformation) (list : List (Bool × Refusal))
    → or_later (closed_or closed (or_later (first_of ((a, p) ∷ (b, q) ∷ [])) (or_later (or_later (first_of (unless_malformed protocol [])) (first_of ((c, r) ∷ []))) (option_map refusal.Malformed early)))) (first_of list)
    ≡ closed_or closed (first_of ((a, p) ∷ (b, q) ∷ unless_malformed protocol ((c, r) ∷ unless_malformed early list)))
in_more_parts (Some code) a b c p q r protocol early list = refl
in_more_parts None true b c p q r protocol early list = refl
in_more_parts None false true c p q r protocol early list = refl
in_more_parts None false false c p q r (Some why) early list = refl
in_more_parts None false false true p q r None early list = refl
in_more_parts None false false false p q r None None list = refl
in_more_parts None false false false p q r None (Some why) list = refl

-- Sending a head, as a list.
pub head_refusal_is : (s : EndpointState) (e : EndpointHistory) (id : ℕ) (head : Head) (fields : List Field) → StandsFor s e
    → or_later (head_refused s id head) (list_refused (broken_head_in s id fields) (settings_known s.announced s.peer.settings) fields) ≡ listed_head_refusal e id head fields
head_refusal_is s e id head fields h =
    let v = seen_in (kept_at s.requests id) in
    let broken = broken_head_in s id fields in
    in_parts s.closed (not v.is_open) (not v.takes_head) (not (is_for (other s.side) head)) refusal.NotOpen refusal.OutOfOrder refusal.WrongSide (sender_on s id).going (broken_protocol s.announced head) (of_list broken (settings_known s.announced s.peer.settings) fields)
    ∙ ap (λ c. closed_or c (refusal_of_head (sender_on s id) (broken_protocol s.announced head) broken head fields)) h.closed
    ∙ ap (λ v. closed_or e.closed (refusal_of_head v (broken_protocol s.announced head) broken head fields)) (sender_same s e id h)
    ∙ ap (λ own. closed_or e.closed (refusal_of_head (sender_at e id) (broken_protocol own head) broken head fields)) h.announced
    ∙ ap (λ b. closed_or e.closed (refusal_of_head (sender_at e id) (broken_protocol e.announced head) b head fields)) (broken_same s e id fields h)

-- Sending a trailer, as a list.
pub trailer_refusal_is : (s : EndpointState) (e : EndpointHistory) (id : ℕ) (head : Head) (fields : List Field) → StandsFor s e
    → or_later (trailer_refused s id head) (list_refused (broken_trailer s.announced fields) (settings_known s.announced s.peer.settings) fields) ≡ listed_trailer_refusal e id head fields
trailer_refusal_is s e id head fields h =
    let v = seen_in (kept_at s.requests id) in
    let broken = broken_trailer s.announced fields in
    let early = early_trailer (outgoing_in (kept_at s.requests id)).content in
    in_more_parts s.closed (not v.is_open) (not v.takes_body) (has_pseudo head) refusal.NotOpen refusal.OutOfOrder refusal.PseudoInTrailer (broken_protocol s.announced head) early (of_list broken (settings_known s.announced s.peer.settings) fields)
    ∙ ap (λ c. closed_or c (refusal_of_trailer (sender_on s id) (broken_protocol s.announced head) early broken head fields)) h.closed
    ∙ ap (λ v. closed_or e.closed (refusal_of_trailer v (broken_protocol s.announced head) early broken head fields)) (sender_same s e id h)
    ∙ ap (λ c. closed_or e.closed (refusal_of_trailer (sender_at e id) (broken_protocol s.announced head) (early_trailer c) broken head fields)) (content_same s e id h)
    ∙ ap (λ own. closed_or e.closed (refusal_of_trailer (sender_at e id) (broken_protocol own head) (early_trailer (outgoing_at e id).content) (broken_trailer own fields) head fields)) h.announced

-- What refuses a stream whatever is stored of it comes before the stream's own rules, and where nothing does, these are left.
pub critical_first : (closed : Option ℕ) (b : Bool) (rules : List (Bool × Refusal)) (r : Refusal) → closed_or closed (first_of (needed b ∷ [])) ≡ Some r → closed_or closed (first_of (needed b ∷ rules)) ≡ Some r
critical_first (Some code) b rules r is = is
critical_first None true rules r is = is
critical_first None false rules r is = absurd (cc)

pub critical_left : (closed : Option ℕ) (b : Bool) (rules : List (Bool × Refusal)) → closed_or closed (first_of (needed b ∷ [])) ≡ None → closed_or closed (first_of (needed b ∷ rules)) ≡ first_of rules
critical_left (Some code) b rules is = absurd (cc)
critical_left None true rules is = absurd (cc)
critical_left None false rules is = refl

-- Resetting.
open_same : (o : Option Outgoing) (r : Option RequestState) → SameSender o r → is_some r ≡ is_some o
open_same o r h = ap (λ v. v.is_open) (stream_same o r h)

pub reset_refusal_is : (s : EndpointState) (e : EndpointHistory) (id : ℕ) → StandsFor s e → reset_refused s id ≡ reset_refusal e id
reset_refusal_is s e id h =
    let there = kept_at s.requests id in
    let critical : is_critical_in s id ≡ is_critical_id e id = critical_stands s (streams_of s) e s.side id (is_critical_in s id) refl h (sym h.side) in
    ap (λ c. closed_or c (refusal_to_stop (is_critical_in s id) (is_some there) (sent.is_sent_off (outgoing_in there)))) h.closed
    ∙ ap (λ b. closed_or e.closed (refusal_to_stop b (is_some there) (sent.is_sent_off (outgoing_in there)))) critical
    ∙ ap (λ b. closed_or e.closed (refusal_to_stop (is_critical_id e id) b (sent.is_sent_off (outgoing_in there)))) (open_same (stream_at e.outgoing id) there (stored s e id h))
    ∙ ap (λ b. closed_or e.closed (refusal_to_stop (is_critical_id e id) (is_open e id) b)) (over_at (stream_at e.outgoing id) there (stored s e id h))

-- Going away.
pub goaway_refusal_is : (s : EndpointState) (e : EndpointHistory) (id : ℕ) → StandsFor s e → goaway_refused s id ≡ goaway_refusal e id
goaway_refusal_is s e id h = rw (h.closed, h.side, h.last_goaway) refl

-- No call is refused memory by its rules.
two_take_none : (a b : Bool) (p q : Refusal) → p ≢ refusal.OutOfMemory → q ≢ refusal.OutOfMemory → first_of ((a, p) ∷ (b, q) ∷ []) ≢ Some refusal.OutOfMemory
two_take_none true b p q h g is = h (cc)
two_take_none false true p q h g is = g (cc)
two_take_none false false p q h g is = absurd (cc)

three_take_none : (a b c : Bool) (p q r : Refusal) → p ≢ refusal.OutOfMemory → q ≢ refusal.OutOfMemory → r ≢ refusal.OutOfMemory → first_of ((a, p) ∷ (b, q) ∷ (c, r) ∷ []) ≢ Some refusal.OutOfMemory
three_take_none true b c p q r h g k is = h (cc)
three_take_none false b c p q r h g k is = two_take_none b c q r g k is

unless_it_closed : (closed : Option ℕ) (o : Option Refusal) → o ≢ Some refusal.OutOfMemory → closed_or closed o ≢ Some refusal.OutOfMemory
unless_it_closed (Some code) o h is = absurd (cc)
unless_it_closed None o h is = h is

pub open_takes_none : (s : EndpointState) → open_refused s ≢ Some refusal.OutOfMemory
open_takes_none s = unless_it_closed s.closed (refusal_to_open s.side (last_id s.peer.goaways) s.next_id) (by (not (is_client s.side)) (last_id s.peer.goaways) (nat_le (2 ^ 62) s.next_id))
  where
    used_up : (b : Bool) → (let rule : Option Refusal = if b then Some refusal.IdsUsedUp else None in rule) ≢ Some refusal.OutOfMemory
    used_up true is = absurd (cc)
    used_up false is = absurd (cc)

    by : (b : Bool) (last : Option ℕ) (far : Bool) → (let rule : Option Refusal = if b then Some refusal.NotClient else going_away last (if far then Some refusal.IdsUsedUp else None) in rule) ≢ Some refusal.OutOfMemory
    by true last far is = absurd (cc)
    by false (Some id) far is = absurd (cc)
    by false None far is = used_up far is

pub end_takes_none : (s : EndpointState) (id : ℕ) → end_refused s id ≢ Some refusal.OutOfMemory
end_takes_none s id =
    let v = seen_in (kept_at s.requests id) in
    unless_it_closed s.closed (end_refused_at (kept_at s.requests id))
    (three_take_none (not v.is_open) (not v.takes_end) (not (may_end (outgoing_in (kept_at s.requests id)).content)) refusal.NotOpen refusal.OutOfOrder (refusal.Malformed malformation.ContentLength)
    (λ same. absurd (cc)) (λ same. absurd (cc)) (λ same. absurd (cc)))

pub reset_takes_none : (s : EndpointState) (id : ℕ) → reset_refused s id ≢ Some refusal.OutOfMemory
reset_takes_none s id =
    let there = kept_at s.requests id in
    unless_it_closed s.closed (refusal_to_stop (is_critical_in s id) (is_some there) (sent.is_sent_off (outgoing_in there)))
    (three_take_none (is_critical_in s id) (not (is_some there)) (sent.is_sent_off (outgoing_in there)) refusal.Critical refusal.NotOpen refusal.Ended (λ same. absurd (cc)) (λ same. absurd (cc)) (λ same. absurd (cc)))

pub goaway_takes_none : (s : EndpointState) (id : ℕ) → goaway_refused s id ≢ Some refusal.OutOfMemory
goaway_takes_none s id = unless_it_closed s.closed (refusal_of_goaway s.side id s.last_goaway) (by (not (is_client s.side) && not (is_request_stream id)) s.last_goaway)
  where
    above : (b : Bool) (earlier : ℕ) → (let rule : Option Refusal = if b then Some (refusal.Raised earlier) else None in rule) ≢ Some refusal.OutOfMemory
    above true earlier is = absurd (cc)
    above false earlier is = absurd (cc)

    by : (b : Bool) (last : Option ℕ) → (let rule : Option Refusal = if b then Some refusal.NotRequestId else raised id last in rule) ≢ Some refusal.OutOfMemory
    by true last is = absurd (cc)
    by false None is = absurd (cc)
    by false (Some earlier) is = above (nat_lt earlier id) earlier is

pub body_takes_none : (s : EndpointState) (id size : ℕ) → body_refused s id size ≢ Some refusal.OutOfMemory
body_takes_none s id size =
    let v = seen_in (kept_at s.requests id) in
    unless_it_closed s.closed (data_refused_at (kept_at s.requests id) size)
    (three_take_none (not v.is_open) (not v.takes_body) (passes_content (outgoing_in (kept_at s.requests id)).content size) refusal.NotOpen refusal.OutOfOrder (refusal.Malformed malformation.ContentLength)
    (λ same. absurd (cc)) (λ same. absurd (cc)) (λ same. absurd (cc)))

-- what is refused in parts
later_takes_none : (o later : Option Refusal) → o ≢ Some refusal.OutOfMemory → later ≢ Some refusal.OutOfMemory → or_later o later ≢ Some refusal.OutOfMemory
later_takes_none None later h g is = g is
later_takes_none (Some r) later h g is = h is

one_takes_none : (b : Bool) (r : Refusal) → r ≢ refusal.OutOfMemory → first_of ((b, r) ∷ []) ≢ Some refusal.OutOfMemory
one_takes_none true r h is = h (cc)
one_takes_none false r h is = absurd (cc)

rule_takes_none : (why : Option Malformation) → option_map refusal.Malformed why ≢ Some refusal.OutOfMemory
rule_takes_none None is = absurd (cc)
rule_takes_none (Some why) is = absurd (cc)

pub going_takes_none : (going : Option ℕ) → first_of (unless_going going []) ≢ Some refusal.OutOfMemory
going_takes_none None is = absurd (cc)
going_takes_none (Some id) is = absurd (cc)

malformed_takes_none : (why : Option Malformation) → first_of (unless_malformed why []) ≢ Some refusal.OutOfMemory
malformed_takes_none None is = absurd (cc)
malformed_takes_none (Some why) is = absurd (cc)

pub head_takes_none : (s : EndpointState) (id : ℕ) (head : Head) → head_refused s id head ≢ Some refusal.OutOfMemory
head_takes_none s id head =
    let v = seen_in (kept_at s.requests id) in
    unless_it_closed s.closed (or_later (head_refused_in s id) (own_head_refused s.announced s.side head)) (later_takes_none (head_refused_in s id) (own_head_refused s.announced s.side head)
    (later_takes_none (head_refused_at (kept_at s.requests id)) (going_refused s)
    (two_take_none (not v.is_open) (not v.takes_head) refusal.NotOpen refusal.OutOfOrder (λ same. absurd (cc)) (λ same. absurd (cc)))
    (going_takes_none (sender_on s id).going))
    (later_takes_none (protocol_refused s.announced head) (side_refused s.side head) (malformed_takes_none (broken_protocol s.announced head))
    (one_takes_none (not (is_for (other s.side) head)) refusal.WrongSide (λ same. absurd (cc)))))

pub trailer_takes_none : (s : EndpointState) (id : ℕ) (trailer : Head) → trailer_refused s id trailer ≢ Some refusal.OutOfMemory
trailer_takes_none s id trailer =
    let v = seen_in (kept_at s.requests id) in
    let early = early_trailer_at (kept_at s.requests id) in
    let own = own_trailer_refused s.announced trailer in
    unless_it_closed s.closed (or_later (body_refused_at (kept_at s.requests id)) (or_later own early)) (later_takes_none (body_refused_at (kept_at s.requests id)) (or_later own early)
    (two_take_none (not v.is_open) (not v.takes_body) refusal.NotOpen refusal.OutOfOrder (λ same. absurd (cc)) (λ same. absurd (cc)))
    (later_takes_none own early
    (later_takes_none (protocol_refused s.announced trailer) (pseudo_refused trailer) (malformed_takes_none (broken_protocol s.announced trailer)) (one_takes_none (has_pseudo trailer) refusal.PseudoInTrailer (λ same. absurd (cc)))) (rule_takes_none (early_trailer (outgoing_in (kept_at s.requests id)).content))))
