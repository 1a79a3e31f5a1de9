-- Calls of a sender, and the pulls and cancellations of a receiver, with their refusals in order.
use Rattle.std.specs.Prelude.{ℕ, ◌+◌, ◌-◌, ◌^◌, min, Bool, true, false, not, ◌||◌, List, [], ◌∷◌, ◌++◌, codes, length, slice_index, if◌then◌else◌, ◌==◌, nat_lt, Option, Some, None, is_some, unwrap_or}
use Rattle.h3_field.specs.Field.{Field}
use Rattle.h3_qpack.specs.SectionEncoding.{sent_section}
use Rattle.h3_connection.specs.Remembering.{settings_known}
use Rattle.h3_connection.specs.Refusals.{Sender, SenderStream, seen, refusal_of_head, refusal_of_body, refusal_of_trailer, refusal_of_end, refusal_to_stop, refusal_to_open, refusal_of_goaway}
use Rattle.h3_connection.specs.Sections.{written_section, own_instructions}
use Rattle.h3_connection.specs.Pulling.{is_client, is_interim}
use Rattle.h3_connection.specs.Lasts.{last_id}
use Rattle.h3_header.specs.Head.{Head, head_fields}
use Rattle.h3_connection.specs.OwnIds.{control_id, encoder_id, decoder_id}
use Rattle.h3_proto.specs.declared.stream.Side.{Side}
use Rattle.h3_proto.specs.declared.stream.Side.TheVariants.{Client, Server}
use Rattle.h3_connection.specs.declared.event.Refusal.{Refusal}
use Rattle.h3_connection.specs.declared.event.Refusal.TheVariants as refusal
use Rattle.h3_connection.specs.declared.event.Pull.{Pull}
use Rattle.h3_connection.specs.declared.event.Pull.TheVariants as answer
use Rattle.h3_connection.specs.declared.event.Fault.{Fault}
use Rattle.h3_connection.specs.declared.event.Fault.TheVariants as fault
use Rattle.h3_connection.specs.declared.event.StreamFault.TheVariants as stream_fault
use Rattle.h3_connection.specs.Codes.{decompression_failed}
use Rattle.h3_connection.specs.StreamSets.{Streams, stream_at, set_stream}
use Rattle.h3_connection.specs.StrictConnection.{begins_none_after}
use Rattle.h3_connection.specs.StrictSending.{broken_head, broken_protocol, broken_trailer, early_trailer, passes_content}
use Rattle.h3_connection.specs.FirstAbove.{first_above}
use Rattle.h3_connection.specs.Order.{turn_over}
use Rattle.h3_connection.specs.declared.order.SendOrder.{SendOrder}
use Rattle.h3_connection.specs.Incoming.{Incoming, having_told}
use Rattle.h3_messages.specs.Content.{may_end}
use Rattle.h3_messages.specs.Messages.{value_of}
use Rattle.h3_messages.specs.OwnMessages.{content_of_own_request, content_of_own_response}
use Rattle.h3_messages.specs.declared.content.Content.{Content}
use Rattle.h3_messages.specs.declared.content.Content.TheVariants.{Tunnel, Unsaid}
use Rattle.h3_connection.specs.Pulling.{Pulled, pull_stream}
use Rattle.h3_connection.specs.Unidirectional.{Unidirectional, pull_unidirectional}
use Rattle.h3_connection.specs.Outgoing.{Outgoing, OwnPart, nothing_sent, is_sent_off, with_body, with_finish, with_reset, with_said}
use Rattle.h3_connection.specs.Outgoing.OwnPart.{OwnInterim, OwnHead, OwnTrailer}
use Rattle.h3_connection.specs.Endpoint.{EndpointHistory, Kind, Own, replied, kind_of, is_critical_id, heads_waiting}
use Rattle.h3_connection.specs.Endpoint.Kind.{Request, PeerUnidirectional}
use Rattle.h3_connection.specs.Delivering.{with_incoming, with_unidirectional, give_up, incoming_at, opened_at}
use Rattle.h3_connection.specs.declared.event.Malformation.{Malformation}

-- a refusal with nothing changed, or the endpoint after success
abbrev pub does : Option Refusal → EndpointHistory → EndpointHistory → Option Refusal × EndpointHistory
does (Some r) old new = (Some r, old)
does None old new = (None, new)

abbrev pub closed_or : Option ℕ → Option Refusal → Option Refusal
closed_or (Some code) refused = Some (refusal.Closed code)
closed_or None refused = refused

-- after a connection fault nothing is done
abbrev pub unless_closed : EndpointHistory → Option Refusal → Option Refusal
unless_closed e refused = closed_or e.closed refused

abbrev pub open_refusal : EndpointHistory → Option Refusal
open_refusal e = unless_closed e (refusal_to_open e.side (last_id e.peer.goaways) e.next_id)

abbrev pub open_request : EndpointHistory → Option Refusal × EndpointHistory
open_request e = does (open_refusal e) e (record (opened_at e e.next_id None) { next_id = e.next_id + 4 })

abbrev pub outgoing_at : EndpointHistory → ℕ → Outgoing
outgoing_at e id = unwrap_or (stream_at e.outgoing id) nothing_sent

abbrev pub is_open : EndpointHistory → ℕ → Bool
is_open e id = is_some (stream_at e.outgoing id)

-- a stream as its sender sees it, and the sender on it
abbrev pub seen_at : EndpointHistory → ℕ → SenderStream
seen_at e id = seen (is_open e id) (outgoing_at e id)

abbrev pub sender_at : EndpointHistory → ℕ → Sender
sender_at e id =
    record { side = e.side; stream = seen_at e id; settings = settings_known e.announced e.peer.settings; going = begins_none_after e.announced e.side (last_id e.peer.goaways) }

-- A server knows what was asked once it read the request's head
abbrev pub known_of : Option Incoming → Option Content
known_of None = None
known_of (Some i) = i.response

-- the rule that a list breaks as a head that is sent on a stream
abbrev pub broken_head_at : EndpointHistory → ℕ → List Field → Option Malformation
broken_head_at e id fields = broken_head e.side e.announced (settings_known e.announced e.peer.settings) (known_of (stream_at e.incoming id)) fields

abbrev pub head_refusal : EndpointHistory → ℕ → Head → Option Refusal
head_refusal e id head =
    unless_closed e
    (refusal_of_head (sender_at e id) (broken_protocol e.announced head) (broken_head_at e id (head_fields head)) head (head_fields head))

-- a body of so many bytes
abbrev pub body_refusal : EndpointHistory → ℕ → ℕ → Option Refusal
body_refusal e id size = unless_closed e (refusal_of_body (seen_at e id) (passes_content (outgoing_at e id).content size))

abbrev pub trailer_refusal : EndpointHistory → ℕ → Head → Option Refusal
trailer_refusal e id head =
    unless_closed e
    (refusal_of_trailer (sender_at e id) (broken_protocol e.announced head) (early_trailer (outgoing_at e id).content) (broken_trailer e.announced (head_fields head)) head (head_fields head))

abbrev pub finish_refusal : EndpointHistory → ℕ → Option Refusal
finish_refusal e id = unless_closed e (refusal_of_end (seen_at e id) (not (may_end (outgoing_at e id).content)))

abbrev pub with_outgoing : EndpointHistory → ℕ → Outgoing → EndpointHistory
with_outgoing e id o = record e { outgoing = set_stream e.outgoing id o }

abbrev pub appended : EndpointHistory → ℕ → OwnPart → EndpointHistory
appended e id part = with_outgoing e id (record (outgoing_at e id) { parts = (outgoing_at e id).parts ++ part ∷ [] })

-- the bytes of names and values, and 64 for each field
abbrev pub fields_cost : List Field → ℕ
fields_cost [] = 0
fields_cost (f ∷ fields) = length f.name + length f.value + 64 + fields_cost fields

-- one more call was accepted, with so many bytes to send
abbrev pub counted : EndpointHistory → ℕ → EndpointHistory
counted e cost = record e { sent = e.sent + cost + 64 }

-- a section goes out: its bytes on the stream, its instructions on the encoder stream
abbrev pub encoded : EndpointHistory → ℕ → List Field → EndpointHistory
encoded e id fields =
    record e {
      encoder = sent_section e.encoder id fields;
      own = record e.own { instructions = e.own.instructions ++ own_instructions e.encoder id fields };
    }

-- RFC 9110 15.2: interim responses, as 103, sent
-- a head with a status from 100 to 199 is not the last one
abbrev pub head_part : Head → List ℕ → OwnPart
head_part head section = if is_interim head.status then OwnInterim section else OwnHead section

-- An endpoint that asks for strict messages goes by its own head in what it reads on the stream
abbrev pub telling_at : Side → Streams Incoming → ℕ → List Field → Option Incoming → Streams Incoming
telling_at side streams id fields None = streams
telling_at side streams id fields (Some i) = set_stream streams id (having_told side i fields)

-- Where it is not known what was asked, a 2xx response may be one to CONNECT, behind which no trailer comes (RFC 9114, section 4.4)
abbrev pub content_of_unasked : List Field → Content
content_of_unasked fields = if slice_index (value_of (codes ":status") fields) 0 == 50 then Tunnel else Unsaid

-- How much content follows a head that is sent (RFC 9114, section 4.1.2): that of a request says it, and that of a response where it is known
-- what was asked
abbrev pub content_of_response_to : Option Content → List Field → Content
content_of_response_to None fields = content_of_unasked fields
content_of_response_to (Some awaited) fields = content_of_own_response awaited fields

abbrev pub content_of_own : Side → Option Content → List Field → Content
content_of_own Client known fields = content_of_own_request fields
content_of_own Server known fields = content_of_response_to known fields

abbrev pub saying_at : Streams Outgoing → ℕ → Content → Option Outgoing → Streams Outgoing
saying_at streams id said None = streams
saying_at streams id said (Some o) = set_stream streams id (with_said o said)

abbrev pub asked : EndpointHistory → ℕ → List Field → EndpointHistory
asked e id fields =
    record e {
      incoming = if e.announced.choices.strict_messages then telling_at e.side e.incoming id fields (stream_at e.incoming id) else e.incoming;
      outgoing = if e.announced.choices.strict_messages then saying_at e.outgoing id (content_of_own e.side (known_of (stream_at e.incoming id)) fields) (stream_at e.outgoing id) else e.outgoing;
    }

abbrev pub send_head : EndpointHistory → ℕ → Head → Option Refusal × EndpointHistory
send_head e id head = does (head_refusal e id head) e (asked (
    counted (appended (encoded e id (head_fields head)) id (head_part head (written_section e.encoder id (head_fields head)))) (fields_cost (head_fields head)))
    id (head_fields head))

abbrev pub sent_bytes : EndpointHistory → ℕ → List ℕ → EndpointHistory
sent_bytes e id [] = e
sent_bytes e id (byte ∷ bytes) = with_outgoing e id (with_body (outgoing_at e id) (byte ∷ bytes))

abbrev pub send_body : EndpointHistory → ℕ → List ℕ → Option Refusal × EndpointHistory
send_body e id bytes = does (body_refusal e id (length bytes)) e (counted (sent_bytes e id bytes) (length bytes))

abbrev pub send_trailer : EndpointHistory → ℕ → Head → Option Refusal × EndpointHistory
send_trailer e id head = does (trailer_refusal e id head) e (
    counted (appended (encoded e id (head_fields head)) id (OwnTrailer (written_section e.encoder id (head_fields head)))) (fields_cost (head_fields head)))

abbrev pub finish : EndpointHistory → ℕ → Option Refusal × EndpointHistory
finish e id = does (finish_refusal e id) e (with_outgoing e id (with_finish (outgoing_at e id)))

abbrev pub reset_refusal : EndpointHistory → ℕ → Option Refusal
reset_refusal e id = unless_closed e (refusal_to_stop (is_critical_id e id) (is_open e id) (is_sent_off (outgoing_at e id)))

abbrev pub reset : EndpointHistory → ℕ → Option Refusal × EndpointHistory
reset e id = does (reset_refusal e id) e (with_outgoing e id (with_reset (outgoing_at e id)))

abbrev pub goaway_refusal : EndpointHistory → ℕ → Option Refusal
goaway_refusal e id = unless_closed e (refusal_of_goaway e.side id (last_id e.own.goaways))

abbrev pub goaway : EndpointHistory → ℕ → Option Refusal × EndpointHistory
goaway e id = does (goaway_refusal e id) e (record e { own = record e.own { goaways = e.own.goaways ++ id ∷ [] } })

-- so many bytes of what waits are taken
abbrev pub own_advanced : Own → Side → ℕ → ℕ → Own
own_advanced own side id count =
    if id == control_id side then record own { control_taken = own.control_taken + count } else (
    if id == encoder_id side then record own { encoder_taken = own.encoder_taken + count } else (
    if id == decoder_id side then record own { decoder_taken = own.decoder_taken + count } else own))

-- once bytes of a stream were taken its turn is over, as all that are open are below the bound (a number of 64 bits, and no id has more than 62)
abbrev pub turned : SendOrder → ℕ → ℕ → Outgoing → ℕ → SendOrder
turned order id count o bound = if count == 0 then order else record order { rounds = turn_over order.rounds o.precedence.priority id bound }

abbrev pub order_after : EndpointHistory → ℕ → ℕ → Option Outgoing → SendOrder
order_after e id count (Some o) = turned e.order id count o (min (first_above e.incoming) (2 ^ 64 - 1))
order_after e id count None = e.order

-- the bytes go
abbrev pub take_at : EndpointHistory → ℕ → ℕ → Option Outgoing → EndpointHistory
take_at e id count (Some o) = with_outgoing e id (record o { taken = o.taken + count })
take_at e id count None = record e { own = own_advanced e.own e.side id count }

abbrev pub advance_at : EndpointHistory → ℕ → ℕ → Option Outgoing → EndpointHistory
advance_at e id count there = record (take_at e id count there) { order = order_after e id count there }

abbrev pub advance : EndpointHistory → ℕ → ℕ → EndpointHistory
advance e id count = advance_at e id count (stream_at e.outgoing id)

abbrev pub cancel_refusal : EndpointHistory → ℕ → Option Refusal
cancel_refusal e id = unless_closed e (
    refusal_to_stop (is_critical_id e id) (is_some (stream_at e.incoming id)) ((incoming_at e id).is_over || is_some (incoming_at e id).fault))

abbrev pub cancel : EndpointHistory → ℕ → Option Refusal × EndpointHistory
cancel e id = does (cancel_refusal e id) e (give_up e id (incoming_at e id) stream_fault.Canceled)

-- A connection fault closes the endpoint, and any other answer does not.
abbrev pub after_fault : Fault → EndpointHistory → Pull × EndpointHistory
after_fault (fault.Connection code) e = (answer.Fault (fault.Connection code), record e { closed = Some code })
after_fault f e = (answer.Fault f, e)

abbrev pub after_answer : Pull → EndpointHistory → Pull × EndpointHistory
after_answer (answer.Fault f) e = after_fault f e
after_answer given e = (given, e)

-- One stream too many would wait.
abbrev pub if_too_many : Bool → Pulled → Pulled
if_too_many true p = record p { answer = answer.Fault (fault.Connection decompression_failed); incoming = record p.incoming { waits_for = 0 } }
if_too_many false p = p

-- RFC 9204 2.1.2: limit of blocked streams, at the decoder
abbrev pub within_limit : EndpointHistory → ℕ → Pulled → Pulled
within_limit e id p = if_too_many (nat_lt e.announced.limits.blocked (heads_waiting e.decoding.decoder (set_stream e.incoming id p.incoming))) p

abbrev pub pulled : EndpointHistory → ℕ → Pulled → Pull × EndpointHistory
pulled e id p = after_answer p.answer (replied (with_incoming e id p.incoming) p.replies)

abbrev pub pull_request : EndpointHistory → ℕ → Option Incoming → Pull × EndpointHistory
pull_request e id None = ((if is_client e.side then answer.NoMessages else answer.Pending), e)
pull_request e id (Some i) = pulled e id (within_limit e id (pull_stream e.side e.announced id e.decoding.decoder i))

abbrev pub pulled_unidirectional : EndpointHistory → ℕ → Pull × Unidirectional → Pull × EndpointHistory
pulled_unidirectional e id (given, o) = (given, with_unidirectional e id o)

abbrev pub pull_peer : EndpointHistory → ℕ → Option Unidirectional → Pull × EndpointHistory
pull_peer e id None = (answer.Pending, e)
pull_peer e id (Some o) = pulled_unidirectional e id (pull_unidirectional o o.role)

abbrev pub pull_at : EndpointHistory → ℕ → Kind → Pull × EndpointHistory
pull_at e id Request = pull_request e id (stream_at e.incoming id)
pull_at e id PeerUnidirectional = pull_peer e id (stream_at e.unidirectional id)
pull_at e id _ = (answer.NoMessages, e)

abbrev pub pull_unless : Option ℕ → EndpointHistory → Pull × EndpointHistory → Pull × EndpointHistory
pull_unless (Some code) e later = (answer.Fault (fault.Connection code), e)
pull_unless None e later = later

-- What comes next on a stream.
abbrev pub pull : EndpointHistory → ℕ → Pull × EndpointHistory
pull e id = pull_unless e.closed e (pull_at e id (kind_of e.side id))
