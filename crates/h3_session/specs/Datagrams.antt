-- HTTP Datagrams (RFC 9297, section 2): what stands in front of the payload of one that is sent, and which stream one is for that came.
use Rattle.std.specs.Prelude.{◌≡◌, ℕ, ◌-◌, Bool, true, false, not, ◌==◌, ◌&&◌, ◌||◌, List, length, if◌then◌else◌, Option, Some, None, unwrap_or, option_map, Result, Ok, Err}
use Rattle.h3_capsule.specs.Datagram.{datagram_head as head_bytes, datagram_of}
use Rattle.h3_proto.specs.Settings.{value_of}
use Rattle.h3_proto.specs.StreamIds.{is_request_stream}
use Rattle.h3_connection.specs.Arrivals.{is_closed_in}
use Rattle.h3_connection.specs.declared.arrival.Arrival.{Arrival}
use Rattle.h3_connection.specs.Endpoint.{EndpointHistory}
use Rattle.h3_connection.specs.Incoming.{Incoming}
use Rattle.h3_connection.specs.Keeping.{is_settled_request}
use Rattle.h3_connection.specs.Outgoing.{is_unended}
use Rattle.h3_connection.specs.ReadingContracts.{Shows}
use Rattle.h3_connection.specs.Remembering.{settings_known}
use Rattle.h3_connection.specs.State.{EndpointState, StandsFor}
use Rattle.h3_connection.specs.StreamSets.{stream_at}
use Rattle.h3_connection.specs.declared.event.Refusal.TheVariants as refusal
use Rattle.h3_outgoing.specs.Sent.{is_open}
use Rattle.h3_session.specs.Refused.{sender_in}
use Rattle.h3_session.specs.declared.endpoint.datagrams.DatagramError.{DatagramError}
use Rattle.h3_session.specs.declared.endpoint.datagrams.DatagramError.TheVariants.{Refused, NoDatagrams}
use Rattle.h3_session.specs.declared.endpoint.datagrams.DatagramRead.{DatagramRead}
use Rattle.h3_session.specs.declared.endpoint.datagrams.DatagramRead.TheVariants.{For, Early, Late, Off, Fault}

-- A side supports datagrams that announces SETTINGS_H3_DATAGRAM with the value 1 (section 2.1.1).
abbrev pub announces : List (ℕ × ℕ) → Bool
announces pairs = unwrap_or (value_of 0x33 pairs) 0 == 1

-- It is unknown of a peer until its settings came: of the two, this is what is known.
abbrev pub peer_announces : Option (List (ℕ × ℕ)) → Bool
peer_announces None = false
peer_announces (Some pairs) = announces pairs

abbrev pub peer_has_none : Option (List (ℕ × ℕ)) → Bool
peer_has_none None = false
peer_has_none (Some pairs) = not (announces pairs)

-- Sending. None is sent before both sides announced it, and none unless the sending part of the request's stream is open (section 2.1): whether it
-- is, where the stream is there.
abbrev pub unless_ended : Option Bool → Option DatagramError
unless_ended None = Some (Refused refusal.NotOpen)
unless_ended (Some opened) = if opened then None else Some (Refused refusal.Ended)

abbrev pub unless_closed : Option ℕ → Option DatagramError → Option DatagramError
unless_closed (Some code) later = Some (Refused (refusal.Closed code))
unless_closed None later = later

abbrev pub refusal_by : Option ℕ → (is_request is_announced : Bool) → Option Bool → Option DatagramError
refusal_by closed is_request is_announced sending =
    unless_closed closed (if is_request then (if is_announced then unless_ended sending else Some NoDatagrams) else Some (Refused refusal.NotRequestId))

abbrev pub datagram_refusal : EndpointHistory → ℕ → Option DatagramError
datagram_refusal e id =
    refusal_by e.closed (is_request_stream id) (announces e.announced.settings && peer_announces (settings_known e.announced e.peer.settings)) (option_map is_unended (stream_at e.outgoing id))

-- the same, by what is stored
abbrev pub datagram_refused : EndpointState → ℕ → Option DatagramError
datagram_refused s id =
    refusal_by s.closed (is_request_stream id) (announces s.announced.settings && peer_announces (settings_known s.announced s.peer.settings)) (option_map is_open (sender_in s id))

-- what stands in front of its payload, or the first refusal
abbrev pub unless_refused : Option DatagramError → List ℕ → Result (List ℕ) DatagramError
unless_refused None bytes = Ok bytes
unless_refused (Some error) bytes = Err error

abbrev pub datagram_head : EndpointHistory → ℕ → Result (List ℕ) DatagramError
datagram_head e id = unless_refused (datagram_refusal e id) (head_bytes id)

-- `datagram_head`
abbrev pub ShowsDatagramHead : EndpointState → ℕ → Result (List ℕ) DatagramError → Type 0
ShowsDatagramHead s id result = Shows (λ e. datagram_head e id) s result

-- Receiving. The receiving part of a stream is closed: its end or a reset was delivered, it was pulled to its end, or it was given up.
abbrev pub is_late : List Arrival → ℕ → Incoming → Bool
is_late kept id i = ((i.ended || i.was_reset) || is_closed_in kept id) || is_settled_request (Some i)

-- It is early for a stream that is not there, and before it is known that the peer may send any; then it is for the stream, from this place on.
abbrev pub if_known : Option (List (ℕ × ℕ)) → ℕ → ℕ → DatagramRead
if_known None id from = Early id
if_known (Some pairs) id from = For id from

abbrev pub datagram_at : List Arrival → Option (List (ℕ × ℕ)) → ℕ → ℕ → Option Incoming → DatagramRead
datagram_at kept settings id from None = Early id
datagram_at kept settings id from (Some i) = if is_late kept id i then Late else if_known settings id from

-- H3_DATAGRAM_ERROR (section 5.2)
abbrev pub datagram_error : ℕ
datagram_error = 0x33

-- A datagram whose quarter of an id is not whole, or is of no id, closes the connection (section 2.1).
abbrev pub quarter_read : EndpointHistory → List ℕ → Option (ℕ × List ℕ) → DatagramRead × EndpointHistory
quarter_read e bytes None = (Fault datagram_error, record e { closed = Some datagram_error })
quarter_read e bytes (Some d) = (datagram_at e.kept e.peer.settings d.0 (length bytes - length d.1) (stream_at e.incoming d.0), e)

-- Where one of the sides announced none, what came is no HTTP Datagram.
abbrev pub is_off : List (ℕ × ℕ) → Option (List (ℕ × ℕ)) → Bool
is_off own peer = not (announces own) || peer_has_none peer

abbrev pub unless_off : Bool → EndpointHistory → List ℕ → DatagramRead × EndpointHistory
unless_off true e bytes = (Off, e)
unless_off false e bytes = quarter_read e bytes (datagram_of bytes)

abbrev pub read_unless : Option ℕ → EndpointHistory → List ℕ → DatagramRead × EndpointHistory
read_unless None e bytes = unless_off (is_off e.announced.settings e.peer.settings) e bytes
read_unless (Some code) e bytes = (Fault code, e)

-- A datagram comes: it takes no memory, and changes nothing but that a fault closes the connection.
abbrev pub read_datagram : EndpointHistory → List ℕ → DatagramRead × EndpointHistory
read_datagram e bytes = read_unless e.closed e bytes

-- `read_datagram`
abbrev pub ReadsDatagram : EndpointState → EndpointState → List ℕ → DatagramRead → Type 0
ReadsDatagram old new bytes result = (e : EndpointHistory) → StandsFor old e → (result ≡ (read_datagram e bytes).0) × StandsFor new (read_datagram e bytes).1

-- An endpoint on which the datagrams of a stream are for it: both sides announced them, and the receiving part of the stream is open.
pub record TakesDatagrams (e : EndpointHistory) (id : ℕ) : Type 0 where
  pub closed : e.closed ≡ None
  pub own : announces e.announced.settings ≡ true
  pub settings : List (ℕ × ℕ)
  pub came : e.peer.settings ≡ Some settings
  pub theirs : announces settings ≡ true
  pub stream : Incoming
  pub there : stream_at e.incoming id ≡ Some stream
  pub receives : is_late e.kept id stream ≡ false
