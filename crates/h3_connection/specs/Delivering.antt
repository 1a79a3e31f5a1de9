-- What deliveries of any bytes, ends and resets do.
use Rattle.std.specs.Prelude.{ℕ, Bool, true, false, ◌||◌, List, [], ◌∷◌, if◌then◌else◌, Option, Some, None, is_some, unwrap_or}
use Rattle.h3_field.specs.Instruction.{DecoderInstruction}
use Rattle.h3_field.specs.Instruction.DecoderInstruction.{CancelStream}
use Rattle.h3_frames.specs.Pieces.{with_piece}
use Rattle.h3_proto.specs.declared.stream.Side.{Side}
use Rattle.h3_proto.specs.declared.stream.Side.TheVariants.{Client, Server}
use Rattle.h3_connection.specs.declared.event.Refusal.{Refusal}
use Rattle.h3_connection.specs.declared.event.Refusal.TheVariants as refusal
use Rattle.h3_connection.specs.declared.event.StreamFault.{StreamFault}
use Rattle.h3_connection.specs.declared.event.StreamFault.TheVariants as stream_fault
use Rattle.h3_connection.specs.Codes.{stream_creation_error, closed_critical_stream, id_error}
use Rattle.h3_connection.specs.StreamSets.{stream_at, set_stream}
use Rattle.h3_connection.specs.Incoming.{Incoming, nothing_came, given_up}
use Rattle.h3_connection.specs.Outgoing.{nothing_sent}
use Rattle.h3_connection.specs.Unidirectional.{Unidirectional, Role, untold, is_closed, reset_with, is_critical, role_after, with_bytes}
use Rattle.h3_connection.specs.StrictConnection.{known_streams, session_fault}
use Rattle.h3_connection.specs.Unidirectional.Role.{Control, Encoder, Decoder, Push, Session}
use Rattle.h3_connection.specs.Endpoint.{EndpointHistory, Kind, replied, is_second, kind_of}
use Rattle.h3_connection.specs.Endpoint.Kind.{Request, ServerOpened, OwnUnidirectional, PeerUnidirectional}
use Rattle.h3_connection.specs.Control.{Found, read_control, read_encoder, read_decoder}

-- the endpoint after its first connection fault, which the call answers
abbrev pub closed_by : Found → Option Refusal × EndpointHistory
closed_by (e, None) = (None, e)
closed_by (e, Some code) = (Some (refusal.Connection code), record e { closed = Some code })

abbrev pub with_unidirectional : EndpointHistory → ℕ → Unidirectional → EndpointHistory
with_unidirectional e id o = record e { unidirectional = set_stream e.unidirectional id o }

abbrev pub with_incoming : EndpointHistory → ℕ → Incoming → EndpointHistory
with_incoming e id i = record e { incoming = set_stream e.incoming id i }

-- a request stream of which nothing came is opened by what comes first
abbrev pub opened_at : EndpointHistory → ℕ → Option Incoming → EndpointHistory
opened_at e id (Some i) = e
opened_at e id None = record e { incoming = set_stream e.incoming id nothing_came; outgoing = set_stream e.outgoing id nothing_sent }

abbrev pub opened : EndpointHistory → ℕ → EndpointHistory
opened e id = opened_at e id (stream_at e.incoming id)

abbrev pub incoming_at : EndpointHistory → ℕ → Incoming
incoming_at e id = unwrap_or (stream_at e.incoming id) nothing_came

abbrev pub unidirectional_at : EndpointHistory → ℕ → Unidirectional
unidirectional_at e id = unwrap_or (stream_at e.unidirectional id) untold

-- Why a delivery is refused before anything of it is taken.
abbrev pub closed_refusal : Bool → Option Refusal
closed_refusal is_closed = if is_closed then Some refusal.AfterEnd else None

abbrev pub request_refusal : Side → Option Incoming → Option Refusal
request_refusal Client None = Some refusal.NotOpen
request_refusal Server None = None
request_refusal side (Some i) = closed_refusal (i.ended || i.was_reset)

abbrev pub server_opened_refusal : Side → Option Refusal
server_opened_refusal Client = None
server_opened_refusal Server = Some refusal.NotOpen

abbrev pub refusal_at : EndpointHistory → ℕ → Kind → Option Refusal
refusal_at e id Request = request_refusal e.side (stream_at e.incoming id)
refusal_at e id ServerOpened = server_opened_refusal e.side
refusal_at e id OwnUnidirectional = Some refusal.NotReceiving
refusal_at e id PeerUnidirectional = closed_refusal (is_closed (unidirectional_at e id))

abbrev pub delivery_refusal : EndpointHistory → ℕ → Option Refusal
delivery_refusal e id = refusal_at e id (kind_of e.side id)

-- The kept fault, or a refusal with nothing changed, or else what the delivery does.
abbrev pub taken : Option ℕ → Option Refusal → EndpointHistory → Found → Option Refusal × EndpointHistory
taken (Some code) refused e found = (Some (refusal.Connection code), e)
taken None (Some r) e found = (Some r, e)
taken None None e found = closed_by found

abbrev pub push_code : Side → ℕ
push_code Client = id_error
push_code Server = stream_creation_error

-- the first stream of its role is read, and a second one is a fault
abbrev pub unless_second : Bool → EndpointHistory → Found → Found
unless_second true e found = (e, Some stream_creation_error)
unless_second false e found = found

-- RFC 9114 6.2.1: a second control stream
abbrev pub only_one : Option ℕ → ℕ → EndpointHistory → Found → Found
only_one first id e found = unless_second (is_second first id) e found

-- bytes for a role
abbrev pub heard_as : EndpointHistory → ℕ → Role → List ℕ → Found
heard_as e id Control bytes = only_one e.control_on id e (read_control (record e { control_on = Some id }) bytes)
heard_as e id Encoder bytes = only_one e.encoder_on id e (read_encoder (record e { encoder_on = Some id }) bytes)
heard_as e id Decoder bytes = only_one e.decoder_on id e (read_decoder (record e { decoder_on = Some id }) bytes)
heard_as e id (Push push) bytes = (e, Some (push_code e.side))
heard_as e id (Session session) bytes = (e, session_fault e.announced session)
heard_as e id _ bytes = (e, None)

-- bytes of a unidirectional stream
abbrev pub read_unidirectional : EndpointHistory → ℕ → Unidirectional → Role × List ℕ → Found
read_unidirectional e id o (role, bytes) = heard_as (with_unidirectional e id (with_bytes o (role, bytes))) id role bytes

-- what is thrown away of a stream that was given up, else kept
abbrev pub kept : Incoming → List ℕ → Incoming
kept i bytes = record i { unread = if is_some i.fault then [] else with_piece i.unread bytes }

-- its end came
abbrev pub with_end : Incoming → Incoming
with_end i = record i { ended = true }

abbrev pub bytes_at : EndpointHistory → ℕ → List ℕ → Kind → Found
bytes_at e id bytes Request = (with_incoming (opened e id) id (kept (incoming_at e id) bytes), None)
bytes_at e id bytes ServerOpened = (e, Some stream_creation_error)
bytes_at e id bytes OwnUnidirectional = (e, None)
bytes_at e id bytes PeerUnidirectional = read_unidirectional e id (unidirectional_at e id) (role_after (known_streams e.announced) (unidirectional_at e id).role bytes)

-- Bytes come on a stream.
abbrev pub deliver : EndpointHistory → ℕ → List ℕ → Option Refusal × EndpointHistory
deliver e id bytes = taken e.closed (delivery_refusal e id) e (bytes_at e id bytes (kind_of e.side id))

-- RFC 9114 6.2.1: a critical stream closed by the peer
abbrev pub closing : EndpointHistory → ℕ → Unidirectional → Found
closing e id o = (with_unidirectional e id o, if is_critical o.role then Some closed_critical_stream else None)

abbrev pub end_at : EndpointHistory → ℕ → Kind → Found
end_at e id Request = (with_incoming (opened e id) id (with_end (incoming_at e id)), None)
end_at e id ServerOpened = (e, Some stream_creation_error)
end_at e id OwnUnidirectional = (e, None)
end_at e id PeerUnidirectional = closing e id (record (unidirectional_at e id) { ended = true })

-- The end of a stream comes.
abbrev pub deliver_end : EndpointHistory → ℕ → Option Refusal × EndpointHistory
deliver_end e id = taken e.closed (delivery_refusal e id) e (end_at e id (kind_of e.side id))

-- A stream is given up once. The first time, its sender's encoder is told.
abbrev pub given_up_by : Incoming → StreamFault → Option StreamFault → Incoming
given_up_by i fault (Some first) = i
given_up_by i fault None = given_up i fault

abbrev pub given_up_once : Incoming → StreamFault → Incoming
given_up_once i fault = given_up_by i fault i.fault

abbrev pub cancellation : ℕ → Option StreamFault → List DecoderInstruction
cancellation id (Some first) = []
cancellation id None = CancelStream id ∷ []

abbrev pub give_up : EndpointHistory → ℕ → Incoming → StreamFault → EndpointHistory
give_up e id i fault = replied (with_incoming e id (given_up_once i fault)) (cancellation id i.fault)

abbrev pub reset_at : EndpointHistory → ℕ → ℕ → Kind → Found
reset_at e id code Request = (give_up (opened e id) id (record (incoming_at e id) { was_reset = true }) (stream_fault.Reset code), None)
reset_at e id code ServerOpened = (e, Some stream_creation_error)
reset_at e id code OwnUnidirectional = (e, None)
reset_at e id code PeerUnidirectional = closing e id (reset_with (unidirectional_at e id) code)

-- A stream was cut off by its sender.
abbrev pub deliver_reset : EndpointHistory → ℕ → ℕ → Option Refusal × EndpointHistory
deliver_reset e id code = taken e.closed (delivery_refusal e id) e (reset_at e id code (kind_of e.side id))
