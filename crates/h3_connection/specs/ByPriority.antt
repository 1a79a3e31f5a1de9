-- Which stream sends next, by the priorities that were set (RFC 9218, section 10), and the calls that say what goes first.
use Rattle.std.specs.Prelude.{◌≡◌, ℕ, Bool, false, not, ◌&&◌, ◌||◌, [], ◌∷◌, length, nat_lt, if◌then◌else◌, Option, Some, None, option_map, unwrap_or, Result}
use Rattle.h3_priority.specs.Priority.{PriorityParameters}
use Rattle.h3_scheduler.specs.Places.{IsNext, Places}
use Rattle.h3_scheduler.specs.Streams.{is_class}
use Rattle.h3_proto.specs.StreamIds.{is_request_stream}
use Rattle.h3_connection.specs.Answers.{call_refused}
use Rattle.h3_connection.specs.Endpoint.{EndpointHistory, own_waiting}
use Rattle.h3_connection.specs.Order.{own_held, rounds_begun, rounds_of}
use Rattle.h3_connection.specs.declared.order.PrioritySource.TheVariants.{Own}
use Rattle.h3_connection.specs.Outgoing.{Outgoing, end_waits, part_bytes_waiting}
use Rattle.h3_connection.specs.OwnIds.{control_id, encoder_id, decoder_id, is_own}
use Rattle.h3_connection.specs.Refusals.{first_of}
use Rattle.h3_connection.specs.Sending.{does, is_open, outgoing_at, unless_closed, with_outgoing}
use Rattle.h3_connection.specs.SendingContracts.{DoesOrRefuses}
use Rattle.h3_connection.specs.State.{EndpointState, StandsFor}
use Rattle.h3_connection.specs.StreamSets.{stream_at}
use Rattle.h3_connection.specs.declared.event.Refusal.{Refusal}
use Rattle.h3_connection.specs.declared.event.Refusal.TheVariants as refusal

-- Bytes or an end wait on the stream, it is not held, and it has this urgency, and is incremental or not.
abbrev pub sends_at : ℕ → Bool → Outgoing → Bool
sends_at urgency incremental o =
    (nat_lt 0 (length (part_bytes_waiting o)) || end_waits o) && (not o.precedence.is_held && is_class (Some o.precedence.priority) urgency incremental)

-- where the request streams stand
abbrev pub places_of : EndpointHistory → Places
places_of e urgency incremental id = unwrap_or (option_map (sends_at urgency incremental) (stream_at e.outgoing id)) false

-- bytes wait on an own stream, which is not held
abbrev pub own_sends : EndpointHistory → Bool → ℕ → Bool
own_sends e held id = not held && nat_lt 0 (length (own_waiting e id))

-- The own streams come before all others: the control stream, the encoder stream, the decoder stream.
abbrev pub first_own : EndpointHistory → Option ℕ
first_own e =
    if own_sends e e.order.control_is_held (control_id e.side) then Some (control_id e.side) else (
    if own_sends e e.order.encoder_is_held (encoder_id e.side) then Some (encoder_id e.side) else (
    if own_sends e e.order.decoder_is_held (decoder_id e.side) then Some (decoder_id e.side) else None))

abbrev pub IsNextBehind : Option ℕ → EndpointHistory → Option ℕ → Type 0
IsNextBehind (Some own) e result = result ≡ Some own
IsNextBehind None e result = IsNext (places_of e) (rounds_of e.order.rounds) result

-- `next_by_priority`
abbrev pub ShowsNextByPriority : EndpointState → Option ℕ → Type 0
ShowsNextByPriority s result = (e : EndpointHistory) → StandsFor s e → IsNextBehind (first_own e) e result

-- `set_priority`: of a request stream that is open. It counts from then on, whatever the peer says.
abbrev pub priority_refusal : EndpointHistory → ℕ → Option Refusal
priority_refusal e id = unless_closed e (first_of ((not (is_request_stream id), refusal.NotRequestId) ∷ (not (is_open e id), refusal.NotOpen) ∷ []))

abbrev pub prioritized : PriorityParameters → Outgoing → Outgoing
prioritized p o = record o { precedence = record o.precedence { priority = p; source = Own } }

abbrev pub set_priority : EndpointHistory → ℕ → PriorityParameters → Option Refusal × EndpointHistory
set_priority e id p =
    does (priority_refusal e id) e (record (with_outgoing e id (prioritized p (outgoing_at e id))) { order = record e.order { rounds = rounds_begun e.order.rounds } })

-- `hold`: QUIC has no credit for a stream, an own one too, or has it again
abbrev pub hold_refusal : EndpointHistory → ℕ → Option Refusal
hold_refusal e id = unless_closed e (first_of ((not (is_own e.side id || is_open e id), refusal.NotOpen) ∷ []))

abbrev pub held : Bool → Outgoing → Outgoing
held is o = record o { precedence = record o.precedence { is_held = is } }

abbrev pub hold_at : EndpointHistory → ℕ → Bool → Option Outgoing → EndpointHistory
hold_at e id is (Some o) = with_outgoing e id (held is o)
hold_at e id is None = record e { order = own_held e.order e.side id is }

abbrev pub hold : EndpointHistory → ℕ → Bool → Option Refusal × EndpointHistory
hold e id is = does (hold_refusal e id) e (hold_at e id is (stream_at e.outgoing id))

abbrev pub SetsPriority : EndpointState → EndpointState → ℕ → PriorityParameters → Result Unit Refusal → Type 0
SetsPriority old new id p result = DoesOrRefuses (λ e. set_priority e id p) old new (call_refused result)

abbrev pub Holds : EndpointState → EndpointState → ℕ → Bool → Result Unit Refusal → Type 0
Holds old new id is result = DoesOrRefuses (λ e. hold e id is) old new (call_refused result)
