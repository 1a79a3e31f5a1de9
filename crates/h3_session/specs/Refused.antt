-- Why a call that sends is refused, by what is stored: by the rules of a sender (`h3_connection/Refusals`) that stands where the endpoint does.
use Rattle.std.specs.Prelude.{ℕ, Bool, List, [], ◌∷◌, if◌then◌else◌, Option, None, is_some, option_map}
use Rattle.h3_field.specs.Field.{Field}
use Rattle.h3_header.specs.Head.{Head}
use Rattle.h3_messages.specs.OwnMessages.{violation_of_own_trailer}
use Rattle.h3_messages.specs.declared.violation.Violation.{Violation}
use Rattle.h3_outgoing.specs.Sent.{is_sent_off}
use Rattle.h3_proto.specs.declared.stream.Side.{Side}
use Rattle.h3_connection.specs.Endpoint.{kind_of}
use Rattle.h3_connection.specs.Lasts.{last_id}
use Rattle.h3_connection.specs.Remembering.{settings_known}
use Rattle.h3_connection.specs.Refusals.{Sender, first_of, needed, of_list, or_later, refusal_of_goaway, refusal_to_open, refusal_to_stop, too_large, unless_going, with_pseudo, wrong_side}
use Rattle.h3_connection.specs.Sending.{closed_or}
use Rattle.h3_connection.specs.State.{EndpointState, OutgoingState, kept_at}
use Rattle.h3_connection.specs.StrictConnection.{begins_none_after}
use Rattle.h3_connection.specs.StrictMessages.{malformation_by}
use Rattle.h3_connection.specs.StrictSending.{broken_protocol, unless_malformed, violation_of_own_head, broken_head}
use Rattle.h3_connection.specs.declared.event.Malformation.{Malformation}
use Rattle.h3_connection.specs.declared.event.Refusal.{Refusal}
use Rattle.h3_connection.specs.declared.setup.Announced.{Announced}
use Rattle.h3_connection.specs.declared.place.SendPlace.{SendPlace}
use Rattle.h3_connection.specs.declared.place.SendPlace.TheVariants.{NothingSent, HeadSent, TrailerSent}
use Rattle.h3_requests.specs.Refused.{body_refused_at, data_refused_at, early_trailer_at, end_refused_at, head_refused_at, outgoing_in, seen_in, known_in}
use Rattle.h3_streams.specs.Placed.{StreamsState, is_critical_at}

-- the sender's part of a request stream
abbrev pub sender_in : EndpointState → ℕ → Option OutgoingState
sender_in s id = option_map (λ r. r.outgoing) (kept_at s.requests id)

-- the sender on a stream
abbrev pub sender_on : EndpointState → ℕ → Sender
sender_on s id =
    record { side = s.side; stream = seen_in (kept_at s.requests id); settings = settings_known s.announced s.peer.settings; going = begins_none_after s.announced s.side (last_id s.peer.goaways) }

-- The rules of a sender in the parts in which a call asks them: that of the stream, what a head or a trailer is judged by before its list is made, what
-- was sent in front of a trailer, and the list.
abbrev pub side_refused : Side → Head → Option Refusal
side_refused side head = first_of (wrong_side side head ∷ [])

abbrev pub pseudo_refused : Head → Option Refusal
pseudo_refused trailer = first_of (with_pseudo trailer ∷ [])

-- the protocol of a header, which is judged in front of both. That of a list is judged where the list is read
abbrev pub protocol_refused : Announced → Head → Option Refusal
protocol_refused own head = first_of (unless_malformed (broken_protocol own head) [])

abbrev pub own_head_refused : Announced → Side → Head → Option Refusal
own_head_refused own side head = or_later (protocol_refused own head) (side_refused side head)

abbrev pub own_trailer_refused : Announced → Head → Option Refusal
own_trailer_refused own trailer = or_later (protocol_refused own trailer) (pseudo_refused trailer)

-- no request begins
abbrev pub going_refused : EndpointState → Option Refusal
going_refused s = first_of (unless_going (begins_none_after s.announced s.side (last_id s.peer.goaways)) [])

-- the stream takes no head, whatever is in it
abbrev pub head_refused_in : EndpointState → ℕ → Option Refusal
head_refused_in s id = or_later (head_refused_at (kept_at s.requests id)) (going_refused s)

-- a head, its list apart
abbrev pub head_refused : EndpointState → ℕ → Head → Option Refusal
head_refused s id head = closed_or s.closed (or_later (head_refused_in s id) (own_head_refused s.announced s.side head))

-- a trailer, its list apart
abbrev pub trailer_refused : EndpointState → ℕ → Head → Option Refusal
trailer_refused s id trailer =
    closed_or s.closed
    (or_later (body_refused_at (kept_at s.requests id)) (or_later (own_trailer_refused s.announced trailer) (early_trailer_at (kept_at s.requests id))))

-- a body of so many bytes
abbrev pub body_refused : EndpointState → ℕ → ℕ → Option Refusal
body_refused s id size = closed_or s.closed (data_refused_at (kept_at s.requests id) size)

abbrev pub end_refused : EndpointState → ℕ → Option Refusal
end_refused s id = closed_or s.closed (end_refused_at (kept_at s.requests id))

-- what is stored of the unidirectional streams
abbrev pub streams_of : EndpointState → StreamsState
streams_of s =
    record {
      unidirectional = s.unidirectional;
      control_on = s.control_on;
      encoder_on = s.encoder_on;
      decoder_on = s.decoder_on;
      peer = s.peer;
      decoding = s.decoding;
      encoding = s.encoding;
      own = s.own;
    }

-- the connection needs the stream of this id
abbrev pub is_critical_in : EndpointState → ℕ → Bool
is_critical_in s id = is_critical_at s.side (streams_of s) id (kind_of s.side id)

-- why a stream is neither reset nor given up, whatever is stored of it
abbrev pub critical_refused : EndpointState → ℕ → Option Refusal
critical_refused s id = closed_or s.closed (first_of (needed (is_critical_in s id) ∷ []))

abbrev pub reset_refused : EndpointState → ℕ → Option Refusal
reset_refused s id = closed_or s.closed (refusal_to_stop (is_critical_in s id) (is_some (kept_at s.requests id)) (is_sent_off (outgoing_in (kept_at s.requests id))))

abbrev pub open_refused : EndpointState → Option Refusal
open_refused s = closed_or s.closed (refusal_to_open s.side (last_id s.peer.goaways) s.next_id)

abbrev pub goaway_refused : EndpointState → ℕ → Option Refusal
goaway_refused s id = closed_or s.closed (refusal_of_goaway s.side id s.last_goaway)

-- The rule that a list breaks on a stream, where rules are asked, by the place of its message behind it: as a trailer, or as a head.
abbrev pub violation_behind : SendPlace → EndpointState → ℕ → List Field → Option Violation
violation_behind TrailerSent s id fields = violation_of_own_trailer fields
violation_behind HeadSent s id fields = violation_of_own_head s.side (settings_known s.announced s.peer.settings) (known_in (kept_at s.requests id)) fields
violation_behind NothingSent s id fields = violation_of_own_head s.side (settings_known s.announced s.peer.settings) (known_in (kept_at s.requests id)) fields

abbrev pub broken_behind : SendPlace → EndpointState → ℕ → List Field → Option Malformation
broken_behind place s id fields = if s.announced.choices.strict_messages then option_map malformation_by (violation_behind place s id fields) else None

-- as a head
abbrev pub broken_head_in : EndpointState → ℕ → List Field → Option Malformation
broken_head_in s id fields = broken_head s.side s.announced (settings_known s.announced s.peer.settings) (known_in (kept_at s.requests id)) fields

-- The size of a section is judged last, and by the peer's settings.
abbrev pub size_refused : Option (List (ℕ × ℕ)) → List Field → Option Refusal
size_refused settings fields = first_of (too_large settings fields ∷ [])

abbrev pub list_refused : Option Malformation → Option (List (ℕ × ℕ)) → List Field → Option Refusal
list_refused broken settings fields = first_of (of_list broken settings fields)

-- what refuses a section by its list, by the place of its message behind it
abbrev pub refused_behind : EndpointState → ℕ → SendPlace → List Field → Option Refusal
refused_behind s id place fields = list_refused (broken_behind place s id fields) (settings_known s.announced s.peer.settings) fields
