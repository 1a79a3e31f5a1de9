-- Why a call of a sender is refused: the first rule that refuses it, in the order in which an endpoint judges. A world, the history of an endpoint,
-- and what an endpoint stores state their refusals by these: each says what sender it stands for.
use Rattle.std.specs.Prelude.{ℕ, ◌^◌, ◌-◌, Bool, true, false, not, ◌&&◌, List, [], ◌∷◌, if◌then◌else◌, nat_le, nat_lt, Option, Some, None, unwrap_or}
use Rattle.h3_field.specs.Field.{Field, section_size}
use Rattle.h3_header.specs.Head.{Head, has_pseudo}
use Rattle.h3_proto.specs.Settings.{value_of}
use Rattle.h3_proto.specs.StreamIds.{is_request_stream}
use Rattle.h3_proto.specs.declared.stream.Side.{Side}
use Rattle.h3_connection.specs.Outgoing.{Outgoing, takes_head, takes_body, takes_end}
use Rattle.h3_connection.specs.OwnIds.{other}
use Rattle.h3_connection.specs.Pulling.{is_client, is_for}
use Rattle.h3_connection.specs.StrictSending.{unless_malformed}
use Rattle.h3_connection.specs.declared.event.Malformation.{Malformation}
use Rattle.h3_connection.specs.declared.event.Malformation.TheVariants as malformation
use Rattle.h3_connection.specs.declared.event.Refusal.{Refusal}
use Rattle.h3_connection.specs.declared.event.Refusal.TheVariants as refusal

-- the first refusal whose test holds
abbrev pub first_of : List (Bool × Refusal) → Option Refusal
first_of [] = None
first_of (rule ∷ rules) = if rule.0 then Some rule.1 else first_of rules

-- a refusal comes before a later one
abbrev pub or_later : Option Refusal → Option Refusal → Option Refusal
or_later (Some r) later = Some r
or_later None later = later

-- What a sender sees of a stream: whether it is open at it, and what the stream takes next, by its place in the message (RFC 9114, section 4.1).
pub record SenderStream : Type 0 where
  pub is_open : Bool
  pub takes_head : Bool
  pub takes_body : Bool
  pub takes_end : Bool

-- by what was sent on it
abbrev pub seen : Bool → Outgoing → SenderStream
seen is_open o = record { is_open = is_open; takes_head = takes_head o; takes_body = takes_body o; takes_end = takes_end o }

-- What a sender sees: which side it is, its stream, the other side's settings once they came, and the GOAWAY after which it begins no message.
pub record Sender : Type 0 where
  pub side : Side
  pub stream : SenderStream
  pub settings : Option (List (ℕ × ℕ))
  pub going : Option ℕ

-- RFC 9114 4.2.2: size of a section, sent
-- the other side takes sections of at most this size (RFC 9114, section 4.2.2), unknown until its settings come
abbrev pub is_too_large : Option (List (ℕ × ℕ)) → List Field → Bool
is_too_large None fields = false
is_too_large (Some pairs) fields = nat_lt (unwrap_or (value_of 6 pairs) (2 ^ 62 - 1)) (section_size fields)

-- The rules of sending: what refuses a call, and how it is told. First that of the stream: it is open, and takes what is sent.
abbrev pub not_next : SenderStream → Bool → List (Bool × Refusal) → List (Bool × Refusal)
not_next stream takes later = (not stream.is_open, refusal.NotOpen) ∷ (not takes, refusal.OutOfOrder) ∷ later

-- no message begins after a GOAWAY of the other side (RFC 9114, section 5.2)
abbrev pub unless_going : Option ℕ → List (Bool × Refusal) → List (Bool × Refusal)
unless_going None later = later
unless_going (Some id) later = (true, refusal.GoingAway id) ∷ later

-- a head is one of the own side
abbrev pub wrong_side : Side → Head → Bool × Refusal
wrong_side side head = (not (is_for (other side) head), refusal.WrongSide)

-- a trailer has no pseudo-header fields (RFC 9114, section 4.3)
abbrev pub with_pseudo : Head → Bool × Refusal
with_pseudo trailer = (has_pseudo trailer, refusal.PseudoInTrailer)

-- a section has no more than the other side takes
abbrev pub too_large : Option (List (ℕ × ℕ)) → List Field → Bool × Refusal
too_large settings fields = (is_too_large settings fields, refusal.TooLarge (section_size fields))

-- a strict sender sends just the content that its head says
abbrev pub wrong_length : Bool → Bool × Refusal
wrong_length is_wrong = (is_wrong, refusal.Malformed malformation.ContentLength)

-- What is judged of a list alone: a strict sender refuses a malformed one, and each its size.
abbrev pub of_list : Option Malformation → Option (List (ℕ × ℕ)) → List Field → List (Bool × Refusal)
of_list broken settings fields = unless_malformed broken (too_large settings fields ∷ [])

-- RFC 9114 4.1: a header section in its place, sent
-- A head, that goes out as these fields, comes first and after no GOAWAY, has a protocol that is taken, and is one of the own side (RFC 9114, section 4.1).
abbrev pub refusal_of_head : Sender → Option Malformation → Option Malformation → Head → List Field → Option Refusal
refusal_of_head s protocol broken head fields =
    first_of (not_next s.stream s.stream.takes_head (unless_going s.going (unless_malformed protocol (wrong_side s.side head ∷ of_list broken s.settings fields))))

-- RFC 9114 4.1: a body in its place, sent
-- A body comes behind a head, and before the trailer. A strict sender refuses more of it than the head says.
abbrev pub refusal_of_body : SenderStream → Bool → Option Refusal
refusal_of_body s is_too_much = first_of (not_next s s.takes_body (wrong_length is_too_much ∷ []))

-- RFC 9114 4.1: a trailer section in its place, sent
-- A trailer comes behind a head, and once. Its protocol is judged as that of a head, and it has none. A strict sender refuses one that is early.
abbrev pub refusal_of_trailer : Sender → Option Malformation → Option Malformation → Option Malformation → Head → List Field → Option Refusal
refusal_of_trailer s protocol early broken trailer fields =
    first_of (not_next s.stream s.stream.takes_body (unless_malformed protocol (with_pseudo trailer ∷ unless_malformed early (of_list broken s.settings fields))))

-- RFC 9114 4.1: the end in its place, sent
-- The end comes behind a head. A strict sender refuses it where less was sent than the head says.
abbrev pub refusal_of_end : SenderStream → Bool → Option Refusal
refusal_of_end s is_early = first_of (not_next s s.takes_end (wrong_length is_early ∷ []))

-- The connection needs its critical streams (RFC 9114, section 6.2.1).
abbrev pub needed : Bool → Bool × Refusal
needed is_critical = (is_critical, refusal.Critical)

-- a stream that is not there is not stopped, nor a direction that is over
abbrev pub stopped : Bool → Bool → List (Bool × Refusal)
stopped is_open is_over = (not is_open, refusal.NotOpen) ∷ (is_over, refusal.Ended) ∷ []

-- RFC 9114 6.2.1: a critical stream reset or canceled
-- A stream is given up, by a reset or by a cancellation, unless the connection needs it, or that direction is over.
abbrev pub refusal_to_stop : Bool → Bool → Bool → Option Refusal
refusal_to_stop is_critical is_open is_over = first_of (needed is_critical ∷ stopped is_open is_over)

-- the other side takes no more requests (RFC 9114, section 5.2)
abbrev pub going_away : Option ℕ → Option Refusal → Option Refusal
going_away None later = later
going_away (Some id) later = Some (refusal.GoingAway id)

-- RFC 9114 5.2: no request after GOAWAY
-- Only a client opens request streams, none that its server has said it takes no more, and none from 2 ^ 62 on.
abbrev pub refusal_to_open : Side → Option ℕ → ℕ → Option Refusal
refusal_to_open side last next =
    if not (is_client side) then Some refusal.NotClient else
    going_away last (if nat_le (2 ^ 62) next then Some refusal.IdsUsedUp else None)

-- RFC 9114 5.2: GOAWAY raised, sent
-- an id above the last one
abbrev pub raised : ℕ → Option ℕ → Option Refusal
raised id None = None
raised id (Some earlier) = if nat_lt earlier id then Some (refusal.Raised earlier) else None

-- a server announces request ids, and a client push ids, never above an earlier one (RFC 9114, section 5.2)
abbrev pub refusal_of_goaway : Side → ℕ → Option ℕ → Option Refusal
refusal_of_goaway side id last =
    if not (is_client side) && not (is_request_stream id) then Some refusal.NotRequestId else raised id last
