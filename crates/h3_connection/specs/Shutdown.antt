-- A connection is shut down (RFC 9114, section 5.2): the GOAWAY frames that say so, the requests that are rejected, and when nothing is left to be
-- done.
use Rattle.std.specs.Prelude.{ℕ, ◌+◌, ◌-◌, ◌^◌, ◌==◌, ◌&&◌, ◌||◌, not, if◌then◌else◌, Bool, false, [], ◌∷◌, length, min, nat_le, nat_lt, Option, Some, None, is_some, Result}
use Rattle.std.specs.List.{list_all}
use Rattle.h3_proto.specs.StreamIds.{is_request_stream}
use Rattle.h3_proto.specs.declared.stream.Side.{Side}
use Rattle.h3_proto.specs.declared.stream.Side.TheVariants.{Client, Server}
use Rattle.h3_connection.specs.Answers.{call_refused}
use Rattle.h3_connection.specs.Delivering.{incoming_at}
use Rattle.h3_connection.specs.Endpoint.{EndpointHistory, own_waiting}
use Rattle.h3_connection.specs.EndsWaiting.{has_to_send}
use Rattle.h3_connection.specs.FirstAbove.{first_above}
use Rattle.h3_connection.specs.FirstRequests.{count_below, first_pass}
use Rattle.h3_connection.specs.Lasts.{last_id}
use Rattle.h3_connection.specs.Outgoing.{is_sent_off}
use Rattle.h3_connection.specs.OwnIds.{control_id}
use Rattle.h3_connection.specs.Pulling.{is_client}
use Rattle.h3_connection.specs.ReadingContracts.{Shows}
use Rattle.h3_connection.specs.Sending.{goaway, outgoing_at, unless_closed}
use Rattle.h3_connection.specs.SendingContracts.{DoesOrRefuses}
use Rattle.h3_connection.specs.State.{EndpointState, kept_at}
use Rattle.h3_connection.specs.StreamSets.{Streams, stream_at}
use Rattle.h3_connection.specs.declared.event.Refusal.{Refusal}
use Rattle.h3_connection.specs.declared.event.Refusal.TheVariants as refusal

-- the first id above the greatest
abbrev pub above_greatest : Option ℕ → ℕ
above_greatest None = 0
above_greatest (Some id) = id + 4

-- No request stream from this id on was seen.
abbrev pub first_unseen : EndpointHistory → ℕ
first_unseen e = first_above e.incoming

-- An earlier GOAWAY names this id, or a lower one.
abbrev pub is_named : Option ℕ → ℕ → Bool
is_named None id = false
is_named (Some earlier) id = nat_le earlier id

-- An id has 62 bits (RFC 9000, section 16). From there on there is none to name.
abbrev pub goaway_below : EndpointHistory → ℕ → Option Refusal × EndpointHistory
goaway_below e id = if nat_lt id (2 ^ 62) then goaway e id else (unless_closed e (Some refusal.IdsUsedUp), e)

-- Goes away, unless an earlier GOAWAY says as much: then nothing is written.
abbrev pub goaway_once : EndpointHistory → ℕ → Option Refusal × EndpointHistory
goaway_once e id = if is_named (last_id e.own.goaways) id then (unless_closed e None, e) else goaway_below e id

-- The first GOAWAY of two: a server names the greatest id of a request stream, and a client the greatest push id.
abbrev pub notice_id : Side → ℕ
notice_id Client = 2 ^ 62 - 1
notice_id Server = 2 ^ 62 - 4

-- The last one: a server names the first id that it has not seen, and a client takes no push.
abbrev pub last_taken : Side → EndpointHistory → ℕ
last_taken Client e = 0
last_taken Server e = first_unseen e

abbrev pub shutdown_notice : EndpointHistory → Option Refusal × EndpointHistory
shutdown_notice e = goaway_once e (notice_id e.side)

abbrev pub shutdown : EndpointHistory → Option Refusal × EndpointHistory
shutdown e = goaway_once e (last_taken e.side e)

-- A server that asks for it rejects the requests that come first on a stream from its last GOAWAY on, unless the connection has a fault (then all is
-- refused). What is told of a stream is the choice, the fault, the last id that was named, and whether it was seen.
abbrev pub is_rejected_by : (is_asked is_closed : Bool) → Side → Option ℕ → ℕ → (was_seen : Bool) → Bool
is_rejected_by is_asked is_closed side goaway id was_seen =
    is_asked && not is_closed && not (is_client side) && is_named goaway id && is_request_stream id && not was_seen

abbrev pub is_rejected : EndpointHistory → ℕ → Bool
is_rejected e id =
    is_rejected_by e.announced.choices.extensions.requests_rejected (is_some e.closed) e.side (last_id e.own.goaways) id (is_some (stream_at e.incoming id))

-- the same, by what is stored
abbrev pub is_rejected_in : EndpointState → ℕ → Bool
is_rejected_in s id =
    is_rejected_by s.announced.choices.extensions.requests_rejected (is_some s.closed) s.side s.last_goaway id (is_some (kept_at s.requests id))

-- A stream is done with: its end was handed out, or it was given up; sending has ended, and neither bytes nor an end wait to be sent.
abbrev pub is_done : EndpointHistory → ℕ → Bool
is_done e id = ((incoming_at e id).is_over || is_some (incoming_at e id).fault) && is_sent_off (outgoing_at e id) && not (has_to_send e id)

-- Each request stream below the id that was named was seen. A lower one that was not may still come (RFC 9114, section 5.2): a stream opens all lower
-- ones of its kind (RFC 9000, section 2.1), and what was sent on them may be late.
abbrev pub are_seen_below : Option ℕ → (ℕ → Bool) → Bool
are_seen_below None seen = false
are_seen_below (Some goaway) seen = first_pass seen (count_below goaway)

-- No request is still to come: a server saw each one below the id that it named last, and to a client its server named an id.
abbrev pub takes_no_more : Side → EndpointHistory → Bool
takes_no_more Client e = is_some (last_id e.peer.goaways)
takes_no_more Server e = are_seen_below (last_id e.own.goaways) (λ id. is_some (stream_at e.incoming id))

-- Each stream is done with.
abbrev pub are_done : EndpointHistory → Bool
are_done e = list_all (λ s. is_done e s.0) e.incoming

-- What was written on the own control stream was taken, the GOAWAY with it.
abbrev pub is_control_taken : EndpointHistory → Bool
is_control_taken e = length (own_waiting e (control_id e.side)) == 0

-- Nothing is left to be done: no request is to come, each stream is done with, and the GOAWAY was taken.
abbrev pub is_drained : EndpointHistory → Bool
is_drained e = takes_no_more e.side e && are_done e && is_control_taken e

-- `shutdown_notice` and `shutdown`
abbrev pub GivesNotice : EndpointState → EndpointState → Result Unit Refusal → Type 0
GivesNotice old new result = DoesOrRefuses shutdown_notice old new (call_refused result)

abbrev pub ShutsDown : EndpointState → EndpointState → Result Unit Refusal → Type 0
ShutsDown old new result = DoesOrRefuses shutdown old new (call_refused result)

-- `first_unseen`: a number of 64 bits, and no id has more than 62
abbrev pub bounded : ℕ → ℕ
bounded n = min n (2 ^ 64 - 1)

abbrev pub ShowsFirstUnseen : EndpointState → ℕ → Type 0
ShowsFirstUnseen s result = Shows (λ e. bounded (first_unseen e)) s result

-- `is_rejected`
abbrev pub ShowsRejected : EndpointState → ℕ → Bool → Type 0
ShowsRejected s id result = Shows (λ e. is_rejected e id) s result

-- `is_drained`
abbrev pub ShowsDrained : EndpointState → Bool → Type 0
ShowsDrained s result = Shows is_drained s result
