-- Turns of streams, by what is stored: bytes that go, and the order of sending.
use Rattle.std.specs.Prelude.{◌≡◌, ℕ, Bool, false, not, ◌&&◌, if◌then◌else◌, length, min, nat_lt, Option, Some, None, is_some, option_map}
use Rattle.h3_connection.specs.Endpoint.{EndpointHistory, bytes_waiting}
use Rattle.h3_connection.specs.Order.{turn_over}
use Rattle.h3_connection.specs.OwnIds.{control_id, encoder_id, decoder_id}
use Rattle.h3_connection.specs.Sending.{order_after, take_at}
use Rattle.h3_connection.specs.Shutdown.{bounded, first_unseen}
use Rattle.h3_connection.specs.State.{EndpointState, StandsFor}
use Rattle.h3_connection.specs.StreamSets.{stream_at}
use Rattle.h3_connection.specs.WaitingPieces.{bytes_of}
use Rattle.h3_priority.specs.Priority.{PriorityParameters}
use Rattle.h3_scheduler.specs.Rounds.{round_at, within}
use Rattle.h3_scheduler.specs.declared.round.Rounds.{Rounds}
use Rattle.h3_session.specs.Refused.{sender_in}
use Rattle.h3_unidirectional.specs.Owned.{waiting_on}

-- The first bytes that wait on a stream go, at most all, and no turn is over.
abbrev pub TakesBytes : EndpointState → EndpointState → ℕ → ℕ → Type 0
TakesBytes old new id count =
    (e : EndpointHistory) → StandsFor old e → StandsFor new (take_at e id (min count (length (bytes_waiting e id))) (stream_at e.outgoing id))

-- The turn of the stream is over, if bytes of it are to go.
abbrev pub EndsTurn : EndpointState → EndpointState → ℕ → ℕ → Type 0
EndsTurn old new id count =
    (e : EndpointHistory) → StandsFor old e
    → new ≡ record old { order = order_after e id (min count (length (bytes_waiting e id))) (stream_at e.outgoing id) }

-- the priority of a request stream, and how many bytes wait on it
abbrev pub turn_in : EndpointState → ℕ → Option (PriorityParameters × ℕ)
turn_in s id = option_map (λ w. (w.precedence.priority, length (bytes_of w.pieces))) (sender_in s id)

-- the stream has a turn in the round of its urgency that is under way
abbrev pub has_turn_in : Option Rounds → PriorityParameters → ℕ → Bool
has_turn_in None p id = false
has_turn_in (Some r) p id = is_some (within (round_at r.rounds p.urgency) (Some id))

-- by this bound a turn ends as by the first id that was not seen
abbrev pub BoundsTurn : EndpointState → PriorityParameters → ℕ → ℕ → Type 0
BoundsTurn s p id until =
    (e : EndpointHistory) → StandsFor s e
    → turn_over s.order.rounds p id until ≡ turn_over s.order.rounds p id (bounded (first_unseen e))

-- the own stream of this number, if bytes wait on it and it is not held
abbrev pub own_sends_in : EndpointState → Bool → ℕ → Option ℕ
own_sends_in s held id = if not held && nat_lt 0 (length (waiting_on s.own s.side id)) then Some id else None

abbrev pub or_else : Option ℕ → Option ℕ → Option ℕ
or_else (Some one) other = Some one
or_else None other = other

-- the first own stream that sends
abbrev pub first_own_in : EndpointState → Option ℕ
first_own_in s =
    or_else (own_sends_in s s.order.control_is_held (control_id s.side)) (
    or_else (own_sends_in s s.order.encoder_is_held (encoder_id s.side)) (own_sends_in s s.order.decoder_is_held (decoder_id s.side)))
