-- Turns of an endpoint's request streams, one after another: calls of `advance` for the streams that `next_by_priority` names.
use Rattle.std.specs.Prelude.{◌≡◌, ◌≢◌, ◌<◌, ◌-◌, ◌^◌, ℕ, min, Bool, true, false, ◌==◌, List, [], ◌∷◌, map, Option, Some}
use Rattle.h3_scheduler.specs.Places.{IsNext}
use Rattle.h3_scheduler.specs.PlaceTurns.{turns_at, PlaceTurn, TakesTurns}
use Rattle.h3_scheduler.specs.declared.round.Rounds.{Rounds}
use Rattle.h3_connection.specs.ByPriority.{places_of}
use Rattle.h3_connection.specs.Endpoint.{EndpointHistory}
use Rattle.h3_connection.specs.FirstAbove.{first_above}
use Rattle.h3_connection.specs.Order.{rounds_of}
use Rattle.h3_connection.specs.Outgoing.{Outgoing}
use Rattle.h3_connection.specs.Sending.{advance}
use Rattle.h3_connection.specs.StreamSets.{stream_at}

-- the endpoint as it is then, a request stream, and how many bytes of it go
pub record EndpointTurn : Type 0 where
  pub e : EndpointHistory
  pub id : ℕ
  pub stream : Outgoing
  pub count : ℕ

-- the stream is there, and bytes of it go
pub record IsTurn (t : EndpointTurn) : Type 0 where
  pub there : stream_at t.e.outgoing t.id ≡ Some t.stream
  pub some : (t.count == 0) ≡ false

-- all request streams that came have ids below it
abbrev pub bound_in : EndpointHistory → ℕ
bound_in e = min (first_above e.incoming) (2 ^ 64 - 1)

abbrev pub urgency_of : EndpointTurn → ℕ
urgency_of t = t.stream.precedence.priority.urgency

-- It is the stream that `next_by_priority` names if no own stream sends, and is not the one that waits.
abbrev pub WasNamedIf : Bool → EndpointTurn → ℕ → Type 0
WasNamedIf true t waiting = IsNext (places_of t.e) (rounds_of t.e.order.rounds) (Some t.id) × (t.id ≢ waiting)
WasNamedIf false t waiting = Unit

-- Through all of them a stream waits for its turn, and those of its urgency have theirs. Between turns no call changes the rounds: all but
-- `advance` leave them as they are, once a priority was set.
abbrev pub WaitsForTurn : ℕ → ℕ → Option Rounds → List EndpointTurn → Type 0
WaitsForTurn urgency waiting rounds [] = Unit
WaitsForTurn urgency waiting rounds (t ∷ turns) =
    (t.e.order.rounds ≡ rounds) × TakesTurns (places_of t.e) urgency waiting × (waiting < bound_in t.e) × IsTurn t
    × WasNamedIf (urgency_of t == urgency) t waiting × WaitsForTurn urgency waiting (advance t.e t.id t.count).order.rounds turns

-- the same as the scheduler sees it
abbrev pub place_turn : EndpointTurn → PlaceTurn
place_turn t = record { places = places_of t.e; rounds = rounds_of t.e.order.rounds; bound = bound_in t.e; urgency = urgency_of t; id = t.id }

-- how many turns a stream has at this urgency
abbrev pub turns_of : ℕ → ℕ → List EndpointTurn → ℕ
turns_of urgency id turns = turns_at urgency id (map place_turn turns)
