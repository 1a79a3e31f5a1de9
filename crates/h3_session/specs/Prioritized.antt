-- What a client says of priorities, by what is stored.
use Rattle.std.specs.Prelude.{◌≡◌, ◌≤◌, ℕ, ◌+◌, Bool, true, false, not, ◌||◌, [], ◌∷◌, length, remove, slice_get, if◌then◌else◌, IfSome, Option, Some, None, is_some, option_map, unwrap_or, Result, Ok, Err}
use Rattle.h3_priority.specs.Priority.{PriorityParameters}
use Rattle.h3_proto.specs.StreamIds.{is_request_stream}
use Rattle.h3_connection.specs.Answers.{call_refused}
use Rattle.h3_connection.specs.Calls.{IsSame}
use Rattle.h3_connection.specs.Endpoint.{EndpointHistory}
use Rattle.h3_connection.specs.Order.{gives_way}
use Rattle.h3_connection.specs.Prioritizing.{saying, takes_no_response, used_at, with_waiting, WantsMemory}
use Rattle.h3_connection.specs.Pulling.{is_client}
use Rattle.h3_connection.specs.Refusals.{first_of}
use Rattle.h3_connection.specs.Sending.{closed_or, does, is_open}
use Rattle.h3_connection.specs.SendingContracts.{DoesOrRefuses}
use Rattle.h3_connection.specs.State.{EndpointState, StandsFor, kept_at}
use Rattle.h3_connection.specs.StreamSets.{Streams, stream_at}
use Rattle.h3_connection.specs.declared.event.Refusal.{Refusal}
use Rattle.h3_connection.specs.declared.event.Refusal.TheVariants as refusal
use Rattle.h3_connection.specs.declared.order.Precedence.{Precedence}
use Rattle.h3_connection.specs.declared.order.PrioritySource.{PrioritySource}
use Rattle.h3_connection.specs.declared.order.PrioritySource.TheVariants.{Update}

-- a connection with a fault, and a stream that is no request stream
abbrev pub judged_in : EndpointState → ℕ → Option Refusal
judged_in s id = closed_or s.closed (first_of ((not (is_request_stream id), refusal.NotRequestId) ∷ []))

-- the priority of a stream that is open is said, and none of another
abbrev pub said_if_open : EndpointHistory → ℕ → PrioritySource → PriorityParameters → Option Refusal × EndpointHistory
said_if_open e id source p = does (first_of ((not (is_open e id), refusal.NotOpen) ∷ [])) e (saying e id source p)

abbrev pub IsSaid : EndpointState → EndpointState → ℕ → PrioritySource → PriorityParameters → Result Unit Refusal → Type 0
IsSaid old new id source p result = DoesOrRefuses (λ e. said_if_open e id source p) old new (call_refused result)

-- an update of a stream that is open is used, or dropped; and one for which memory is refused changes nothing
abbrev pub UsesOne : EndpointState → EndpointState → ℕ → PriorityParameters → Result Bool Refusal → Type 0
UsesOne old new id p (Ok used) = (e : EndpointHistory) → StandsFor old e → StandsFor new (used_at e id p (stream_at e.outgoing id)) × (used ≡ is_open e id)
UsesOne old new id p (Err r) = IsSame old new × ((e : EndpointHistory) → StandsFor old e → is_open e id ≡ true)

-- only priorities and turns have changed
abbrev pub ChangesTurns : EndpointState → EndpointState → Type 0
ChangesTurns old new = new ≡ record old { requests = new.requests; order = new.order }

-- these updates wait
abbrev pub having_waiting : EndpointState → Streams PriorityParameters → EndpointState
having_waiting s waiting = record s { peer = record s.peer { updates = record s.peer.updates { waiting = waiting } } }

-- the update at a place is used or dropped, and waits no longer, or it waits on
abbrev pub looked_at : EndpointHistory → ℕ → ℕ × PriorityParameters → EndpointHistory
looked_at e place u =
    with_waiting (used_at e u.0 u.1 (stream_at e.outgoing u.0))
    (if is_open e u.0 then remove e.peer.updates.waiting place else e.peer.updates.waiting)

-- The update at a place was looked at: the next one stands at the same place if this one waits no longer.
pub record Looks (old new : EndpointState) (place next : ℕ) : Type 0 where
  pub stands : (e : EndpointHistory) → StandsFor old e
      → IfSome (slice_get e.peer.updates.waiting place) (λ u. StandsFor new (looked_at e place u) × (next ≡ (if is_open e u.0 then place else place + 1)))
  pub left : (length new.peer.updates.waiting + place) + 1 ≡ length old.peer.updates.waiting + next
  pub near : next ≤ place + 1

abbrev pub LooksAt : EndpointState → EndpointState → ℕ → Result ℕ Refusal → Type 0
LooksAt old new place (Ok next) = Looks old new place next
LooksAt old new place (Err r) = (e : EndpointHistory) → StandsFor old e → StandsFor new e × WantsMemory e place

-- which priority counts of a stream, by what is stored of it and an update that waits
abbrev pub counting_in : Option PriorityParameters → Bool → Precedence → PriorityParameters
counting_in None sent there = there.priority
counting_in (Some p) sent there = if sent || not (gives_way there.source Update) then there.priority else p

-- why a client tells no priority
abbrev pub send_refused : EndpointState → ℕ → Option Refusal
send_refused s id =
    closed_or s.closed (first_of (
    (not (is_client s.side), refusal.NotClient) ∷ (not (is_request_stream id), refusal.NotRequestId)
    ∷ (not (is_some (kept_at s.requests id)), refusal.NotOpen)
    ∷ (unwrap_or (option_map (λ r. takes_no_response r.incoming) (kept_at s.requests id)) false, refusal.Ended) ∷ []))
