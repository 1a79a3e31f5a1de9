-- What a client says of priorities counts at its server (RFC 9218, sections 5 and 7), if that says nothing itself. And what a client writes of it.
use Rattle.std.specs.Prelude.{◌≡◌, ℕ, Bool, true, not, ◌||◌, [], ◌∷◌, ◌++◌, drop, filter, length, slice_get, take, IfSome, if◌then◌else◌, Option, Some, None, is_some, option_map, Result}
use Rattle.h3_priority.specs.Priority.{PriorityParameters}
use Rattle.h3_proto.specs.StreamIds.{is_request_stream}
use Rattle.h3_connection.specs.Answers.{call_refused}
use Rattle.h3_connection.specs.ByPriority.{ShowsNextByPriority, priority_refusal}
use Rattle.h3_connection.specs.Delivering.{incoming_at}
use Rattle.h3_connection.specs.Endpoint.{EndpointHistory}
use Rattle.h3_connection.specs.Incoming.{Incoming}
use Rattle.h3_connection.specs.Order.{gives_way, rounds_begun}
use Rattle.h3_connection.specs.Outgoing.{Outgoing}
use Rattle.h3_connection.specs.Pulling.{is_client}
use Rattle.h3_connection.specs.Refusals.{first_of}
use Rattle.h3_connection.specs.Sending.{does, is_open, outgoing_at, unless_closed, with_outgoing}
use Rattle.h3_connection.specs.SendingContracts.{DoesOrRefuses}
use Rattle.h3_connection.specs.State.{EndpointState, StandsFor}
use Rattle.h3_connection.specs.StreamSets.{Streams, stream_at}
use Rattle.h3_connection.specs.declared.event.Refusal.{Refusal}
use Rattle.h3_connection.specs.declared.event.Refusal.TheVariants as refusal
use Rattle.h3_connection.specs.declared.order.PrioritySource.{PrioritySource}
use Rattle.h3_connection.specs.declared.order.PrioritySource.TheVariants.{Field, Update}

-- somebody says this of the priority of a stream: it counts unless something was said that counts before it
abbrev pub said : PrioritySource → PriorityParameters → Outgoing → Outgoing
said source p o =
    if gives_way o.precedence.source source then record o { precedence = record o.precedence { priority = p; source = source } } else o

-- turns count from then on
abbrev pub saying : EndpointHistory → ℕ → PrioritySource → PriorityParameters → EndpointHistory
saying e id source p =
    record (with_outgoing e id (said source p (outgoing_at e id))) { order = record e.order { rounds = rounds_begun e.order.rounds } }

-- `set_initial_priority`: what the `priority` field of the request says
abbrev pub set_initial_priority : EndpointHistory → ℕ → PriorityParameters → Option Refusal × EndpointHistory
set_initial_priority e id p = does (priority_refusal e id) e (saying e id Field p)

abbrev pub SetsInitialPriority : EndpointState → EndpointState → ℕ → PriorityParameters → Result Unit Refusal → Type 0
SetsInitialPriority old new id p result = DoesOrRefuses (λ e. set_initial_priority e id p) old new (call_refused result)

-- sending on a stream has ended, so its priority is of no use any more
abbrev pub is_sent : Outgoing → Bool
is_sent o = o.is_reset || o.end_taken

-- which update counts (RFC 9218, section 7.2)
-- an update of a stream of which nothing came yet waits on; one of a stream that has ended is dropped
abbrev pub used_at : EndpointHistory → ℕ → PriorityParameters → Option Outgoing → EndpointHistory
used_at e id p None = e
used_at e id p (Some o) = if is_sent o then e else saying e id Update p

abbrev pub used : EndpointHistory → Streams PriorityParameters → EndpointHistory
used e [] = e
used e ((id, p) ∷ updates) = used (used_at e id p (stream_at e.outgoing id)) updates

-- nothing came of the stream
abbrev pub is_unopened : EndpointHistory → ℕ × PriorityParameters → Bool
is_unopened e update = not (is_open e update.0)

-- so many updates are looked at, and those of streams that are open are used. The others wait
abbrev pub waiting_behind : EndpointHistory → ℕ → Streams PriorityParameters
waiting_behind e count = filter (is_unopened e) (take count e.peer.updates.waiting) ++ drop count e.peer.updates.waiting

abbrev pub with_waiting : EndpointHistory → Streams PriorityParameters → EndpointHistory
with_waiting e waiting = record e { peer = record e.peer { updates = record e.peer.updates { waiting = waiting } } }

abbrev pub use_updates : EndpointHistory → ℕ → EndpointHistory
use_updates e count = with_waiting (used e (take count e.peer.updates.waiting)) (waiting_behind e count)

-- the update at this place, if one is there, is of a stream that is open
abbrev pub WantsMemory : EndpointHistory → ℕ → Type 0
WantsMemory e place = IfSome (slice_get e.peer.updates.waiting place) (λ u. is_open e u.0 ≡ true)

-- All are looked at, but for those from one on that wants memory and does not get it: the next call looks at these.
pub record UsesUpdates (old new : EndpointState) : Type 0 where
  pub count : ℕ
  pub stops : (e : EndpointHistory) → StandsFor old e → WantsMemory e count
  pub stands : (e : EndpointHistory) → StandsFor old e → StandsFor new (use_updates e count)

-- `next_by_priority`: by what was said up to then
pub record SendsNext (old new : EndpointState) (result : Option ℕ) : Type 0 where
  pub uses : UsesUpdates old new
  pub shows : ShowsNextByPriority new result

-- Which priority counts of a stream that is open: that which stands, or an update that was not used yet and counts before it
abbrev pub counting : Option PriorityParameters → Outgoing → PriorityParameters
counting None o = o.precedence.priority
counting (Some p) o = if is_sent o then o.precedence.priority else (said Update p o).precedence.priority

abbrev pub priority_at : EndpointHistory → ℕ → Option PriorityParameters
priority_at e id = option_map (counting (stream_at e.peer.updates.waiting id)) (stream_at e.outgoing id)

abbrev pub ShowsPriority : EndpointState → ℕ → Option PriorityParameters → Type 0
ShowsPriority s id result = (e : EndpointHistory) → StandsFor s e → result ≡ priority_at e id

-- the response has come, or is not wanted
abbrev pub takes_no_response : Incoming → Bool
takes_no_response i = (i.ended || i.was_reset) || is_some i.fault

-- `send_priority`: of a client's own request, and as often as it likes
abbrev pub send_priority_refusal : EndpointHistory → ℕ → Option Refusal
send_priority_refusal e id =
    unless_closed e (first_of (
    (not (is_client e.side), refusal.NotClient) ∷ (not (is_request_stream id), refusal.NotRequestId) ∷ (not (is_open e id), refusal.NotOpen)
    ∷ (takes_no_response (incoming_at e id), refusal.Ended) ∷ []))

abbrev pub send_priority : EndpointHistory → ℕ → PriorityParameters → Option Refusal × EndpointHistory
send_priority e id p =
    does (send_priority_refusal e id) e
    (record e { own = record e.own { updates = e.own.updates ++ record { behind = length e.own.goaways; id = id; priority = p } ∷ [] } })

abbrev pub SendsPriority : EndpointState → EndpointState → ℕ → PriorityParameters → Result Unit Refusal → Type 0
SendsPriority old new id p result = DoesOrRefuses (λ e. send_priority e id p) old new (call_refused result)
