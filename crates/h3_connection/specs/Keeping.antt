-- What comes, with what was kept before because memory was refused: that is read first, in order. With nothing kept these are
-- the plain calls.
use Rattle.std.specs.Prelude.{ℕ, Bool, true, false, ◌||◌, List, [], ◌∷◌, ◌++◌, fold, if◌then◌else◌, Option, Some, None, is_some}
use Rattle.h3_connection.specs.declared.event.Refusal.{Refusal}
use Rattle.h3_connection.specs.declared.event.Refusal.TheVariants as refusal
use Rattle.h3_connection.specs.declared.event.Pull.{Pull}
use Rattle.h3_connection.specs.declared.event.Pull.TheVariants as answer
use Rattle.h3_connection.specs.declared.event.Fault.TheVariants as fault
use Rattle.h3_connection.specs.Arrivals.{Arrival, BytesCame, EndCame, ResetCame, stream_of, is_closed_in}
use Rattle.h3_connection.specs.Control.{Found}
use Rattle.h3_connection.specs.Delivering.{bytes_at, end_at, reset_at, opened, taken, delivery_refusal}
use Rattle.h3_connection.specs.Endpoint.{EndpointHistory, Kind, kind_of}
use Rattle.h3_connection.specs.Endpoint.Kind.{Request, PeerUnidirectional}
use Rattle.h3_connection.specs.Incoming.{Incoming}
use Rattle.h3_connection.specs.Sending.{pull_at, pull_unless}
use Rattle.h3_connection.specs.StreamSets.{stream_at}
use Rattle.h3_connection.specs.Unidirectional.{Unidirectional, Role}
use Rattle.h3_connection.specs.Unidirectional.Role.{Other, Session}

-- What an arrival does.
abbrev pub read_arrival : EndpointHistory → Arrival → Found
read_arrival e (BytesCame id bytes) = bytes_at e id bytes (kind_of e.side id)
read_arrival e (EndCame id) = end_at e id (kind_of e.side id)
read_arrival e (ResetCame id code) = reset_at e id code (kind_of e.side id)

abbrev pub unless_faulty : (EndpointHistory → Found) → Found → Found
unless_faulty go (e, Some code) = (e, Some code)
unless_faulty go (e, None) = go e

-- Arrivals are read in order, up to the first fault.
abbrev pub read_all : List Arrival → EndpointHistory → Found
read_all [] e = (e, None)
read_all (a ∷ arrivals) e = unless_faulty (read_all arrivals) (read_arrival e a)

abbrev pub unkept : EndpointHistory → EndpointHistory
unkept e = record e { kept = [] }

-- a request stream of which something is kept is open
abbrev pub opened_as : Kind → EndpointHistory → ℕ → EndpointHistory
opened_as Request e id = opened e id
opened_as _ e id = e

abbrev pub opened_by : EndpointHistory → Arrival → EndpointHistory
opened_by e a = opened_as (kind_of e.side (stream_of a)) e (stream_of a)

-- these arrivals are kept
abbrev pub keeping : EndpointHistory → List Arrival → EndpointHistory
keeping e arrivals = record (fold opened_by e arrivals) { kept = arrivals }

-- Why what comes is refused: an end or a reset that is kept counts.
abbrev pub refused_behind : Bool → Option Refusal → Option Refusal
refused_behind was_closed (Some r) = Some r
refused_behind true None = Some refusal.AfterEnd
refused_behind false None = None

abbrev pub arrival_refusal : EndpointHistory → ℕ → Option Refusal
arrival_refusal e id = refused_behind (is_closed_in e.kept id) (delivery_refusal e id)

abbrev pub arrives_behind : List Arrival → EndpointHistory → Arrival → Option Refusal × EndpointHistory
arrives_behind [] e a = taken e.closed (delivery_refusal e (stream_of a)) e (read_arrival e a)
arrives_behind (k ∷ kept) e a = taken e.closed (arrival_refusal e (stream_of a)) e (read_all (k ∷ kept ++ a ∷ []) (unkept e))

-- What comes: bytes, an end or a reset. All that is kept is read before it.
abbrev pub arrives : EndpointHistory → Arrival → Option Refusal × EndpointHistory
arrives e a = arrives_behind e.kept e a

-- The answer of a pull is settled: the stream was given up, or its end was handed out.
abbrev pub is_settled_request : Option Incoming → Bool
is_settled_request None = false
is_settled_request (Some i) = is_some i.fault || i.is_over

abbrev pub is_settled_session : Unidirectional → Role → Bool
is_settled_session o (Session id) = o.is_over || is_some o.reset_code
is_settled_session o (Other kind) = o.is_over || is_some o.reset_code
is_settled_session o _ = false

abbrev pub is_settled_peer : Option Unidirectional → Bool
is_settled_peer None = false
is_settled_peer (Some o) = is_settled_session o o.role

abbrev pub settles_at : EndpointHistory → ℕ → Kind → Bool
settles_at e id Request = is_settled_request (stream_at e.incoming id)
settles_at e id PeerUnidirectional = is_settled_peer (stream_at e.unidirectional id)
settles_at e id _ = false

abbrev pub settles : EndpointHistory → ℕ → Bool
settles e id = settles_at e id (kind_of e.side id)

-- the stream's next item, where no fault was found in what was kept
abbrev pub pulled_after : Found → ℕ → Pull × EndpointHistory
pulled_after (e, Some code) id = (answer.Fault (fault.Connection code), record e { closed = Some code })
pulled_after (e, None) id = pull_at e id (kind_of e.side id)

abbrev pub pulls_behind : List Arrival → EndpointHistory → ℕ → Pull × EndpointHistory
pulls_behind [] e id = pull_unless e.closed e (pull_at e id (kind_of e.side id))
pulls_behind (k ∷ kept) e id = pull_unless e.closed e (
    if settles e id then pull_at e id (kind_of e.side id) else pulled_after (read_all (k ∷ kept) (unkept e)) id)

-- What comes next on a stream. All that is kept is read first, unless the answer is settled.
abbrev pub pulls : EndpointHistory → ℕ → Pull × EndpointHistory
pulls e id = pulls_behind e.kept e id
