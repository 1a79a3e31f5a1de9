-- Lists of calls without those of one unidirectional stream of unknown type (RFC 9114, section 6.2).
use Rattle.std.specs.Prelude.{ℕ, Bool, false, ◌==◌, List, [], ◌∷◌, if◌then◌else◌}
use Rattle.h3_connection.specs.CallLists.{Call, Result, called}
use Rattle.h3_connection.specs.CallLists.Call.{Deliver, DeliverEnd, DeliverReset, PullStream}
use Rattle.h3_connection.specs.Endpoint.{EndpointHistory}
use Rattle.h3_connection.specs.Unidirectional.{Role}
use Rattle.h3_connection.specs.Unidirectional.Role.{Untold, Ignored}

-- The type of the stream has no meaning here, or did not come whole.
abbrev pub IsUnread : Role → Type 0
IsUnread (Untold front) = Unit {0}
IsUnread Ignored = Unit {0}
IsUnread _ = ⊥

-- what comes on the stream, and the pulls of it
abbrev pub is_on : ℕ → Call → Bool
is_on id (Deliver q bytes) = q == id
is_on id (DeliverEnd q) = q == id
is_on id (DeliverReset q code) = q == id
is_on id (PullStream q) = q == id
is_on id _ = false

-- the other calls
abbrev pub without_stream : ℕ → List Call → List Call
without_stream id [] = []
without_stream id (c ∷ calls) = if is_on id c then without_stream id calls else c ∷ without_stream id calls

-- and what they are answered among all
abbrev pub answers_without : ℕ → EndpointHistory → List Call → List Result
answers_without id e [] = []
answers_without id e (c ∷ calls) =
    if is_on id c then answers_without id (called e c).1 calls else (called e c).0 ∷ answers_without id (called e c).1 calls
