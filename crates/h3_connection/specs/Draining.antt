-- Calls behind which a connection that is drained stays so.
use Rattle.std.specs.Prelude.{◌≡◌, Bool, true, false, ◌&&◌, List, [], ◌∷◌}
use Rattle.h3_proto.specs.declared.stream.Side.{Side}
use Rattle.h3_proto.specs.declared.stream.Side.TheVariants.{Client, Server}
use Rattle.h3_connection.specs.CallLists.{Call, called}
use Rattle.h3_connection.specs.CallLists.Call.{Deliver, DeliverEnd, DeliverReset}
use Rattle.h3_connection.specs.Endpoint.{EndpointHistory}
use Rattle.h3_connection.specs.Shutdown.{are_done, is_rejected, takes_no_more}

-- Nothing is left to be done but that the GOAWAY is taken.
abbrev pub is_served : EndpointHistory → Bool
is_served e = takes_no_more e.side e && are_done e

-- The call brings something on a stream that is rejected.
abbrev pub brings_rejected : EndpointHistory → Call → Bool
brings_rejected e (Deliver id bytes) = is_rejected e id
brings_rejected e (DeliverEnd id) = is_rejected e id
brings_rejected e (DeliverReset id code) = is_rejected e id
brings_rejected e _ = false

-- The caller leaves out what is rejected, as it has to.
abbrev pub LeavesOutRejected : EndpointHistory → List Call → Type 0
LeavesOutRejected e [] = Unit {0}
LeavesOutRejected e (c ∷ calls) = (brings_rejected e c ≡ false) × LeavesOutRejected (called e c).1 calls

-- No request comes any more. A client takes none. A server has to ask that those behind its GOAWAY are rejected, and its caller leaves these out.
abbrev pub NoneComes : Side → EndpointHistory → List Call → Type 0
NoneComes Client e calls = Unit {0}
NoneComes Server e calls = (e.announced.choices.extensions.requests_rejected ≡ true) × LeavesOutRejected e calls
