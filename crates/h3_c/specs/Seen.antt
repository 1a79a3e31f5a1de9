-- What a contract sees behind a handle.
use Rattle.h3_connection.specs.State.{EndpointState}
use Rattle.h3_connection.specs.declared.lists.ListPull.{ListPull}
use Rattle.h3_webtransport.specs.Joint.{Joint}
use Rattle.h3_session.specs.declared.endpoint.events.EventsSeen.{EventsSeen}

-- an endpoint, the sessions of WebTransport beside it, what the last pull answered, and what was reported of the connection
pub record Seen : Type 0 where
  pub endpoint : EndpointState
  pub sessions : Joint
  pub last : ListPull
  pub events : EventsSeen
