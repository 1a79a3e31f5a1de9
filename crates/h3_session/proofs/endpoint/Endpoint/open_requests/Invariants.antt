use Rattle.h3_connection.specs.Endpoint.{EndpointHistory}
use Rattle.h3_connection.specs.State.{StandsFor}
use Rattle.h3_session.specs.OpeningAt.{opened_more}
use Rattle.h3_session.proofs.endpoint.Endpoint.open_requests.Given as goal

abbrev pub invariant-loop-opened : goal.invariant-loop-opened
invariant-loop-opened l = (e : EndpointHistory) → StandsFor l.fn.self e → StandsFor l.self (opened_more l.opened e)
