use Rattle.std.proofs.Common.{ap, sym, ◌∙◌}
use Rattle.h3_connection.specs.State.{EndpointState}
use Rattle.h3_session.proofs.Lacking.{heads_closed}
use Rattle.h3_session.proofs.endpoint.Endpoint.head_refusal.Goals as goal

-- src/endpoint/lacking.rt
pub returns-in-Some : goal.returns-in-Some
returns-in-Some c = heads_closed c.args.self.now c.args.id c.in-Some.code (ap (λ (s : EndpointState). s.closed) (sym c.self.view_is) ∙ c.in-Some.is)
