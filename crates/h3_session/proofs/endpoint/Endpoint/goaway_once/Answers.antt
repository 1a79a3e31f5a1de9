-- Nothing is done after a fault.
use Rattle.std.proofs.Common.{ap, sym, ◌∙◌}
use Rattle.h3_session.proofs.Draining.{once_closed}
use Rattle.h3_session.proofs.endpoint.Endpoint.goaway_once.Goals as goal

pub returns-in-Some-clause-goes : goal.returns-in-Some-clause-goes
returns-in-Some-clause-goes c = once_closed c.args.self.now c.args.id c.in-Some.code (ap (λ v. v.closed) (sym c.self.view_is) ∙ c.in-Some.is)
