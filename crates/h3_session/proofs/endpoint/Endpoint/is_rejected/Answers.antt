-- What is stored tells as much.
use Rattle.std.proofs.Common.{◌∙◌}
use Rattle.h3_session.proofs.Draining.{rejected_alike}
use Rattle.h3_session.proofs.endpoint.Endpoint.is_rejected.Goals as goal

pub returns-clause-shown : goal.returns-clause-shown
returns-clause-shown c = λ e h. c.rejects.ensures ∙ rejected_alike c.args.self.now e c.args.id h
