use Rattle.std.proofs.Common.{sym, ◌∙◌}
use Rattle.h3_session.proofs.Beside.{refuses_id, takes_id}
use Rattle.h3_session.proofs.endpoint.Endpoint.take_request_id.Goals as goal

pub returns-in-Some : goal.returns-in-Some
returns-in-Some c = refuses_id c.args.self.now c.in-Some.refusal (sym c.in-Some.is ∙ c.open_refusal.ensures)

pub returns : goal.returns
returns c = takes_id _ _ _ c.self.view_is (sym c.open_refusal.ensures ∙ c.in_default.is) c.in-Ok.ensures.1
