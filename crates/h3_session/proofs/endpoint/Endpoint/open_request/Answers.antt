use Rattle.std.proofs.Common.{sym, ◌∙◌}
use Rattle.h3_session.proofs.SendingCalls.{open_refuses, opens}
use Rattle.h3_session.proofs.endpoint.Endpoint.open_request.Goals as goal

pub returns-in-Some : goal.returns-in-Some
returns-in-Some c = open_refuses c.args.self.now c.in-Some.refusal (sym c.open_refusal.ensures ∙ c.in-Some.is)

pub returns : goal.returns
returns c = opens _ _ _ _ c.self.view_is (sym c.open_refusal.ensures ∙ c.in_default.is) c.in-Ok-open.ensures.ok c.in-Ok.ensures.1
