use Rattle.std.proofs.Common.{sym, ◌∙◌}
use Rattle.h3_session.proofs.SendingCalls.{goaway_refuses, goes_away}
use Rattle.h3_session.proofs.endpoint.Endpoint.goaway.Goals as goal

pub returns-in-Some : goal.returns-in-Some
returns-in-Some c = goaway_refuses c.args.self.now c.args.id c.in-Some.refusal (sym c.goaway_refusal.ensures ∙ c.in-Some.is)

pub returns : goal.returns
returns c = goes_away _ _ _ _ c.self.view_is (sym c.goaway_refusal.ensures ∙ c.in_default.is) c.in-Ok.ensures.ok
