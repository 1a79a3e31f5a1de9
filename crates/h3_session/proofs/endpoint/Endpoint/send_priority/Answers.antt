-- A rule refuses it, or else it is written.
use Rattle.std.proofs.Common.{sym, ◌∙◌}
use Rattle.h3_session.proofs.TellingPriorities.{update_refused, update_sent}
use Rattle.h3_session.proofs.endpoint.Endpoint.send_priority.Goals as goal

pub returns-in-Some : goal.returns-in-Some
returns-in-Some c = update_refused c.args.self.now c.args.id c.args.priority c.in-Some.refusal (sym c.send_priority_refusal.ensures ∙ c.in-Some.is)

pub returns : goal.returns
returns c = update_sent _ _ _ c.args.id c.args.priority c.self.view_is (sym c.send_priority_refusal.ensures ∙ c.in_default.is) c.in-Ok.ensures.ok
