use Rattle.std.proofs.Common.{sym, ◌∙◌}
use Rattle.h3_session.proofs.SendingCalls.{reset_critical, resets}
use Rattle.h3_session.proofs.endpoint.Endpoint.reset.Goals as goal

pub returns-in-Some : goal.returns-in-Some
returns-in-Some c = reset_critical c.args.self.now c.args.id c.in-Some.refusal (sym c.critical_refusal.ensures ∙ c.in-Some.is)

pub returns : goal.returns
returns c =
    resets c.args.self.now c.reset_stream.new.self c.args.id c.reset_stream.result (sym c.critical_refusal.ensures ∙ c.in_default.is)
    c.reset_stream.ensures.rest c.reset_stream.ensures.ok c.reset_stream.ensures.rule c.reset_stream.ensures.err
