use Rattle.std.proofs.Common.{sym, ap, ◌∙◌}
use Rattle.h3_session.proofs.ReceivingArrives.{was_refused}
use Rattle.h3_session.proofs.endpoint.Endpoint.arrive.Goals as goal

pub returns-in-Some-arrival_refusal-clause-receives : goal.returns-in-Some-arrival_refusal-clause-receives
returns-in-Some-arrival_refusal-clause-receives c =
    was_refused c.args.self.now c.args.arrival c.in-Some-arrival_refusal.refusal c.stream_of-id.result
    (sym (ap (λ v. v.closed) c.self.view_is) ∙ c.in_default.is) c.stream_of-id.ensures c.in-Some-arrival_refusal.ensures.history
