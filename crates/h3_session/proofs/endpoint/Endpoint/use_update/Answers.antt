-- It waits on, is dropped, or is used.
use Rattle.std.proofs.Common.{Some, sym, ap, ◌∙◌, refl}
use Rattle.std.specs.Prelude.{option_map}
use Rattle.h3_connection.specs.State.{EndpointState, kept_at}
use Rattle.h3_requests.specs.Ordered.{is_sent}
use Rattle.h3_session.proofs.UsingUpdates.{is_dropped, is_used, waits_on}
use Rattle.h3_session.proofs.endpoint.Endpoint.use_update.Goals as goal

pub returns-in_default-clause-used : goal.returns-in_default-clause-used
returns-in_default-clause-used c =
    waits_on c.args.self.now c.args.id c.args.priority (kept_at c.args.self.now.requests c.args.id) refl
    (ap (λ (s : EndpointState). option_map (λ r. is_sent r.outgoing) (kept_at s.requests c.args.id)) (sym c.self.view_is) ∙ sym c.is_sent.ensures ∙ c.in_default.is)

pub returns-then-is_sent-clause-used : goal.returns-then-is_sent-clause-used
returns-then-is_sent-clause-used c =
    is_dropped c.args.self.now c.args.id c.args.priority (kept_at c.args.self.now.requests c.args.id) refl
    (ap (λ (s : EndpointState). option_map (λ r. is_sent r.outgoing) (kept_at s.requests c.args.id)) (sym c.self.view_is) ∙ sym c.is_sent.ensures ∙ c.in-Some.is ∙ ap Some c.if-is_sent.true)

pub returns-in-Ok-clause-used : goal.returns-in-Ok-clause-used
returns-in-Ok-clause-used c =
    is_used c.args.self.now c.say_priority.new.self c.args.id c.args.priority (kept_at c.args.self.now.requests c.args.id) refl
    (ap (λ (s : EndpointState). option_map (λ r. is_sent r.outgoing) (kept_at s.requests c.args.id)) (sym c.self.view_is) ∙ sym c.is_sent.ensures ∙ c.in-Some.is ∙ ap Some c.if-is_sent.false)
    c.in-Ok.ensures.said
