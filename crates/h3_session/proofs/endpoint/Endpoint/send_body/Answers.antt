use Rattle.std.proofs.Common.{sym, ap, ◌+◌, ◌∙◌}
use Rattle.h3_connection.specs.State.{EndpointState}
use Rattle.h3_session.proofs.SendingBodies.{body_closed, body_uncounted, sends_body}
use Rattle.h3_session.proofs.endpoint.Endpoint.send_body.Goals as goal

pub returns-in-Some : goal.returns-in-Some
returns-in-Some c = body_closed c.args.self.now c.args.id c.args.body c.in-Some.code (ap (λ (s : EndpointState). s.closed) (sym c.self.view_is) ∙ c.in-Some.is)

pub returns-in_default-sent_with : goal.returns-in_default-sent_with
returns-in_default-sent_with c = body_uncounted c.args.self.now c.args.id c.args.body c.len-size.result c.uncounted_refusal.result (ap (λ (s : EndpointState). s.closed) (sym c.self.view_is) ∙ c.in_default.is) c.len-size.ensures.value
    c.uncounted_refusal.ensures

pub returns : goal.returns
returns c =
    sends_body c.args.self.now c.append_body.new.self c.args.id c.args.body c.in-Some-sent_with.sent c.append_body.result (ap (λ (s : EndpointState). s.closed) (sym c.self.view_is) ∙ c.in_default.is)
    (c.in-Some-sent_with.ensures.some ∙ ap (λ n. c.args.self.now.sent + n + 64) c.len-size.ensures.value)
    c.append_body.ensures.rest c.append_body.ensures.same c.append_body.ensures.ok c.append_body.ensures.taken c.append_body.ensures.why c.append_body.ensures.err
