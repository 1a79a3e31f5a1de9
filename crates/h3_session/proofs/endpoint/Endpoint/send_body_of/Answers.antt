use Rattle.std.proofs.Common.{sym, ap, ◌∙◌}
use Rattle.h3_connection.specs.State.{EndpointState}
use Rattle.h3_session.proofs.SendingBodies.{held_closed, held_uncounted, sends_held}
use Rattle.h3_session.proofs.endpoint.Endpoint.send_body_of.Goals as goal

pub returns-in-Some : goal.returns-in-Some
returns-in-Some c = held_closed c.args.self.now c.args.id c.args.len c.in-Some.code (ap (λ (s : EndpointState). s.closed) (sym c.self.view_is) ∙ c.in-Some.is)

pub returns-in_default-sent_with : goal.returns-in_default-sent_with
returns-in_default-sent_with c =
    held_uncounted c.args.self.now c.args.id c.args.len c.uncounted_refusal.result (ap (λ (s : EndpointState). s.closed) (sym c.self.view_is) ∙ c.in_default.is) c.uncounted_refusal.ensures

pub returns : goal.returns
returns c =
    sends_held c.args.self.now c.append_body_of.new.self c.args.id c.args.len c.in-Some-sent_with.sent c.append_body_of.result (ap (λ (s : EndpointState). s.closed) (sym c.self.view_is) ∙ c.in_default.is)
    c.in-Some-sent_with.ensures.some
    c.append_body_of.ensures.rest c.append_body_of.ensures.same c.append_body_of.ensures.ok c.append_body_of.ensures.taken c.append_body_of.ensures.why c.append_body_of.ensures.err
