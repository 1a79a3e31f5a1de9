use Rattle.std.proofs.Common.{sym, ap, ◌∙◌}
use Rattle.h3_connection.specs.State.{EndpointState}
use Rattle.h3_session.proofs.SendingCalls.{finish_closed, finishes}
use Rattle.h3_session.proofs.endpoint.Endpoint.finish.Goals as goal

pub returns-in-Some : goal.returns-in-Some
returns-in-Some c = finish_closed c.args.self.now c.args.id c.in-Some.code (ap (λ (s : EndpointState). s.closed) (sym c.self.view_is) ∙ c.in-Some.is)

pub returns : goal.returns
returns c =
    finishes c.args.self.now c.finish_stream.new.self c.args.id c.finish_stream.result (ap (λ (s : EndpointState). s.closed) (sym c.self.view_is) ∙ c.in_default.is)
    c.finish_stream.ensures.rest c.finish_stream.ensures.ok c.finish_stream.ensures.rule c.finish_stream.ensures.err
