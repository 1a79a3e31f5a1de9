-- Before a priority was set no turn counts, and the bytes go.
use Rattle.std.proofs.Common.{sym, ap, ◌∙◌}
use Rattle.std.specs.Prelude.{is_some}
use Rattle.h3_connection.specs.State.{EndpointState}
use Rattle.h3_session.proofs.Ordering.{advances_with_no_turns}
use Rattle.h3_session.proofs.endpoint.Endpoint.advance.Goals as goal

pub returns : goal.returns
returns c =
    advances_with_no_turns c.args.self.now c.take_bytes.new.self c.args.id c.args.count
    (ap (λ (s : EndpointState). is_some s.order.rounds) (sym c.self.view_is) ∙ sym c.is_some.ensures ∙ c.if-is_some.false) c.take_bytes.ensures
