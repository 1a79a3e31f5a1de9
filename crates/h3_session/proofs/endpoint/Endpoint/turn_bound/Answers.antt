-- No round begins, or the first id that was not seen is its bound.
use Rattle.std.proofs.Common.{sym, ap, ◌∙◌}
use Rattle.h3_connection.specs.State.{EndpointState}
use Rattle.h3_session.proofs.Ordering.{bounded_by_unseen, bounded_in_round}
use Rattle.h3_session.specs.Turns.{has_turn_in}
use Rattle.h3_session.proofs.endpoint.Endpoint.turn_bound.Goals as goal

pub returns-then-has_turn : goal.returns-then-has_turn
returns-then-has_turn c =
    bounded_in_round c.args.self.now c.args.priority c.args.id 0
    (ap (λ (s : EndpointState). has_turn_in s.order.rounds c.args.priority c.args.id) (sym c.self.view_is) ∙ sym c.has_turn.ensures ∙ c.if-has_turn.true)

pub returns : goal.returns
returns c = bounded_by_unseen c.args.self.now c.args.priority c.args.id c.first_unseen.result c.first_unseen.ensures
