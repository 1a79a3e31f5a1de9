-- The turn is over, if bytes are to go.
use Rattle.std.proofs.Common.{sym, ◌∙◌}
use Rattle.h3_session.proofs.Ordering.{empty_turn, ended_turn}
use Rattle.h3_session.proofs.endpoint.Endpoint.end_turn.Goals as goal

pub returns-then-min-eq0 : goal.returns-then-min-eq0
returns-then-min-eq0 c = empty_turn c.args.self.now c.args.id c.args.count c.min.result c.in-Some.turn (sym c.turn_of.ensures ∙ c.in-Some.is) c.min.ensures c.if-min-eq0.true

pub returns : goal.returns
returns c =
    ended_turn _ _ _ _ _ _ c.in-Some.turn _ c.self.view_is (sym c.turn_of.ensures ∙ c.in-Some.is) c.min.ensures c.if-min-eq0.false c.turn_bound-until.ensures c.end_turn.ensures
