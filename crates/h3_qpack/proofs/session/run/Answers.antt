use Rattle.std.proofs.Common.{◌<◌, ◌^◌, rules, arith}
use Rattle.h3_qpack.proofs.RunEnds.{has_answered}
use Rattle.h3_qpack.proofs.Steps.{run_begun, run_more, run_done, event_at}
use Rattle.h3_qpack.proofs.session.run.Goals as goal

pub events-init : goal.events-init
events-init c = (run_begun _ _ _ _ _ (search rules) (search rules), search rules)

pub events-preserved : goal.events-preserved
events-preserved c = (
  run_more _ _ _ _ _ _ _ _ _ _ c.events.invariant.0 c.events-test.true c.event-item.is (event_at _ _ _ c.events-test.true c.event-item.is c.requires) c.step-answer.ensures c.push_reserved.ensures.items,
  omega (arith, c.events.invariant.1, c.events-test.true, c.push_reserved.ensures.len, c.push_reserved.ensures.capacity),
)

pub returns-clause-ok : goal.returns-clause-ok
returns-clause-ok c =
    let r = run_done _ _ _ _ _ _ c.events.invariant.0 (omega arith) in
    let small : c.args.capacity < 2 ^ 30 = search rules in
    has_answered _ _ _ _ r.0 small r.1
