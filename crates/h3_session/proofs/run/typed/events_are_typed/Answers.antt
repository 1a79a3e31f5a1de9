use Rattle.std.proofs.Common.{arith, subst}
use Rattle.std.proofs.lemmas.List.{take_all}
use Rattle.std.proofs.lemmas.List.Elements.{All-more, recursion_from_All}
use Rattle.std.specs.Prelude.{All}
use Rattle.h3_session.specs.Typed.{IsTyped}
use Rattle.h3_session.proofs.run.typed.events_are_typed.Goals as goal

pub loop-event-preserved : goal.loop-event-preserved
loop-event-preserved c =
    All-more IsTyped c.args.events.now c.loop-event.event-index c.event-item.result c.loop-event-test.true c.loop-event.invariant (subst IsTyped c.event-item.is c.event_is_typed.ensures)

pub returns : goal.returns
returns c =
    let events = c.args.events.now in
    recursion_from_All IsTyped events (subst (All IsTyped) (take_all c.loop-event.event-index events (omega (arith, c.loop-event-test.false))) c.loop-event.invariant)
