use Rattle.std.specs.Prelude.{All, take}
use Rattle.h3_session.specs.Typed.{IsTyped}
use Rattle.h3_session.proofs.run.typed.events_are_typed.Given as goal

abbrev pub invariant-loop-event : goal.invariant-loop-event
invariant-loop-event l = All IsTyped (take l.event-index l.events)
