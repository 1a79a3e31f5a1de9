use Rattle.std.proofs.Common.{take}
use Rattle.h3_session.specs.Acting.{ActsEach}
use Rattle.h3_session.proofs.run.run_between.Given as goal

abbrev pub invariant-loop-event : goal.invariant-loop-event
invariant-loop-event l = ActsEach l.fn.client l.fn.server (take l.event-index l.events) l.answers.items l.client l.server
