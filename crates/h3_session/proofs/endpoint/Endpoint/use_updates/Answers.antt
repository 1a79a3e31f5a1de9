-- One more is looked at in each round, up to one that finds no memory.
use Rattle.std.proofs.Common.{arith}
use Rattle.h3_session.proofs.LookingAtUpdates.{looked_all, looked_more, looked_none, looked_part}
use Rattle.h3_session.proofs.endpoint.Endpoint.use_updates.Goals as goal

pub loop-looked-init : goal.loop-looked-init
loop-looked-init c = looked_none c.args.self.now

pub loop-looked-preserved : goal.loop-looked-preserved
loop-looked-preserved c =
    looked_more c.args.self.now c.loop-looked.self c.use_update_at.new.self c.loop-looked.looked c.loop-looked.place c.in-Ok.next c.loop-looked.invariant
    (omega (arith, c.updates_waiting-looked-end.ensures, c.loop-looked-test.true)) c.in-Ok.ensures

pub returns-in_default : goal.returns-in_default
returns-in_default c =
    looked_part c.args.self.now c.loop-looked.self c.use_update_at.new.self c.loop-looked.looked c.loop-looked.place c.loop-looked.invariant
    (omega (arith, c.updates_waiting-looked-end.ensures, c.loop-looked-test.true)) c.in_default.ensures

pub returns : goal.returns
returns c =
    looked_all c.args.self.now c.loop-looked.self c.loop-looked.looked c.loop-looked.place c.loop-looked.invariant
    (omega (arith, c.updates_waiting-looked-end.ensures, c.loop-looked-test.false, c.loop-looked.auto.looked-end))
