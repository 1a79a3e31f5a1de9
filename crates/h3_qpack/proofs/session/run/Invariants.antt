use Rattle.std.proofs.Common.{◌≤◌, ◌+◌, ◌-◌, length}
use Rattle.std.specs.Prelude.{vec_len}
use Rattle.std.specs.Vec.{vec_capacity}
use Rattle.h3_qpack.proofs.Steps.{HasRun}
use Rattle.h3_qpack.proofs.session.run.Given as goal

abbrev pub invariant-events : goal.invariant-events
invariant-events l = HasRun l.capacity l.blocked l.events l.event-index l.answers.items l.session
    × (vec_len l.answers + (length l.events - l.event-index) ≤ vec_capacity l.answers)
