use Rattle.std.proofs.Common.{◌∙◌, ap, length}
use Rattle.std.specs.Prelude.{◌==◌}
use Rattle.h3_outgoing.proofs.Queues.{none_wait}
use Rattle.h3_outgoing.proofs.frames.WaitingFrames.is_empty.Goals as goal

pub returns : goal.returns
returns c = none_wait c.self.inside.waiting _ c.self.invariant ∙ ap (λ w. length w.frames == 0) c.self.view_is
