use Rattle.std.proofs.Common.{sym}
use Rattle.h3_streams.proofs.Frames.{frames_read, frames_stopped}
use Rattle.h3_streams.proofs.streams.ConnectionStreams.frames.Goals as goal

pub returns-in_default-clause-err : goal.returns-in_default-clause-err
returns-in_default-clause-err c = rw (sym c.self.view_is) (frames_stopped _ _ _ _ _ _ c.if-not-has_settings.ensures (rw c.kinds.ensures at c.in_default.ensures.refused.part) c.held.ensures)

pub returns-clause-ok : goal.returns-clause-ok
returns-clause-ok c = rw (sym c.self.view_is) (frames_read _ _ _ _ _ _ c.if-not-has_settings.ensures (rw c.kinds.ensures at c.in-Ok.ensures.ok))
