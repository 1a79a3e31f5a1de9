use Rattle.std.proofs.Common.{sym}
use Rattle.std.proofs.lemmas.Result.{IfOk-weaker, IfErr-weaker}
use Rattle.h3_streams.proofs.Frames.{control_read, control_held}
use Rattle.h3_streams.proofs.streams.ConnectionStreams.control_bytes.Goals as goal

pub returns-clause-ok : goal.returns-clause-ok
returns-clause-ok c =
    rw (sym c.self.view_is) (IfOk-weaker c.frames.result _ _ (λ fault reads. control_read _ _ _ _ _ _ _ fault c.if-is_second.ensures c.in-Ok.ensures.ok reads) c.frames.ensures.ok)

pub returns-clause-err : goal.returns-clause-err
returns-clause-err c =
    rw (sym c.self.view_is) (IfErr-weaker c.frames.result _ _ (λ left stops. control_held _ _ _ _ _ _ _ _ c.if-is_second.ensures c.in-Ok.ensures.ok stops) c.frames.ensures.err)
