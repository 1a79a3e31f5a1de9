use Rattle.std.proofs.Common.{sym}
use Rattle.h3_incoming.proofs.section.try_section.Goals as goal

pub returns-in-Ok : goal.returns-in-Ok
returns-in-Ok c =
    let h = c.in-Ok.ensures.ok in
    rw (sym c.new-cursor.ensures) (h.0, h.1, h.2, rw c.as_slice.ensures at h.3)

pub returns-in-Err : goal.returns-in-Err
returns-in-Err c = rw (sym c.new-cursor.ensures) (c.refused.ensures _ _ _ _ c.in-Err.ensures.err.0 c.in-Err.ensures.memory)
