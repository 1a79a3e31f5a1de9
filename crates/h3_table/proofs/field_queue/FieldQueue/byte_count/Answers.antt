use Rattle.std.proofs.Common.{arith}
use Rattle.h3_table.proofs.Laid.{laid_count}
use Rattle.h3_table.proofs.field_queue.FieldQueue.byte_count.Goals as goal

pub returns : goal.returns
returns c = rw (← c.self.view_is) (omega (arith, c.len.ensures, laid_count _ _ _ c.self.invariant.laid))
