use Rattle.std.proofs.Common.{arith}
use Rattle.h3_field.proofs.FieldBlocks.{no_block}
use Rattle.h3_field.proofs.borrowed_fields.BorrowedFields.new.Goals as goal

pub invariant_of-result : goal.invariant_of-result
invariant_of-result c = (omega arith, rw c.new.ensures.items no_block)
