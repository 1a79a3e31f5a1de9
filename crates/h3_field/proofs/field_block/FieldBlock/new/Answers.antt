use Rattle.h3_field.proofs.FieldBlocks.{no_block}
use Rattle.h3_field.proofs.field_block.FieldBlock.new.Goals as goal

pub invariant_of-result : goal.invariant_of-result
invariant_of-result c = rw (c.new.ensures, c.new-2.ensures.items) no_block
