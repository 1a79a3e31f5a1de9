use Rattle.h3_field.proofs.FieldBlocks.{no_block}
use Rattle.h3_field.proofs.field_block.FieldBlock.clear.Goals as goal

pub invariant_of-self : goal.invariant_of-self
invariant_of-self c = rw (c.truncate.ensures, c.clear.ensures.items) no_block
