use Rattle.h3_qpack.proofs.ShortInstructions.{instructions_writable}
use Rattle.h3_qpack.proofs.laws.instructions_can_be_written.Goals as goal

pub returns : goal.returns
returns c = instructions_writable
