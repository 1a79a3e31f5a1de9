use Rattle.h3_qpack.proofs.InstructionsRead.{written_read}
use Rattle.h3_qpack.proofs.laws.instructions_read_back.Goals as goal

pub returns : goal.returns
returns c = written_read
