use Rattle.h3_qpack.proofs.WrittenFronts.{front_read, front_heard}
use Rattle.h3_qpack.proofs.laws.fronts_of_written_instructions.Goals as goal

pub returns-clause-instructions : goal.returns-clause-instructions
returns-clause-instructions c = front_read

pub returns-clause-decoder : goal.returns-clause-decoder
returns-clause-decoder c = front_heard
