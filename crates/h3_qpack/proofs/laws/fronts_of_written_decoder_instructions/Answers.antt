use Rattle.h3_qpack.proofs.WrittenFronts.{decoder_front_read, front_listened, decoder_instructions_read}
use Rattle.h3_qpack.proofs.laws.fronts_of_written_decoder_instructions.Goals as goal

pub returns-clause-instructions : goal.returns-clause-instructions
returns-clause-instructions c = decoder_front_read

pub returns-clause-encoder : goal.returns-clause-encoder
returns-clause-encoder c = front_listened

pub returns-clause-all : goal.returns-clause-all
returns-clause-all c = decoder_instructions_read
