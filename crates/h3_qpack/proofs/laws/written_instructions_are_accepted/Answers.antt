use Rattle.h3_qpack.proofs.Checking.{insertions_checked}
use Rattle.h3_qpack.proofs.laws.written_instructions_are_accepted.Goals as goal

pub returns : goal.returns
returns c = λ checks announced capacity instructions inserted k low r le. let at = insertions_checked checks announced capacity instructions inserted k low r le in (at.decoder, at.reads, at.has)
