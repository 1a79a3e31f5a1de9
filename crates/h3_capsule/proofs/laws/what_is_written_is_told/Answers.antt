use Rattle.h3_capsule.proofs.ReadsBack.{written_told}
use Rattle.h3_capsule.proofs.laws.what_is_written_is_told.Goals as goal

pub returns : goal.returns
returns c = written_told
