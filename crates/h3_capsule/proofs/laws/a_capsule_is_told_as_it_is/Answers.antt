use Rattle.h3_capsule.proofs.ReadsBack.{capsule_told}
use Rattle.h3_capsule.proofs.laws.a_capsule_is_told_as_it_is.Goals as goal

pub returns : goal.returns
returns c = capsule_told
