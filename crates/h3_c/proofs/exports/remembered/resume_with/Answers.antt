use Rattle.std.proofs.Common.{refl}
use Rattle.h3_c.proofs.MakingWith.{unmade_resumed}
use Rattle.h3_c.proofs.exports.remembered.resume_with.Goals as goal

pub returns-in-Err-clause-made : goal.returns-in-Err-clause-made
returns-in-Err-clause-made c = λ near. unmade_resumed _ _ _ _ _ _ (c.in-Err.ensures.refused near) refl
