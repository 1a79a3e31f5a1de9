use Rattle.std.proofs.Common.{refl}
use Rattle.h3_c.proofs.Making.{unmade}
use Rattle.h3_c.proofs.exports.making.make.Goals as goal

pub returns-in-Err-clause-made : goal.returns-in-Err-clause-made
returns-in-Err-clause-made c = λ near. unmade _ _ _ _ (c.in-Err.ensures.refused near) refl
