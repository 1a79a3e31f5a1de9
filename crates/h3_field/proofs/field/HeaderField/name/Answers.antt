use Rattle.std.proofs.Common.{arith}
use Rattle.std.proofs.lemmas.Grind.{common_steps}
use Rattle.h3_field.proofs.field.HeaderField.name.Goals as goal

pub returns-in-Block : goal.returns-in-Block
returns-in-Block c = grind (arith, common_steps)
