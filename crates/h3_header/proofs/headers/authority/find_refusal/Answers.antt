use Rattle.std.proofs.Common.{arith}
use Rattle.std.proofs.lemmas.Grind.{common_steps}
use Rattle.h3_header.proofs.headers.authority.find_refusal.Goals as goal

pub returns-in-None-None : goal.returns-in-None-None
returns-in-None-None c = grind (arith, common_steps)

pub returns-then-eq : goal.returns-then-eq
returns-then-eq c = grind (arith, common_steps)

pub returns-else-eq : goal.returns-else-eq
returns-else-eq c = grind (arith, common_steps)

pub returns-in_default : goal.returns-in_default
returns-in_default c = grind (arith, common_steps)
