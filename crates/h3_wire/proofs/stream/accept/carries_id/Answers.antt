use Rattle.std.proofs.Common.{arith}
use Rattle.std.proofs.lemmas.Grind.{common_steps}
use Rattle.h3_wire.proofs.stream.accept.carries_id.Goals as goal

pub invariant_of-eq-2 : goal.invariant_of-eq-2
invariant_of-eq-2 c = grind (arith, common_steps)

pub returns-then-eq : goal.returns-then-eq
returns-then-eq c = grind (arith, common_steps)

pub returns-else-eq : goal.returns-else-eq
returns-else-eq c = grind (arith, common_steps)
