use Rattle.std.proofs.Common.{arith}
use Rattle.std.proofs.lemmas.Grind.{common_steps}
use Rattle.h3_proto.proofs.stream.StreamId.initiator.Goals as goal

pub returns-then-self-eq0 : goal.returns-then-self-eq0
returns-then-self-eq0 c = grind (arith, common_steps)

pub returns-else-self-eq0 : goal.returns-else-self-eq0
returns-else-self-eq0 c = grind (arith, common_steps)
