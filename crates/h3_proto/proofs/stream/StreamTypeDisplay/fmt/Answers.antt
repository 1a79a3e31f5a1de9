use Rattle.std.proofs.Common.{arith}
use Rattle.std.proofs.lemmas.Grind.{common_steps}
use Rattle.h3_proto.proofs.stream.StreamTypeDisplay.fmt.Goals as goal

pub returns-in-0-clause-writes : goal.returns-in-0-clause-writes
returns-in-0-clause-writes g c = grind (arith, common_steps)
