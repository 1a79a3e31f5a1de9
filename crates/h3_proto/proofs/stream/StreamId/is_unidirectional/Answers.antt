use Rattle.std.proofs.Common.{arith}
use Rattle.std.proofs.lemmas.Grind.{common_steps}
use Rattle.h3_proto.proofs.stream.StreamId.is_unidirectional.Goals as goal

pub returns : goal.returns
returns c = grind (arith, common_steps)
