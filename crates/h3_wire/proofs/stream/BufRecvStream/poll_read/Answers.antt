use Rattle.std.proofs.Common.{arith}
use Rattle.std.proofs.lemmas.Grind.{common_steps}
use Rattle.h3_wire.proofs.stream.BufRecvStream.poll_read.Goals as goal

pub returns-in-Ready-Ok-None : goal.returns-in-Ready-Ok-None
returns-in-Ready-Ok-None g c = grind (arith, common_steps)
