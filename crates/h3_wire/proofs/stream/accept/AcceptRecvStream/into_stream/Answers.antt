use Rattle.std.proofs.Common.{arith}
use Rattle.std.proofs.lemmas.Grind.{common_steps}
use Rattle.h3_wire.proofs.stream.accept.AcceptRecvStream.into_stream.Goals as goal

pub returns-in-ENCODER : goal.returns-in-ENCODER
returns-in-ENCODER g c = grind (arith, common_steps)
