use Rattle.std.proofs.Common.{arith}
use Rattle.std.proofs.lemmas.Grind.{common_steps}
use Rattle.h3_frames.proofs.stream.message_buf.MessageBuf.of_type.Goals as goal

pub returns-clause-head : goal.returns-clause-head
returns-clause-head g c = grind (arith, common_steps)
