use Rattle.std.proofs.Common.{arith}
use Rattle.std.proofs.lemmas.Grind.{common_steps}
use Rattle.h3_frames.proofs.stream.message_buf.MessageBuf.first_part.Goals as goal

pub returns : goal.returns
returns g c = grind (arith, common_steps)
