use Rattle.std.proofs.Common.{arith}
use Rattle.std.proofs.lemmas.Grind.{common_steps}
use Rattle.h3_frames.proofs.proto.frame.show.FrameErrorDisplay.fmt.Goals as goal

pub returns-in-UnknownFrame-clause-writes : goal.returns-in-UnknownFrame-clause-writes
returns-in-UnknownFrame-clause-writes g c = grind (arith, common_steps)
