use Rattle.std.proofs.Common.{arith}
use Rattle.std.proofs.lemmas.Grind.{common_steps}
use Rattle.h3_wire.proofs.stream.write_buf.WriteBufBuf.chunk.Goals as goal

pub returns-clause-chunk : goal.returns-clause-chunk
returns-clause-chunk g c = grind (arith, common_steps)

pub returns-clause-payload : goal.returns-clause-payload
returns-clause-payload g c = grind (arith, common_steps)
