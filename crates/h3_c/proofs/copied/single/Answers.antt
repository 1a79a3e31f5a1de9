use Rattle.std.proofs.Common.{arith}
use Rattle.h3_c.proofs.Singles.{single_at}
use Rattle.h3_c.proofs.copied.single.Goals as goal

pub returns : goal.returns
returns c = single_at c.args.byte (omega arith)
