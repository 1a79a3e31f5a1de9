use Rattle.std.proofs.Common.{arith}
use Rattle.h3_field.proofs.Prefixes.{wrapped_back}
use Rattle.h3_field.proofs.block.prefix.required_count.Goals as goal

pub returns-else-count-eq0-2 : goal.returns-else-count-eq0-2
returns-else-count-eq0-2 c = wrapped_back c.args.capacity c.args.inserted c.args.encoded c.requires.encoded (omega arith) (omega arith) (omega arith) (omega arith)
