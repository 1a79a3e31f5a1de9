-- There are not so many.
use Rattle.std.proofs.Common.{arith}
use Rattle.h3_blocked.proofs.Above.{few_above}
use Rattle.h3_blocked.proofs.counts.Blocked.placed_above.Goals as goal

pub overflow_add-result : goal.overflow_add-result
overflow_add-result c = omega (arith, few_above c.args.self.now c.args.count c.requires, c.between.ensures, c.requires.passed)
