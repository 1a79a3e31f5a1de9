use Rattle.std.proofs.Common.{arith, sym}
use Rattle.std.proofs.lemmas.Grind.{common_steps}
use Rattle.h3_qpack.proofs.Missed.{none_between}
use Rattle.h3_qpack.proofs.dynamic.DynamicTable.newest.Goals as goal

pub returns-in-Field-clause-value : goal.returns-in-Field-clause-value
returns-in-Field-clause-value c = grind (arith, common_steps)

pub returns-in-Field-clause-within : goal.returns-in-Field-clause-within
returns-in-Field-clause-within c = grind (arith, common_steps)

pub returns-then-most-above-clause-value : goal.returns-then-most-above-clause-value
returns-then-most-above-clause-value c = sym (none_between c.args.self.now.table _ c.args.above c.args.most (omega (arith, c.if-most-above.true)))
