use Rattle.std.proofs.Common.{refl, rules, arith}
use Rattle.h3_qpack.proofs.dynamic.DynamicTable.new.Goals as goal

pub invariant_of-result : goal.invariant_of-result
invariant_of-result c = rw (c.new.ensures, c.new-4.ensures) (record { from = refl; to = refl; names = c.new-2.ensures _; fields = c.new-3.ensures _; few = search rules; within_announced = omega arith })
