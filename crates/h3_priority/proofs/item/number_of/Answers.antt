use Rattle.std.proofs.Common.{arith}
use Rattle.h3_priority.proofs.Numbers.{room}
use Rattle.h3_priority.proofs.item.number_of.Goals as goal

pub overflow_mul-number : goal.overflow_mul-number
overflow_mul-number c = omega (arith, room c.loop-digit.number c.loop-digit.digit-index)

pub overflow_add-number : goal.overflow_add-number
overflow_add-number c = omega (arith, room c.loop-digit.number c.loop-digit.digit-index)
