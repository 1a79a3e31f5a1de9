use Rattle.std.proofs.Common.{arith, rules}
use Rattle.h3_field.specs.StaticSlots.{value_of}
use Rattle.h3_field.proofs.StaticEntries.{value_place}
use Rattle.h3_field.proofs.static_.value_at.Goals as goal

pub part_of_values-requires-clause-order : goal.part_of_values-requires-clause-order
part_of_values-requires-clause-order c = omega (arith, (value_place c.args.index c.requires).0)

pub part_of_values-requires-clause-within : goal.part_of_values-requires-clause-within
part_of_values-requires-clause-within c = omega (arith, (value_place c.args.index c.requires).1)

pub returns : goal.returns
unfolding value_of
returns c = search rules
