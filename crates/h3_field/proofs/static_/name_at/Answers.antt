use Rattle.std.proofs.Common.{arith, rules}
use Rattle.h3_field.specs.StaticSlots.{name_of}
use Rattle.h3_field.proofs.StaticEntries.{name_place}
use Rattle.h3_field.proofs.static_.name_at.Goals as goal

pub part_of_names-requires-clause-order : goal.part_of_names-requires-clause-order
part_of_names-requires-clause-order c = omega (arith, (name_place c.args.index c.requires).0)

pub part_of_names-requires-clause-within : goal.part_of_names-requires-clause-within
part_of_names-requires-clause-within c = omega (arith, (name_place c.args.index c.requires).1)

pub returns : goal.returns
unfolding name_of
returns c = search rules
