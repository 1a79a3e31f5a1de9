use Rattle.std.proofs.Common.{refl}
use Rattle.h3_field.specs.StaticSlots.{value_part}
use Rattle.h3_field.proofs.static_.part_of_values.Goals as goal

pub returns : goal.returns
unfolding value_part
returns c = refl
