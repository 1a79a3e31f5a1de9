use Rattle.std.proofs.Common.{refl}
use Rattle.h3_field.specs.StaticSlots.{name_part}
use Rattle.h3_field.proofs.static_.part_of_names.Goals as goal

pub returns : goal.returns
unfolding name_part
returns c = refl
