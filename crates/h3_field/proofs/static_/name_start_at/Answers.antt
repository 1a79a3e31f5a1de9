use Rattle.std.proofs.Common.{refl}
use Rattle.h3_field.specs.StaticSlots.{name_start}
use Rattle.h3_field.proofs.static_.name_start_at.Goals as goal

pub returns : goal.returns
unfolding name_start
returns c = refl
