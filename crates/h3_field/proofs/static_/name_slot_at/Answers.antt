use Rattle.std.proofs.Common.{refl}
use Rattle.h3_field.specs.StaticSlots.{name_slot}
use Rattle.h3_field.proofs.static_.name_slot_at.Goals as goal

pub returns : goal.returns
unfolding name_slot
returns c = refl
