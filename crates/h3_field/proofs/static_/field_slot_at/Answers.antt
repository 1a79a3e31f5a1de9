use Rattle.std.proofs.Common.{refl}
use Rattle.h3_field.specs.StaticSlots.{field_slot}
use Rattle.h3_field.proofs.static_.field_slot_at.Goals as goal

pub returns : goal.returns
unfolding field_slot
returns c = refl
