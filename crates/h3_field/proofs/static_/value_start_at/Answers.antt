use Rattle.std.proofs.Common.{refl}
use Rattle.h3_field.specs.StaticSlots.{value_start}
use Rattle.h3_field.proofs.static_.value_start_at.Goals as goal

pub returns : goal.returns
unfolding value_start
returns c = refl
