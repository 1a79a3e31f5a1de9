use Rattle.h3_world.proofs.SectionCapacities.{sections_have_announced}
use Rattle.h3_world.proofs.laws.sections_have_the_capacity.Goals as goal

pub returns : goal.returns
returns c = sections_have_announced (λ counts most. c.every_session_is_sound.ensures counts most 0 0) c.canceled_streams_use_no_table.ensures.names
