use Rattle.h3_world.proofs.Happening.{pauses_at_end}
use Rattle.h3_world.proofs.laws.with_all_delivered_pauses_are_at_the_end.Goals as goal

pub returns : goal.returns
returns c = pauses_at_end
