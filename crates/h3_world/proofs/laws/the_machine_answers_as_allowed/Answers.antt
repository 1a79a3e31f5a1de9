use Rattle.h3_world.proofs.Served.{served_is_step}
use Rattle.h3_world.proofs.laws.the_machine_answers_as_allowed.Goals as goal

pub returns : goal.returns
returns c = served_is_step
