use Rattle.h3_strict.proofs.PlainSteps.{every_step}
use Rattle.h3_strict.proofs.laws.each_event_steps_plainly.Goals as goal

pub returns : goal.returns
returns c = every_step
