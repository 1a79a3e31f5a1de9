use Rattle.h3_scheduler.proofs.NextStands.{most_urgent}
use Rattle.h3_scheduler.proofs.laws.the_next_is_most_urgent.Goals as goal

pub returns : goal.returns
returns c = most_urgent
