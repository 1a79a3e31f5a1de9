use Rattle.h3_scheduler.proofs.NextStands.{lowest}
use Rattle.h3_scheduler.proofs.laws.the_lowest_id_is_next_without_priorities.Goals as goal

pub returns : goal.returns
returns c = lowest
