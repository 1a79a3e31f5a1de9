-- Without a limit no list is too long, and no other event sends one.
use Rattle.h3_session.proofs.TakingAll.{takes_all}
use Rattle.h3_session.proofs.laws.sides_without_limits_take_all.Goals as goal

pub returns : goal.returns
returns c = takes_all
