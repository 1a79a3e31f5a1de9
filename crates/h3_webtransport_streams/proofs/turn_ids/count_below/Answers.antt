-- The search counts them.
use Rattle.std.proofs.Common.{rules}
use Rattle.h3_webtransport_streams.proofs.Rising.{count_absent, count_there}
use Rattle.h3_webtransport_streams.proofs.turn_ids.count_below.Goals as goal

pub returns-in-Ok : goal.returns-in-Ok
returns-in-Ok c = count_there c.args.ids.now c.args.below c.in-Some.place c.in-Ok.count (search rules) c.requires c.in-Ok.ensures

pub returns-in-Err : goal.returns-in-Err
returns-in-Err c = count_absent c.args.ids.now c.args.below c.in-Some.place c.in-Err.count (search rules) c.in-Err.ensures
