-- The last of those below is the greatest.
use Rattle.std.proofs.Common.{arith, rules}
use Rattle.h3_webtransport_streams.proofs.Rising.{last_some}
use Rattle.h3_webtransport_streams.proofs.turn_ids.TurnIds.last.Goals as goal

pub returns : goal.returns
returns c =
    rw (← c.self.view_is) (last_some c.self.inside.ids.items c.args.below c.count_below-count.result c.index.result.now c.self.invariant (search rules) (omega arith) (search rules))
