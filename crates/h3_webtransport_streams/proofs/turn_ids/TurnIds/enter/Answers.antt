-- There is room for it.
use Rattle.std.proofs.Common.{rules, ◌<◌, length}
use Rattle.h3_webtransport_streams.proofs.Rising.{has_room}
use Rattle.h3_webtransport_streams.proofs.turn_ids.TurnIds.enter.Goals as goal

pub unreachable-requires : goal.unreachable-requires
unreachable-requires c =
    let ids = c.self.inside.ids.items in
    let fits : length ids < c.self.inside.ids.cap = has_room ids c.args.id c.in-Err.place c.self.inside.ids.cap c.self.invariant (search rules) (search rules) in
    search (rules, fits)
