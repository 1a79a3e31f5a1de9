-- The entries are no more than there is room for.
use Rattle.std.proofs.Common.{◌+◌, ◌∙◌, ap, sym, is_some, if◌then◌else◌}
use Rattle.h3_webtransport_streams.proofs.Indexing.{put_room}
use Rattle.h3_webtransport_streams.proofs.streams.map.insert.Goals as goal

pub returns-clause-room : goal.returns-clause-room
returns-clause-room c =
    let was = is_some c.in-Ok-insert.field-0 in
    put_room c.insert.new.self.entries c.len.result c.reserve.new.self.room was c.insert.ensures.ordered
    (c.in-Ok-insert.ensures.len ∙ ap (λ n. n + (if was then 0 else 1)) (sym c.len.ensures.len)) c.in-Ok.ensures.ok
