use Rattle.std.proofs.Common.{◌∙◌}
use Rattle.h3_streams.proofs.Rows.{same_places}
use Rattle.h3_streams.specs.Plain.{code_at}
use Rattle.h3_streams.proofs.plain.PlainStreams.make_room.Goals as goal

pub returns-clause-same : goal.returns-clause-same
returns-clause-same c =
    let t = c.follow.new.self in
    record { each = λ q. rw c.in-Ok.ensures.items (same_places (code_at t.codes.items) t.first t.row.items c.lengthen.new.row.items c.lengthen.ensures.places q) ∙ c.follow.ensures.streams.each q }
