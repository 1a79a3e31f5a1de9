use Rattle.std.proofs.Common.{sym, ◌++◌}
use Rattle.h3_streams.specs.Plain.{plain_streams}
use Rattle.h3_connection.specs.StrictConnection.{known_streams}
use Rattle.h3_streams.proofs.Joined.{plain_there, receives_plain, stream_second}
use Rattle.h3_streams.proofs.peer_streams.PeerStreams.receive.Goals as goal

pub receive_elsewhere-requires-clause-fits : goal.receive_elsewhere-requires-clause-fits
receive_elsewhere-requires-clause-fits c =
    let none = rw c.into_inner.ensures.value at c.in-None.ensures.none in
    rw (sym c.self.view_is, stream_second (plain_streams c.self.inside.plain) c.self.inside.kept.entries c.args.id none) at c.requires

pub returns-in-Some-clause-ok : goal.returns-in-Some-clause-ok
returns-in-Some-clause-ok c =
    let there = rw c.into_inner.ensures.value at c.in-Some.ensures.some in
    let first = plain_streams c.self.inside.plain in
    let second = c.self.inside.kept.entries in
    rw (sym c.self.view_is) (receives_plain (known_streams c.args.own.now) (first ++ second) c.args.id c.in-Some.role c.args.bytes c.received.result (plain_there first second c.args.id c.in-Some.role there) c.received.ensures)
