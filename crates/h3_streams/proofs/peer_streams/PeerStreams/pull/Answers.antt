use Rattle.std.proofs.Common.{sym, ◌++◌}
use Rattle.h3_streams.specs.Plain.{plain_streams}
use Rattle.h3_streams.proofs.Joined.{plain_there, pulls_plain, pulls_second}
use Rattle.h3_streams.proofs.peer_streams.PeerStreams.pull.Goals as goal

pub returns-in-Some : goal.returns-in-Some
returns-in-Some c =
    let there = rw c.into_inner.ensures.value at c.in-Some.ensures.some in
    let first = plain_streams c.self.inside.plain in
    let second = c.self.inside.kept.entries in
    rw (sym c.self.view_is) (pulls_plain (first ++ second) c.args.id c.in-Some._role (plain_there first second c.args.id c.in-Some._role there))

pub returns-in-None : goal.returns-in-None
returns-in-None c =
    let none = rw c.into_inner.ensures.value at c.in-None.ensures.none in
    rw (sym c.self.view_is) (pulls_second (plain_streams c.self.inside.plain) c.self.inside.kept.entries c.pull.new.streams.entries c.args.id c.pull.result none c.pull.ensures)
