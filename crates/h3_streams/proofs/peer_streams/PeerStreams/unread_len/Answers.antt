use Rattle.std.proofs.Common.{sym}
use Rattle.h3_streams.specs.Plain.{plain_streams}
use Rattle.h3_streams.proofs.Joined.{nothing_unread, stream_second}
use Rattle.h3_streams.proofs.peer_streams.PeerStreams.unread_len.Goals as goal

pub returns-in-Some : goal.returns-in-Some
returns-in-Some c =
    let there = rw c.into_inner.ensures.value at c.in-Some.ensures.some in
    rw (sym c.self.view_is) (nothing_unread (plain_streams c.self.inside.plain) c.self.inside.kept.entries c.args.id c.in-Some._role there)

pub returns-in-None : goal.returns-in-None
returns-in-None c =
    let none = rw c.into_inner.ensures.value at c.in-None.ensures.none in
    rw (sym c.self.view_is, stream_second (plain_streams c.self.inside.plain) c.self.inside.kept.entries c.args.id none) c.unread_len.ensures
