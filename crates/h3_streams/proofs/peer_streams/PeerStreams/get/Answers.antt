use Rattle.std.proofs.Common.{sym}
use Rattle.h3_streams.specs.Plain.{plain_streams}
use Rattle.h3_streams.proofs.Joined.{plain_unsettled, in_second, none_unsettled}
use Rattle.h3_streams.proofs.peer_streams.PeerStreams.get.Goals as goal

pub returns-in-Some-clause-none : goal.returns-in-Some-clause-none
returns-in-Some-clause-none c = rw (sym c.self.view_is) (plain_unsettled (plain_streams c.self.inside.plain) c.self.inside.kept.entries c.args.id.now c.in-Some._role c.in-Some.ensures.some)

pub returns-in-None-clause-some : goal.returns-in-None-clause-some
returns-in-None-clause-some c = rw (sym c.self.view_is, in_second (plain_streams c.self.inside.plain) c.self.inside.kept.entries c.args.id.now c.in-None.ensures.none) c.get.ensures.some

pub returns-in-None-clause-none : goal.returns-in-None-clause-none
returns-in-None-clause-none c =
    rw (sym c.self.view_is, in_second (plain_streams c.self.inside.plain) c.self.inside.kept.entries c.args.id.now c.in-None.ensures.none) (none_unsettled c.get.result _ c.get.ensures.none)
