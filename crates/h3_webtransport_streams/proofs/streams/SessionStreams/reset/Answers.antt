-- The index has the others.
use Rattle.std.proofs.Common.{Some}
use Rattle.h3_connection.specs.Answers.{call_refused}
use Rattle.h3_connection.specs.declared.event.Refusal.TheVariants.{NotOpen}
use Rattle.h3_webtransport_streams.specs.Sender.{cut_off}
use Rattle.h3_webtransport_streams.specs.SessionStream.{sending}
use Rattle.h3_webtransport_streams.proofs.Indexing.{acts_but}
use Rattle.h3_webtransport_streams.proofs.streams.SessionStreams.reset.Goals as goal

pub settle-requires : goal.settle-requires
settle-requires c =
    acts_but c.self.inside.turns c.self.inside.streams.entries c.reset-reset.new.streams.entries c.args.id c.self.invariant (Some NotOpen) (sending (Some NotOpen) cut_off)
    (call_refused c.reset-reset.result) c.reset-reset.ensures
