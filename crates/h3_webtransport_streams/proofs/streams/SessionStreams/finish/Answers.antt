-- The index has the others.
use Rattle.std.proofs.Common.{Some}
use Rattle.h3_connection.specs.Answers.{call_refused}
use Rattle.h3_connection.specs.declared.event.Refusal.TheVariants.{NotOpen}
use Rattle.h3_webtransport_streams.specs.Sender.{finished}
use Rattle.h3_webtransport_streams.specs.SessionStream.{sending}
use Rattle.h3_webtransport_streams.proofs.Indexing.{acts_but}
use Rattle.h3_webtransport_streams.proofs.streams.SessionStreams.finish.Goals as goal

pub settle-requires : goal.settle-requires
settle-requires c =
    acts_but c.self.inside.turns c.self.inside.streams.entries c.finish-finished.new.streams.entries c.args.id c.self.invariant (Some NotOpen) (sending (Some NotOpen) finished)
    (call_refused c.finish-finished.result) c.finish-finished.ensures
