-- What is sent stays.
use Rattle.std.proofs.Common.{Some}
use Rattle.h3_connection.specs.Answers.{call_refused}
use Rattle.h3_connection.specs.declared.event.Refusal.TheVariants.{NotOpen}
use Rattle.h3_webtransport_streams.specs.Receiver.{canceled}
use Rattle.h3_webtransport_streams.proofs.Indexing.{received_indexed}
use Rattle.h3_webtransport_streams.proofs.streams.SessionStreams.cancel.Goals as goal

pub invariant_of-self : goal.invariant_of-self
invariant_of-self c =
    received_indexed c.self.inside.turns c.self.inside.streams.entries c.cancel.new.streams.entries c.args.id c.self.invariant (Some NotOpen) (λ s. canceled)
    (call_refused c.cancel.result) c.cancel.ensures
