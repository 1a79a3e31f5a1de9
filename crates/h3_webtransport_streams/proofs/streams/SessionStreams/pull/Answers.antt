-- What is sent stays.
use Rattle.h3_connection.specs.declared.event.Pull.TheVariants.{NoMessages}
use Rattle.h3_webtransport_streams.specs.Receiver.{pulled}
use Rattle.h3_webtransport_streams.proofs.Indexing.{received_indexed}
use Rattle.h3_webtransport_streams.proofs.streams.SessionStreams.pull.Goals as goal

pub invariant_of-self : goal.invariant_of-self
invariant_of-self c =
    received_indexed c.self.inside.turns c.self.inside.streams.entries c.pull.new.streams.entries c.args.id c.self.invariant NoMessages (λ s r. pulled r s.session)
    c.pull.result c.pull.ensures
