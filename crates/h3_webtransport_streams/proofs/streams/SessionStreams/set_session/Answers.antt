-- What is sent stays.
use Rattle.h3_webtransport_streams.proofs.Indexing.{session_indexed}
use Rattle.h3_webtransport_streams.proofs.streams.SessionStreams.set_session.Goals as goal

pub invariant_of-self : goal.invariant_of-self
invariant_of-self c =
    session_indexed c.self.inside.turns c.self.inside.streams.entries c.set_session.new.streams.entries c.args.id c.self.invariant c.args.session c.set_session.ensures
