-- What is sent stays.
use Rattle.h3_webtransport_streams.proofs.Indexing.{given_up_indexed}
use Rattle.h3_webtransport_streams.proofs.streams.SessionStreams.give_up.Goals as goal

pub invariant_of-self : goal.invariant_of-self
invariant_of-self c =
    given_up_indexed c.self.inside.turns c.self.inside.streams.entries c.give_up.new.streams.entries c.args.id c.self.invariant c.args.ended c.give_up.ensures
