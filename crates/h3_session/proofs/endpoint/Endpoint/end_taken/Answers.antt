-- The end of the stream is taken, where it is next.
use Rattle.h3_session.proofs.Endings.{takes_end}
use Rattle.h3_session.proofs.endpoint.Endpoint.end_taken.Goals as goal

pub returns : goal.returns
returns c = takes_end _ _ _ _ _ c.self.view_is c.take_end.ensures.told c.take_end.ensures.taken c.take_end.ensures.same
