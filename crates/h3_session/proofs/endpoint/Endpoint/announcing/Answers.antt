-- A new endpoint.
use Rattle.h3_session.proofs.Starting.{new_stands}
use Rattle.h3_session.proofs.endpoint.Endpoint.announcing.Goals as goal

pub returns : goal.returns
returns c = new_stands c.args.side c.args.announced _ _ _ c.new-2.ensures c.in_ok-streams.ensures c.new-3.ensures.items
