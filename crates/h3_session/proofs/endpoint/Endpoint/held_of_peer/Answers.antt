use Rattle.std.proofs.Common.{refl, sym}
use Rattle.h3_session.proofs.Held.{held_peer}
use Rattle.h3_session.proofs.endpoint.Endpoint.held_of_peer.Goals as goal

pub returns : goal.returns
returns c = rw (sym c.self.view_is) (held_peer _ _ c.held.result c.args.id refl c.held.ensures)
