use Rattle.std.proofs.Common.{refl, sym, subst, ◌≡◌}
use Rattle.h3_connection.specs.Endpoint.{kind_of}
use Rattle.h3_connection.specs.Lists.{pull_of}
use Rattle.h3_connection.specs.Endpoint.Kind.{PeerUnidirectional}
use Rattle.h3_session.proofs.PullingStreams.{pulls_peer}
use Rattle.h3_session.proofs.endpoint.Endpoint.pull_peer.Goals as goal

pub returns-clause-item : goal.returns-clause-item
returns-clause-item c =
    let kind : kind_of c.self.inside.side c.args.id ≡ PeerUnidirectional = subst (λ v. kind_of v.side c.args.id ≡ PeerUnidirectional) (sym c.self.view_is) c.requires in
    rw (sym c.self.view_is) (pulls_peer _ _ c.pull.new.self c.args.id c.pull.result (pull_of c.give_made.new.self) refl kind c.pull.ensures c.give_made.ensures.is)
