use Rattle.std.proofs.Common.{refl, sym, subst, ◌≡◌}
use Rattle.h3_connection.specs.Endpoint.{kind_of}
use Rattle.h3_connection.specs.Endpoint.Kind.{PeerUnidirectional}
use Rattle.h3_session.proofs.ReceivingReading.{reads_bytes, leaves_bytes}
use Rattle.h3_session.proofs.endpoint.Endpoint.read_bytes.Goals as goal

pub returns-in-Ok-clause-reads : goal.returns-in-Ok-clause-reads
returns-in-Ok-clause-reads c =
    let kind : kind_of c.self.inside.side c.args.id ≡ PeerUnidirectional = subst (λ v. kind_of v.side c.args.id ≡ PeerUnidirectional) (sym c.self.view_is) c.requires in
    rw (sym c.self.view_is) (reads_bytes _ _ c.bytes.new.self c.args.id c.args.bytes c.in-Ok.fault refl kind c.in-Ok.ensures.ok)

pub returns-clause-reads : goal.returns-clause-reads
returns-clause-reads c =
    let kind : kind_of c.self.inside.side c.args.id ≡ PeerUnidirectional = subst (λ v. kind_of v.side c.args.id ≡ PeerUnidirectional) (sym c.self.view_is) c.requires in
    rw (sym c.self.view_is) (leaves_bytes _ _ c.bytes.new.self c.args.id c.args.bytes c.in-Err.left c.left_by.result refl kind c.left_by.ensures c.in-Err.ensures.err)
