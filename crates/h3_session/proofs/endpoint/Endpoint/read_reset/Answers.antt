use Rattle.std.proofs.Common.{refl, sym}
use Rattle.h3_connection.specs.Delivering.{reset_at}
use Rattle.h3_connection.specs.Endpoint.Kind.{PeerUnidirectional}
use Rattle.h3_session.proofs.ReceivingReading.{finds_placed}
use Rattle.h3_session.proofs.endpoint.Endpoint.read_reset.Goals as goal

pub returns-clause-ok : goal.returns-clause-ok
returns-clause-ok c = rw (sym c.self.view_is) (finds_placed _ _ c.reset.new.self (λ e. reset_at e c.args.id c.args.code PeerUnidirectional) c.reset.result refl c.reset.ensures.ok)
