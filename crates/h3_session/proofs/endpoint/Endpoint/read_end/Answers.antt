use Rattle.std.proofs.Common.{refl, sym}
use Rattle.h3_connection.specs.Delivering.{end_at}
use Rattle.h3_connection.specs.Endpoint.Kind.{PeerUnidirectional}
use Rattle.h3_session.proofs.ReceivingReading.{finds_placed}
use Rattle.h3_session.proofs.endpoint.Endpoint.read_end.Goals as goal

pub returns-clause-ok : goal.returns-clause-ok
returns-clause-ok c = rw (sym c.self.view_is) (finds_placed _ _ c.end.new.self (λ e. end_at e c.args.id PeerUnidirectional) c.end.result refl c.end.ensures.ok)
