-- Bytes of a session's stream for whose copy there is no memory.
use Rattle.std.proofs.Common.{◌≡◌, [], subst}
use Rattle.h3_webtransport.specs.Joint.{stored_at}
use Rattle.h3_webtransport.specs.Sending.{raw_refusal}
use Rattle.h3_c.specs.Seen.{Seen}
use Rattle.h3_c.proofs.RawCalls.{raw_lacks}
use Rattle.h3_c.proofs.connection.Connection.send_raw.Goals as goal

pub returns-in_default : goal.returns-in_default
returns-in_default c =
    raw_lacks c.args.self.now c.args.id c.in-Ok.stream c.args.bytes.now c.raw_refusal.result c.or_memory.result c.in-Ok.ensures.ok.0 c.in-Ok.ensures.ok.1
    (subst (λ (v : Seen). c.raw_refusal.result ≡ raw_refusal v.endpoint.closed (stored_at v.sessions c.in-Ok.stream) []) c.self.view_is c.raw_refusal.ensures) c.or_memory.ensures
