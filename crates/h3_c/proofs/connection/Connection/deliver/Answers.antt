-- Bytes for whose copy there is no memory.
use Rattle.std.proofs.Common.{subst}
use Rattle.h3_webtransport.specs.Receiving.{RefusesDeliveriesOn}
use Rattle.h3_c.specs.Seen.{Seen}
use Rattle.h3_c.proofs.Uncut.{delivery_lacks}
use Rattle.h3_c.proofs.connection.Connection.deliver.Goals as goal

pub returns-in_default : goal.returns-in_default
returns-in_default c =
    delivery_lacks c.args.self.now c.args.id c.in-Ok.id c.args.bytes.now c.bytes_refusal.result c.or_memory.result c.in-Ok.ensures.ok.0 c.in-Ok.ensures.ok.1 c.in-Ok.ensures.ok.2
    (subst (λ (v : Seen). RefusesDeliveriesOn v.endpoint v.sessions c.in-Ok.id c.bytes_refusal.result) c.self.view_is c.bytes_refusal.ensures) c.or_memory.ensures
