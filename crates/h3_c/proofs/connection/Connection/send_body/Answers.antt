-- A body for whose copy there is no memory.
use Rattle.std.proofs.Common.{length, refl, subst}
use Rattle.h3_session.specs.Lacking.{RefusesBodies}
use Rattle.h3_c.specs.Seen.{Seen}
use Rattle.h3_c.proofs.Uncut.{body_lacks}
use Rattle.h3_c.proofs.connection.Connection.send_body.Goals as goal

pub returns-in_default-clause-does : goal.returns-in_default-clause-does
returns-in_default-clause-does c =
    body_lacks c.args.self.now c.args.id c.in-Ok.stream (length c.args.body.now) c.args.body.now c.body_refusal.result c.or_memory.result c.in-Ok.ensures.ok.0 c.in-Ok.ensures.ok.1
    (subst (λ (v : Seen). RefusesBodies v.endpoint c.in-Ok.stream (length c.args.body.now) c.body_refusal.result) c.self.view_is c.body_refusal.ensures) refl c.or_memory.ensures
