-- The own streams are three.
use Rattle.std.proofs.Common.{ap, ◌∙◌}
use Rattle.h3_connection.specs.OwnIds.{control_id}
use Rattle.h3_session.proofs.Next.{least_own}
use Rattle.h3_session.proofs.endpoint.Endpoint.next_own.Goals as goal

pub returns : goal.returns
returns c =
    least_own c.args.self.now c.args.from c.control_id-control.result _ _ _ _ _ (c.control_id-control.ensures ∙ ap (λ s. control_id s.side) c.self.view_is) c.own_from.ensures
    c.own_from-2.ensures c.own_from-3.ensures c.earlier-first.ensures c.earlier.ensures
