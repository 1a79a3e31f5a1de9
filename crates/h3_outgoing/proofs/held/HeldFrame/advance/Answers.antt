use Rattle.std.proofs.Common.{rules, ap, ◌∙◌}
use Rattle.h3_connection.specs.WaitingPieces.{without_first}
use Rattle.h3_outgoing.proofs.HeldFronts.{held_fewer}
use Rattle.h3_outgoing.proofs.held.HeldFrame.advance.Goals as goal

pub returns : goal.returns
returns c =
    held_fewer c.self.inside.head c.self.inside.start c.self.inside.left c.args.count c.min-of_head.result (search rules) (search rules) (search rules) ∙ ap (without_first c.args.count) c.self.view_is
