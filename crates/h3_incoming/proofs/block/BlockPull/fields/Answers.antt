use Rattle.std.proofs.Common.{◌≡◌, subst, sym}
use Rattle.std.specs.Prelude.{IfSome}
use Rattle.h3_incoming.specs.BlockPulls.{told_with}
use Rattle.h3_connection.specs.Lists.{list_of}
use Rattle.h3_incoming.proofs.BlockPullLaws.{block_kept}
use Rattle.h3_incoming.proofs.block.BlockPull.fields.Goals as goal

pub returns : goal.returns
returns c =
    subst (λ p. IfSome (list_of p) (λ l. c.fields.result ≡ l)) c.self.view_is
    (subst (λ x. IfSome (list_of (told_with c.self.inside.told c.self.inside.block)) (λ l. x ≡ l)) (sym c.fields.ensures) (block_kept c.self.inside.told c.self.inside.block))
