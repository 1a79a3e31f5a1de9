use Rattle.std.proofs.Common.{◌≡◌, subst}
use Rattle.std.specs.Prelude.{IfSome}
use Rattle.h3_connection.specs.Lists.{list_of}
use Rattle.h3_incoming.proofs.BlockPullLaws.{block_kept}
use Rattle.h3_incoming.proofs.block.BlockPull.block.Goals as goal

pub returns : goal.returns
returns c = subst (λ p. IfSome (list_of p) (λ l. c.self.inside.block ≡ l)) c.self.view_is (block_kept c.self.inside.told c.self.inside.block)
