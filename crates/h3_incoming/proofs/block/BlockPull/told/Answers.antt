use Rattle.std.proofs.Common.{◌≡◌, subst}
use Rattle.h3_incoming.specs.BlockPulls.{fields_kept, told_with, HasStatus}
use Rattle.h3_incoming.proofs.BlockPullLaws.{status_held, told_kept}
use Rattle.h3_incoming.proofs.block.BlockPull.told.Goals as goal

pub returns : goal.returns
returns c = record {
  is = subst (λ p. p ≡ told_with c.self.inside.told (fields_kept p)) c.self.view_is (told_kept c.self.inside.told c.self.inside.block);
  status = subst (λ p. HasStatus c.self.inside.told (fields_kept p)) c.self.view_is (status_held c.self.inside.told c.self.inside.block c.self.invariant);
}
