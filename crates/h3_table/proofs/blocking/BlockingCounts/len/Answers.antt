use Rattle.std.proofs.Common.{◌+◌, ◌∙◌, sym, ap, length}
use Rattle.h3_table.specs.Blocking.{BlockingState}
use Rattle.h3_table.proofs.Blockings.{counted}
use Rattle.h3_table.proofs.blocking.BlockingCounts.len.Goals as goal

pub returns : goal.returns
returns c = c.self.invariant ∙ sym (counted (c.self.inside.known_received + 1) c.self.inside.waiting.items) ∙ ap (λ (b : BlockingState). length b.counts) c.self.view_is
