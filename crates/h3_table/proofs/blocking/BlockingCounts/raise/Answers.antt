use Rattle.std.proofs.Common.{rules, refl}
use Rattle.h3_table.proofs.Blockings.{raised}
use Rattle.h3_table.proofs.blocking.BlockingCounts.raise.Goals as goal

pub returns-clause-after : goal.returns-clause-after
returns-clause-after c =
    let left = raised c.self.inside.known_received c.saturating_add-known.result c.self.inside.waiting.items _ (search rules) c.drop_counts-self-inside.ensures.rest in
    rw (← c.self.view_is, left, c.saturating_add-known.ensures) refl
