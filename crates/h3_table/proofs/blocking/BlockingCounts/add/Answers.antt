use Rattle.std.proofs.Common.{ap, arith, ℕ, List}
use Rattle.h3_table.proofs.Blockings.{none_waits, added, undone}
use Rattle.h3_table.proofs.blocking.BlockingCounts.add.Goals as goal

pub returns-then-count-self-clause-undone : goal.returns-then-count-self-clause-undone
returns-then-count-self-clause-undone c =
    rw (← c.self.view_is) (ap (λ (cs : List ℕ). record { known_received = c.self.inside.known_received; counts = cs }) (none_waits c.self.inside.known_received c.args.count c.self.inside.waiting.items c.if-count-self.true))

pub returns-clause-ok : goal.returns-clause-ok
returns-clause-ok c =
    rw (← c.self.view_is) (ap (λ (cs : List ℕ). record { known_received = c.self.inside.known_received; counts = cs })
    (added c.self.inside.known_received c.args.count c.self.inside.waiting.items c.reach.new.waiting.items c.index_mut.result.now (omega arith) c.in_ok-reach.ensures.ok c.index_mut.ensures.value (c.in_ok-reach.ensures.counts _)))

pub returns-clause-undone : goal.returns-clause-undone
returns-clause-undone c =
    rw (← c.self.view_is) (ap (λ (cs : List ℕ). record { known_received = c.self.inside.known_received; counts = cs })
    (undone c.self.inside.known_received c.args.count c.self.inside.waiting.items c.reach.new.waiting.items c.index_mut.result.now (omega arith) c.in_ok-reach.ensures.ok c.index_mut.ensures.value (c.in_ok-reach.ensures.counts _)))
