use Rattle.std.proofs.Common.{◌-◌, sym, ap, arith, ℕ, List}
use Rattle.h3_table.proofs.Blockings.{none_waits, none_past, none_at, removed, default_free}
use Rattle.h3_table.proofs.blocking.BlockingCounts.remove.Goals as goal

pub returns-then-count-self : goal.returns-then-count-self
returns-then-count-self c =
    rw (← c.self.view_is) (ap (λ (cs : List ℕ). record { known_received = c.self.inside.known_received; counts = cs }) (sym (none_waits c.self.inside.known_received c.args.count c.self.inside.waiting.items c.if-count-self.true)))

pub returns-then-place-len : goal.returns-then-place-len
returns-then-place-len c =
    rw (← c.self.view_is) (ap (λ (cs : List ℕ). record { known_received = c.self.inside.known_received; counts = cs }) (none_past c.self.inside.known_received c.args.count c.self.inside.waiting.items (omega arith) (omega arith)))

pub returns-then-index-eq0 : goal.returns-then-index-eq0
returns-then-index-eq0 c =
    rw (← c.self.view_is) (ap (λ (cs : List ℕ). record { known_received = c.self.inside.known_received; counts = cs }) (none_at c.self.inside.known_received c.args.count c.self.inside.waiting.items c.index.result.now (omega arith) c.index.ensures c.if-index-eq0.true))

pub returns : goal.returns
returns c =
    let same = default_free c.self.inside.waiting.items (c.args.count - c.self.inside.known_received - 1) c.index.result.now c.index_mut.result.now (omega arith) in
    rw (← c.self.view_is) (ap (λ (cs : List ℕ). record { known_received = c.self.inside.known_received; counts = cs }) (removed c.self.inside.known_received c.args.count c.self.inside.waiting.items c.index_mut.result.now (omega arith) (omega arith) c.index_mut.ensures.value (omega (arith, c.index.ensures, c.index_mut.ensures.value, same))))
