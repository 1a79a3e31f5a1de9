use Rattle.std.proofs.Common.{◌≡◌, ◌≤◌, arith}
use Rattle.h3_table.specs.TableState.{evicted, with_capacity}
use Rattle.h3_table.specs.declared.entries.Match.TheVariants as what
use Rattle.h3_qpack.proofs.Indexing.{indexed_with_capacity}
use Rattle.h3_qpack.proofs.dynamic.DynamicTable.set_max_size.Goals as goal

pub invariant_of-self : goal.invariant_of-self
invariant_of-self c =
    let i = c.self.invariant in
    let g = c.evicted.ensures in
    let h = c.self.inside.entries in
    let after_is : c.in_ok-after.after ≡ evicted (with_capacity h c.args.size) = rw (← c.self.view_is) at c.in_ok-after.ensures.ok.1 in
    let above : evicted h ≤ c.in_ok-after.after = rw (← c.self.view_is) at c.in_ok-after.ensures.ok.2 in
    let low : c.evicted.result ≤ c.in_ok-after.after = omega (arith, g.value, above) in
    let names = indexed_with_capacity h what.Name c.args.size c.in_ok-after.after c.evicted.result c.self.inside.names c.evict_oldest.new.self g.made g.value after_is low i.names c.evict_oldest.ensures in
    let fields = indexed_with_capacity h what.Field c.args.size c.in_ok-after.after c.evicted.result c.self.inside.fields c.evict_oldest-2.new.self g.made g.value after_is low i.fields c.evict_oldest-2.ensures in
    rw (c.set_capacity.ensures, c.drop_to.ensures) (record { from = after_is; to = i.to; names = names; fields = fields; few = i.few; within_announced = omega arith })
