use Rattle.std.proofs.Common.{◌≡◌, ◌+◌, ◌≤◌, arith, ap, ◌∙◌}
use Rattle.h3_field.specs.FieldLaws.{plain_is}
use Rattle.h3_table.specs.TableState.{TableState, evicted, with_entry}
use Rattle.h3_table.specs.Tracking.{TrackingState}
use Rattle.h3_table.specs.declared.entries.Match.TheVariants as what
use Rattle.h3_qpack.proofs.Indexing.{indexed_with_entry}
use Rattle.h3_qpack.proofs.dynamic.DynamicTable.insert.Goals as goal

pub invariant_of-self : goal.invariant_of-self
invariant_of-self c =
    let i = c.self.invariant in
    record { from = i.from; to = i.to; names = c.reserve.ensures.names _ _ i.names; fields = c.reserve.ensures.fields _ _ i.fields; few = i.few; within_announced = i.within_announced }

pub invariant_of-self-in_err-add_entry : goal.invariant_of-self-in_err-add_entry
invariant_of-self-in_err-add_entry c =
    let i = c.self.invariant in
    rw c.in_err-add_entry.ensures.err
    (record { from = i.from; to = i.to; names = c.reserve.ensures.names _ _ i.names; fields = c.reserve.ensures.fields _ _ i.fields; few = i.few; within_announced = i.within_announced })

pub invariant_of-self-in_default : goal.invariant_of-self-in_default
invariant_of-self-in_default c =
    let i = c.self.invariant in
    let made : c.add_entry.new.self.made ≡ c.self.inside.tracking.made + 1 = ap (λ (t : TrackingState). t.made) c.in_ok-add_entry.ensures.ok in
    let evicted_is : c.add_entry.new.self.evicted ≡ c.self.inside.tracking.evicted = ap (λ (t : TrackingState). t.evicted) c.in_ok-add_entry.ensures.ok in
    rw (c.in_default.ensures.err, c.remove_entry.ensures)
    (record {
      from = evicted_is ∙ i.from;
      to = omega (arith, made, i.to);
      names = c.reserve.ensures.names _ _ i.names;
      fields = c.reserve.ensures.fields _ _ i.fields;
      few = i.few;
      within_announced = i.within_announced;
    })

pub invariant_of-self-2 : goal.invariant_of-self-2
invariant_of-self-2 c =
    let i = c.self.invariant in
    let g = c.evicted-evicted.ensures in
    let h = c.self.inside.entries in
    let table_is = c.in-Ok.ensures.ok ∙ ap (with_entry h) (plain_is c.args.field.now c.requires.plain) in
    let number_is : c.inserted-number.result ≡ h.inserted + 1 = c.inserted-number.ensures.value ∙ ap (λ (k : TableState). k.inserted) table_is in
    let after_is : c.args.after ≡ evicted (with_entry h c.args.field.now) = rw (← c.self.view_is) at c.requires.after in
    let low : evicted h ≤ c.args.after = rw (← c.self.view_is) at c.requires.from in
    let made : c.add_entry.new.self.made ≡ c.self.inside.tracking.made + 1 = ap (λ (t : TrackingState). t.made) c.in_ok-add_entry.ensures.ok in
    let names = indexed_with_entry h what.Name c.args.field.now c.slot-name.result c.inserted-number.result c.args.after c.evicted-evicted.result c.reserve.new.names c.add.new.self c.evict_oldest.new.self
    g.made g.value c.slot-name.ensures.value number_is after_is low (c.reserve.ensures.names _ _ i.names) c.add.ensures c.evict_oldest.ensures in
    let fields = indexed_with_entry h what.Field c.args.field.now c.slot-whole.result c.inserted-number.result c.args.after c.evicted-evicted.result c.reserve.new.fields c.add-2.new.self c.evict_oldest-2.new.self
    g.made g.value c.slot-whole.ensures.value number_is after_is low (c.reserve.ensures.fields _ _ i.fields) c.add-2.ensures c.evict_oldest-2.ensures in
    rw (table_is, c.drop_to.ensures) (record { from = after_is; to = made ∙ ap (λ n. n + 1) i.to; names = names; fields = fields; few = i.few; within_announced = i.within_announced })
