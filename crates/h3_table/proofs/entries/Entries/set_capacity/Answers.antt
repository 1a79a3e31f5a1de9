use Rattle.std.proofs.Common.{ap, arith}
use Rattle.h3_table.specs.FieldRow.{FieldRow}
use Rattle.h3_table.proofs.entries.Entries.set_capacity.Goals as goal

pub invariant_of-self : goal.invariant_of-self
invariant_of-self c =
    let i = c.self.invariant in
    let e = c.evict_oldest-self-inside.ensures in
    record {
      sum = e.sum;
      fits = omega (arith, e.within);
      small = omega (arith, c.requires);
      made = omega (arith, e.len, i.made);
      few = i.few;
      written = omega (arith, i.written, ap (λ (k : FieldRow). k.written) e.fields);
    }
