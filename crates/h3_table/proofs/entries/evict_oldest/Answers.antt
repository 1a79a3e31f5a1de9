use Rattle.std.proofs.Common.{sym, ◌∙◌, arith}
use Rattle.h3_table.proofs.Evictions.{table-whole}
use Rattle.h3_table.proofs.Laid.{row_with}
use Rattle.h3_table.proofs.entries.evict_oldest.Goals as goal

pub returns-clause-fields : goal.returns-clause-fields
returns-clause-fields c =
    let i = c.loop-sum.invariant in
    row_with c.loop-sum.fields c.args.fields.now _ (sym (table-whole c.args.most c.loop-sum.fields.fields (omega arith)) ∙ i.same) i.written i.room i.places
