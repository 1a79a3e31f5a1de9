use Rattle.std.proofs.Common.{arith}
use Rattle.h3_field.proofs.StaticEntries.{entry_is}
use Rattle.h3_field.proofs.static_.StaticTable.get.Goals as goal

pub returns : goal.returns
returns c = rw c.from_static.ensures (entry_is c.args.index _ _ (omega arith) c.name_at.ensures c.value_at.ensures)
