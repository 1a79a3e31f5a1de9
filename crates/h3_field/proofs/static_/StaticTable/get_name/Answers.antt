use Rattle.std.proofs.Common.{arith}
use Rattle.h3_field.proofs.StaticEntries.{names_entry}
use Rattle.h3_field.proofs.static_.StaticTable.get_name.Goals as goal

pub returns : goal.returns
returns c = names_entry c.args.index _ (omega arith) c.name_at.ensures
