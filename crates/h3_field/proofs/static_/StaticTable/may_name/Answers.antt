use Rattle.std.proofs.Common.{sym}
use Rattle.std.proofs.lemmas.Bool.{ltb-false}
use Rattle.h3_field.proofs.StaticEntries.{name_empty, name_free}
use Rattle.h3_field.proofs.static_.StaticTable.may_name.Goals as goal

pub returns-then-is_empty : goal.returns-then-is_empty
returns-then-is_empty c = λ e. sym (name_empty _ c.if-is_empty.ensures)

pub returns : goal.returns
returns c = λ free. sym (name_free _ _ _ c.hash_of_name.ensures.value c.name_slot_at.ensures (ltb-false _ _ free))
