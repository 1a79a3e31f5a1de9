use Rattle.std.proofs.Common.{ap, not}
use Rattle.h3_field.proofs.StaticEntries.{name_empty, name_free, name_other, name_here}
use Rattle.h3_field.proofs.static_.StaticTable.find_name.Goals as goal

pub returns-then-is_empty-clause-entry : goal.returns-then-is_empty-clause-entry
returns-then-is_empty-clause-entry c = name_empty _ c.if-is_empty.ensures

pub returns-then-slot-ge-COUNT-clause-entry : goal.returns-then-slot-ge-COUNT-clause-entry
returns-then-slot-ge-COUNT-clause-entry c = name_free _ _ _ c.hash_of_name.ensures.value c.name_slot_at-slot.ensures c.if-slot-ge-COUNT.true

pub returns-then-not-is_same-clause-entry : goal.returns-then-not-is_same-clause-entry
returns-then-not-is_same-clause-entry c = name_other _ _ _ _ c.hash_of_name.ensures.value c.name_slot_at-slot.ensures c.name_at.ensures (ap not c.if-not-is_same.ensures)

pub returns-clause-entry : goal.returns-clause-entry
returns-clause-entry c = name_here _ _ _ _ c.hash_of_name.ensures.value c.name_slot_at-slot.ensures c.if-slot-ge-COUNT.false c.name_at.ensures (ap not c.if-not-is_same.ensures)
