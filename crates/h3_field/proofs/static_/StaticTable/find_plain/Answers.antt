use Rattle.std.proofs.Common.{ap, not, refl}
use Rattle.h3_field.specs.Field.{plain_field}
use Rattle.h3_field.proofs.StaticEntries.{Sought, field_empty, field_free, field_other_name, field_other_value, field_here}
use Rattle.h3_field.proofs.static_.StaticTable.find_plain.Goals as goal

pub returns-then-is_empty-clause-entry : goal.returns-then-is_empty-clause-entry
returns-then-is_empty-clause-entry c = field_empty (plain_field c.args.name.now c.args.value.now) c.if-is_empty.ensures

pub returns-then-slot-ge-COUNT-clause-entry : goal.returns-then-slot-ge-COUNT-clause-entry
returns-then-slot-ge-COUNT-clause-entry c =
    let s : Sought (plain_field c.args.name.now c.args.value.now) c.hash_of_field.result c.field_slot_at-slot.result = record { hash_is = rw c.hash_of_name.ensures.value at c.hash_of_field.ensures.value; slot_is = c.field_slot_at-slot.ensures } in
    field_free _ _ _ s c.if-slot-ge-COUNT.true

pub returns-then-not-is_same-clause-entry : goal.returns-then-not-is_same-clause-entry
returns-then-not-is_same-clause-entry c =
    let s : Sought (plain_field c.args.name.now c.args.value.now) c.hash_of_field.result c.field_slot_at-slot.result = record { hash_is = rw c.hash_of_name.ensures.value at c.hash_of_field.ensures.value; slot_is = c.field_slot_at-slot.ensures } in
    field_other_name _ _ _ _ s c.name_at.ensures (ap not c.if-not-is_same.ensures)

pub returns-then-not-is_same-2-clause-entry : goal.returns-then-not-is_same-2-clause-entry
returns-then-not-is_same-2-clause-entry c =
    let s : Sought (plain_field c.args.name.now c.args.value.now) c.hash_of_field.result c.field_slot_at-slot.result = record { hash_is = rw c.hash_of_name.ensures.value at c.hash_of_field.ensures.value; slot_is = c.field_slot_at-slot.ensures } in
    field_other_value _ _ _ _ s c.value_at.ensures (ap not c.if-not-is_same-2.ensures)

pub returns-clause-entry : goal.returns-clause-entry
returns-clause-entry c =
    let s : Sought (plain_field c.args.name.now c.args.value.now) c.hash_of_field.result c.field_slot_at-slot.result = record { hash_is = rw c.hash_of_name.ensures.value at c.hash_of_field.ensures.value; slot_is = c.field_slot_at-slot.ensures } in
    field_here _ _ _ _ _ s c.if-slot-ge-COUNT.false c.name_at.ensures (ap not c.if-not-is_same.ensures) c.value_at.ensures (ap not c.if-not-is_same-2.ensures) refl
