-- The slots that an index of a dynamic table puts entries in: by their names, and by names and values.
use Rattle.std.specs.Prelude.{ℕ, ◌+◌, ◌-◌, ◌*◌, ◌/◌, ◌%◌, List, length, slice_index}
use Rattle.h3_field.specs.Field.{Field}
use Rattle.h3_table.specs.declared.entries.Match.{Match}
use Rattle.h3_table.specs.declared.entries.Match.TheVariants as what

abbrev pub name_slot : List ℕ → ℕ
name_slot name =
    (37 * (length name % 256) + 101 * slice_index name (length name - 1) + 59 * slice_index name (length name / 2)) % 256

abbrev pub field_slot : ℕ → List ℕ → ℕ
field_slot slot value =
    (slot + 37 * (length value % 256) + 101 * slice_index value (length value - 1)
    + 171 * slice_index value (length value - 1 - length value / 6) + 13 * slice_index value (length value / 2)) % 256

-- Fields that match have one slot.
abbrev pub slot_of : Match → Field → ℕ
slot_of what.Name f = name_slot f.name
slot_of what.Field f = field_slot (name_slot f.name) f.value
