-- The hashes that tell the names and the entries of the static table apart, and what their tables have to say.
use Rattle.std.specs.Prelude.{◌==◌, ℕ, zero, suc, ◌+◌, ◌-◌, ◌*◌, ◌/◌, ◌%◌, nat_lt, bytes_eq, Bool, true, false, ◌&&◌, List, [], ◌∷◌, length, slice_index, Option, Some, None}
use Rattle.h3_field.specs.Field.{Field, plain_field}
use Rattle.h3_field.specs.StaticTable.{static_name, static_field}

abbrev pub name_hash : List ℕ → ℕ
name_hash name = (42 * (length name % 128) + 29 * slice_index name (length name - 1) + 12 * slice_index name (length name - 1 - length name / 6)) % 256

abbrev pub field_hash : ℕ → List ℕ → ℕ
field_hash hash value =
    (21 * (hash + length value % 128) + 6 * slice_index value (length value - 1) + 56 * slice_index value (length value / 2) + 55 * slice_index value (length value / 4)) % 512

abbrev pub is_some_of : ℕ → Option ℕ → Bool
is_some_of n (Some m) = n == m
is_some_of n None = false

-- the least index of a name stands in the slot of its hash
abbrev pub is_name_found : (ℕ → ℕ) → List ℕ → Bool
is_name_found name_slot name = is_some_of (name_slot (name_hash name)) (static_name name)

abbrev pub are_names_found : (ℕ → ℕ) → (ℕ → List ℕ) → List Field → Bool
are_names_found name_slot name_of [] = true
are_names_found name_slot name_of (entry ∷ more) =
    (is_name_found name_slot entry.name && nat_lt (name_slot (name_hash entry.name)) 99 && bytes_eq (name_of (name_slot (name_hash entry.name))) entry.name && nat_lt 0 (length entry.name))
    && are_names_found name_slot name_of more

abbrev pub all_names : (ℕ → ℕ) → (ℕ → List ℕ) → ℕ → Bool
all_names name_slot name_of zero = true
all_names name_slot name_of (suc i) = is_name_found name_slot (name_of i) && all_names name_slot name_of i

abbrev pub slot_of_field : (ℕ → ℕ) → Field → ℕ
slot_of_field field_slot f = field_slot (field_hash (name_hash f.name) f.value)

-- the index of an entry stands in the slot of its hash
abbrev pub is_field_found : (ℕ → ℕ) → Field → Bool
is_field_found field_slot f = is_some_of (slot_of_field field_slot f) (static_field f)

abbrev pub are_fields_found : (ℕ → ℕ) → (ℕ → List ℕ) → (ℕ → List ℕ) → List Field → Bool
are_fields_found field_slot name_of value_of [] = true
are_fields_found field_slot name_of value_of (entry ∷ more) =
    (nat_lt (slot_of_field field_slot entry) 99 && bytes_eq (name_of (slot_of_field field_slot entry)) entry.name && bytes_eq (value_of (slot_of_field field_slot entry)) entry.value && nat_lt 0 (length entry.name))
    && are_fields_found field_slot name_of value_of more

abbrev pub all_fields : (ℕ → ℕ) → (ℕ → List ℕ) → (ℕ → List ℕ) → ℕ → Bool
all_fields field_slot name_of value_of zero = true
all_fields field_slot name_of value_of (suc i) = is_field_found field_slot (plain_field (name_of i) (value_of i)) && all_fields field_slot name_of value_of i

-- the entries from the first one on, by index
abbrev pub are_entries : (ℕ → List ℕ) → (ℕ → List ℕ) → ℕ → List Field → Bool
are_entries name_of value_of i [] = true
are_entries name_of value_of i (entry ∷ more) = (bytes_eq (name_of i) entry.name && bytes_eq (value_of i) entry.value) && are_entries name_of value_of (i + 1) more
