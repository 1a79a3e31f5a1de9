-- The tables of the code, by index.
use Rattle.std.specs.Prelude.{ℕ, zero, suc, ◌+◌, ◌&&◌, Bool, true, nat_le, List, slice_index, slice_range}
use Rattle.h3_field.specs.declared.static_.tables.TheConstants.{NAME_SLOTS, NAMES, NAME_STARTS, FIELD_SLOTS, VALUES, VALUE_STARTS}

unfoldable pub name_slot : ℕ → ℕ
name_slot hash = slice_index NAME_SLOTS hash

unfoldable pub field_slot : ℕ → ℕ
field_slot hash = slice_index FIELD_SLOTS hash

unfoldable pub name_start : ℕ → ℕ
name_start i = slice_index NAME_STARTS i

unfoldable pub value_start : ℕ → ℕ
value_start i = slice_index VALUE_STARTS i

unfoldable pub name_part : ℕ → ℕ → List ℕ
name_part start end = slice_range NAMES start end

unfoldable pub value_part : ℕ → ℕ → List ℕ
value_part start end = slice_range VALUES start end

unfoldable pub name_of : ℕ → List ℕ
name_of i = name_part (name_start i) (name_start (i + 1))

unfoldable pub value_of : ℕ → List ℕ
value_of i = value_part (value_start i) (value_start (i + 1))

-- the places rise, up to the end
abbrev pub are_places : (ℕ → ℕ) → ℕ → ℕ → Bool
are_places start end zero = true
are_places start end (suc i) = nat_le (start i) (start (i + 1)) && nat_le (start (i + 1)) end && are_places start end i
