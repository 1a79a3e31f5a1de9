-- The fields of a head or trailer, as C gets them all at once: their sizes, their flags, and their names and values one behind another.
use Rattle.std.specs.Prelude.{ℕ, ◌^◌, Bool, ◌&&◌, nat_le, nat_lt, List, [], ◌∷◌, ◌++◌, length, min, ◌-◌}
use Rattle.std.specs.List.{list_all}
use Rattle.h3_field.specs.Field.{Field}
use Rattle.h3_c.specs.Bits.{bit}
use Rattle.h3_c.specs.declared.fields.FieldSize.{FieldSize}

abbrev pub size_of : Field → FieldSize
size_of f = record { name = length f.name; value = length f.value }

abbrev pub sizes_of : List Field → List FieldSize
sizes_of [] = []
sizes_of (f ∷ fields) = size_of f ∷ sizes_of fields

-- a byte for each field: 1 where it is never indexed
abbrev pub flags_of : List Field → List ℕ
flags_of [] = []
flags_of (f ∷ fields) = bit f.never_indexed ∷ flags_of fields

abbrev pub row_of : List Field → List ℕ
row_of [] = []
row_of (f ∷ fields) = f.name ++ (f.value ++ row_of fields)

-- how many bytes these are, as a number of 64 bits
abbrev pub row_len : List Field → ℕ
row_len fields = min (length (row_of fields)) (2 ^ 64 - 1)

-- a size is a number of 32 bits
abbrev pub is_short : Field → Bool
is_short f = nat_lt (length f.name) (2 ^ 32) && nat_lt (length f.value) (2 ^ 32)

-- there is room for so many sizes, and for so many bytes
abbrev pub fits : List Field → ℕ → ℕ → Bool
fits fields count bytes = nat_le (length fields) count && (nat_le (row_len fields) bytes && list_all is_short fields)
