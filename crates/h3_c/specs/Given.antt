-- The list of fields that C gives: sizes, flags, and all bytes in one buffer.
use Rattle.std.specs.Prelude.{ℕ, ◌+◌, ◌==◌, nat_le, nat_lt, Bool, false, List, [], ◌∷◌, length, take, drop, if◌then◌else◌, Option, Some, None, option_map}
use Rattle.std.specs.List.{list_all}
use Rattle.h3_field.specs.Field.{Field}
use Rattle.h3_c.specs.declared.fields.FieldSize.{FieldSize}

-- the flags of a field are none, or `H3_NEVER_INDEX` alone
abbrev pub is_flags : ℕ → Bool
is_flags flags = nat_le flags 1

-- whether the first field is never indexed: not where no flags were given
abbrev pub first_flag : List ℕ → Bool
first_flag [] = false
first_flag (first ∷ flags) = first == 1

-- a name and a value at the front of the bytes, with that flag
abbrev pub field_at_front : FieldSize → Bool → List ℕ → Field
field_at_front size never_indexed bytes = record { name = take size.name bytes; value = take size.value (drop size.name bytes); never_indexed = never_indexed }

abbrev pub behind : FieldSize → List ℕ → List ℕ
behind size bytes = drop (size.name + size.value) bytes

-- the fields, where the sizes are those of all bytes; each has the flag at its place
unfoldable pub fields_cut : List FieldSize → List ℕ → List ℕ → Option (List Field)
fields_cut [] flags [] = Some []
fields_cut [] flags (byte ∷ bytes) = None
fields_cut (size ∷ sizes) flags bytes =
    if nat_lt (length bytes) (size.name + size.value) then None
    else option_map (λ fields. field_at_front size (first_flag flags) bytes ∷ fields) (fields_cut sizes (drop 1 flags) (behind size bytes))

-- the fields, where also each of the flags is one that C knows
abbrev pub fields_given : List FieldSize → List ℕ → List ℕ → Option (List Field)
fields_given sizes flags bytes = if list_all is_flags flags then fields_cut sizes flags bytes else None
