-- Fields that lie end to end in bytes of a caller's.
use Rattle.std.specs.Prelude.{ℕ, Bool, ◌+◌, List, [], ◌∷◌, ◌++◌, take, drop}
use Rattle.h3_field.specs.Field.{Field}

-- the fields so far, and the bytes after them
pub record Borrowed : Type 0 where
  pub fields : List Field
  pub rest : List ℕ

-- no field yet
abbrev pub in_front_of : List ℕ → Borrowed
in_front_of bytes = record { fields = []; rest = bytes }

-- one field more: so many bytes of a name, and then of a value
abbrev pub with_field : ℕ → ℕ → Bool → Borrowed → Borrowed
with_field name value n b = record {
  fields = b.fields ++ (record { name = take name b.rest; value = take value (drop name b.rest); never_indexed = n }) ∷ [];
  rest = drop (name + value) b.rest;
}
