-- Fields whose names and values lie in one row of bytes.
use Rattle.std.specs.Prelude.{◌≡◌, ℕ, Bool, ◌+◌, ◌-◌, ◌≤◌, List, [], ◌∷◌, ◌++◌, map, take, drop, length}
use Rattle.std.specs.List.{All}
use Rattle.h3_field.specs.Field.{Field}
use Rattle.h3_field.specs.declared.field_block.FieldPlace.{FieldPlace}

-- the bytes from one place to another
abbrev pub between : ℕ → ℕ → List ℕ → List ℕ
between start end bytes = take (end - start) (drop start bytes)

abbrev pub field_at : List ℕ → FieldPlace → Field
field_at bytes p = record { name = between p.start p.middle bytes; value = between p.middle p.end bytes; never_indexed = p.never_indexed }

abbrev pub fields_at : List ℕ → List FieldPlace → List Field
fields_at bytes places = map (field_at bytes) places

-- the bytes of all names and values
unfoldable pub end_to_end : List Field → List ℕ
end_to_end [] = []
end_to_end (field ∷ fields) = field.name ++ field.value ++ end_to_end fields

-- a place lies in so many bytes
abbrev pub LiesIn : ℕ → FieldPlace → Type 0
LiesIn count p = (p.start ≤ p.middle) × (p.middle ≤ p.end) × (p.end ≤ count)

-- each place lies in the bytes, and the fields have them all, in order
pub record IsBlock (bytes : List ℕ) (places : List FieldPlace) : Type 0 where
  pub within : All (LiesIn (length bytes)) places
  pub whole : end_to_end (fields_at bytes places) ≡ bytes

-- where the next field lies: behind the bytes; and its flag
pub record IsNext (bytes name value : List ℕ) (n : Bool) (p : FieldPlace) : Type 0 where
  pub start : p.start ≡ length bytes
  pub middle : p.middle ≡ length bytes + length name
  pub end : p.end ≡ length bytes + length name + length value
  pub flag : p.never_indexed ≡ n
