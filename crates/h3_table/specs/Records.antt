-- How the bytes of fields lie, and what records say of it.
use Rattle.std.specs.Prelude.{◌≡◌, ◌≤◌, ℕ, ◌+◌, List, [], ◌∷◌, length, take, drop, IfSome}
use Rattle.h3_field.specs.Field.{Field, plain_field}
use Rattle.h3_table.specs.declared.field_queue.Record.{Record}

-- how many bytes a field has
abbrev pub byte_count : Record → ℕ
byte_count r = r.name_len + r.value_len

-- the field whose bytes these begin with
abbrev pub first_field : List ℕ → Record → Field
first_field bytes r = plain_field (take r.name_len bytes) (take r.value_len (drop r.name_len bytes))

-- the fields whose bytes lie end to end
abbrev pub fields_of : List ℕ → List Record → List Field
fields_of bytes [] = []
fields_of bytes (r ∷ rs) = first_field bytes r ∷ fields_of (drop (byte_count r) bytes) rs

-- The record is of the field whose bytes these begin with, before which so many bytes were put in.
pub record IsRecord (place : ℕ) (bytes : List ℕ) (r : Record) : Type 0 where
  pub at : r.place ≡ place
  pub within : byte_count r ≤ length bytes
  pub static_name : IfSome r.static_name (λ name. name.now ≡ take r.name_len bytes)

-- The records are of fields whose bytes lie end to end and are these, from a place on.
abbrev pub AreLaid : ℕ → List ℕ → List Record → Type 0
AreLaid place bytes [] = bytes ≡ []
AreLaid place bytes (r ∷ rs) = IsRecord place bytes r × AreLaid (place + byte_count r) (drop (byte_count r) bytes) rs
