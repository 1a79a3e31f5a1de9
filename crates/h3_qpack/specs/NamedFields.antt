-- What the lines of a section name, and what an instruction inserts, by what is at the number of each entry.
use Rattle.std.specs.Prelude.{◌≡◌, ℕ, zero, suc, ◌+◌, ◌-◌, false, List, [], ◌∷◌, slice_get, Option, Some, None}
use Rattle.h3_field.specs.Field.{Field, plain_field}
use Rattle.h3_field.specs.Section.{with_value}
use Rattle.h3_field.specs.StaticTable.{static_table}
use Rattle.h3_field.specs.Line.{FieldLine}
use Rattle.h3_field.specs.Line.FieldLine.{StaticField, RelativeField, PostBaseField, StaticName, RelativeName, PostBaseName, Literal}
use Rattle.h3_field.specs.Instruction.{EncoderInstruction}
use Rattle.h3_field.specs.Instruction.EncoderInstruction.{SetCapacity, InsertWithStaticName, InsertWithEntryName, InsertLiteral, Duplicate}

-- the number of the entry that a line names, or 0 (RFC 9204, sections 3.2.4 to 3.2.6)
abbrev pub entry_number : ℕ → FieldLine → ℕ
entry_number base (StaticField index) = 0
entry_number base (RelativeField index) = base - index
entry_number base (PostBaseField index) = base + index + 1
entry_number base (StaticName index value n) = 0
entry_number base (RelativeName index value n) = base - index
entry_number base (PostBaseName index value n) = base + index + 1
entry_number base (Literal name value n) = 0

-- RFC 9204 3.2.6: post-base index
-- RFC 9204 3.2.5: relative index
-- the field of a line, where what it names is there
abbrev pub line_field_by : (ℕ → Option Field) → ℕ → FieldLine → Option Field
line_field_by entry base (StaticField index) = slice_get static_table index
line_field_by entry base (RelativeField index) = entry (base - index)
line_field_by entry base (PostBaseField index) = entry (base + index + 1)
line_field_by entry base (StaticName index value n) = with_value value.bytes n (slice_get static_table index)
line_field_by entry base (RelativeName index value n) = with_value value.bytes n (entry (base - index))
line_field_by entry base (PostBaseName index value n) = with_value value.bytes n (entry (base + index + 1))
line_field_by entry base (Literal name value n) = Some (record { name = name.bytes; value = value.bytes; never_indexed = n })

-- The lines are of these fields, one of each.
abbrev pub AreOf : (FieldLine → Option Field) → List FieldLine → List Field → Type 0
AreOf field_of [] [] = Unit {0}
AreOf field_of (line ∷ lines) (field ∷ fields) = (field_of line ≡ Some field) × AreOf field_of lines fields
AreOf field_of [] (field ∷ fields) = ⊥
AreOf field_of (line ∷ lines) [] = ⊥

-- the field that an instruction inserts behind so many insertions, or none where it names none
abbrev pub insertion_by : (ℕ → Option Field) → ℕ → EncoderInstruction → Option Field
insertion_by entry inserted (SetCapacity capacity) = None
insertion_by entry inserted (InsertWithStaticName index value) = with_value value.bytes false (slice_get static_table index)
insertion_by entry inserted (InsertWithEntryName index value) = with_value value.bytes false (entry (inserted - index))
insertion_by entry inserted (InsertLiteral name value) = Some (plain_field name.bytes value.bytes)
insertion_by entry inserted (Duplicate index) = entry (inserted - index)

-- the insertion of that number, of the list of all
abbrev pub insertion_at : List Field → ℕ → Option Field
insertion_at inserted zero = None
insertion_at inserted (suc n) = slice_get inserted n

-- the field of a line over the list of all insertions
abbrev pub named_field : List Field → ℕ → FieldLine → Option Field
named_field inserted base line = line_field_by (insertion_at inserted) base line

abbrev pub StandFor : List Field → ℕ → List FieldLine → List Field → Type 0
StandFor inserted base lines fields = AreOf (named_field inserted base) lines fields
