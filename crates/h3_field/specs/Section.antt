-- Encoded field sections (RFC 9204, section 4.5) as lists of field lines, and those that name no dynamic entry.
use Rattle.std.specs.Prelude.{◌≡◌, ◌+◌, ◌<◌, ◌≤◌, ◌^◌, ◌-◌, ℕ, Bool, List, [], ◌∷◌, ◌++◌, min, flat_map, slice_get, Option, Some, None, option_map}
use Rattle.h3_field.specs.Field.{Field, field_size}
use Rattle.h3_field.specs.StaticTable.{static_table, static_field, static_name}
use Rattle.h3_field.specs.StringLiteral.{huffman_text}
use Rattle.h3_field.specs.Line.{FieldLine, line_bytes}
use Rattle.h3_field.specs.Line.FieldLine.{StaticField, RelativeField, PostBaseField, StaticName, RelativeName, PostBaseName, Literal}
use Rattle.h3_field.specs.Reading.{Whole}
use Rattle.h3_field.specs.LineReading.{LineForm, SaysLine, line}
use Rattle.h3_field.specs.PrefixReading.{EncodedPrefix, prefix}

-- The bytes begin with this line, and end with the rest.
pub record HasLine (bytes : List ℕ) (l : FieldLine) (rest : List ℕ) : Type 0 where
  pub form : LineForm
  pub whole : line bytes ≡ Whole form rest
  pub says : SaysLine form l

-- The bytes are these lines, one behind the other.
pub data AreLines : List ℕ → List FieldLine → Type 0 where
  NoLine : AreLines [] []
  NextLine : (bytes rest : List ℕ) (l : FieldLine) (ls : List FieldLine) → HasLine bytes l rest → AreLines rest ls → AreLines bytes (l ∷ ls)

-- a present entry's name with another value and flag
abbrev pub with_value : List ℕ → Bool → Option Field → Option Field
with_value value n entry = option_map (λ e. record { name = e.name; value = value; never_indexed = n }) entry

-- the field of a line that names no dynamic entry
abbrev pub line_field : FieldLine → Option Field
line_field (StaticField index) = slice_get static_table index
line_field (StaticName index value n) = with_value value.bytes n (slice_get static_table index)
line_field (Literal name value n) = Some (record { name = name.bytes; value = value.bytes; never_indexed = n })
line_field (RelativeField index) = None
line_field (PostBaseField index) = None
line_field (RelativeName index value n) = None
line_field (PostBaseName index value n) = None

abbrev pub literal_line : Option ℕ → Field → FieldLine
literal_line (Some index) f = StaticName index (huffman_text f.value) f.never_indexed
literal_line None f = Literal (huffman_text f.name) (huffman_text f.value) f.never_indexed

abbrev pub line_or_literal : Option ℕ → Field → FieldLine
line_or_literal (Some index) f = StaticField index
line_or_literal None f = literal_line (static_name f.name) f

-- The line of a field that names no dynamic entry: the equal static entry, or a literal with a static or literal name. No entry has the
-- flag, so a field with it is a literal.
abbrev pub static_line : Field → FieldLine
static_line f = line_or_literal (static_field f) f

-- a section that names no dynamic entry: a prefix of count 0 and base 0, and the lines
abbrev pub static_lines : List Field → List ℕ
static_lines fields = flat_map (λ f. line_bytes (static_line f)) fields

abbrev pub section_bytes : List Field → List ℕ
section_bytes fields = 0 ∷ 0 ∷ static_lines fields

-- a sum of sizes stops at the greatest number of 64 bits
abbrev pub add_size : ℕ → Field → ℕ
add_size sum f = min (2 ^ 64 - 1) (sum + field_size f)

-- what a reader of a section answers
pub data Answer : Type 0 where
  Fields : (fields : List Field) (size : ℕ) → Answer
  TooLong : (size : ℕ) → Answer
  Refused : Answer

-- Lines that come after fields of that size, read under a limit: the fields, or the sum at the first one that passes the
-- limit, or a line that is not whole, is bad, or names no static entry.
pub data Answers (limit : ℕ) : (size : ℕ) (before : List Field) (bytes : List ℕ) → Answer → Type 0 where
  End : (size : ℕ) (before : List Field) → Answers limit size before [] (Fields before size)
  Next : (size : ℕ) (before : List Field) (bytes rest : List ℕ) (l : FieldLine) (f : Field) (answer : Answer) → HasLine bytes l rest → line_field l ≡ Some f →
      add_size size f ≤ limit → Answers limit (add_size size f) (before ++ f ∷ []) rest answer → Answers limit size before bytes answer
  Passes : (size : ℕ) (before : List Field) (bytes rest : List ℕ) (l : FieldLine) (f : Field) → HasLine bytes l rest → line_field l ≡ Some f →
      limit < add_size size f → Answers limit size before bytes (TooLong (add_size size f))
  BadLine : (size : ℕ) (before : List Field) (first : ℕ) (bytes : List ℕ) → ((rest : List ℕ) (l : FieldLine) (f : Field) → HasLine (first ∷ bytes) l rest → line_field l ≡ Some f → ⊥) →
      Answers limit size before (first ∷ bytes) Refused

-- A section whose prefix stands for count 0 and base 0, as every prefix does at a reader without a table.
pub data AnswersSection (limit : ℕ) (bytes : List ℕ) : Answer → Type 0 where
  Lines : (p : EncodedPrefix) (rest : List ℕ) (answer : Answer) → prefix bytes ≡ Whole p rest → Answers limit 0 [] rest answer → AnswersSection limit bytes answer
  NoPrefix : ((p : EncodedPrefix) (rest : List ℕ) → prefix bytes ≡ Whole p rest → ⊥) → AnswersSection limit bytes Refused
