-- How a field line is read (RFC 9204, sections 4.5.2 to 4.5.6). Its payloads are judged only once it is whole.
use Rattle.std.specs.Prelude.{◌≡◌, ◌==◌, ℕ, ◌/◌, ◌%◌, Bool, true, false, List, [], ◌∷◌, if◌then◌else◌, nat_le}
use Rattle.h3_field.specs.Reading.{Reading, Whole, Unfinished, then_read}
use Rattle.h3_field.specs.IntegerReading.{integer}
use Rattle.h3_field.specs.StringLiteral.{Text, huffman_text}
use Rattle.h3_field.specs.StringReading.{Payload, StandsFor, text_of}
use Rattle.h3_field.specs.Shapes.{index_and_string, two_strings}
use Rattle.h3_field.specs.Line.{FieldLine}
use Rattle.h3_field.specs.Line.FieldLine.{StaticField, RelativeField, PostBaseField, StaticName, RelativeName, PostBaseName, Literal}

-- a line, its payloads not yet read
pub data LineForm : Type 0 where
  Indexed : (is_static : Bool) (index : ℕ) → LineForm
  PostBase : (index : ℕ) → LineForm
  Named : (is_static : Bool) (index : ℕ) (value : Payload) (never_indexed : Bool) → LineForm
  PostBaseNamed : (index : ℕ) (value : Payload) (never_indexed : Bool) → LineForm
  LiteralField : (name value : Payload) (never_indexed : Bool) → LineForm

-- The line has a string of its own.
abbrev pub HasString : LineForm → Type 0
HasString (Indexed is_static index) = ⊥
HasString (PostBase index) = ⊥
HasString (Named is_static index value n) = Unit {0}
HasString (PostBaseNamed index value n) = Unit {0}
HasString (LiteralField name value n) = Unit {0}

abbrev pub indexed : List ℕ → Reading LineForm
indexed bytes = then_read (integer 6 bytes) (λ head rest. Whole (Indexed (head.0 % 2 == 1) head.1) rest)

abbrev pub post_base : List ℕ → Reading LineForm
post_base bytes = then_read (integer 4 bytes) (λ head rest. Whole (PostBase head.1) rest)

-- The bit N is above the bit T, and else the lowest flag.
abbrev pub named : List ℕ → Reading LineForm
named bytes = then_read (index_and_string 4 bytes) (λ parts rest. Whole (Named (parts.flags % 2 == 1) parts.index parts.value (parts.flags / 2 % 2 == 1)) rest)

abbrev pub post_base_named : List ℕ → Reading LineForm
post_base_named bytes = then_read (index_and_string 3 bytes) (λ parts rest. Whole (PostBaseNamed parts.index parts.value (parts.flags % 2 == 1)) rest)

abbrev pub literal : List ℕ → Reading LineForm
literal bytes = then_read (two_strings 4 bytes) (λ parts rest. Whole (LiteralField parts.name parts.value (parts.flags % 2 == 1)) rest)

-- by the top bits of the first byte
abbrev pub line : List ℕ → Reading LineForm
line [] = Unfinished
line (first ∷ rest) =
    if nat_le 128 first then indexed (first ∷ rest) else (
    if nat_le 64 first then named (first ∷ rest) else (
    if nat_le 32 first then literal (first ∷ rest) else (
    if nat_le 16 first then post_base (first ∷ rest) else post_base_named (first ∷ rest))))

-- The form says this line, where each text is made of a payload and the bytes that it stands for. One with a payload that is no string says
-- none.
abbrev pub SaysBy : (Payload → List ℕ → Text) → LineForm → FieldLine → Type 0
SaysBy text (Indexed true index) l = l ≡ StaticField index
SaysBy text (Indexed false index) l = l ≡ RelativeField index
SaysBy text (PostBase index) l = l ≡ PostBaseField index
SaysBy text (Named true index payload n) l = (value : List ℕ) × StandsFor payload value × (l ≡ StaticName index (text payload value) n)
SaysBy text (Named false index payload n) l = (value : List ℕ) × StandsFor payload value × (l ≡ RelativeName index (text payload value) n)
SaysBy text (PostBaseNamed index payload n) l = (value : List ℕ) × StandsFor payload value × (l ≡ PostBaseName index (text payload value) n)
SaysBy text (LiteralField first second n) l =
    (name value : List ℕ) × StandsFor first name × StandsFor second value × (l ≡ Literal (text first name) (text second value) n)

-- The form says this line: each string is coded as its payload is.
abbrev pub SaysLine : LineForm → FieldLine → Type 0
SaysLine form l = SaysBy text_of form l

-- The same but for how the strings are coded, of which a reader's values keep nothing: here each is Huffman coded.
abbrev pub TellsLine : LineForm → FieldLine → Type 0
TellsLine form l = SaysBy (λ payload bytes. huffman_text bytes) form l
