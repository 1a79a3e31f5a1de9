-- What the calls of field lines read and write.
use Rattle.std.specs.Prelude.{◌≡◌, ◌<◌, ◌≤◌, ◌^◌, ℕ, Bool, List, length, Result, Ok, Err}
use Rattle.h3_field.specs.Reading.{Reading, Whole, Unfinished, Bad}
use Rattle.h3_field.specs.Field.{Field}
use Rattle.h3_field.specs.StringLiteral.{huffman_text}
use Rattle.h3_field.specs.Line.{FieldLine}
use Rattle.h3_field.specs.Line.{FieldLine as of}
use Rattle.h3_field.specs.LineReading.{LineForm, Indexed, PostBase, Named, PostBaseNamed, LiteralField, SaysLine, TellsLine, HasString}
use Rattle.h3_field.specs.StringAnswer.{TakesMemory}
use Rattle.h3_field.specs.ShapeAnswer.{Place, error_at, TakeMemory, IsRefused}
use Rattle.h3_field.specs.declared.prefix_int.Error.TheVariants.{Overflow, UnexpectedEnd}
use Rattle.h3_field.specs.declared.parse_error.ParseError.{ParseError}
use Rattle.h3_field.specs.declared.block.HeaderBlockField as kind
use Rattle.h3_field.specs.declared.block.indexed.Indexed as indexed
use Rattle.h3_field.specs.declared.block.indexed.IndexedWithPostBase.{IndexedWithPostBase}
use Rattle.h3_field.specs.declared.block.literal.LiteralWithNameRef as named
use Rattle.h3_field.specs.declared.block.literal.LiteralWithPostBaseNameRef.{LiteralWithPostBaseNameRef}
use Rattle.h3_field.specs.declared.block.literal.Literal.{Literal}
use Rattle.h3_field.specs.declared.block.literal.NameRef as name_ref

-- the line that each value is: it is written Huffman coded
abbrev pub indexed_line : indexed.Indexed → FieldLine
indexed_line (indexed.TheVariants.Static index) = of.StaticField index
indexed_line (indexed.TheVariants.Dynamic index) = of.RelativeField index

abbrev pub post_base_line : IndexedWithPostBase → FieldLine
post_base_line l = of.PostBaseField l.0

abbrev pub named_line : named.LiteralWithNameRef → FieldLine
named_line (named.TheVariants.Static index value n) = of.StaticName index (huffman_text value.items) n
named_line (named.TheVariants.Dynamic index value n) = of.RelativeName index (huffman_text value.items) n

-- the same with that bit N
abbrev pub named_with : named.LiteralWithNameRef → Bool → named.LiteralWithNameRef
named_with (named.TheVariants.Static index value old) n = named.TheVariants.Static index value n
named_with (named.TheVariants.Dynamic index value old) n = named.TheVariants.Dynamic index value n

-- of a name, by the value and the bit N
abbrev pub line_of_name : List ℕ → Bool → name_ref.NameRef → FieldLine
line_of_name value n (name_ref.TheVariants.Static index) = of.StaticName index (huffman_text value) n
line_of_name value n (name_ref.TheVariants.Dynamic index) = of.RelativeName index (huffman_text value) n

-- of a value, by a name and the bit N
abbrev pub short_named_line : List ℕ → name_ref.NameRef × Bool → FieldLine
short_named_line value head = line_of_name value head.1 head.0

-- of a value, by a post-base index and the bit N
abbrev pub short_post_base_named_line : List ℕ → ℕ × Bool → FieldLine
short_post_base_named_line value head = of.PostBaseName head.0 (huffman_text value) head.1

abbrev pub post_base_named_line : LiteralWithPostBaseNameRef → FieldLine
post_base_named_line l = of.PostBaseName l.index (huffman_text l.value.items) l.never_indexed

abbrev pub literal_line : Literal → FieldLine
literal_line l = of.Literal (huffman_text l.name.items) (huffman_text l.value.items) l.never_indexed

abbrev pub field_line : Field → FieldLine
field_line f = of.Literal (huffman_text f.name) (huffman_text f.value) f.never_indexed

-- indexes and lengths that a writer takes
abbrev pub IsWritable : FieldLine → Type 0
IsWritable (of.StaticField index) = index < 2 ^ 62
IsWritable (of.RelativeField index) = index < 2 ^ 62
IsWritable (of.PostBaseField index) = index < 2 ^ 62
IsWritable (of.StaticName index value n) = (index < 2 ^ 62) × (length value.bytes < 2 ^ 62)
IsWritable (of.RelativeName index value n) = (index < 2 ^ 62) × (length value.bytes < 2 ^ 62)
IsWritable (of.PostBaseName index value n) = (index < 2 ^ 62) × (length value.bytes < 2 ^ 62)
IsWritable (of.Literal name value n) = (length name.bytes < 2 ^ 62) × (length value.bytes < 2 ^ 62)

-- Each string of the line is one, and not all are empty.
abbrev pub LineTakesMemory : LineForm → Type 0
LineTakesMemory (Indexed is_static index) = ⊥
LineTakesMemory (PostBase index) = ⊥
LineTakesMemory (Named is_static index value n) = TakesMemory value
LineTakesMemory (PostBaseNamed index value n) = TakesMemory value
LineTakesMemory (LiteralField name value n) = TakeMemory name value

-- The line but for how its strings are coded, and what stands behind it is left; or why it is none, and nothing is taken. Memory is asked for by strings
-- alone; only a string of a whole line is refused, and as want of memory only where the line is one.
abbrev pub AnswersLine : {L : Type 0} → (L → FieldLine) → Place → Reading LineForm → List ℕ → List ℕ → Result L ParseError → Type 0
AnswersLine line_of place (Whole form rest) old new (Ok l) = TellsLine form (line_of l) × (new ≡ rest)
AnswersLine line_of place (Whole form rest) old new (Err e) = HasString form × IsRefused (LineTakesMemory form) ((l : FieldLine) → SaysLine form l → ⊥) e × (new ≡ old)
AnswersLine line_of place Unfinished old new result = (result ≡ Err (error_at place UnexpectedEnd)) × (new ≡ old)
AnswersLine line_of place Bad old new result = (result ≡ Err (error_at place Overflow)) × (new ≡ old)

-- which line a first byte begins
abbrev pub IsLineKind : ℕ → kind.HeaderBlockField → Type 0
IsLineKind first kind.TheVariants.Indexed = 128 ≤ first
IsLineKind first kind.TheVariants.LiteralWithNameRef = (64 ≤ first) × (first < 128)
IsLineKind first kind.TheVariants.Literal = (32 ≤ first) × (first < 64)
IsLineKind first kind.TheVariants.IndexedWithPostBase = (16 ≤ first) × (first < 32)
IsLineKind first kind.TheVariants.LiteralWithPostBaseNameRef = first < 16
IsLineKind first kind.TheVariants.Unknown = ⊥
