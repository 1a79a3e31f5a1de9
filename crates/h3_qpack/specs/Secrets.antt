-- Never-indexed fields (RFC 9204, section 7.1.3): the bit N of lines, and fields, lines and drafts without the values of such fields.
use Rattle.std.specs.Prelude.{◌≡◌, ℕ, Bool, true, false, List, [], map}
use Rattle.h3_field.specs.Field.{Field}
use Rattle.h3_field.specs.StringLiteral.{Text, huffman_text, coded}
use Rattle.h3_field.specs.Line.{FieldLine}
use Rattle.h3_field.specs.Line.FieldLine.{StaticField, RelativeField, PostBaseField, StaticName, RelativeName, PostBaseName, Literal}
use Rattle.h3_qpack.specs.EncoderHistory.{EncoderHistory}
use Rattle.h3_qpack.specs.SectionEncoding.{Draft, guarded_fields}

abbrev pub MayBeIndexed : Field → Type 0
MayBeIndexed f = f.never_indexed ≡ false

-- the bit N of a line, which a line of an entry has not
abbrev pub has_bit_n : FieldLine → Bool
has_bit_n (StaticField index) = false
has_bit_n (RelativeField index) = false
has_bit_n (PostBaseField index) = false
has_bit_n (StaticName index value n) = n
has_bit_n (RelativeName index value n) = n
has_bit_n (PostBaseName index value n) = n
has_bit_n (Literal name value n) = n

abbrev pub shown : Bool → List ℕ → List ℕ
shown true value = []
shown false value = value

-- the field, without its value if it is never indexed
abbrev pub without_secret : Field → Field
without_secret f = record { name = f.name; value = shown f.never_indexed f.value; never_indexed = f.never_indexed }

-- the fields as the encoder takes them, without the values of those that are never indexed then
abbrev pub without_secrets : EncoderHistory → List Field → List Field
without_secrets s fields = map without_secret (guarded_fields s fields)

-- the text, or the empty one in its place
abbrev pub shown_text : Text → Bool → Text → Text
shown_text empty true value = empty
shown_text empty false value = value

-- the line, with the empty text in place of its value if it has the bit N
abbrev pub line_hiding : Text → FieldLine → FieldLine
line_hiding empty (StaticField index) = StaticField index
line_hiding empty (RelativeField index) = RelativeField index
line_hiding empty (PostBaseField index) = PostBaseField index
line_hiding empty (StaticName index value n) = StaticName index (shown_text empty n value) n
line_hiding empty (RelativeName index value n) = RelativeName index (shown_text empty n value) n
line_hiding empty (PostBaseName index value n) = PostBaseName index (shown_text empty n value) n
line_hiding empty (Literal name value n) = Literal name (shown_text empty n value) n

-- the line, without its value and how that is coded if it has the bit N
abbrev pub line_without_secret : FieldLine → FieldLine
line_without_secret l = line_hiding (huffman_text []) l

abbrev pub draft_hiding : Text → Draft → Draft
draft_hiding empty draft = record draft { lines = map (line_hiding empty) draft.lines }

-- a value without its secret is written like this
abbrev pub hidden : EncoderHistory → Text
hidden s = coded s.choices.shortest_strings []
