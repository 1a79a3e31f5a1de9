-- What the readers of a field section answer.
use Rattle.std.specs.Prelude.{◌≡◌, ◌<◌, ◌≤◌, ◌==◌, ◌%◌, ℕ, true, List, length, Some, Result, Ok, Err}
use Rattle.h3_field.specs.Field.{Field}
use Rattle.h3_field.specs.Reading.{Reading, Whole, Unfinished, Bad}
use Rattle.h3_field.specs.Line.{FieldLine}
use Rattle.h3_field.specs.LineReading.{LineForm, HasString, line}
use Rattle.h3_field.specs.LineAnswer.{LineTakesMemory}
use Rattle.h3_field.specs.PrefixReading.{EncodedPrefix, prefix}
use Rattle.h3_field.specs.Section.{HasLine, line_field, AnswersSection, TooLong, Refused}
use Rattle.h3_field.specs.StaticTable.{NamesEntry}
use Rattle.h3_field.specs.Errors.{decoder_parse}
use Rattle.h3_field.specs.declared.parse_error.ParseError.{ParseError}
use Rattle.h3_field.specs.declared.parse_error.ParseError.TheVariants as parse
use Rattle.h3_field.specs.declared.decoder_error.DecoderError.{DecoderError}
use Rattle.h3_field.specs.declared.decoder_error.DecoderError.TheVariants.{InvalidInteger, InvalidString, InvalidIndex, DynamicTable, InvalidStaticIndex, UnknownPrefix, MissingRefs, BadBaseIndex, UnexpectedEnd, HeaderTooLong, BufSize, OutOfMemory}

-- The bytes begin with a line of that field, and end with the rest.
pub record HasField (bytes : List ℕ) (f : Field) (rest : List ℕ) : Type 0 where
  pub line : FieldLine
  pub here : HasLine bytes line rest
  pub names : line_field line ≡ Some f
  pub less : length rest < length bytes

-- They begin with none that names no dynamic entry.
abbrev pub HasNoField : List ℕ → Type 0
HasNoField bytes = (rest : List ℕ) (l : FieldLine) (f : Field) → HasLine bytes l rest → line_field l ≡ Some f → ⊥

-- They begin with a line that has a string: each string of it is one, and not all are empty.
abbrev pub BeginsWithString : List ℕ → Type 0
BeginsWithString bytes = (form : LineForm) × (rest : List ℕ) × (line bytes ≡ Whole form rest) × HasString form × LineTakesMemory form

-- And that line is a field: it names a static entry, or has a literal name.
abbrev pub BeginsWithLiteral : List ℕ → Type 0
BeginsWithLiteral bytes = (form : LineForm) × (rest : List ℕ) × (f : Field) × (line bytes ≡ Whole form rest) × HasString form × LineTakesMemory form × HasField bytes f rest

-- Memory may be asked for as soon as a section's first line is a field. A line that names no entry of the static table is
-- none, whatever its strings.
abbrev pub MayAskMemory : List ℕ → Type 0
MayAskMemory bytes = (p : EncodedPrefix) × (lines : List ℕ) × (prefix bytes ≡ Whole p lines) × (rest : List ℕ) × (f : Field) × HasField lines f rest

-- a refusal is for want of memory, or as given
abbrev pub IsReason : Type 0 → Type 0 → (ℕ → Type 0) → DecoderError → Type 0
IsReason memory bad long OutOfMemory = memory
IsReason memory bad long (HeaderTooLong size) = long size
IsReason memory bad long (InvalidInteger e) = bad
IsReason memory bad long (InvalidString e) = bad
IsReason memory bad long (InvalidIndex e) = bad
IsReason memory bad long (DynamicTable e) = bad
IsReason memory bad long (InvalidStaticIndex e) = bad
IsReason memory bad long (UnknownPrefix e) = bad
IsReason memory bad long (MissingRefs e) = bad
IsReason memory bad long BadBaseIndex = bad
IsReason memory bad long UnexpectedEnd = bad
IsReason memory bad long BufSize = bad

abbrev pub AnswersField : List ℕ → List ℕ → Result Field DecoderError → Type 0
AnswersField old new (Ok f) = HasField old f new
AnswersField old new (Err e) = IsReason (BeginsWithLiteral old) (HasNoField old) (λ size. ⊥) e

-- The integer in front of a line with a name reference names a static entry, or none that is static.
abbrev pub NamesStatic : ℕ × ℕ → Type 0
NamesStatic head = ((head.0 % 2 == 1) ≡ true) × ((name : List ℕ) × NamesEntry head.1 name)

abbrev pub NamesNoStatic : ℕ × ℕ → Type 0
NamesNoStatic head = (head.0 % 2 == 1) ≡ true → 99 ≤ head.1

-- why such a line is refused for whose value there is no memory: as want of memory only where it names a static entry
abbrev pub IsNameRefusal : Reading (ℕ × ℕ) → DecoderError → Type 0
IsNameRefusal (Whole head rest) e = IsReason (NamesStatic head) (NamesNoStatic head) (λ size. ⊥) e
IsNameRefusal Unfinished e = Unit {0}
IsNameRefusal Bad e = Unit {0}

-- why such a line is refused, by what its reader answers
abbrev pub IsNamedRefusal : Reading (ℕ × ℕ) → ParseError → DecoderError → Type 0
IsNamedRefusal name parse.OutOfMemory e = IsNameRefusal name e
IsNamedRefusal name (parse.Integer x) e = e ≡ decoder_parse (parse.Integer x)
IsNamedRefusal name (parse.String x) e = e ≡ decoder_parse (parse.String x)
IsNamedRefusal name (parse.InvalidPrefix x) e = e ≡ decoder_parse (parse.InvalidPrefix x)
IsNamedRefusal name parse.InvalidBase e = e ≡ decoder_parse parse.InvalidBase

-- why a section is refused
abbrev pub IsRefusal : ℕ → List ℕ → DecoderError → Type 0
IsRefusal limit bytes e = IsReason (MayAskMemory bytes) (AnswersSection limit bytes Refused) (λ size. AnswersSection limit bytes (TooLong size)) e
