-- What the readers of an integer and a string, and of two strings, answer.
use Rattle.std.specs.Prelude.{◌≡◌, ◌==◌, ◌⊎◌, ◌+◌, ◌%◌, ◌<◌, ℕ, true, List, length, is_some, Result, Ok, Err}
use Rattle.h3_field.specs.Field.{Field}
use Rattle.h3_field.specs.Reading.{Reading, Whole, Unfinished, Bad}
use Rattle.h3_field.specs.StringReading.{Payload, StandsFor, StandsForNone}
use Rattle.h3_field.specs.StringAnswer.{TakesMemory, of_integer}
use Rattle.h3_field.specs.Values.{string_of}
use Rattle.h3_field.specs.declared.prefix_int.Error as integer
use Rattle.h3_field.specs.Shapes as shape
use Rattle.h3_field.specs.declared.prefix_int.Error.TheVariants.{Overflow, UnexpectedEnd}
use Rattle.h3_field.specs.declared.prefix_string.Error as string
use Rattle.h3_field.specs.declared.parse_error.ParseError.{ParseError}
use Rattle.h3_field.specs.declared.parse_error.ParseError.TheVariants.{Integer, String, InvalidPrefix, InvalidBase, OutOfMemory}
use Rattle.h3_field.specs.declared.shapes.FlaggedIndex.{FlaggedIndex}
use Rattle.h3_field.specs.declared.shapes.IndexAndString.{IndexAndString}
use Rattle.h3_field.specs.declared.shapes.TwoStrings.{TwoStrings}

-- the error of a refused string
abbrev pub of_string : string.Error → ParseError
of_string string.TheVariants.OutOfMemory = OutOfMemory
of_string string.TheVariants.UnexpectedEnd = String string.TheVariants.UnexpectedEnd
of_string (string.TheVariants.Integer e) = String (string.TheVariants.Integer e)
of_string string.TheVariants.HuffmanDecoding = String string.TheVariants.HuffmanDecoding
of_string string.TheVariants.HuffmanEncoding = String string.TheVariants.HuffmanEncoding
of_string string.TheVariants.BufSize = String string.TheVariants.BufSize

-- where a reading stopped: at an integer, or at a string, whose length is a part of it
pub data Place : Type 0 where
  AtInteger : Place
  AtString : Place

-- the error of what is not whole, or out of range, at that place
abbrev pub error_at : Place → integer.Error → ParseError
error_at AtInteger e = Integer e
error_at AtString e = String (of_integer e)

-- a string stands behind this integer
abbrev pub behind : Reading (ℕ × ℕ) → Place
behind (Whole head rest) = AtString
behind Unfinished = AtInteger
behind Bad = AtInteger

-- Both are strings, and not both empty: their bytes take memory.
abbrev pub TakeMemory : Payload → Payload → Type 0
TakeMemory name value = (is_some (string_of name) ≡ true) × (is_some (string_of value) ≡ true) × (0 < length name.bytes + length value.bytes)

-- Why what is whole is refused: a string of it is no Huffman encoding, or want of memory where each is one.
abbrev pub IsRefused : Type 0 → Type 0 → ParseError → Type 0
IsRefused memory none (String string.TheVariants.HuffmanDecoding) = none
IsRefused memory none (String string.TheVariants.OutOfMemory) = ⊥
IsRefused memory none (String string.TheVariants.UnexpectedEnd) = ⊥
IsRefused memory none (String (string.TheVariants.Integer e)) = ⊥
IsRefused memory none (String string.TheVariants.HuffmanEncoding) = ⊥
IsRefused memory none (String string.TheVariants.BufSize) = ⊥
IsRefused memory none OutOfMemory = memory
IsRefused memory none (Integer e) = ⊥
IsRefused memory none (InvalidPrefix first) = ⊥
IsRefused memory none InvalidBase = ⊥

-- the parts, and what stands behind them is left; a refused read takes nothing
abbrev pub AnswersIndexAndString : Place → Reading shape.IndexAndString → List ℕ → List ℕ → Result IndexAndString ParseError → Type 0
AnswersIndexAndString place (Whole p rest) old new (Ok r) = (r.flags ≡ p.flags) × (r.index ≡ p.index) × StandsFor p.value r.value.items × (new ≡ rest)
AnswersIndexAndString place (Whole p rest) old new (Err e) = IsRefused (TakesMemory p.value) (StandsForNone p.value) e × (new ≡ old)
AnswersIndexAndString place Unfinished old new result = (result ≡ Err (error_at place UnexpectedEnd)) × (new ≡ old)
AnswersIndexAndString place Bad old new result = (result ≡ Err (error_at place Overflow)) × (new ≡ old)

-- the strings of two payloads, and the flags
abbrev pub AnswersBothStrings : ℕ → Payload → Payload → Result TwoStrings ParseError → Type 0
AnswersBothStrings flags first second (Ok r) = (r.flags ≡ flags) × StandsFor first r.name.items × StandsFor second r.value.items
AnswersBothStrings flags first second (Err e) = IsRefused (TakeMemory first second) (StandsForNone first ⊎ StandsForNone second) e

abbrev pub AnswersTwoStrings : Reading shape.TwoStrings → List ℕ → List ℕ → Result TwoStrings ParseError → Type 0
AnswersTwoStrings (Whole p rest) old new (Ok r) = (r.flags ≡ p.flags) × StandsFor p.name r.name.items × StandsFor p.value r.value.items × (new ≡ rest)
AnswersTwoStrings (Whole p rest) old new (Err e) = IsRefused (TakeMemory p.name p.value) (StandsForNone p.name ⊎ StandsForNone p.value) e × (new ≡ old)
AnswersTwoStrings Unfinished old new result = (result ≡ Err (error_at AtString UnexpectedEnd)) × (new ≡ old)
AnswersTwoStrings Bad old new result = (result ≡ Err (error_at AtString Overflow)) × (new ≡ old)

-- what is read is this integer and this string, and what stands behind them is left
abbrev pub IsIndexAndString : Reading shape.IndexAndString → FlaggedIndex → List ℕ → List ℕ → Type 0
IsIndexAndString (Whole p rest) head value new = (head.flags ≡ p.flags) × (head.index ≡ p.index) × StandsFor p.value value × (new ≡ rest)
IsIndexAndString Unfinished head value new = ⊥
IsIndexAndString Bad head value new = ⊥

-- what is read is these two strings, and the lowest flag
abbrev pub AreTwoStrings : Reading shape.TwoStrings → Field → List ℕ → Type 0
AreTwoStrings (Whole p rest) f new = StandsFor p.name f.name × StandsFor p.value f.value × (f.never_indexed ≡ (p.flags % 2 == 1)) × (new ≡ rest)
AreTwoStrings Unfinished f new = ⊥
AreTwoStrings Bad f new = ⊥
