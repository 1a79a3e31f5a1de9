-- What the calls of `prefix_string` answer.
use Rattle.std.specs.Prelude.{◌≡◌, ◌<◌, ℕ, true, List, length, is_some, Result, Ok, Err, Vec}
use Rattle.std.specs.declared.alloc.Global.{Global}
use Rattle.h3_field.specs.Reading.{Reading, Whole, Unfinished, Bad}
use Rattle.h3_field.specs.StringReading.{Payload, StandsFor, StandsForNone}
use Rattle.h3_field.specs.Values.{string_of}
use Rattle.h3_field.specs.declared.prefix_int.Error as integer
use Rattle.h3_field.specs.declared.prefix_int.Error.TheVariants.{Overflow}
use Rattle.h3_field.specs.declared.prefix_string.Error.{Error}
use Rattle.h3_field.specs.declared.prefix_string.Error.TheVariants.{UnexpectedEnd, Integer, HuffmanDecoding, HuffmanEncoding, BufSize, OutOfMemory}

-- what is read, or the error and nothing is taken
abbrev pub AnswersPayload : Reading (ℕ × Payload) → List ℕ → List ℕ → Result (ℕ × Payload) integer.Error → Type 0
AnswersPayload (Whole value rest) old new result = (result ≡ Ok value) × (new ≡ rest)
AnswersPayload Unfinished old new result = (result ≡ Err integer.TheVariants.UnexpectedEnd) × (new ≡ old)
AnswersPayload Bad old new result = (result ≡ Err Overflow) × (new ≡ old)

-- It is a string, and not an empty one: its bytes take memory.
abbrev pub TakesMemory : Payload → Type 0
TakesMemory p = (is_some (string_of p) ≡ true) × (0 < length p.bytes)

-- the bytes; or that there are none; or want of memory for those that there are
abbrev pub AnswersBytes : Payload → Result (Vec ℕ Global) Error → Type 0
AnswersBytes p (Ok bytes) = StandsFor p bytes.items
AnswersBytes p (Err HuffmanDecoding) = StandsForNone p
AnswersBytes p (Err OutOfMemory) = TakesMemory p
AnswersBytes p (Err UnexpectedEnd) = ⊥
AnswersBytes p (Err (Integer e)) = ⊥
AnswersBytes p (Err HuffmanEncoding) = ⊥
AnswersBytes p (Err BufSize) = ⊥

-- The string, and what stands behind it is left. A refused read takes nothing.
abbrev pub AnswersString : Reading (ℕ × Payload) → List ℕ → List ℕ → Result (Vec ℕ Global) Error → Type 0
AnswersString (Whole value rest) old new (Ok bytes) = StandsFor value.1 bytes.items × (new ≡ rest)
AnswersString (Whole value rest) old new (Err error) = AnswersBytes value.1 (Err error) × (new ≡ old)
AnswersString Unfinished old new result = (result ≡ Err UnexpectedEnd) × (new ≡ old)
AnswersString Bad old new result = (result ≡ Err (Integer Overflow)) × (new ≡ old)

-- the error of a string whose length was refused
abbrev pub of_integer : integer.Error → Error
of_integer integer.TheVariants.UnexpectedEnd = UnexpectedEnd
of_integer Overflow = Integer Overflow
