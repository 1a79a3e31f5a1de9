-- What of written lines, instructions and sections reads back.
use Rattle.std.specs.Prelude.{◌≡◌, ℕ, List, [], ◌∷◌, ◌++◌, nat_le, if◌then◌else◌}
use Rattle.std.specs.List.{AllByRecursion}
use Rattle.h3_huffman.specs.Payload.{IsByte}
use Rattle.h3_field.specs.Field.{Field}
use Rattle.h3_field.specs.Reading.{Whole}
use Rattle.h3_field.specs.Line.{FieldLine}
use Rattle.h3_field.specs.Line.FieldLine.{StaticField, RelativeField, PostBaseField, StaticName, RelativeName, PostBaseName, Literal}
use Rattle.h3_field.specs.Instruction.{EncoderInstruction}
use Rattle.h3_field.specs.Instruction.EncoderInstruction.{SetCapacity, InsertWithStaticName, InsertWithEntryName, InsertLiteral, Duplicate}
use Rattle.h3_field.specs.InstructionReading.{InstructionForm, Says, instruction}
use Rattle.h3_field.specs.Section.{Answer, Fields, TooLong, add_size}

abbrev pub AreBytes : List ℕ → Type 0
AreBytes bytes = AllByRecursion IsByte bytes

-- the strings of a field, a line or an instruction are bytes
abbrev pub IsFieldOfBytes : Field → Type 0
IsFieldOfBytes f = AreBytes f.name × AreBytes f.value

abbrev pub IsLineOfBytes : FieldLine → Type 0
IsLineOfBytes (StaticField index) = Unit {0}
IsLineOfBytes (RelativeField index) = Unit {0}
IsLineOfBytes (PostBaseField index) = Unit {0}
IsLineOfBytes (StaticName index value n) = AreBytes value.bytes
IsLineOfBytes (RelativeName index value n) = AreBytes value.bytes
IsLineOfBytes (PostBaseName index value n) = AreBytes value.bytes
IsLineOfBytes (Literal name value n) = AreBytes name.bytes × AreBytes value.bytes

abbrev pub IsInstructionOfBytes : EncoderInstruction → Type 0
IsInstructionOfBytes (SetCapacity capacity) = Unit {0}
IsInstructionOfBytes (InsertWithStaticName index value) = AreBytes value.bytes
IsInstructionOfBytes (InsertWithEntryName index value) = AreBytes value.bytes
IsInstructionOfBytes (InsertLiteral name value) = AreBytes name.bytes × AreBytes value.bytes
IsInstructionOfBytes (Duplicate index) = Unit {0}

-- The bytes begin with this instruction, and end with the rest.
pub record HasInstruction (bytes : List ℕ) (i : EncoderInstruction) (rest : List ℕ) : Type 0 where
  pub form : InstructionForm
  pub whole : instruction bytes ≡ Whole form rest
  pub says : Says form i

-- what a reader under a limit answers to written fields that come after others of that size: all of them, or the sum at
-- the first one that passes the limit
abbrev pub answer_from : ℕ → ℕ → List Field → List Field → Answer
answer_from limit size before [] = Fields before size
answer_from limit size before (f ∷ fields) =
    if nat_le (add_size size f) limit then answer_from limit (add_size size f) (before ++ f ∷ []) fields else TooLong (add_size size f)
