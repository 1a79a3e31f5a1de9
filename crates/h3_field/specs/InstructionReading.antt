-- How an instruction is read (RFC 9204, sections 4.3 and 4.4). Payloads are judged only once it is whole.
use Rattle.std.specs.Prelude.{◌≡◌, ◌==◌, ℕ, ◌%◌, Bool, true, false, List, [], ◌∷◌, if◌then◌else◌, nat_le}
use Rattle.h3_field.specs.Reading.{Reading, Whole, Unfinished, then_read}
use Rattle.h3_field.specs.IntegerReading.{integer}
use Rattle.h3_field.specs.StringLiteral.{Text, huffman_text}
use Rattle.h3_field.specs.StringReading.{Payload, StandsFor, text_of}
use Rattle.h3_field.specs.Shapes.{index_and_string, two_strings}
use Rattle.h3_field.specs.Instruction.{EncoderInstruction, DecoderInstruction}
use Rattle.h3_field.specs.Instruction.EncoderInstruction.{SetCapacity, InsertWithStaticName, InsertWithEntryName, InsertLiteral, Duplicate}
use Rattle.h3_field.specs.Instruction.DecoderInstruction.{Acknowledge, CancelStream, Increment}

-- an encoder instruction, its payloads not yet read
pub data InstructionForm : Type 0 where
  Capacity : (capacity : ℕ) → InstructionForm
  NameReference : (is_static : Bool) (index : ℕ) (value : Payload) → InstructionForm
  LiteralName : (name value : Payload) → InstructionForm
  Repeat : (index : ℕ) → InstructionForm

-- The instruction has a string of its own.
abbrev pub HasString : InstructionForm → Type 0
HasString (Capacity n) = ⊥
HasString (NameReference is_static index value) = Unit {0}
HasString (LiteralName name value) = Unit {0}
HasString (Repeat index) = ⊥

-- Insert With Name Reference
abbrev pub name_reference : List ℕ → Reading InstructionForm
name_reference bytes = then_read (index_and_string 6 bytes) (λ parts rest. Whole (NameReference (parts.flags % 2 == 1) parts.index parts.value) rest)

-- Insert With Literal Name
abbrev pub literal_name : List ℕ → Reading InstructionForm
literal_name bytes = then_read (two_strings 6 bytes) (λ parts rest. Whole (LiteralName parts.name parts.value) rest)

-- Set Dynamic Table Capacity
abbrev pub capacity : List ℕ → Reading InstructionForm
capacity bytes = then_read (integer 5 bytes) (λ head rest. Whole (Capacity head.1) rest)

-- Duplicate
abbrev pub repeat : List ℕ → Reading InstructionForm
repeat bytes = then_read (integer 5 bytes) (λ head rest. Whole (Repeat head.1) rest)

-- by the top bits of the first byte
abbrev pub instruction : List ℕ → Reading InstructionForm
instruction [] = Unfinished
instruction (first ∷ rest) =
    if nat_le 128 first then name_reference (first ∷ rest) else (
    if nat_le 64 first then literal_name (first ∷ rest) else (
    if nat_le 32 first then capacity (first ∷ rest) else repeat (first ∷ rest)))

-- The form says this instruction, where each text is made of a payload and the bytes that it stands for. One with a payload that is no
-- string says none.
abbrev pub SaysBy : (Payload → List ℕ → Text) → InstructionForm → EncoderInstruction → Type 0
SaysBy text (Capacity n) i = i ≡ SetCapacity n
SaysBy text (NameReference true index payload) i = (value : List ℕ) × StandsFor payload value × (i ≡ InsertWithStaticName index (text payload value))
SaysBy text (NameReference false index payload) i = (value : List ℕ) × StandsFor payload value × (i ≡ InsertWithEntryName index (text payload value))
SaysBy text (LiteralName first second) i =
    (name value : List ℕ) × StandsFor first name × StandsFor second value × (i ≡ InsertLiteral (text first name) (text second value))
SaysBy text (Repeat index) i = i ≡ Duplicate index

-- The form says this instruction: each string is coded as its payload is.
abbrev pub Says : InstructionForm → EncoderInstruction → Type 0
Says form i = SaysBy text_of form i

-- The same but for how the strings are coded, of which a reader's values keep nothing: here each is Huffman coded.
abbrev pub Tells : InstructionForm → EncoderInstruction → Type 0
Tells form i = SaysBy (λ payload bytes. huffman_text bytes) form i

-- Section Acknowledgment
abbrev pub acknowledgment : List ℕ → Reading DecoderInstruction
acknowledgment bytes = then_read (integer 7 bytes) (λ head rest. Whole (Acknowledge head.1) rest)

-- Stream Cancellation
abbrev pub cancellation : List ℕ → Reading DecoderInstruction
cancellation bytes = then_read (integer 6 bytes) (λ head rest. Whole (CancelStream head.1) rest)

-- Insert Count Increment
abbrev pub increment : List ℕ → Reading DecoderInstruction
increment bytes = then_read (integer 6 bytes) (λ head rest. Whole (Increment head.1) rest)

-- a decoder instruction, by the top bits of the first byte
abbrev pub decoder_instruction : List ℕ → Reading DecoderInstruction
decoder_instruction [] = Unfinished
decoder_instruction (first ∷ rest) =
    if nat_le 128 first then acknowledgment (first ∷ rest) else (
    if nat_le 64 first then cancellation (first ∷ rest) else increment (first ∷ rest))
