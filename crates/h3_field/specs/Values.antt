-- The string of a payload, and the line or instruction of a form, computed: none where a payload is no string.
use Rattle.std.specs.Prelude.{ℕ, true, false, List, if◌then◌else◌, Option, Some, None, option_map}
use Rattle.std.specs.List.{list_all}
use Rattle.h3_huffman.specs.Unhuffman.{is_byte, unhuffman}
use Rattle.h3_field.specs.StringReading.{Payload, text_of}
use Rattle.h3_field.specs.Line.{FieldLine}
use Rattle.h3_field.specs.Line.FieldLine.{StaticField, RelativeField, PostBaseField, StaticName, RelativeName, PostBaseName, Literal}
use Rattle.h3_field.specs.LineReading.{LineForm, Indexed, PostBase, Named, PostBaseNamed, LiteralField}
use Rattle.h3_field.specs.Instruction.{EncoderInstruction}
use Rattle.h3_field.specs.Instruction.EncoderInstruction.{SetCapacity, InsertWithStaticName, InsertWithEntryName, InsertLiteral, Duplicate}
use Rattle.h3_field.specs.InstructionReading.{InstructionForm, Capacity, NameReference, LiteralName, Repeat}

abbrev pub plain_string : List ℕ → Option (List ℕ)
plain_string bytes = if list_all is_byte bytes then Some bytes else None

-- the bytes as they stand, or Huffman decoded
abbrev pub string_of : Payload → Option (List ℕ)
string_of p = if p.is_huffman then unhuffman p.bytes else plain_string p.bytes

-- made of two strings, where both are there
abbrev pub of_both : {X : Type 0} → (List ℕ → List ℕ → X) → Option (List ℕ) → Option (List ℕ) → Option X
of_both build None value = None
of_both build (Some name) None = None
of_both build (Some name) (Some value) = Some (build name value)

abbrev pub line_of : LineForm → Option FieldLine
line_of (Indexed true index) = Some (StaticField index)
line_of (Indexed false index) = Some (RelativeField index)
line_of (PostBase index) = Some (PostBaseField index)
line_of (Named true index value n) = option_map (λ v. StaticName index (text_of value v) n) (string_of value)
line_of (Named false index value n) = option_map (λ v. RelativeName index (text_of value v) n) (string_of value)
line_of (PostBaseNamed index value n) = option_map (λ v. PostBaseName index (text_of value v) n) (string_of value)
line_of (LiteralField name value n) = of_both (λ first second. Literal (text_of name first) (text_of value second) n) (string_of name) (string_of value)

abbrev pub instruction_of : InstructionForm → Option EncoderInstruction
instruction_of (Capacity n) = Some (SetCapacity n)
instruction_of (NameReference true index value) = option_map (λ v. InsertWithStaticName index (text_of value v)) (string_of value)
instruction_of (NameReference false index value) = option_map (λ v. InsertWithEntryName index (text_of value v)) (string_of value)
instruction_of (LiteralName name value) = of_both (λ first second. InsertLiteral (text_of name first) (text_of value second)) (string_of name) (string_of value)
instruction_of (Repeat index) = Some (Duplicate index)
