-- What a reader's values tell of a line or an instruction, and how its strings are coded, are the line or the instruction.
use Rattle.std.proofs.Common.{◌≡◌, true, false, refl, sym}
use Rattle.h3_field.specs.StringReading.{text_of}
use Rattle.h3_field.specs.Line.{FieldLine, huffman_line}
use Rattle.h3_field.specs.Line.FieldLine.{StaticField, RelativeField, PostBaseField, StaticName, RelativeName, PostBaseName, Literal}
use Rattle.h3_field.specs.LineReading.{LineForm, Indexed, PostBase, Named, PostBaseNamed, LiteralField, SaysLine, TellsLine}
use Rattle.h3_field.specs.Instruction.{EncoderInstruction, huffman_instruction}
use Rattle.h3_field.specs.Instruction.EncoderInstruction.{SetCapacity, InsertWithStaticName, InsertWithEntryName, InsertLiteral, Duplicate}
use Rattle.h3_field.specs.InstructionReading.{InstructionForm, Capacity, NameReference, LiteralName, Repeat, Says, Tells}
use Rattle.h3_field.specs.Section.{line_field}

pub told_line : (form : LineForm) (l : FieldLine) → TellsLine form l → (k : FieldLine) × SaysLine form k × (huffman_line k ≡ l)
told_line (Indexed true index) l h = (StaticField index, refl, sym h)
told_line (Indexed false index) l h = (RelativeField index, refl, sym h)
told_line (PostBase index) l h = (PostBaseField index, refl, sym h)
told_line (Named true index p n) l h = (StaticName index (text_of p h.0) n, (h.0, h.1, refl), sym h.2)
told_line (Named false index p n) l h = (RelativeName index (text_of p h.0) n, (h.0, h.1, refl), sym h.2)
told_line (PostBaseNamed index p n) l h = (PostBaseName index (text_of p h.0) n, (h.0, h.1, refl), sym h.2)
told_line (LiteralField p q n) l h = (Literal (text_of p h.0) (text_of q h.1) n, (h.0, h.1, h.2, h.3, refl), sym h.4)

pub told_instruction : (form : InstructionForm) (i : EncoderInstruction) → Tells form i → (j : EncoderInstruction) × Says form j × (huffman_instruction j ≡ i)
told_instruction (Capacity n) i h = (SetCapacity n, refl, sym h)
told_instruction (NameReference true index p) i h = (InsertWithStaticName index (text_of p h.0), (h.0, h.1, refl), sym h.2)
told_instruction (NameReference false index p) i h = (InsertWithEntryName index (text_of p h.0), (h.0, h.1, refl), sym h.2)
told_instruction (LiteralName p q) i h = (InsertLiteral (text_of p h.0) (text_of q h.1), (h.0, h.1, h.2, h.3, refl), sym h.4)
told_instruction (Repeat index) i h = (Duplicate index, refl, sym h)

-- the field is the same, however the strings are coded
pub huffman_field : (l : FieldLine) → line_field (huffman_line l) ≡ line_field l
huffman_field (StaticField index) = refl
huffman_field (RelativeField index) = refl
huffman_field (PostBaseField index) = refl
huffman_field (StaticName index value n) = refl
huffman_field (RelativeName index value n) = refl
huffman_field (PostBaseName index value n) = refl
huffman_field (Literal name value n) = refl
