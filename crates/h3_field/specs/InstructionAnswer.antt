-- What the calls of instructions read and write.
use Rattle.std.specs.Prelude.{◌≡◌, ◌<◌, ◌≤◌, ◌^◌, ℕ, List, length, Option, Some, None, Result, Ok, Err}
use Rattle.h3_field.specs.Reading.{Reading, Whole, Unfinished, Bad}
use Rattle.h3_field.specs.Field.{Field}
use Rattle.h3_field.specs.StringLiteral.{huffman_text}
use Rattle.h3_field.specs.Instruction.{EncoderInstruction, DecoderInstruction}
use Rattle.h3_field.specs.Instruction.{EncoderInstruction as to_decoder, DecoderInstruction as to_encoder}
use Rattle.h3_field.specs.InstructionReading.{InstructionForm, Capacity, NameReference, LiteralName, Repeat, Says, Tells, HasString}
use Rattle.h3_field.specs.StringAnswer.{TakesMemory}
use Rattle.h3_field.specs.ShapeAnswer.{Place, error_at, TakeMemory, IsRefused}
use Rattle.h3_field.specs.declared.prefix_int.Error.TheVariants.{Overflow}
use Rattle.h3_field.specs.declared.parse_error.ParseError.{ParseError}
use Rattle.h3_field.specs.declared.parse_error.ParseError.TheVariants.{Integer}
use Rattle.h3_field.specs.declared.block.literal.NameRef as name_ref
use Rattle.h3_field.specs.declared.stream.EncoderInstruction as encoder_kind
use Rattle.h3_field.specs.declared.stream.DecoderInstruction as decoder_kind
use Rattle.h3_field.specs.declared.stream.insertion.InsertWithNameRef as named
use Rattle.h3_field.specs.declared.stream.insertion.InsertWithoutNameRef.{InsertWithoutNameRef}
use Rattle.h3_field.specs.declared.stream.table.Duplicate.{Duplicate}
use Rattle.h3_field.specs.declared.stream.table.DynamicTableSizeUpdate.{DynamicTableSizeUpdate}
use Rattle.h3_field.specs.declared.stream.reply.InsertCountIncrement.{InsertCountIncrement}
use Rattle.h3_field.specs.declared.stream.reply.HeaderAck.{HeaderAck}
use Rattle.h3_field.specs.declared.stream.reply.StreamCancel.{StreamCancel}

-- the instruction that each value is: it is written Huffman coded
abbrev pub named_insertion : named.InsertWithNameRef → EncoderInstruction
named_insertion (named.TheVariants.Static index value) = to_decoder.InsertWithStaticName index (huffman_text value.items)
named_insertion (named.TheVariants.Dynamic index value) = to_decoder.InsertWithEntryName index (huffman_text value.items)

abbrev pub literal_insertion : InsertWithoutNameRef → EncoderInstruction
literal_insertion i = to_decoder.InsertLiteral (huffman_text i.name.items) (huffman_text i.value.items)

-- the same of a name and a value, and of a field
abbrev pub short_named_insertion : List ℕ → name_ref.NameRef → EncoderInstruction
short_named_insertion value (name_ref.TheVariants.Static index) = to_decoder.InsertWithStaticName index (huffman_text value)
short_named_insertion value (name_ref.TheVariants.Dynamic index) = to_decoder.InsertWithEntryName index (huffman_text value)

abbrev pub field_insertion : Field → EncoderInstruction
field_insertion f = to_decoder.InsertLiteral (huffman_text f.name) (huffman_text f.value)

abbrev pub duplication : Duplicate → EncoderInstruction
duplication i = to_decoder.Duplicate i.0

abbrev pub capacity_setting : DynamicTableSizeUpdate → EncoderInstruction
capacity_setting i = to_decoder.SetCapacity i.0

abbrev pub count_increment : InsertCountIncrement → DecoderInstruction
count_increment i = to_encoder.Increment i.0

abbrev pub section_acknowledgment : HeaderAck → DecoderInstruction
section_acknowledgment i = to_encoder.Acknowledge i.0

abbrev pub stream_cancellation : StreamCancel → DecoderInstruction
stream_cancellation i = to_encoder.CancelStream i.0

-- indexes, capacities, streams, counts and lengths that a writer takes
abbrev pub IsSendable : EncoderInstruction → Type 0
IsSendable (to_decoder.SetCapacity capacity) = capacity < 2 ^ 62
IsSendable (to_decoder.InsertWithStaticName index value) = (index < 2 ^ 62) × (length value.bytes < 2 ^ 62)
IsSendable (to_decoder.InsertWithEntryName index value) = (index < 2 ^ 62) × (length value.bytes < 2 ^ 62)
IsSendable (to_decoder.InsertLiteral name value) = (length name.bytes < 2 ^ 62) × (length value.bytes < 2 ^ 62)
IsSendable (to_decoder.Duplicate index) = index < 2 ^ 62

abbrev pub IsReply : DecoderInstruction → Type 0
IsReply (to_encoder.Acknowledge stream) = stream < 2 ^ 62
IsReply (to_encoder.CancelStream stream) = stream < 2 ^ 62
IsReply (to_encoder.Increment count) = count < 2 ^ 62

-- Each string of the instruction is one, and not all are empty.
abbrev pub InstructionTakesMemory : InstructionForm → Type 0
InstructionTakesMemory (Capacity n) = ⊥
InstructionTakesMemory (NameReference is_static index value) = TakesMemory value
InstructionTakesMemory (LiteralName name value) = TakeMemory name value
InstructionTakesMemory (Repeat index) = ⊥

-- The instruction but for how its strings are coded, and what stands behind it is left. One that is not whole, or is refused, is left unread. Memory is
-- asked for by strings alone; only a string of a whole instruction is refused, and as want of memory only where the
-- instruction is one.
abbrev pub AnswersInstruction : {I : Type 0} → (I → EncoderInstruction) → Place → Reading InstructionForm → List ℕ → List ℕ → Result (Option I) ParseError → Type 0
AnswersInstruction says place (Whole form rest) old new (Ok (Some i)) = Tells form (says i) × (new ≡ rest)
AnswersInstruction says place (Whole form rest) old new (Ok None) = ⊥
AnswersInstruction says place (Whole form rest) old new (Err e) = HasString form × IsRefused (InstructionTakesMemory form) ((i : EncoderInstruction) → Says form i → ⊥) e × (new ≡ old)
AnswersInstruction says place Unfinished old new result = (result ≡ Ok None) × (new ≡ old)
AnswersInstruction says place Bad old new result = (result ≡ Err (error_at place Overflow)) × (new ≡ old)

abbrev pub AnswersReply : {I : Type 0} → (I → DecoderInstruction) → Reading DecoderInstruction → List ℕ → List ℕ → Result (Option I) ParseError → Type 0
AnswersReply says (Whole i rest) old new (Ok (Some found)) = (says found ≡ i) × (new ≡ rest)
AnswersReply says (Whole i rest) old new (Ok None) = ⊥
AnswersReply says (Whole i rest) old new (Err e) = ⊥
AnswersReply says Unfinished old new result = (result ≡ Ok None) × (new ≡ old)
AnswersReply says Bad old new result = (result ≡ Err (Integer Overflow)) × (new ≡ old)

-- which instruction a first byte begins
abbrev pub IsEncoderKind : ℕ → encoder_kind.EncoderInstruction → Type 0
IsEncoderKind first encoder_kind.TheVariants.InsertWithNameRef = 128 ≤ first
IsEncoderKind first encoder_kind.TheVariants.InsertWithoutNameRef = (64 ≤ first) × (first < 128)
IsEncoderKind first encoder_kind.TheVariants.DynamicTableSizeUpdate = (32 ≤ first) × (first < 64)
IsEncoderKind first encoder_kind.TheVariants.Duplicate = first < 32
IsEncoderKind first encoder_kind.TheVariants.Unknown = ⊥

abbrev pub IsDecoderKind : ℕ → decoder_kind.DecoderInstruction → Type 0
IsDecoderKind first decoder_kind.TheVariants.HeaderAck = 128 ≤ first
IsDecoderKind first decoder_kind.TheVariants.StreamCancel = (64 ≤ first) × (first < 128)
IsDecoderKind first decoder_kind.TheVariants.InsertCountIncrement = first < 64
IsDecoderKind first decoder_kind.TheVariants.Unknown = ⊥
