-- What is written is read back, whatever follows.
use Rattle.std.proofs.Common.{◌≡◌, ℕ, ◌+◌, ◌-◌, ◌*◌, ◌/◌, ◌%◌, ◌^◌, ◌==◌, ◌<◌, ◌≤◌, nat_le, Bool, true, false, List, [], ◌∷◌, ◌++◌, length, refl, sym, ◌∙◌, arith, inl, inr, append_assoc, length-append}
use Rattle.std.proofs.lemmas.Bool.{le-leb, lt-leb, lt-ltb, le-ltb, cases_lt, and_parts, leb-true}
use Rattle.std.proofs.lemmas.Nat.{pow_pos}
use Rattle.h3_field.specs.Integer.{prefixed, ones, groups}
use Rattle.h3_field.specs.IntegerReading.{integer_limit}
use Rattle.h3_field.specs.StringLiteral.{Text, bit_h, text_bytes, string_literal}
use Rattle.h3_field.specs.StringReading.{Payload, StandsFor, payload_of}
use Rattle.h3_field.specs.Reading.{Whole}
use Rattle.h3_field.specs.Shapes.{begins}
use Rattle.h3_field.specs.Line.{FieldLine, bit_n, line_bytes}
use Rattle.h3_field.specs.Line.FieldLine.{StaticField, RelativeField, PostBaseField, StaticName, RelativeName, PostBaseName, Literal}
use Rattle.h3_field.specs.LineReading.{Indexed, PostBase, Named, PostBaseNamed, LiteralField}
use Rattle.h3_field.specs.LineLaws.{indexed_read, post_base_read, named_read, post_base_named_read, literal_read}
use Rattle.h3_field.specs.LineAnswer.{IsWritable}
use Rattle.h3_field.specs.Section.{HasLine}
use Rattle.h3_field.specs.ReadBack.{AreBytes, IsLineOfBytes, IsInstructionOfBytes, HasInstruction}
use Rattle.h3_field.specs.Instruction.{EncoderInstruction, DecoderInstruction, encoder_bytes, decoder_bytes}
use Rattle.h3_field.specs.Instruction.{EncoderInstruction as to_decoder, DecoderInstruction as to_encoder}
use Rattle.h3_field.specs.InstructionReading.{Says, Capacity, NameReference, LiteralName, Repeat, name_reference, literal_name, capacity, repeat, instruction, acknowledgment, cancellation, increment, decoder_instruction}
use Rattle.h3_field.specs.InstructionLaws.{name_reference_read, literal_name_read, capacity_read, repeat_read, acknowledgment_read, cancellation_read, increment_read}
use Rattle.h3_field.specs.InstructionAnswer.{IsSendable, IsReply}
use Rattle.h3_field.specs.SectionLaws.{line_indexed, line_named, line_literal, line_post_base, line_post_base_named, whole_same}
use Rattle.h3_field.specs.ValueLaws.{one_instruction_said}

-- the first byte of a prefixed integer has its flags
first_in : (low high first : ℕ) (rest : List ℕ) → low ≤ first → first ≤ high → begins low high (first ∷ rest) ≡ true
first_in low high first rest a b = rw (le-leb low first a, le-leb first high b) refl

pub begins_prefixed : (size flags n low high : ℕ) (rest : List ℕ) → low ≤ flags * 2 ^ size → flags * 2 ^ size + ones size ≤ high → (begins low high (prefixed size flags n ++ rest) ≡ true) × (0 < length (prefixed size flags n ++ rest))
begins_prefixed size flags n low high rest a b =
    elim (cases_lt n (ones size)) [
      | inl small ↦ rw (lt-ltb n (ones size) small) (first_in low high (flags * 2 ^ size + n) rest (omega (arith, a)) (omega (arith, b)), omega arith)
      | inr large ↦ rw (le-ltb n (ones size) large) (first_in low high (flags * 2 ^ size + ones size) (groups 9 (n - ones size) ++ rest) (omega (arith, a)) b, omega arith)
    ]

-- the payload of a string that is written stands for it
pub written_stands : (text : Text) → AreBytes text.bytes → StandsFor (payload_of text) text.bytes
written_stands text each = record { each = each; form = refl }

-- a string's encoding is within what it is part of
behind : (front bytes : List ℕ) → length (front ++ bytes) < 2 ^ 63 → length bytes < 2 ^ 63
behind front bytes h = omega (arith, h, length-append front bytes)

before : (front bytes : List ℕ) → length (front ++ bytes) < 2 ^ 63 → length front < 2 ^ 63
before front bytes h = omega (arith, h, length-append front bytes)

string_fits : (size flags : ℕ) (text : Text) → length (string_literal size flags text) < 2 ^ 63 → length (text_bytes text) < 2 ^ 63
string_fits size flags text h = behind (prefixed (size - 1) (2 * flags + bit_h text.is_huffman) (length (text_bytes text))) (text_bytes text) h

in_range : (size n : ℕ) → n < 2 ^ 63 → n < integer_limit size
in_range size n h = omega (arith, h, pow_pos size)

-- the first bytes of an encoding that begins with an integer, or with a string
begins_pair : (size flags n low high : ℕ) (more rest : List ℕ) → low ≤ flags * 2 ^ size → flags * 2 ^ size + ones size ≤ high → (begins low high ((prefixed size flags n ++ more) ++ rest) ≡ true) × (0 < length ((prefixed size flags n ++ more) ++ rest))
begins_pair size flags n low high more rest a b = rw (append_assoc (prefixed size flags n) more rest) (begins_prefixed size flags n low high (more ++ rest) a b)

begins_string : (size flags low high : ℕ) (text : Text) (more rest : List ℕ) → low ≤ (2 * flags + bit_h text.is_huffman) * 2 ^ (size - 1) → (2 * flags + bit_h text.is_huffman) * 2 ^ (size - 1) + ones (size - 1) ≤ high
    → (begins low high ((string_literal size flags text ++ more) ++ rest) ≡ true) × (0 < length ((string_literal size flags text ++ more) ++ rest))
begins_string size flags low high text more rest a b =
    let bytes = text_bytes text in
    let head = 2 * flags + bit_h text.is_huffman in
    rw (append_assoc (prefixed (size - 1) head (length bytes)) bytes more) (begins_pair (size - 1) head (length bytes) low high (bytes ++ more) rest a b)

below : (n : Bool) → bit_n n < 2
below true = omega arith
below false = omega arith

below_h : (h : Bool) → bit_h h < 2
below_h true = omega arith
below_h false = omega arith

-- the bits N and T of what is written are read
static_flags : (n : Bool) (index : ℕ) (value : Payload) (rest : List ℕ) → Whole (Named ((5 + 2 * bit_n n) % 2 == 1) index value ((5 + 2 * bit_n n) / 2 % 2 == 1)) rest ≡ Whole (Named true index value n) rest
static_flags true index value rest = refl
static_flags false index value rest = refl

relative_flags : (n : Bool) (index : ℕ) (value : Payload) (rest : List ℕ) → Whole (Named ((4 + 2 * bit_n n) % 2 == 1) index value ((4 + 2 * bit_n n) / 2 % 2 == 1)) rest ≡ Whole (Named false index value n) rest
relative_flags true index value rest = refl
relative_flags false index value rest = refl

post_base_flags : (n : Bool) (index : ℕ) (value : Payload) (rest : List ℕ) → Whole (PostBaseNamed index value (bit_n n % 2 == 1)) rest ≡ Whole (PostBaseNamed index value n) rest
post_base_flags true index value rest = refl
post_base_flags false index value rest = refl

literal_flags : (n : Bool) (name value : Payload) (rest : List ℕ) → Whole (LiteralField name value ((2 + bit_n n) % 2 == 1)) rest ≡ Whole (LiteralField name value n) rest
literal_flags true name value rest = refl
literal_flags false name value rest = refl

pub line_reads_back : (l : FieldLine) (rest : List ℕ) → IsWritable l → IsLineOfBytes l → length (line_bytes l) < 2 ^ 63 → HasLine (line_bytes l ++ rest) l rest
line_reads_back (StaticField index) rest w b fits =
    let begin = begins_prefixed 6 3 index 128 255 rest (omega arith) (omega arith) in
    record { form = Indexed true index; whole = line_indexed _ begin.1 begin.0 ∙ indexed_read 3 index rest (omega (arith, w)); says = refl }
line_reads_back (RelativeField index) rest w b fits =
    let begin = begins_prefixed 6 2 index 128 255 rest (omega arith) (omega arith) in
    record { form = Indexed false index; whole = line_indexed _ begin.1 begin.0 ∙ indexed_read 2 index rest (omega (arith, w)); says = refl }
line_reads_back (PostBaseField index) rest w b fits =
    let begin = begins_prefixed 4 1 index 16 31 rest (omega arith) (omega arith) in
    record { form = PostBase index; whole = line_post_base _ begin.1 begin.0 ∙ post_base_read 1 index rest (omega (arith, w)); says = refl }
line_reads_back (StaticName index value n) rest w b fits =
    let begin = begins_pair 4 (5 + 2 * bit_n n) index 64 127 (string_literal 8 0 value) rest (omega (arith, below n)) (omega (arith, below n)) in
    let len = string_fits 8 0 value (behind (prefixed 4 (5 + 2 * bit_n n) index) (string_literal 8 0 value) fits) in
    let whole = line_named _ begin.1 begin.0 ∙ named_read (5 + 2 * bit_n n) index value rest (omega (arith, w.0)) (in_range 7 _ len) in
    record { form = Named true index _ n; whole = whole ∙ static_flags n index _ rest; says = (value.bytes, written_stands value b, refl) }
line_reads_back (RelativeName index value n) rest w b fits =
    let begin = begins_pair 4 (4 + 2 * bit_n n) index 64 127 (string_literal 8 0 value) rest (omega (arith, below n)) (omega (arith, below n)) in
    let len = string_fits 8 0 value (behind (prefixed 4 (4 + 2 * bit_n n) index) (string_literal 8 0 value) fits) in
    let whole = line_named _ begin.1 begin.0 ∙ named_read (4 + 2 * bit_n n) index value rest (omega (arith, w.0)) (in_range 7 _ len) in
    record { form = Named false index _ n; whole = whole ∙ relative_flags n index _ rest; says = (value.bytes, written_stands value b, refl) }
line_reads_back (PostBaseName index value n) rest w b fits =
    let begin = begins_pair 3 (bit_n n) index 0 15 (string_literal 8 0 value) rest (omega arith) (omega (arith, below n)) in
    let len = string_fits 8 0 value (behind (prefixed 3 (bit_n n) index) (string_literal 8 0 value) fits) in
    let whole = line_post_base_named _ begin.1 begin.0 ∙ post_base_named_read (bit_n n) index value rest (omega (arith, w.0)) (in_range 7 _ len) in
    record { form = PostBaseNamed index _ n; whole = whole ∙ post_base_flags n index _ rest; says = (value.bytes, written_stands value b, refl) }
line_reads_back (Literal name value n) rest w b fits =
    let begin = begins_string 4 (2 + bit_n n) 32 63 name (string_literal 8 0 value) rest (omega (arith, below n, below_h name.is_huffman)) (omega (arith, below n, below_h name.is_huffman)) in
    let first = string_fits 4 (2 + bit_n n) name (before (string_literal 4 (2 + bit_n n) name) (string_literal 8 0 value) fits) in
    let second = string_fits 8 0 value (behind (string_literal 4 (2 + bit_n n) name) (string_literal 8 0 value) fits) in
    let whole = line_literal _ begin.1 begin.0 ∙ literal_read (2 + bit_n n) name value rest (in_range 3 _ first) (in_range 7 _ second) in
    record { form = LiteralField _ _ n; whole = whole ∙ literal_flags n _ _ rest; says = (name.bytes, value.bytes, written_stands name b.0, written_stands value b.1, refl) }

-- which instruction the first byte begins
pub instruction_named : (bytes : List ℕ) → 0 < length bytes → begins 128 255 bytes ≡ true → instruction bytes ≡ name_reference bytes
instruction_named [] some h = absurd (omega arith)
instruction_named (first ∷ rest) some h = rw (and_parts (nat_le 128 first) (nat_le first 255) h).0 refl

pub instruction_literal : (bytes : List ℕ) → 0 < length bytes → begins 64 127 bytes ≡ true → instruction bytes ≡ literal_name bytes
instruction_literal [] some h = absurd (omega arith)
instruction_literal (first ∷ rest) some h =
    let parts = and_parts (nat_le 64 first) (nat_le first 127) h in
    let most = leb-true first 127 parts.1 in
    rw (lt-leb 128 first (omega (arith, most)), parts.0) refl

pub instruction_capacity : (bytes : List ℕ) → 0 < length bytes → begins 32 63 bytes ≡ true → instruction bytes ≡ capacity bytes
instruction_capacity [] some h = absurd (omega arith)
instruction_capacity (first ∷ rest) some h =
    let parts = and_parts (nat_le 32 first) (nat_le first 63) h in
    let most = leb-true first 63 parts.1 in
    rw (lt-leb 128 first (omega (arith, most)), lt-leb 64 first (omega (arith, most)), parts.0) refl

pub instruction_repeat : (bytes : List ℕ) → 0 < length bytes → begins 0 31 bytes ≡ true → instruction bytes ≡ repeat bytes
instruction_repeat [] some h = absurd (omega arith)
instruction_repeat (first ∷ rest) some h =
    let parts = and_parts (nat_le 0 first) (nat_le first 31) h in
    let most = leb-true first 31 parts.1 in
    rw (lt-leb 128 first (omega (arith, most)), lt-leb 64 first (omega (arith, most)), lt-leb 32 first (omega (arith, most))) refl

pub instruction_reads_back : (i : EncoderInstruction) (rest : List ℕ) → IsSendable i → IsInstructionOfBytes i → length (encoder_bytes i) < 2 ^ 63 → HasInstruction (encoder_bytes i ++ rest) i rest
instruction_reads_back (to_decoder.SetCapacity n) rest w b fits =
    let begin = begins_prefixed 5 1 n 32 63 rest (omega arith) (omega arith) in
    record { form = Capacity n; whole = instruction_capacity _ begin.1 begin.0 ∙ capacity_read 1 n rest (omega (arith, w)); says = refl }
instruction_reads_back (to_decoder.InsertWithStaticName index value) rest w b fits =
    let begin = begins_pair 6 3 index 128 255 (string_literal 8 0 value) rest (omega arith) (omega arith) in
    let len = string_fits 8 0 value (behind (prefixed 6 3 index) (string_literal 8 0 value) fits) in
    record { form = NameReference true index _; whole = instruction_named _ begin.1 begin.0 ∙ name_reference_read 3 index value rest (omega (arith, w.0)) (in_range 7 _ len); says = (value.bytes, written_stands value b, refl) }
instruction_reads_back (to_decoder.InsertWithEntryName index value) rest w b fits =
    let begin = begins_pair 6 2 index 128 255 (string_literal 8 0 value) rest (omega arith) (omega arith) in
    let len = string_fits 8 0 value (behind (prefixed 6 2 index) (string_literal 8 0 value) fits) in
    record { form = NameReference false index _; whole = instruction_named _ begin.1 begin.0 ∙ name_reference_read 2 index value rest (omega (arith, w.0)) (in_range 7 _ len); says = (value.bytes, written_stands value b, refl) }
instruction_reads_back (to_decoder.InsertLiteral name value) rest w b fits =
    let begin = begins_string 6 1 64 127 name (string_literal 8 0 value) rest (omega (arith, below_h name.is_huffman)) (omega (arith, below_h name.is_huffman)) in
    let first = string_fits 6 1 name (before (string_literal 6 1 name) (string_literal 8 0 value) fits) in
    let second = string_fits 8 0 value (behind (string_literal 6 1 name) (string_literal 8 0 value) fits) in
    record { form = LiteralName _ _; whole = instruction_literal _ begin.1 begin.0 ∙ literal_name_read 1 name value rest (in_range 5 _ first) (in_range 7 _ second); says = (name.bytes, value.bytes, written_stands name b.0, written_stands value b.1, refl) }
instruction_reads_back (to_decoder.Duplicate index) rest w b fits =
    let begin = begins_prefixed 5 0 index 0 31 rest (omega arith) (omega arith) in
    record { form = Repeat index; whole = instruction_repeat _ begin.1 begin.0 ∙ repeat_read 0 index rest (omega (arith, w)); says = refl }

pub reply_acknowledgment : (bytes : List ℕ) → 0 < length bytes → begins 128 255 bytes ≡ true → decoder_instruction bytes ≡ acknowledgment bytes
reply_acknowledgment [] some h = absurd (omega arith)
reply_acknowledgment (first ∷ rest) some h = rw (and_parts (nat_le 128 first) (nat_le first 255) h).0 refl

pub reply_cancellation : (bytes : List ℕ) → 0 < length bytes → begins 64 127 bytes ≡ true → decoder_instruction bytes ≡ cancellation bytes
reply_cancellation [] some h = absurd (omega arith)
reply_cancellation (first ∷ rest) some h =
    let parts = and_parts (nat_le 64 first) (nat_le first 127) h in
    rw (lt-leb 128 first (omega (arith, leb-true first 127 parts.1)), parts.0) refl

pub reply_increment : (bytes : List ℕ) → 0 < length bytes → begins 0 63 bytes ≡ true → decoder_instruction bytes ≡ increment bytes
reply_increment [] some h = absurd (omega arith)
reply_increment (first ∷ rest) some h =
    let parts = and_parts (nat_le 0 first) (nat_le first 63) h in
    let most = leb-true first 63 parts.1 in
    rw (lt-leb 128 first (omega (arith, most)), lt-leb 64 first (omega (arith, most))) refl

pub reply_reads_back : (i : DecoderInstruction) (rest : List ℕ) → IsReply i → decoder_instruction (decoder_bytes i ++ rest) ≡ Whole i rest
reply_reads_back (to_encoder.Acknowledge stream) rest w =
    let begin = begins_prefixed 7 1 stream 128 255 rest (omega arith) (omega arith) in
    reply_acknowledgment _ begin.1 begin.0 ∙ acknowledgment_read 1 stream rest (omega (arith, w))
reply_reads_back (to_encoder.CancelStream stream) rest w =
    let begin = begins_prefixed 6 1 stream 64 127 rest (omega arith) (omega arith) in
    reply_cancellation _ begin.1 begin.0 ∙ cancellation_read 1 stream rest (omega (arith, w))
reply_reads_back (to_encoder.Increment count) rest w =
    let begin = begins_prefixed 6 0 count 0 63 rest (omega arith) (omega arith) in
    reply_increment _ begin.1 begin.0 ∙ increment_read 0 count rest (omega (arith, w))

-- bytes begin with one instruction
pub instruction_one : (bytes rest more : List ℕ) (i j : EncoderInstruction) → HasInstruction bytes i rest → HasInstruction bytes j more → (i ≡ j) × (rest ≡ more)
instruction_one bytes rest more i j a b =
    let same = whole_same a.form b.form rest more (sym a.whole ∙ b.whole) in
    let says : Says a.form j = rw (← same.0) at b.says in
    (one_instruction_said a.form i j a.says says, same.1)
