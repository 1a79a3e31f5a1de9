-- What holds of the reading of instructions.
use Rattle.std.proofs.Common.{◌≡◌, ℕ, ◌%◌, ◌==◌, ◌<◌, nat_le, List, [], ◌∷◌, ◌++◌, length, refl}
use Rattle.h3_field.specs.Integer.{prefixed}
use Rattle.h3_field.specs.StringLiteral.{Text, text_bytes, string_literal}
use Rattle.h3_field.specs.Reading.{Whole, IsStable}
use Rattle.h3_field.specs.ReadingLaws.{then_stable, stays_if}
use Rattle.h3_field.specs.IntegerReading.{integer, integer_limit}
use Rattle.h3_field.specs.IntegerLaws.{integer_stable, prefixed_read}
use Rattle.h3_field.specs.StringReading.{payload_of}
use Rattle.h3_field.specs.Shapes.{index_and_string, two_strings}
use Rattle.h3_field.specs.ShapeLaws.{index_and_string_stable, two_strings_stable, index_and_string_read, two_strings_read}
use Rattle.h3_field.specs.Instruction.DecoderInstruction.{Acknowledge, CancelStream, Increment}
use Rattle.h3_field.specs.InstructionReading.{Capacity, NameReference, LiteralName, Repeat, name_reference, literal_name, capacity, repeat, instruction, acknowledgment, cancellation, increment, decoder_instruction}

pub name_reference_stable : IsStable name_reference
name_reference_stable = then_stable (index_and_string 6) _ (index_and_string_stable 6) (λ parts bytes more. refl)

pub literal_name_stable : IsStable literal_name
literal_name_stable = then_stable (two_strings 6) _ (two_strings_stable 6) (λ parts bytes more. refl)

pub capacity_stable : IsStable capacity
capacity_stable = then_stable (integer 5) _ (integer_stable 5) (λ head bytes more. refl)

pub repeat_stable : IsStable repeat
repeat_stable = then_stable (integer 5) _ (integer_stable 5) (λ head bytes more. refl)

-- what is read whole or bad stays so, whatever bytes come behind
pub instruction_stable : IsStable instruction
instruction_stable [] more = tt
instruction_stable (first ∷ rest) more =
    stays_if more (nat_le 128 first) _ _ _ _ (name_reference_stable (first ∷ rest) more)
    (stays_if more (nat_le 64 first) _ _ _ _ (literal_name_stable (first ∷ rest) more)
    (stays_if more (nat_le 32 first) _ _ _ _ (capacity_stable (first ∷ rest) more) (repeat_stable (first ∷ rest) more)))

pub acknowledgment_stable : IsStable acknowledgment
acknowledgment_stable = then_stable (integer 7) _ (integer_stable 7) (λ head bytes more. refl)

pub cancellation_stable : IsStable cancellation
cancellation_stable = then_stable (integer 6) _ (integer_stable 6) (λ head bytes more. refl)

pub increment_stable : IsStable increment
increment_stable = then_stable (integer 6) _ (integer_stable 6) (λ head bytes more. refl)

pub decoder_instruction_stable : IsStable decoder_instruction
decoder_instruction_stable [] more = tt
decoder_instruction_stable (first ∷ rest) more =
    stays_if more (nat_le 128 first) _ _ _ _ (acknowledgment_stable (first ∷ rest) more)
    (stays_if more (nat_le 64 first) _ _ _ _ (cancellation_stable (first ∷ rest) more) (increment_stable (first ∷ rest) more))

-- what is written is read, whatever follows
pub name_reference_read : (flags index : ℕ) (value : Text) (rest : List ℕ) → index < integer_limit 6 → length (text_bytes value) < integer_limit 7 →
    name_reference ((prefixed 6 flags index ++ string_literal 8 0 value) ++ rest) ≡ Whole (NameReference (flags % 2 == 1) index (payload_of value)) rest
name_reference_read flags index value rest h k = rw (index_and_string_read 6 flags index value rest h k) refl

pub literal_name_read : (flags : ℕ) (name value : Text) (rest : List ℕ) → length (text_bytes name) < integer_limit 5 → length (text_bytes value) < integer_limit 7 →
    literal_name ((string_literal 6 flags name ++ string_literal 8 0 value) ++ rest) ≡ Whole (LiteralName (payload_of name) (payload_of value)) rest
literal_name_read flags name value rest h k = rw (two_strings_read 6 flags name value rest h k) refl

pub capacity_read : (flags n : ℕ) (rest : List ℕ) → n < integer_limit 5 → capacity (prefixed 5 flags n ++ rest) ≡ Whole (Capacity n) rest
capacity_read flags n rest h = rw (prefixed_read 5 flags n rest h) refl

pub repeat_read : (flags index : ℕ) (rest : List ℕ) → index < integer_limit 5 → repeat (prefixed 5 flags index ++ rest) ≡ Whole (Repeat index) rest
repeat_read flags index rest h = rw (prefixed_read 5 flags index rest h) refl

pub acknowledgment_read : (flags stream : ℕ) (rest : List ℕ) → stream < integer_limit 7 → acknowledgment (prefixed 7 flags stream ++ rest) ≡ Whole (Acknowledge stream) rest
acknowledgment_read flags stream rest h = rw (prefixed_read 7 flags stream rest h) refl

pub cancellation_read : (flags stream : ℕ) (rest : List ℕ) → stream < integer_limit 6 → cancellation (prefixed 6 flags stream ++ rest) ≡ Whole (CancelStream stream) rest
cancellation_read flags stream rest h = rw (prefixed_read 6 flags stream rest h) refl

pub increment_read : (flags count : ℕ) (rest : List ℕ) → count < integer_limit 6 → increment (prefixed 6 flags count ++ rest) ≡ Whole (Increment count) rest
increment_read flags count rest h = rw (prefixed_read 6 flags count rest h) refl
