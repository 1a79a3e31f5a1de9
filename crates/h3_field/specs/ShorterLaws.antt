-- What is read whole leaves fewer bytes.
use Rattle.std.proofs.Common.{◌≡◌, ℕ, ◌<◌, List, length}
use Rattle.h3_field.specs.Reading.{Whole}
use Rattle.h3_field.specs.Instruction.{DecoderInstruction}
use Rattle.h3_field.specs.LineReading.{LineForm, line, indexed, named, literal, post_base, post_base_named}
use Rattle.h3_field.specs.InstructionReading.{InstructionForm, instruction, name_reference, literal_name, capacity, repeat, decoder_instruction, acknowledgment, cancellation, increment}
use Rattle.h3_field.specs.EndLaws.{shortens, line_leaves, indexed_leaves, named_leaves, literal_leaves, post_base_leaves, post_base_named_leaves, instruction_leaves, name_reference_leaves, literal_name_leaves, capacity_leaves, repeat_leaves, decoder_instruction_leaves, acknowledgment_leaves, cancellation_leaves, increment_leaves}

pub line_less : (bytes rest : List ℕ) (form : LineForm) → line bytes ≡ Whole form rest → length rest < length bytes
line_less bytes rest form e = shortens line bytes rest form line_leaves e

pub indexed_less : (bytes rest : List ℕ) (form : LineForm) → indexed bytes ≡ Whole form rest → length rest < length bytes
indexed_less bytes rest form e = shortens indexed bytes rest form indexed_leaves e

pub named_less : (bytes rest : List ℕ) (form : LineForm) → named bytes ≡ Whole form rest → length rest < length bytes
named_less bytes rest form e = shortens named bytes rest form named_leaves e

pub literal_less : (bytes rest : List ℕ) (form : LineForm) → literal bytes ≡ Whole form rest → length rest < length bytes
literal_less bytes rest form e = shortens literal bytes rest form literal_leaves e

pub post_base_less : (bytes rest : List ℕ) (form : LineForm) → post_base bytes ≡ Whole form rest → length rest < length bytes
post_base_less bytes rest form e = shortens post_base bytes rest form post_base_leaves e

pub post_base_named_less : (bytes rest : List ℕ) (form : LineForm) → post_base_named bytes ≡ Whole form rest → length rest < length bytes
post_base_named_less bytes rest form e = shortens post_base_named bytes rest form post_base_named_leaves e

pub instruction_less : (bytes rest : List ℕ) (form : InstructionForm) → instruction bytes ≡ Whole form rest → length rest < length bytes
instruction_less bytes rest form e = shortens instruction bytes rest form instruction_leaves e

pub name_reference_less : (bytes rest : List ℕ) (form : InstructionForm) → name_reference bytes ≡ Whole form rest → length rest < length bytes
name_reference_less bytes rest form e = shortens name_reference bytes rest form name_reference_leaves e

pub literal_name_less : (bytes rest : List ℕ) (form : InstructionForm) → literal_name bytes ≡ Whole form rest → length rest < length bytes
literal_name_less bytes rest form e = shortens literal_name bytes rest form literal_name_leaves e

pub capacity_less : (bytes rest : List ℕ) (form : InstructionForm) → capacity bytes ≡ Whole form rest → length rest < length bytes
capacity_less bytes rest form e = shortens capacity bytes rest form capacity_leaves e

pub repeat_less : (bytes rest : List ℕ) (form : InstructionForm) → repeat bytes ≡ Whole form rest → length rest < length bytes
repeat_less bytes rest form e = shortens repeat bytes rest form repeat_leaves e

pub decoder_instruction_less : (bytes rest : List ℕ) (i : DecoderInstruction) → decoder_instruction bytes ≡ Whole i rest → length rest < length bytes
decoder_instruction_less bytes rest i e = shortens decoder_instruction bytes rest i decoder_instruction_leaves e

pub acknowledgment_less : (bytes rest : List ℕ) (i : DecoderInstruction) → acknowledgment bytes ≡ Whole i rest → length rest < length bytes
acknowledgment_less bytes rest i e = shortens acknowledgment bytes rest i acknowledgment_leaves e

pub cancellation_less : (bytes rest : List ℕ) (i : DecoderInstruction) → cancellation bytes ≡ Whole i rest → length rest < length bytes
cancellation_less bytes rest i e = shortens cancellation bytes rest i cancellation_leaves e

pub increment_less : (bytes rest : List ℕ) (i : DecoderInstruction) → increment bytes ≡ Whole i rest → length rest < length bytes
increment_less bytes rest i e = shortens increment bytes rest i increment_leaves e
