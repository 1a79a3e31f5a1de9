-- What the readers of an encoder's instruction answer.
use Rattle.std.specs.Prelude.{◌≡◌, ◌⊎◌, ◌<◌, ◌≤◌, ℕ, Bool, true, false, List, length, Option, Some, None, Result, Ok, Err}
use Rattle.h3_field.specs.Field.{Field}
use Rattle.h3_field.specs.Reading.{Whole, Unfinished, Bad}
use Rattle.h3_field.specs.Instruction.{EncoderInstruction}
use Rattle.h3_field.specs.ReadBack.{HasInstruction}
use Rattle.h3_field.specs.InstructionReading.{InstructionForm, Says, instruction}
use Rattle.h3_field.specs.declared.decoder_error.DecoderError.{DecoderError}
use Rattle.h3_table.specs.TableState.{TableState}
use Rattle.h3_qpack.specs.DecoderState.{DecoderState, insertion_of, decoder_after}
use Rattle.h3_qpack.specs.WholeInstructions.{is_insertion}
use Rattle.h3_qpack.specs.Instructions.{BeginsBad}
use Rattle.h3_qpack.specs.SectionAnswers.{IsReasonFor}

-- The bytes begin with an insertion of this field, which may be indexed, and end with the rest.
pub record BeginsInsertion (h : TableState) (bytes : List ℕ) (f : Field) (rest : List ℕ) : Type 0 where
  pub i : EncoderInstruction
  pub here : HasInstruction bytes i rest
  pub inserts : is_insertion i ≡ true
  pub names : insertion_of h i ≡ Some f
  pub plain : f.never_indexed ≡ false
  pub less : length rest < length bytes

-- They begin with an integer out of range, or with what is no insertion of a field.
abbrev pub BeginsNoInsertion : TableState → List ℕ → Type 0
BeginsNoInsertion h bytes = (instruction bytes ≡ Bad)
    ⊎ ((form : InstructionForm) × (rest : List ℕ) × (instruction bytes ≡ Whole form rest)
    × ((i : EncoderInstruction) → Says form i → (is_insertion i ≡ true) × (insertion_of h i ≡ None)))

abbrev pub AnswersInsertionRead : TableState → List ℕ → List ℕ → Result (Option Field) DecoderError → Type 0
AnswersInsertionRead h old new (Ok (Some f)) = BeginsInsertion h old f new
AnswersInsertionRead h old new (Ok None) = instruction old ≡ Unfinished
AnswersInsertionRead h old new (Err e) = IsReasonFor (BeginsNoInsertion h old) (λ count. ⊥) e

-- A decoder went on by one instruction.
pub record HasReadOne (old new : DecoderState) (bytes left : List ℕ) : Type 0 where
  pub i : EncoderInstruction
  pub here : HasInstruction bytes i left
  pub table : decoder_after old i ≡ Some new
  pub less : length left < length bytes
  pub grows : old.table.inserted ≤ new.table.inserted

-- One instruction is read, or the first is not whole, or it is bad and left unread.
abbrev pub AnswersOne : DecoderState → DecoderState → List ℕ → List ℕ → Result Bool DecoderError → Type 0
AnswersOne old new bytes left (Ok true) = HasReadOne old new bytes left
AnswersOne old new bytes left (Ok false) = (instruction bytes ≡ Unfinished) × (new ≡ old) × (left ≡ bytes)
AnswersOne old new bytes left (Err e) = IsReasonFor (BeginsBad old bytes) (λ count. ⊥) e × (new ≡ old) × (left ≡ bytes)
