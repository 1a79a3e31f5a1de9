-- Instructions at the front of some bytes (RFC 9204, sections 4.3 and 4.4): whole ones, and what is left.
use Rattle.std.specs.Prelude.{◌≡◌, ◌⊎◌, ℕ, List, [], ◌∷◌, true, false, Some, None}
use Rattle.h3_field.specs.Reading.{Whole, Bad}
use Rattle.h3_field.specs.Instruction.{EncoderInstruction, DecoderInstruction}
use Rattle.h3_field.specs.InstructionReading.{InstructionForm, Says, instruction, decoder_instruction}
use Rattle.h3_field.specs.ReadBack.{HasInstruction}
use Rattle.h3_qpack.specs.EncoderHistory.{EncoderHistory, encoder_after, is_refused}
use Rattle.h3_qpack.specs.DecoderState.{DecoderState, decoder_after, decoder_after_all}

-- The bytes are these encoder instructions, and the bytes left.
pub data AreInstructions : List ℕ → List EncoderInstruction → List ℕ → Type 0 where
  NoInstruction : (bytes : List ℕ) → AreInstructions bytes [] bytes
  NextInstruction : (bytes rest left : List ℕ) (i : EncoderInstruction) (is : List EncoderInstruction) →
      HasInstruction bytes i rest → AreInstructions rest is left → AreInstructions bytes (i ∷ is) left

-- A decoder went from one table to another by the instructions in front of the bytes left.
pub record HasRead (old new : DecoderState) (bytes left : List ℕ) : Type 0 where
  pub instructions : List EncoderInstruction
  pub split : AreInstructions bytes instructions left
  pub table : decoder_after_all (Some old) instructions ≡ Some new

-- What is left begins with a bad instruction: an integer that is out of range, a string that is none, or one that the
-- table refuses.
abbrev pub BeginsBad : DecoderState → List ℕ → Type 0
BeginsBad r bytes = (instruction bytes ≡ Bad)
    ⊎ ((form : InstructionForm) × (rest : List ℕ) × (instruction bytes ≡ Whole form rest)
    × ((i : EncoderInstruction) → Says form i → decoder_after r i ≡ None))

-- The bytes are these decoder instructions, and the bytes left.
pub data AreDecoderInstructions : List ℕ → List DecoderInstruction → List ℕ → Type 0 where
  NoDecoderInstruction : (bytes : List ℕ) → AreDecoderInstructions bytes [] bytes
  NextDecoderInstruction : (bytes rest left : List ℕ) (i : DecoderInstruction) (is : List DecoderInstruction) →
      decoder_instruction bytes ≡ Whole i rest → AreDecoderInstructions rest is left → AreDecoderInstructions bytes (i ∷ is) left

-- The encoder refuses none of them, one behind the other.
abbrev pub AreAccepted : EncoderHistory → List DecoderInstruction → Type 0
AreAccepted s [] = Unit {0}
AreAccepted s (i ∷ is) = (is_refused s i ≡ false) × AreAccepted (encoder_after s i) is

-- What is left begins with an integer that is out of range, or with an instruction that the encoder refuses.
abbrev pub BeginsRefused : EncoderHistory → List ℕ → Type 0
BeginsRefused s bytes = (decoder_instruction bytes ≡ Bad)
    ⊎ ((i : DecoderInstruction) × (rest : List ℕ) × (decoder_instruction bytes ≡ Whole i rest) × (is_refused s i ≡ true))
