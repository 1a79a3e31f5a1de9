-- What a reading leaves is an end of what was read, so an owner of the bytes may drop the front.
use Rattle.std.proofs.Common.{◌≡◌, ℕ, ◌-◌, List, [], ◌∷◌, length, drop}
use Rattle.h3_field.specs.Instruction.{EncoderInstruction, DecoderInstruction}
use Rattle.h3_field.specs.InstructionReading.{instruction, decoder_instruction}
use Rattle.h3_field.specs.Ends.{EndsWith}
use Rattle.h3_field.specs.EndLaws.{further, end_of, end_dropped, ends_itself, leave_some, instruction_leaves, decoder_instruction_leaves}
use Rattle.h3_qpack.specs.DecoderState.{DecoderState}
use Rattle.h3_qpack.specs.EncoderState.{EncoderState}
use Rattle.h3_qpack.specs.EncoderAnswers.{HasReadDecoderInstructions}
use Rattle.h3_qpack.specs.Instructions.{AreInstructions, NoInstruction, NextInstruction, HasRead, AreDecoderInstructions, NoDecoderInstruction, NextDecoderInstruction}

pub instructions_end : (bytes left : List ℕ) (is : List EncoderInstruction) → AreInstructions bytes is left → EndsWith 0 bytes left
instructions_end bytes left [] (NoInstruction b) = ends_itself bytes
instructions_end bytes left (i ∷ is) (NextInstruction b rest l j js here others) =
    further 0 bytes rest left (end_of 0 instruction bytes rest here.form (leave_some 1 instruction instruction_leaves) here.whole) (instructions_end rest left is others)

pub replies_end : (bytes left : List ℕ) (is : List DecoderInstruction) → AreDecoderInstructions bytes is left → EndsWith 0 bytes left
replies_end bytes left [] (NoDecoderInstruction b) = ends_itself bytes
replies_end bytes left (i ∷ is) (NextDecoderInstruction b rest l j js here others) =
    further 0 bytes rest left (end_of 0 decoder_instruction bytes rest i (leave_some 1 decoder_instruction decoder_instruction_leaves) here) (replies_end rest left is others)

pub read_to_an_end : (old new : DecoderState) (bytes left : List ℕ) → HasRead old new bytes left → left ≡ drop (length bytes - length left) bytes
read_to_an_end old new bytes left h = end_dropped 0 bytes left (instructions_end bytes left h.instructions h.split)

pub heard_to_an_end : (old new : EncoderState) (bytes left : List ℕ) → HasReadDecoderInstructions old new bytes left → left ≡ drop (length bytes - length left) bytes
heard_to_an_end old new bytes left h = end_dropped 0 bytes left (replies_end bytes left h.instructions h.split)
