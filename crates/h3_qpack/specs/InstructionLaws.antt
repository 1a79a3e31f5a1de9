-- Instructions that are read one behind the other.
use Rattle.std.proofs.Common.{◌≡◌, ℕ, List, [], ◌∷◌, ◌++◌, Option, Some, None, refl, ◌∙◌, ap}
use Rattle.h3_field.specs.Instruction.{EncoderInstruction}
use Rattle.h3_field.specs.InstructionLaws.{instruction_stable}
use Rattle.h3_field.specs.ReadBack.{HasInstruction}
use Rattle.h3_qpack.specs.DecoderState.{DecoderState, decoder_after, decoder_after_all}
use Rattle.h3_qpack.specs.Instructions.{AreInstructions, NoInstruction, NextInstruction, HasRead}

pub decoder_after_all-append : (r : Option DecoderState) (is js : List EncoderInstruction) → decoder_after_all r (is ++ js) ≡ decoder_after_all (decoder_after_all r is) js
decoder_after_all-append r [] js = refl
decoder_after_all-append None (i ∷ is) js = nothing js
  where
    nothing : (js : List EncoderInstruction) → None ≡ decoder_after_all None js
    nothing [] = refl
    nothing (j ∷ js) = refl
decoder_after_all-append (Some r) (i ∷ is) js = decoder_after_all-append (decoder_after r i) is js

pub longer_instruction : (bytes rest more : List ℕ) (i : EncoderInstruction) → HasInstruction bytes i rest → HasInstruction (bytes ++ more) i (rest ++ more)
longer_instruction bytes rest more i h =
    let stays = instruction_stable bytes more in
    record { form = h.form; whole = rw h.whole at stays; says = h.says }

longer_instructions : (bytes left more : List ℕ) (is : List EncoderInstruction) → AreInstructions bytes is left → AreInstructions (bytes ++ more) is (left ++ more)
longer_instructions bytes left more [] (NoInstruction b) = NoInstruction (bytes ++ more)
longer_instructions bytes left more (i ∷ is) (NextInstruction b rest l k ks here others) =
    NextInstruction (bytes ++ more) (rest ++ more) (left ++ more) i is (longer_instruction bytes rest more i here) (longer_instructions rest left more is others)

joined : (bytes left rest : List ℕ) (is js : List EncoderInstruction) → AreInstructions bytes is left → AreInstructions left js rest → AreInstructions bytes (is ++ js) rest
joined bytes left rest [] js (NoInstruction b) k = k
joined bytes left rest (i ∷ is) js (NextInstruction b middle l n ns here others) k = NextInstruction bytes middle rest i (is ++ js) here (joined middle left rest is js others k)

-- What was read of the first bytes is read of all.
pub read_pieces : (old mid new : DecoderState) (bytes more left rest : List ℕ) → HasRead old mid bytes left → HasRead mid new (left ++ more) rest → HasRead old new (bytes ++ more) rest
read_pieces old mid new bytes more left rest h k =
    record {
      instructions = h.instructions ++ k.instructions;
      split = joined (bytes ++ more) (left ++ more) rest h.instructions k.instructions (longer_instructions bytes left more h.instructions h.split) k.split;
      table = decoder_after_all-append (Some old) h.instructions k.instructions ∙ ap (λ o. decoder_after_all o k.instructions) h.table ∙ k.table;
    }
