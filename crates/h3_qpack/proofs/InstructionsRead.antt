-- Instructions that were written are read as they were.
use Rattle.std.proofs.Common.{ℕ, List, [], ◌∷◌, ◌++◌, Some, ◌∙◌, ap, append_assoc}
use Rattle.std.specs.List.{AllByRecursion, flat_map}
use Rattle.h3_field.specs.Instruction.{encoder_bytes, EncoderInstruction}
use Rattle.h3_field.specs.ReadBackLaws.{instruction_reads_back}
use Rattle.h3_field.specs.ReadBack.{HasInstruction}
use Rattle.h3_qpack.specs.Encodings.{IsWrittenInstruction}
use Rattle.h3_qpack.specs.DecoderState.{DecoderState, decoder_after_all}
use Rattle.h3_qpack.specs.Instructions.{AreInstructions, NoInstruction, NextInstruction, HasRead}
use Rattle.h3_qpack.specs.InstructionAnswers.{HasReadOne}
use Rattle.h3_qpack.specs.InstructionLaws.{decoder_after_all-append}

one_further : (bytes left rest : List ℕ) (is : List EncoderInstruction) (i : EncoderInstruction) → AreInstructions bytes is left → HasInstruction left i rest → AreInstructions bytes (is ++ i ∷ []) rest
one_further bytes left rest [] i (NoInstruction b) here = NextInstruction bytes rest rest i [] here (NoInstruction rest)
one_further bytes left rest (j ∷ is) i (NextInstruction b middle l k ks first others) here =
    NextInstruction bytes middle rest j (is ++ i ∷ []) first (one_further middle left rest is i others here)

pub read_on : (start mid new : DecoderState) (bytes left rest : List ℕ) → HasRead start mid bytes left → HasReadOne mid new left rest → HasRead start new bytes rest
read_on start mid new bytes left rest h one =
    record {
      instructions = h.instructions ++ one.i ∷ [];
      split = one_further bytes left rest h.instructions one.i h.split one.here;
      table = decoder_after_all-append (Some start) h.instructions (one.i ∷ []) ∙ ap (λ o. decoder_after_all o (one.i ∷ [])) h.table ∙ one.table;
    }

-- What is written is read as it was, whatever follows.
pub written_read : (is : List EncoderInstruction) (rest : List ℕ) → AllByRecursion IsWrittenInstruction is → AreInstructions (flat_map encoder_bytes is ++ rest) is rest
written_read [] rest h = NoInstruction rest
written_read (i ∷ is) rest h =
    rw (append_assoc (encoder_bytes i) (flat_map encoder_bytes is) rest)
    (NextInstruction (encoder_bytes i ++ (flat_map encoder_bytes is ++ rest)) (flat_map encoder_bytes is ++ rest) rest i is
    (instruction_reads_back i (flat_map encoder_bytes is ++ rest) h.0.0 h.0.1 h.0.2) (written_read is rest h.1))
