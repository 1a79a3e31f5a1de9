-- Instructions that were written, of which only a front came.
use Rattle.std.proofs.Common.{◌≡◌, inl, inr, ℕ, zero, suc, ◌≤◌, List, [], ◌∷◌, ◌++◌, length, take, drop, Some, None, refl, subst, flat_map}
use Rattle.std.specs.List.{AllByRecursion}
use Rattle.std.proofs.lemmas.List.{take-append-drop}
use Rattle.h3_field.specs.Instruction.{EncoderInstruction, encoder_bytes}
use Rattle.h3_field.specs.InstructionReading.{Says}
use Rattle.h3_field.specs.InstructionLaws.{instruction_stable}
use Rattle.h3_field.specs.ReadBack.{HasInstruction}
use Rattle.h3_field.specs.ReadBackLaws.{instruction_reads_back, instruction_one}
use Rattle.h3_qpack.specs.Encodings.{IsWrittenInstruction}
use Rattle.h3_qpack.specs.DecoderState.{DecoderState, decoder_after}
use Rattle.h3_qpack.specs.Instructions.{AreInstructions, NoInstruction, NextInstruction, BeginsBad}
use Rattle.h3_qpack.specs.InstructionLaws.{longer_instruction}
use Rattle.h3_qpack.proofs.Units.{UnitLaws, AreUnits, NoUnit, NextUnit, FrontOfUnits, front_of_units}

pub nothing_read : (bytes rest : List ℕ) (i : EncoderInstruction) → bytes ≡ [] → HasInstruction bytes i rest → ⊥
nothing_read bytes rest i e h = let none = rw e at h.whole in cc

pub written_instructions : UnitLaws encoder_bytes IsWrittenInstruction HasInstruction
written_instructions =
    record {
      none = λ i rest h. nothing_read [] rest i refl h;
      longer = longer_instruction;
      back = λ i rest w. instruction_reads_back i rest w.0 w.1 w.2;
      one = λ bytes rest other i j h k. instruction_one bytes rest other i j h k;
    }

are_units : (bytes left : List ℕ) (is : List EncoderInstruction) → AreInstructions bytes is left → AreUnits HasInstruction bytes is left
are_units bytes left [] (NoInstruction b) = NoUnit b
are_units bytes left (i ∷ is) (NextInstruction b rest l k ks here others) = NextUnit b rest left i is here (are_units rest left is others)

pub front_read : (all : List EncoderInstruction) (n : ℕ) (bytes left : List ℕ) (is : List EncoderInstruction) → AllByRecursion IsWrittenInstruction all → n ≤ length (flat_map encoder_bytes all)
    → bytes ≡ take n (flat_map encoder_bytes all) → AreInstructions bytes is left → FrontOfUnits encoder_bytes all n is left
front_read all n bytes left is w fits e h = front_of_units encoder_bytes IsWrittenInstruction HasInstruction written_instructions all n bytes left is w fits e (are_units bytes left is h)

take_none : (n : ℕ) → ◌≡◌ {A = List ℕ} (take n []) []
take_none zero = refl
take_none (suc n) = refl

nothing_bad : (r : DecoderState) (bytes : List ℕ) → bytes ≡ [] → BeginsBad r bytes → ⊥
nothing_bad r bytes e (inl bad) = let none = rw e at bad in cc
nothing_bad r bytes e (inr whole) = let none = rw e at whole.2 in cc

-- A front of what was written begins with no bad instruction, where the first one may be read.
pub no_bad : (all : List EncoderInstruction) (n : ℕ) (r : DecoderState) → AllByRecursion IsWrittenInstruction all → ((j : EncoderInstruction) (js : List EncoderInstruction) → all ≡ j ∷ js → (next : DecoderState) × (decoder_after r j ≡ Some next))
    → BeginsBad r (take n (flat_map encoder_bytes all)) → ⊥
no_bad [] n r w next h = nothing_bad r (take n []) (take_none n) h
no_bad (j ∷ js) n r w next h = by_kind h
  where
    text : List ℕ
    text = encoder_bytes j ++ flat_map encoder_bytes js

    own : HasInstruction text j (flat_map encoder_bytes js)
    own = instruction_reads_back j (flat_map encoder_bytes js) w.0.0 w.0.1 w.0.2

    whole_text : take n text ++ drop n text ≡ text
    whole_text = take-append-drop n text

    by_kind : BeginsBad r (take n text) → ⊥
    by_kind (inl bad) =
        let s = instruction_stable (take n text) (drop n text) in
        let stays = rw (bad, whole_text, own.whole) at s in cc
    by_kind (inr (form, rest, whole, none)) =
        let s = instruction_stable (take n text) (drop n text) in
        let stays = rw (whole, whole_text, own.whole) at s in
        let same : own.form ≡ form = cc in
        let refused : decoder_after r j ≡ None = none j (subst (λ f. Says f j) same own.says) in
        let read = (next j js refl).1 in cc
