-- An instruction of a decoder at the front of some bytes, and instructions one behind the other.
use Rattle.std.proofs.Common.{◌≡◌, ℕ, ◌<◌, ◌≤◌, ◌^◌, ◌-◌, not, Bool, false, List, [], ◌∷◌, ◌++◌, length, Option, Some, Ok, refl, ap, sym, ◌∙◌, subst, arith}
use Rattle.std.specs.List.{list_any}
use Rattle.h3_field.specs.Reading.{Reading, Whole, Unfinished, Bad}
use Rattle.h3_field.specs.Instruction.{DecoderInstruction}
use Rattle.h3_field.specs.Instruction.DecoderInstruction.{Acknowledge, Increment}
use Rattle.h3_field.specs.InstructionReading.{decoder_instruction}
use Rattle.h3_field.specs.InstructionAnswer.{AnswersReply}
use Rattle.h3_qpack.specs.EncoderHistory.{EncoderHistory, encoder_after, encoder_after_all, is_refused}
use Rattle.h3_table.specs.Tracking.{is_of}
use Rattle.h3_qpack.specs.EncoderState.{EncoderState, encoder_state, refuses_increment, encoder_state_after}
use Rattle.h3_qpack.specs.Instructions.{AreDecoderInstructions, NoDecoderInstruction, NextDecoderInstruction, AreAccepted}
use Rattle.h3_qpack.specs.EncoderAnswers.{HasReadDecoderInstructions, HasReadDecoderInstruction}
use Rattle.h3_qpack.proofs.EncoderStates.{encoder_after_state, tracked_state}

-- what was read at the front
pub reply_here : {I : Type 0} (says : I → DecoderInstruction) (r : Reading DecoderInstruction) (old new : List ℕ) (o : Option I) (i : I) → o ≡ Some i
    → AnswersReply says r old new (Ok o) → r ≡ Whole (says i) new
reply_here {I} says r old new o i is answer = from r (subst (λ (x : Option I). AnswersReply says r old new (Ok x)) is answer)
  where
    from : (r : Reading DecoderInstruction) → AnswersReply says r old new (Ok (Some i)) → r ≡ Whole (says i) new
    from (Whole j rest) h = rw (h.0, h.1) refl
    from Unfinished h = absurd (cc)
    from Bad h = absurd (cc)

-- One instruction that was read and is not refused, by what is kept after it.
pub heard_one : (old new : EncoderState) (bytes left : List ℕ) (i : DecoderInstruction) → decoder_instruction bytes ≡ Whole i left → length left < length bytes
    → new ≡ encoder_state_after old i → ((count : ℕ) → i ≡ Increment count → old.known_received < 2 ^ 64) → ((s : EncoderHistory) → old ≡ encoder_state s → is_refused s i ≡ false) → HasReadDecoderInstruction old new bytes left
heard_one old new bytes left i here less is small accepted =
    record {
      i = i;
      here = here;
      after = λ s e.
          let few : (count : ℕ) → i ≡ Increment count → s.known_received ≤ 2 ^ 64 - 1 = λ count k. omega (arith, small count k, ap (λ (t : EncoderState). t.known_received) e) in
          is ∙ ap (λ t. encoder_state_after t i) e ∙ sym (encoder_after_state s i few);
      accepted = accepted;
      less = less;
    }

-- A stream has a tracked section by the history where it is kept with one.
pub acknowledged : (old : EncoderState) (stream : ℕ) (b : Bool) → b ≡ list_any (is_of stream) old.tracked → (s : EncoderHistory) → old ≡ encoder_state s → is_refused s (Acknowledge stream) ≡ not b
acknowledged old stream b e s is = ap not (tracked_state stream s.tracked ∙ ap (λ t. list_any (is_of stream) t.tracked) (sym is) ∙ sym e)

-- An increment is refused by the history where it is refused by what is kept.
pub increment_told : (old : EncoderState) (count : ℕ) (b : Bool) → b ≡ refuses_increment old count → (s : EncoderHistory) → old ≡ encoder_state s → is_refused s (Increment count) ≡ b
increment_told old count b e s is = sym (e ∙ ap (λ t. refuses_increment t count) is)

one_further : (bytes left rest : List ℕ) (is : List DecoderInstruction) (i : DecoderInstruction) → AreDecoderInstructions bytes is left → decoder_instruction left ≡ Whole i rest
    → AreDecoderInstructions bytes (is ++ i ∷ []) rest
one_further bytes left rest [] i (NoDecoderInstruction b) here = NextDecoderInstruction bytes rest rest i [] here (NoDecoderInstruction rest)
one_further bytes left rest (j ∷ is) i (NextDecoderInstruction b middle l k ks first others) here =
    NextDecoderInstruction bytes middle rest j (is ++ i ∷ []) first (one_further middle left rest is i others here)

encoder_after_all-one : (s : EncoderHistory) (is : List DecoderInstruction) (i : DecoderInstruction) → encoder_after_all s (is ++ i ∷ []) ≡ encoder_after (encoder_after_all s is) i
encoder_after_all-one s [] i = refl
encoder_after_all-one s (j ∷ is) i = encoder_after_all-one (encoder_after s j) is i

accepted-one : (s : EncoderHistory) (is : List DecoderInstruction) (i : DecoderInstruction) → AreAccepted s is → is_refused (encoder_after_all s is) i ≡ false → AreAccepted s (is ++ i ∷ [])
accepted-one s [] i h k = (k, tt)
accepted-one s (j ∷ is) i h k = (h.0, accepted-one (encoder_after s j) is i h.1 k)

pub heard_none : (old : EncoderState) (bytes : List ℕ) → HasReadDecoderInstructions old old bytes bytes
heard_none old bytes = record { instructions = []; split = NoDecoderInstruction bytes; after = λ s e. e; accepted = λ s e. tt }

pub heard_on : (start mid new : EncoderState) (bytes left rest : List ℕ) → HasReadDecoderInstructions start mid bytes left → HasReadDecoderInstruction mid new left rest → HasReadDecoderInstructions start new bytes rest
heard_on start mid new bytes left rest h one =
    record {
      instructions = h.instructions ++ one.i ∷ [];
      split = one_further bytes left rest h.instructions one.i h.split one.here;
      after = λ s e. one.after (encoder_after_all s h.instructions) (h.after s e) ∙ ap encoder_state (sym (encoder_after_all-one s h.instructions one.i));
      accepted = λ s e. accepted-one s h.instructions one.i (h.accepted s e) (one.accepted (encoder_after_all s h.instructions) (h.after s e));
    }
