-- What a decoder has heard, and what it refuses.
use Rattle.std.proofs.Common.{◌≡◌, ◌≢◌, inl, inr, ℕ, ◌≤◌, Bool, List, [], ◌∷◌, length, refl, ap, sym, ◌∙◌, arith, subst}
use Rattle.h3_field.specs.Reading.{Unfinished}
use Rattle.h3_field.specs.InstructionReading.{decoder_instruction}
use Rattle.h3_field.specs.declared.encoder_error.EncoderError.{EncoderError}
use Rattle.h3_field.specs.declared.encoder_error.EncoderError.TheVariants.{OutOfMemory}
use Rattle.h3_field.specs.declared.decoder_error.DecoderError.{DecoderError}
use Rattle.h3_qpack.specs.EncoderHistory.{EncoderHistory, encoder_after_all}
use Rattle.h3_qpack.specs.EncoderState.{EncoderState, encoder_state}
use Rattle.h3_qpack.specs.EncoderAnswers.{HasReadDecoderInstructions, IsLeft}
use Rattle.h3_qpack.specs.Instructions.{BeginsRefused}
use Rattle.h3_qpack.specs.Hearing.{Listened, listened, listen, StopsBefore, HasListened}
use Rattle.h3_qpack.specs.HearingLaws.{listened_is}
use Rattle.h3_qpack.specs.SectionAnswers.{IsReasonWith}
use Rattle.h3_field.specs.declared.decoder_error.DecoderError.TheVariants as error

-- what an encoder keeps of it
pub has_listened : (s : EncoderHistory) (old new : EncoderState) (bytes left : List ℕ) (is_bad : Bool) → old ≡ encoder_state s → HasReadDecoderInstructions old new bytes left
    → ((t : EncoderHistory) → new ≡ encoder_state t → StopsBefore t left is_bad) → HasListened s new bytes left is_bad
has_listened s old new bytes left is_bad is h stops =
    let end = encoder_after_all s h.instructions in
    let value : listen s bytes ≡ listened end left is_bad = listened_is s bytes (listened end left is_bad) (record {
      instructions = h.instructions;
      split = h.split;
      accepted = h.accepted s is;
      after = refl;
      stops = stops end (h.after s is);
    }) in
    record {
      state = h.after s is ∙ ap (λ (x : Listened). encoder_state x.encoder) (sym value);
      rest = ap (λ (x : Listened). x.left) (sym value);
      bad = ap (λ (x : Listened). x.is_bad) (sym value);
    }

pub nothing_left : (bytes : List ℕ) → length bytes ≤ 0 → decoder_instruction bytes ≡ Unfinished
nothing_left [] none = refl
nothing_left (byte ∷ bytes) none = absurd (omega (arith, none))

-- an instruction that is left unread and not for want of memory is refused
pub refused_here : (s : EncoderHistory) (bytes : List ℕ) (e : EncoderError) → e ≢ OutOfMemory → IsLeft s bytes e → BeginsRefused s bytes
refused_here s bytes e other (inl refused) = refused
refused_here s bytes e other (inr lacks) = absurd (other lacks.memory)

-- a refusal for want of memory
pub asks_memory : (memory bad : Type 0) (e : DecoderError) → IsReasonWith memory bad (λ count. ⊥) e → e ≡ error.OutOfMemory → memory
asks_memory memory bad e n same = subst (λ x. IsReasonWith memory bad (λ count. ⊥) x) same n
