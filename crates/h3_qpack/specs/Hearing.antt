-- What a decoder makes of any bytes of an encoder, and an encoder of any bytes of a decoder, as values (RFC 9204, section 4).
use Rattle.std.specs.Prelude.{◌≡◌, ℕ, zero, suc, Bool, true, false, List, ◌++◌, length, Option, Some, None}
use Rattle.h3_field.specs.Reading.{Reading, Whole, Unfinished, Bad}
use Rattle.h3_field.specs.Instruction.{EncoderInstruction, DecoderInstruction}
use Rattle.h3_field.specs.InstructionReading.{InstructionForm, instruction, decoder_instruction}
use Rattle.h3_field.specs.Values.{instruction_of}
use Rattle.h3_qpack.specs.DecoderState.{DecoderState, decoder_after}
use Rattle.h3_qpack.specs.EncoderHistory.{EncoderHistory, encoder_after, encoder_after_all, is_refused}
use Rattle.h3_qpack.specs.EncoderState.{EncoderState, encoder_state}
use Rattle.h3_qpack.specs.Instructions.{HasRead, BeginsBad, AreDecoderInstructions, AreAccepted, BeginsRefused}

-- the decoder after the whole instructions at the front up to the first bad one, the bytes left, and whether a bad one is there
pub record Heard : Type 0 where
  pub decoder : DecoderState
  pub left : List ℕ
  pub is_bad : Bool

abbrev pub heard : DecoderState → List ℕ → Bool → Heard
heard r left is_bad = record { decoder = r; left = left; is_bad = is_bad }

-- the decoder after the instruction of a form, or none where it is bad
abbrev pub decoder_after_form : DecoderState → Option EncoderInstruction → Option DecoderState
decoder_after_form r None = None
decoder_after_form r (Some i) = decoder_after r i

abbrev pub hear_next : (DecoderState → List ℕ → Heard) → DecoderState → List ℕ → List ℕ → Option DecoderState → Heard
hear_next go r bytes rest None = heard r bytes true
hear_next go r bytes rest (Some new) = go new rest

abbrev pub hear_form : (DecoderState → List ℕ → Heard) → DecoderState → List ℕ → Reading InstructionForm → Heard
hear_form go r bytes (Whole form rest) = hear_next go r bytes rest (decoder_after_form r (instruction_of form))
hear_form go r bytes Unfinished = heard r bytes false
hear_form go r bytes Bad = heard r bytes true

abbrev pub hear_within : ℕ → DecoderState → List ℕ → Heard
hear_within zero r bytes = heard r bytes false
hear_within (suc most) r bytes = hear_form (hear_within most) r bytes (instruction bytes)

unfoldable pub hear : DecoderState → List ℕ → Heard
hear r bytes = hear_within (length bytes) r bytes

-- more bytes are heard behind what is left, unless a bad instruction stands there
abbrev pub heard_with : Heard → List ℕ → Bool → Heard
heard_with h more true = heard h.decoder (h.left ++ more) true
heard_with h more false = hear h.decoder (h.left ++ more)

abbrev pub heard_then : Heard → List ℕ → Heard
heard_then h more = heard_with h more h.is_bad

-- What is left begins with a bad instruction, or with none that is whole.
abbrev pub StopsAt : DecoderState → List ℕ → Bool → Type 0
StopsAt r left true = BeginsBad r left
StopsAt r left false = instruction left ≡ Unfinished

-- What is said of the bytes by such a value.
pub record IsHeardAs (old : DecoderState) (bytes : List ℕ) (h : Heard) : Type 0 where
  pub read : HasRead old h.decoder bytes h.left
  pub stops : StopsAt h.decoder h.left h.is_bad

-- the encoder after the whole decoder instructions at the front up to the first that it refuses, the bytes left, and whether
-- a refused one is there
pub record Listened : Type 0 where
  pub encoder : EncoderHistory
  pub left : List ℕ
  pub is_bad : Bool

abbrev pub listened : EncoderHistory → List ℕ → Bool → Listened
listened s left is_bad = record { encoder = s; left = left; is_bad = is_bad }

abbrev pub listen_next : (EncoderHistory → List ℕ → Listened) → EncoderHistory → List ℕ → DecoderInstruction → List ℕ → Bool → Listened
listen_next go s bytes i rest true = listened s bytes true
listen_next go s bytes i rest false = go (encoder_after s i) rest

abbrev pub listen_form : (EncoderHistory → List ℕ → Listened) → EncoderHistory → List ℕ → Reading DecoderInstruction → Listened
listen_form go s bytes (Whole i rest) = listen_next go s bytes i rest (is_refused s i)
listen_form go s bytes Unfinished = listened s bytes false
listen_form go s bytes Bad = listened s bytes true

abbrev pub listen_within : ℕ → EncoderHistory → List ℕ → Listened
listen_within zero s bytes = listened s bytes false
listen_within (suc most) s bytes = listen_form (listen_within most) s bytes (decoder_instruction bytes)

unfoldable pub listen : EncoderHistory → List ℕ → Listened
listen s bytes = listen_within (length bytes) s bytes

-- more bytes behind what is left, unless a refused instruction stands there
abbrev pub listened_with : Listened → List ℕ → Bool → Listened
listened_with l more true = listened l.encoder (l.left ++ more) true
listened_with l more false = listen l.encoder (l.left ++ more)

abbrev pub listened_then : Listened → List ℕ → Listened
listened_then l more = listened_with l more l.is_bad

abbrev pub StopsBefore : EncoderHistory → List ℕ → Bool → Type 0
StopsBefore s left true = BeginsRefused s left
StopsBefore s left false = decoder_instruction left ≡ Unfinished

-- What is said of the bytes by such a value.
pub record IsListenedAs (old : EncoderHistory) (bytes : List ℕ) (l : Listened) : Type 0 where
  pub instructions : List DecoderInstruction
  pub split : AreDecoderInstructions bytes instructions l.left
  pub accepted : AreAccepted old instructions
  pub after : l.encoder ≡ encoder_after_all old instructions
  pub stops : StopsBefore l.encoder l.left l.is_bad

-- What an encoder of this history keeps after the bytes, and what it left of them.
pub record HasListened (s : EncoderHistory) (new : EncoderState) (bytes left : List ℕ) (is_bad : Bool) : Type 0 where
  pub state : new ≡ encoder_state (listen s bytes).encoder
  pub rest : left ≡ (listen s bytes).left
  pub bad : is_bad ≡ (listen s bytes).is_bad
