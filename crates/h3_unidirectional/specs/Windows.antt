-- How bytes are read where instructions are taken up to a limit: so many at once that what is whole among them is within it.
use Rattle.std.specs.Prelude.{◌≡◌, ℕ, ◌+◌, ◌<◌, Bool, true, false, ◌&&◌, nat_lt, min, List, length, if◌then◌else◌}
use Rattle.h3_field.specs.Waiting.{encoder_wait, decoder_wait}
use Rattle.h3_field.specs.declared.waiting.Wait.{Wait}
use Rattle.h3_proto.specs.Config.{is_limit}
use Rattle.h3_qpack.specs.DecoderState.{DecoderState}
use Rattle.h3_qpack.specs.EncoderHistory.{EncoderHistory}
use Rattle.h3_qpack.specs.EncoderState.{EncoderState, encoder_state}
use Rattle.h3_qpack.specs.Hearing.{heard, listened}
use Rattle.h3_connection.specs.ExcessiveInstructions.{missing, exceeds, hear_up_to, listen_up_to}

-- of so many bytes
abbrev pub window : ℕ → ℕ → ℕ
window most count = if is_limit most then min most count else count

-- so many bytes came of an instruction, and with those that are missing it is longer than the limit
abbrev pub is_longer : ℕ → ℕ → Wait → Bool
is_longer most count w = is_limit most && (nat_lt 0 count && nat_lt most (count + missing w))

-- Nothing of these bytes is read: the instruction at their front is not whole, or longer than the limit. Its wait tells which.
pub record HearingEnds (most : ℕ) (r : DecoderState) (left : List ℕ) : Type 0 where
  pub stays : hear_up_to most r left ≡ heard r left false
  pub told : exceeds most encoder_wait left ≡ is_longer most (length left) (encoder_wait left)

-- some bytes were read, and more may be; or nothing of those that are left is read
abbrev pub HearsWindow : ℕ → DecoderState → List ℕ → List ℕ → Bool → Type 0
HearsWindow most r before left true = length left < length before
HearsWindow most r before left false = HearingEnds most r left

-- the same of an encoder, whatever its history
pub record ListeningEnds (most : ℕ) (left : List ℕ) : Type 0 where
  pub stays : (s : EncoderHistory) → listen_up_to most s left ≡ listened s left false
  pub told : exceeds most decoder_wait left ≡ is_longer most (length left) (decoder_wait left)

abbrev pub ListensWindow : ℕ → List ℕ → List ℕ → Bool → Type 0
ListensWindow most before left true = length left < length before
ListensWindow most before left false = ListeningEnds most left

-- the instruction at the front is refused
abbrev pub IsRefusedAt : ℕ → EncoderState → List ℕ → Type 0
IsRefusedAt most e left = (s : EncoderHistory) → e ≡ encoder_state s → listen_up_to most s left ≡ listened s left true
