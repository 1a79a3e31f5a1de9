-- Instructions that are longer than their reader takes, on the peer's encoder and decoder streams (RFC 9204, sections 4.3 and 4.4; RFC 9114,
-- section 10.5).
use Rattle.std.specs.Prelude.{ℕ, zero, suc, ◌+◌, Bool, true, false, ◌&&◌, nat_lt, List, [], ◌∷◌, ◌++◌, length, take, if◌then◌else◌}
use Rattle.h3_field.specs.InstructionReading.{instruction, decoder_instruction}
use Rattle.h3_field.specs.Waiting.{encoder_wait, decoder_wait}
use Rattle.h3_field.specs.declared.waiting.Wait.{Wait}
use Rattle.h3_field.specs.declared.waiting.Wait.TheVariants as wait
use Rattle.h3_proto.specs.Config.{is_limit}
use Rattle.h3_qpack.specs.DecoderState.{DecoderState}
use Rattle.h3_qpack.specs.EncoderHistory.{EncoderHistory}
use Rattle.h3_qpack.specs.Hearing.{Heard, heard, hear_form, Listened, listened, listen_form}

-- how many bytes are known to be missing: of an integer that goes on, one
abbrev pub missing : Wait → ℕ
missing wait.Nothing = 0
missing wait.Integer = 1
missing (wait.Bytes count) = count

-- RFC 9114 10.5: unfinished_limit of instructions
-- There is a limit, and the bytes begin with an instruction of which the first so many bytes tell that it is longer. Bytes behind those are not
-- asked.
abbrev pub exceeds : ℕ → (List ℕ → Wait) → List ℕ → Bool
exceeds most waiting [] = false
exceeds most waiting (first ∷ rest) =
    is_limit most && nat_lt most (length (take most (first ∷ rest)) + missing (waiting (take most (first ∷ rest))))

-- The decoder after the whole instructions at the front, up to the first that is bad, or longer than the limit.
abbrev pub hear_limited : ℕ → ℕ → DecoderState → List ℕ → Heard
hear_limited zero most r bytes = heard r bytes false
hear_limited (suc steps) most r bytes =
    if exceeds most encoder_wait bytes then heard r bytes false else hear_form (hear_limited steps most) r bytes (instruction bytes)

unfoldable pub hear_up_to : ℕ → DecoderState → List ℕ → Heard
hear_up_to most r bytes = hear_limited (length bytes) most r bytes

-- The encoder after the whole decoder instructions at the front, up to the first that it refuses, or that is longer than the limit.
abbrev pub listen_limited : ℕ → ℕ → EncoderHistory → List ℕ → Listened
listen_limited zero most s bytes = listened s bytes false
listen_limited (suc steps) most s bytes =
    if exceeds most decoder_wait bytes then listened s bytes false else listen_form (listen_limited steps most) s bytes (decoder_instruction bytes)

unfoldable pub listen_up_to : ℕ → EncoderHistory → List ℕ → Listened
listen_up_to most s bytes = listen_limited (length bytes) most s bytes

-- more bytes are heard behind what is left, unless a bad instruction stands there
abbrev pub heard_up_to_with : ℕ → Heard → List ℕ → Bool → Heard
heard_up_to_with most h more true = heard h.decoder (h.left ++ more) true
heard_up_to_with most h more false = hear_up_to most h.decoder (h.left ++ more)

abbrev pub listened_up_to_with : ℕ → Listened → List ℕ → Bool → Listened
listened_up_to_with most l more true = listened l.encoder (l.left ++ more) true
listened_up_to_with most l more false = listen_up_to most l.encoder (l.left ++ more)
