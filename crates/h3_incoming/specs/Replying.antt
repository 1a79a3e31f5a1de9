-- What a decoder answers on its stream when a field section was read (RFC 9204, section 4.4).
use Rattle.std.specs.Prelude.{ℕ, Bool, List, [], ◌∷◌, ◌++◌, if◌then◌else◌}
use Rattle.std.specs.List.{flat_map}
use Rattle.h3_field.specs.Instruction.{DecoderInstruction, decoder_bytes}
use Rattle.h3_field.specs.Instruction.DecoderInstruction.{Acknowledge, CancelStream}

-- the acknowledgment of a section and the cancellation of its stream, those of them that are due
abbrev pub replies_of : ℕ → Bool → Bool → List DecoderInstruction
replies_of id acknowledges cancels = (if acknowledges then Acknowledge id ∷ [] else []) ++ (if cancels then CancelStream id ∷ [] else [])

abbrev pub encodings : List DecoderInstruction → List ℕ
encodings replies = flat_map decoder_bytes replies
