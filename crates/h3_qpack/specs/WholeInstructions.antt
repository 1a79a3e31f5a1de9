-- Whole instructions at the front of what was delivered.
use Rattle.std.specs.Prelude.{ℕ, ◌+◌, ◌-◌, List, [], ◌∷◌, length, take, count_by, Bool, true, false, if◌then◌else◌, nat_le}
use Rattle.h3_field.specs.Instruction.{EncoderInstruction, encoder_bytes, DecoderInstruction, decoder_bytes}
use Rattle.h3_field.specs.Instruction.EncoderInstruction.{SetCapacity}

-- how many of the texts are whole in that many bytes
abbrev pub whole_in : {X : Type 0} → (X → List ℕ) → ℕ → List X → ℕ
whole_in bytes_of count [] = 0
whole_in bytes_of count (x ∷ xs) =
    if nat_le (length (bytes_of x)) count then whole_in bytes_of (count - length (bytes_of x)) xs + 1 else 0

-- what came of the first text that is not whole
abbrev pub rest_in : {X : Type 0} → (X → List ℕ) → ℕ → List X → List ℕ
rest_in bytes_of count [] = []
rest_in bytes_of count (x ∷ xs) =
    if nat_le (length (bytes_of x)) count then rest_in bytes_of (count - length (bytes_of x)) xs else take count (bytes_of x)

abbrev pub is_insertion : EncoderInstruction → Bool
is_insertion (SetCapacity capacity) = false
is_insertion _ = true

-- how many insertions are whole in that many bytes of the encoder's instructions
abbrev pub insertions_in : ℕ → List EncoderInstruction → ℕ
insertions_in count instructions = count_by is_insertion (take (whole_in encoder_bytes count instructions) instructions)

-- the decoder's instructions that are whole in that many bytes
abbrev pub decoder_instructions_in : ℕ → List DecoderInstruction → List DecoderInstruction
decoder_instructions_in count instructions = take (whole_in decoder_bytes count instructions) instructions
