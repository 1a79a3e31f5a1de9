-- The increment that a decoder writes (RFC 9204, section 4.4.3).
use Rattle.std.specs.Prelude.{ℕ, List, [], if◌then◌else◌, ◌==◌}
use Rattle.h3_field.specs.Instruction.{decoder_bytes}
use Rattle.h3_field.specs.Instruction.DecoderInstruction.{Increment}

-- RFC 9204 4.4.3: insert count increment, written
-- one instruction for so many insertions, and none for none
abbrev pub increment_for : ℕ → List ℕ
increment_for count = if count == 0 then [] else decoder_bytes (Increment count)
