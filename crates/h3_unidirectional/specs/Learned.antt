-- What the peer's settings make of the own encoder (RFC 9204, sections 3.2.3 and 5).
use Rattle.std.specs.Prelude.{ℕ, min, List, [], if◌then◌else◌, Option, Some, None, unwrap_or}
use Rattle.h3_field.specs.Instruction.{encoder_bytes}
use Rattle.h3_field.specs.Instruction.EncoderInstruction.{SetCapacity}
use Rattle.h3_proto.specs.Settings.{value_of}
use Rattle.h3_qpack.specs.EncoderHistory.{EncoderHistory, using_table}
use Rattle.h3_connection.specs.Control.{is_table_usable}

abbrev pub capacity_of : List (ℕ × ℕ) → ℕ
capacity_of pairs = unwrap_or (value_of 1 pairs) 0

abbrev pub blocked_of : List (ℕ × ℕ) → ℕ
blocked_of pairs = unwrap_or (value_of 7 pairs) 0

abbrev pub having_learned : EncoderHistory → List (ℕ × ℕ) → EncoderHistory
having_learned s pairs =
    if is_table_usable s.most_capacity (capacity_of pairs) (blocked_of pairs) then using_table s (capacity_of pairs) (blocked_of pairs) else s

-- the capacity of the table that they allow, where it has at most so much
abbrev pub usable_capacity : ℕ → List (ℕ × ℕ) → Option ℕ
usable_capacity most pairs = if is_table_usable most (capacity_of pairs) (blocked_of pairs) then Some (min most (capacity_of pairs)) else None

-- what is written for it
abbrev pub capacity_bytes : Option ℕ → List ℕ
capacity_bytes None = []
capacity_bytes (Some capacity) = encoder_bytes (SetCapacity capacity)
