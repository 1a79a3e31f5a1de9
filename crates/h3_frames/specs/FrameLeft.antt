-- How many bytes of a frame's payload are still to come (RFC 9114, section 7.1).
use Rattle.std.specs.Prelude.{ℕ, ◌-◌, List, length, Option, Some, None}
use Rattle.h3_coding.specs.Varint.{varint_at}

-- behind its length
abbrev pub left_behind_length : Option (ℕ × List ℕ) → ℕ
left_behind_length None = 0
left_behind_length (Some p) = p.0 - length p.1

-- behind its type
abbrev pub left_behind_type : Option (ℕ × List ℕ) → ℕ
left_behind_type None = 0
left_behind_type (Some p) = left_behind_length (varint_at p.1)

-- Of the frame that the bytes begin with: none while its type and length are not whole, and none once it is.
abbrev pub left_of_frame : List ℕ → ℕ
left_of_frame bytes = left_behind_type (varint_at bytes)
