-- Which frame comes first on a control stream (RFC 9114, section 6.2.1).
use Rattle.std.specs.Prelude.{ℕ, Bool, false, not, ◌&&◌, ◌==◌, List, Option, Some, None, is_some}
use Rattle.h3_coding.specs.Varint.{varint_at}

-- a type other than that of SETTINGS (RFC 9114, section 7.2.4), and a whole number behind it
abbrev pub is_other : Option (ℕ × List ℕ) → Bool
is_other None = false
is_other (Some p) = not (p.0 == 4) && is_some (varint_at p.1)

-- The bytes begin with the whole head of a frame that is not SETTINGS. The payload need not be there.
abbrev pub begins_other : List ℕ → Bool
begins_other bytes = is_other (varint_at bytes)
