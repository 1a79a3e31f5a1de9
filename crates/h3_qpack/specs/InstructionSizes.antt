-- How many bytes an instruction takes.
use Rattle.std.specs.Prelude.{◌≡◌, ℕ, ◌*◌, ◌≤◌, max, Some}
use Rattle.h3_qpack.specs.DecoderState.{DecoderState}

-- At most so many for a decoder that announced this capacity: a number takes up to ten (RFC 9204, section 4.1.1), and the strings of an entry that
-- fits the capacity up to four for each of its bytes, as in a section
abbrev pub most_instruction : ℕ → ℕ
most_instruction announced = max 10 (4 * announced)

-- The decoder announced that capacity, and its table has no greater one.
pub record HasAnnounced (announced : ℕ) (r : DecoderState) : Type 0 where
  pub is : r.announced ≡ Some announced
  pub within : r.table.capacity ≤ announced
