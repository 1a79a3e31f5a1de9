-- A string literal (RFC 9204, section 4.1.2; RFC 7541, section 5.2), as it is written: behind its length, Huffman coded or as it stands.
use Rattle.std.specs.Prelude.{ℕ, ◌+◌, ◌*◌, ◌-◌, Bool, true, false, not, ◌||◌, nat_lt, if◌then◌else◌, List, ◌++◌, length}
use Rattle.h3_field.specs.Integer.{prefixed}
use Rattle.h3_huffman.specs.Huffman.{huffman}

-- A string as it is written: its bytes, and the bit H, which says whether they are Huffman coded.
pub record Text : Type 0 where
  pub bytes : List ℕ
  pub is_huffman : Bool

-- as a writer without a choice writes it
abbrev pub huffman_text : List ℕ → Text
huffman_text bytes = record { bytes = bytes; is_huffman = true }

-- as it stands
abbrev pub plain_text : List ℕ → Text
plain_text bytes = record { bytes = bytes; is_huffman = false }

-- RFC 9204 4.1.2: shortest strings
-- Where the choice is on, the shorter of both: as it stands where the Huffman code is not shorter.
abbrev pub coded : Bool → List ℕ → Text
coded shortest bytes = record { bytes = bytes; is_huffman = not shortest || nat_lt (length (huffman bytes)) (length bytes) }

-- the bit H
abbrev pub bit_h : Bool → ℕ
bit_h true = 1
bit_h false = 0

-- what stands behind the length
abbrev pub text_bytes : Text → List ℕ
text_bytes text = if text.is_huffman then huffman text.bytes else text.bytes

-- Below the flags, the size low bits of the first byte begin with the bit H.
abbrev pub string_literal : ℕ → ℕ → Text → List ℕ
string_literal size flags text = prefixed (size - 1) (2 * flags + bit_h text.is_huffman) (length (text_bytes text)) ++ text_bytes text
