-- How a string literal is read (RFC 9204, section 4.1.2; RFC 7541, section 5.2): as it stands, or Huffman coded.
use Rattle.std.specs.Prelude.{◌≡◌, ◌==◌, ℕ, ◌-◌, ◌/◌, ◌%◌, Bool, List, if◌then◌else◌, nat_le, length, take, drop}
use Rattle.std.specs.List.{AllByRecursion}
use Rattle.h3_huffman.specs.Huffman.{huffman}
use Rattle.h3_huffman.specs.Payload.{IsByte}
use Rattle.h3_field.specs.StringLiteral.{Text, text_bytes}
use Rattle.h3_field.specs.Reading.{Reading, Whole, Unfinished, then_read}
use Rattle.h3_field.specs.IntegerReading.{integer}

-- the bytes behind the length, and whether they are Huffman coded
pub record Payload : Type 0 where
  pub is_huffman : Bool
  pub bytes : List ℕ

-- The payload is the string of these bytes.
pub record StandsFor (p : Payload) (bytes : List ℕ) : Type 0 where
  pub each : AllByRecursion IsByte bytes
  pub form : p.bytes ≡ (if p.is_huffman then huffman bytes else bytes)

-- the payload of a string as it is written
abbrev pub payload_of : Text → Payload
payload_of text = record { is_huffman = text.is_huffman; bytes = text_bytes text }

-- the string of these bytes, coded as the payload is
abbrev pub text_of : Payload → List ℕ → Text
text_of p bytes = record { bytes = bytes; is_huffman = p.is_huffman }

-- It is no string: its Huffman form is refused.
abbrev pub StandsForNone : Payload → Type 0
StandsForNone p = (bytes : List ℕ) → StandsFor p bytes → ⊥

-- so many bytes
abbrev pub bytes_reading : ℕ → List ℕ → Reading (List ℕ)
bytes_reading count bytes = if nat_le count (length bytes) then Whole (take count bytes) (drop count bytes) else Unfinished

-- the flags above the bit H, and the payload
abbrev pub string : ℕ → List ℕ → Reading (ℕ × Payload)
string size bytes =
    then_read (integer (size - 1) bytes) (λ head rest.
    then_read (bytes_reading head.1 rest) (λ payload after.
    Whole (head.0 / 2, record { is_huffman = head.0 % 2 == 1; bytes = payload }) after))
