-- What lines and instructions are made of: an integer, an integer and a string, or two strings.
use Rattle.std.specs.Prelude.{ℕ, Bool, true, ◌&&◌, nat_le, List, [], ◌∷◌}
use Rattle.h3_field.specs.Reading.{Reading, Whole, then_read}
use Rattle.h3_field.specs.IntegerReading.{integer}
use Rattle.h3_field.specs.StringReading.{Payload, string}

-- whether the first byte, where there is one, is from low to high: its top bits are those of a line or an instruction
abbrev pub begins : ℕ → ℕ → List ℕ → Bool
begins low high [] = true
begins low high (first ∷ rest) = nat_le low first && nat_le first high

pub record IndexAndString : Type 0 where
  pub flags : ℕ
  pub index : ℕ
  pub value : Payload

abbrev pub index_and_string : ℕ → List ℕ → Reading IndexAndString
index_and_string size bytes =
    then_read (integer size bytes) (λ head rest.
    then_read (string 8 rest) (λ value after.
    Whole (record { flags = head.0; index = head.1; value = value.1 }) after))

pub record TwoStrings : Type 0 where
  pub flags : ℕ
  pub name : Payload
  pub value : Payload

abbrev pub two_strings : ℕ → List ℕ → Reading TwoStrings
two_strings size bytes =
    then_read (string size bytes) (λ name rest.
    then_read (string 8 rest) (λ value after.
    Whole (record { flags = name.0; name = name.1; value = value.1 }) after))
