-- What is read of an integer, and what is still to be written of one.
use Rattle.std.specs.Prelude.{◌≡◌, ℕ, ◌<◌, List, ◌++◌, suc, ◌^◌, ◌∷◌}
use Rattle.h3_field.specs.IntegerReading.{integer_limit, IsInteger}
use Rattle.h3_field.specs.Integer.{groups}

-- The bytes begin with an encoding of a number in range.
pub record Encoded (size flags n : ℕ) (bytes rest : List ℕ) : Type 0 where
  pub octets : List ℕ
  pub parts : bytes ≡ octets ++ rest
  pub encodes : IsInteger size flags n octets
  pub within : n < integer_limit size

-- What is still to be written of a number.
pub record Left (start items : List ℕ) (first all rest : ℕ) : Type 0 where
  pub front : List ℕ
  pub kept : items ≡ start ++ front
  pub most : ℕ
  pub below : rest < 128 ^ suc most
  pub same : items ++ groups (suc most) rest ≡ start ++ first ∷ groups 9 all
