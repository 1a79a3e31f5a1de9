-- What an encoding is, by its first byte.
use Rattle.std.specs.Prelude.{◌≡◌, ℕ, ◌+◌, ◌-◌, ◌*◌, ◌/◌, ◌%◌, ◌^◌, List, ◌∷◌, length}
use Rattle.h3_coding.specs.Encodings.{big_endian}

-- An encoding, by its first byte.
pub record Opened (v : ℕ) (bytes : List ℕ) : Type 0 where
  pub first : ℕ
  pub rest : List ℕ
  pub is : bytes ≡ first ∷ rest
  pub count : length rest ≡ 2 ^ (first / 64) - 1
  pub value : v ≡ first % 64 * 256 ^ length rest + big_endian rest
