-- What stands at the front of bytes that begin with a number.
use Rattle.std.specs.Prelude.{◌≡◌, ℕ, ◌+◌, ◌-◌, ◌/◌, ◌^◌, List, ◌∷◌, ◌++◌, length}
use Rattle.h3_coding.specs.Varint.{varint_of}

-- What is at the front of a list with a number.
pub record Begins (v : ℕ) (bytes rest : List ℕ) : Type 0 where
  pub first : ℕ
  pub more : List ℕ
  pub asked : length more ≡ 2 ^ (first / 64) - 1
  pub parts : bytes ≡ first ∷ (more ++ rest)
  pub value : v ≡ varint_of first more
