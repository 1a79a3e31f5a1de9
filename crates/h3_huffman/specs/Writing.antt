-- A payload in the midst of its writing.
use Rattle.std.specs.Prelude.{◌≡◌, ℕ, ◌*◌, ◌-◌, ◌^◌, ◌<◌, ◌≤◌, List, ◌++◌, length, take, flat_map}
use Rattle.std.specs.List.{AllByRecursion}
use Rattle.h3_huffman.specs.Huffman.{bits, huffman, code_word}
use Rattle.h3_huffman.specs.Payload.{IsByte}

-- What was written are whole bytes of the words of the first symbols, and the rest of these words is pending.
pub record Written (plain out : List ℕ) (index acc count written : ℕ) : Type 0 where
  pub parts : flat_map (bits 8) (take written out) ++ bits count acc ≡ flat_map code_word (take index plain)
  pub within : written ≤ length out
  pub room : length (huffman plain) ≤ length out
  pub bytes : AllByRecursion IsByte (take written out)

-- The word of a byte stands at the high end of a number of 64 bits, whose other bits are 0.
pub record IsHighWord (byte number : ℕ) : Type 0 where
  pub value : ℕ
  pub high : number ≡ value * 2 ^ (64 - length (code_word byte))
  pub word : bits (length (code_word byte)) value ≡ code_word byte
  pub below : value < 2 ^ length (code_word byte)

-- The pending bits are the high ones of a number of 64 bits, whose other bits are 0.
pub record IsPending (plain out : List ℕ) (index acc count written : ℕ) : Type 0 where
  pub value : ℕ
  pub high : acc ≡ value * 2 ^ (64 - count)
  pub below : value < 2 ^ count
  pub standing : Written plain out index value count written
