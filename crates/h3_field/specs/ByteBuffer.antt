-- What is decoded behind the bytes of a block.
use Rattle.std.specs.Prelude.{◌≡◌, ◌≤◌, ℕ, true, List, ◌++◌, Option, Some, None, length, take}
use Rattle.h3_field.specs.StringReading.{StandsFor, StandsForNone}

-- the string of a Huffman encoding stands at the place, and the answer is the place behind it; or it is no encoding
abbrev pub DecodesBehind : ℕ → List ℕ → List ℕ → List ℕ → Option ℕ → Type 0
DecodesBehind place encoded old new (Some end) =
    (value : List ℕ) × StandsFor (record { is_huffman = true; bytes = encoded }) value × (take end new ≡ take place old ++ value) × (end ≤ length new)
DecodesBehind place encoded old new None = StandsForNone (record { is_huffman = true; bytes = encoded })
