-- What is no string's Huffman encoding.
use Rattle.std.specs.Prelude.{◌≡◌, ℕ, ◌<◌, List}
use Rattle.std.specs.List.{AllByRecursion}
use Rattle.h3_huffman.specs.Huffman.{huffman}

abbrev pub IsByte : ℕ → Type 0
IsByte byte = byte < 256

-- No string of bytes is encoded so.
abbrev pub IsNoPayload : List ℕ → Type 0
IsNoPayload payload = (plain : List ℕ) → AllByRecursion IsByte plain → payload ≡ huffman plain → ⊥

abbrev pub IsBit : ℕ → Type 0
IsBit bit = bit < 2
