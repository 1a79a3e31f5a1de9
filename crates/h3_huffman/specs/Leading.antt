-- Where a word or a padding leads in the tree of the code, as tests that compute.
use Rattle.std.specs.Prelude.{ℕ, ◌==◌, nat_le, Bool, true, false, ◌&&◌, List, [], ◌∷◌, length, Option, Some, None}
use Rattle.h3_huffman.specs.Huffman.{code_word}
use Rattle.h3_huffman.specs.Tree.{code_tree}
use Rattle.h3_huffman.specs.Unhuffman.{first_symbol}

-- the word of a symbol leads to it with nothing left, and is not empty
abbrev pub is_followed_to : ℕ → Option (ℕ × List ℕ) → Bool
is_followed_to symbol None = false
is_followed_to symbol (Some (found, [])) = found == symbol
is_followed_to symbol (Some (found, b ∷ bs)) = false

abbrev pub leads_there : ℕ → Bool
leads_there symbol = is_followed_to symbol (first_symbol code_tree (code_word symbol)) && nat_le 1 (length (code_word symbol))

abbrev pub leads_nowhere : Option (ℕ × List ℕ) → Bool
leads_nowhere None = true
leads_nowhere (Some p) = false

abbrev pub first_or : Option (ℕ × List ℕ) → ℕ
first_or None = 0
first_or (Some p) = p.0

abbrev pub rest_or : Option (ℕ × List ℕ) → List ℕ
rest_or None = []
rest_or (Some p) = p.1
