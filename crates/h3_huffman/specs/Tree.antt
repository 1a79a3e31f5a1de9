-- The code words as a binary tree: a zero goes to the left, a one to the right, and a symbol stands where its word ends.
use Rattle.std.specs.Prelude.{ℕ, zero, suc, ◌==◌, Bool, true, false, List, [], ◌∷◌, fold}
use Rattle.h3_huffman.specs.Huffman.{code_word, numbers_from}

pub data Tree : Type 0 where
  Empty : Tree
  Leaf : (symbol : ℕ) → Tree
  Fork : (left right : Tree) → Tree

-- where the bits lead. A symbol keeps what comes behind its word
abbrev pub walk : Tree → List ℕ → Tree
walk t [] = t
walk Empty (bit ∷ bits) = Empty
walk (Leaf symbol) (bit ∷ bits) = Leaf symbol
walk (Fork left right) (zero ∷ bits) = walk left bits
walk (Fork left right) (suc more ∷ bits) = walk right bits

-- the tree with one more word
abbrev pub grow : Tree → List ℕ → ℕ → Tree
grow t [] symbol = Leaf symbol
grow (Fork left right) (zero ∷ bits) symbol = Fork (grow left bits symbol) right
grow (Fork left right) (suc more ∷ bits) symbol = Fork left (grow right bits symbol)
grow other (zero ∷ bits) symbol = Fork (grow Empty bits symbol) Empty
grow other (suc more ∷ bits) symbol = Fork Empty (grow Empty bits symbol)

abbrev pub code_tree : Tree
code_tree = fold (λ t symbol. grow t (code_word symbol) symbol) Empty (numbers_from 0 257)

abbrev pub is_leaf_of : ℕ → Tree → Bool
is_leaf_of symbol (Leaf other) = symbol == other
is_leaf_of symbol Empty = false
is_leaf_of symbol (Fork left right) = false

abbrev pub is_leaf : Tree → Bool
is_leaf (Leaf other) = true
is_leaf Empty = false
is_leaf (Fork left right) = false
