-- No word of the code begins another one.
use Rattle.std.proofs.Common.{◌≡◌, ℕ, zero, suc, ◌≤◌, true, List, [], ◌∷◌, ◌++◌, refl, ap, sym, ◌∙◌, arith}
use Rattle.std.proofs.lemmas.Bool.{eqb-true}
use Rattle.h3_huffman.specs.Huffman.{code_word}
use Rattle.h3_huffman.specs.Tree.{Tree, Empty, Leaf, Fork, walk, code_tree, is_leaf_of}
use Rattle.h3_huffman.specs.Tables.{is_tree}
use Rattle.h3_huffman.specs.PayloadLaws.{all_from_at}
use Rattle.h3_huffman.proofs.Computed.{tree_holds}

leaf_from : (symbol : ℕ) (t : Tree) → is_leaf_of symbol t ≡ true → t ≡ Leaf symbol
leaf_from symbol (Leaf other) h = let e = eqb-true symbol other h in rw e refl
leaf_from symbol Empty h = absurd (cc)
leaf_from symbol (Fork left right) h = absurd (cc)

pub word_leads : (t : Tree) → is_tree t ≡ true → (symbol : ℕ) → symbol ≤ 256 → walk t (code_word symbol) ≡ Leaf symbol
word_leads t h symbol le =
    leaf_from symbol (walk t (code_word symbol)) (all_from_at (λ s. is_leaf_of s (walk t (code_word s))) 0 257 symbol h (omega arith) (omega arith))

pub walk_leaf : (symbol : ℕ) (y : List ℕ) → walk (Leaf symbol) y ≡ Leaf symbol
walk_leaf symbol [] = refl
walk_leaf symbol (b ∷ bs) = refl

walk_empty : (y : List ℕ) → walk Empty y ≡ Empty
walk_empty [] = refl
walk_empty (b ∷ bs) = refl

pub walk-append : (t : Tree) (x y : List ℕ) → walk t (x ++ y) ≡ walk (walk t x) y
walk-append t [] y = refl
walk-append Empty (b ∷ x) y = sym (walk_empty y)
walk-append (Leaf s) (b ∷ x) y = sym (walk_leaf s y)
walk-append (Fork left right) (zero ∷ x) y = walk-append left x y
walk-append (Fork left right) (suc n ∷ x) y = walk-append right x y

-- the bits behind a word lead nowhere else
pub word_front : (t : Tree) → is_tree t ≡ true → (symbol : ℕ) (y : List ℕ) → symbol ≤ 256 → walk t (code_word symbol ++ y) ≡ Leaf symbol
word_front t h symbol y le = walk-append t (code_word symbol) y ∙ ap (λ v. walk v y) (word_leads t h symbol le) ∙ walk_leaf symbol y

leaf_same : (a b : ℕ) → Leaf a ≡ Leaf b → a ≡ b
leaf_same a b e = cc

pub one_word : (a b : ℕ) (x y : List ℕ) → a ≤ 256 → b ≤ 256 → code_word a ++ x ≡ code_word b ++ y → a ≡ b
one_word a b x y p q e =
    leaf_same a b (sym (word_front code_tree tree_holds a x p) ∙ ap (λ v. walk code_tree v) e ∙ word_front code_tree tree_holds b y q)
