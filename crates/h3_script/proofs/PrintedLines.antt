-- A line more of a text of lines, and a word more of a line.
use Rattle.std.proofs.Common.{◌≡◌, ◌∙◌, ap, sym, ℕ, List, [], ◌∷◌, ◌++◌, ◌+◌, take}
use Rattle.std.proofs.lemmas.List.{append_assoc, flat_map_more}
use Rattle.std.specs.List.{flat_map}

-- the lines of a front of a list, then the line of the next of it with its end: the lines of the front with it
pub lines_more : {X : Type 0} (line_of : X → List ℕ) (xs : List X) (i : ℕ) (x : X) (text line : List ℕ) → take (i + 1) xs ≡ take i xs ++ x ∷ []
    → text ≡ flat_map (λ a. line_of a ++ 10 ∷ []) (take i xs) → line ≡ line_of x → (text ++ line) ++ 10 ∷ [] ≡ flat_map (λ a. line_of a ++ 10 ∷ []) (take (i + 1) xs)
lines_more {X} line_of xs i x text line more is_text is_line =
    let ended : X → List ℕ = λ a. line_of a ++ 10 ∷ [] in
    append_assoc text line (10 ∷ []) ∙ ap (λ (l : List ℕ). text ++ (l ++ 10 ∷ [])) is_line ∙ ap (λ (t : List ℕ). t ++ ended x) is_text
    ∙ flat_map_more ended [] (take i xs) x ∙ ap (flat_map ended) (sym more)

-- a line of a name and a word for each of a front of a list, then the word of the next of it: the line of the front with it
pub words_more : {X : Type 0} (word_of : X → List ℕ) (name : List ℕ) (xs : List X) (i : ℕ) (x : X) (text : List ℕ) → take (i + 1) xs ≡ take i xs ++ x ∷ []
    → text ≡ name ++ flat_map word_of (take i xs) → text ++ word_of x ≡ name ++ flat_map word_of (take (i + 1) xs)
words_more {X} word_of name xs i x text more is_text =
    ap (λ (t : List ℕ). t ++ word_of x) is_text ∙ flat_map_more word_of name (take i xs) x ∙ ap (λ (l : List X). name ++ flat_map word_of l) (sym more)
