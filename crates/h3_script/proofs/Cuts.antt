-- Texts that are cut at the bytes of one value.
use Rattle.std.proofs.Common.{◌≡◌, ◌≢◌, ℕ, zero, suc, ◌==◌, ◌<◌, Bool, true, false, List, [], ◌∷◌, ◌++◌, length, take, drop, get_or, Option, Some, None, option_map, refl, sym, ◌∙◌, ap, subst, arith, append_assoc}
use Rattle.std.proofs.lemmas.Bool.{eq-eqb, ne_eqb}
use Rattle.h3_script.specs.Pieces.{cut, begun, pieces}

-- no byte before this place has that value
abbrev pub NoneBefore : ℕ → List ℕ → ℕ → Type 0
NoneBefore at xs i = (k : ℕ) → k < i → get_or xs k 0 ≢ at

tail_none : (at x : ℕ) (xs : List ℕ) (i : ℕ) → NoneBefore at (x ∷ xs) (suc i) → NoneBefore at xs i
tail_none at x xs i none = λ k lt. none (suc k) (omega (arith, lt))

cut_other : (at x : ℕ) (xs : List ℕ) → x ≢ at → cut at (x ∷ xs) ≡ option_map (λ parts. (x ∷ parts.0, parts.1)) (cut at xs)
cut_other at x xs ne = rw (ne_eqb x at ne) refl

-- the first byte of that value
pub cut_found : (at : ℕ) (xs : List ℕ) (i : ℕ) → i < length xs → NoneBefore at xs i → get_or xs i 0 ≡ at → cut at xs ≡ Some (take i xs, drop (suc i) xs)
cut_found at [] i lt none here = absurd (omega (arith, lt))
cut_found at (x ∷ xs) zero lt none here = rw (eq-eqb x at here) refl
cut_found at (x ∷ xs) (suc i) lt none here =
    cut_other at x xs (none 0 (omega arith))
    ∙ ap (λ found. option_map (λ parts. (x ∷ parts.0, parts.1)) found) (cut_found at xs i (omega (arith, lt)) (tail_none at x xs i none) here)

pub cut_none : (at : ℕ) (xs : List ℕ) → NoneBefore at xs (length xs) → cut at xs ≡ None
cut_none at [] none = refl
cut_none at (x ∷ xs) none =
    cut_other at x xs (none 0 (omega arith))
    ∙ ap (λ found. option_map (λ parts. (x ∷ parts.0, parts.1)) found) (cut_none at xs (tail_none at x xs (length xs) none))

-- what a cut says of the pieces
PiecesBy : ℕ → List ℕ → Option (List ℕ × List ℕ) → Type 0
PiecesBy at xs None = pieces at xs ≡ xs ∷ []
PiecesBy at xs (Some parts) = pieces at xs ≡ parts.0 ∷ pieces at parts.1

begun_by : (at x : ℕ) (xs : List ℕ) (found : Option (List ℕ × List ℕ)) → PiecesBy at xs found → x ≢ at → PiecesBy at (x ∷ xs) (option_map (λ parts. (x ∷ parts.0, parts.1)) found)
unfolding PiecesBy
begun_by at x xs None h ne = rw (ne_eqb x at ne) (ap (begun x) h)
begun_by at x xs (Some parts) h ne = rw (ne_eqb x at ne) (ap (begun x) h)

cut_here : (at x : ℕ) (xs : List ℕ) → (x == at) ≡ true → cut at (x ∷ xs) ≡ Some ([], xs)
cut_here at x xs e = rw e refl

pieces_here : (at x : ℕ) (xs : List ℕ) → (x == at) ≡ true → pieces at (x ∷ xs) ≡ [] ∷ pieces at xs
pieces_here at x xs e = rw e refl

pieces_either : (at x : ℕ) (xs : List ℕ) (b : Bool) → (x == at) ≡ b → PiecesBy at xs (cut at xs) → PiecesBy at (x ∷ xs) (cut at (x ∷ xs))
unfolding PiecesBy
pieces_either at x xs true e h = subst (PiecesBy at (x ∷ xs)) (sym (cut_here at x xs e)) (pieces_here at x xs e)
pieces_either at x xs false e h =
    let ne : x ≢ at = λ same. let no : true ≡ false = sym (eq-eqb x at same) ∙ e in cc in
    subst (PiecesBy at (x ∷ xs)) (sym (cut_other at x xs ne)) (begun_by at x xs (cut at xs) h ne)

pieces_by : (at : ℕ) (xs : List ℕ) → PiecesBy at xs (cut at xs)
unfolding PiecesBy
pieces_by at [] = refl
pieces_by at (x ∷ xs) = pieces_either at x xs (x == at) refl (pieces_by at xs)

-- where something is cut off, it is the first piece
pub pieces_more : (at : ℕ) (xs : List ℕ) (parts : List ℕ × List ℕ) → cut at xs ≡ Some parts → pieces at xs ≡ parts.0 ∷ pieces at parts.1
unfolding PiecesBy
pieces_more at xs parts e = subst (PiecesBy at xs) e (pieces_by at xs)

-- else there is one piece
pub pieces_one : (at : ℕ) (xs : List ℕ) → cut at xs ≡ None → pieces at xs ≡ xs ∷ []
unfolding PiecesBy
pieces_one at xs e = subst (PiecesBy at xs) e (pieces_by at xs)

-- the pieces so far, and those of what is cut next
pub pieces_next : (at : ℕ) (all rest front behind : List ℕ) (found more : List (List ℕ)) → pieces at all ≡ found ++ pieces at rest
    → Some (front, behind) ≡ cut at rest → more ≡ found ++ front ∷ [] → pieces at all ≡ more ++ pieces at behind
pieces_next at all rest front behind found more h c m =
    h ∙ ap (λ ps. found ++ ps) (pieces_more at rest (front, behind) (sym c)) ∙ sym (append_assoc found (front ∷ []) (pieces at behind)) ∙ ap (λ ps. ps ++ pieces at behind) (sym m)

pub pieces_last : (at : ℕ) (all rest : List ℕ) (found more : List (List ℕ)) → pieces at all ≡ found ++ pieces at rest
    → None ≡ cut at rest → more ≡ found ++ rest ∷ [] → more ≡ pieces at all
pieces_last at all rest found more h c m = m ∙ ap (λ ps. found ++ ps) (sym (pieces_one at rest (sym c))) ∙ sym h
