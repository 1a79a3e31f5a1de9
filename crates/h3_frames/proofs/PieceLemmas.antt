-- Pieces joined, one more and one less.
use Rattle.std.proofs.Common.{◌≡◌, ℕ, ◌+◌, ◌-◌, ◌<◌, List, [], ◌∷◌, ◌++◌, length, take, drop, get_or, append-nil, append_assoc, length-append, ap, sym, refl, subst, ◌∙◌, inl, inr, arith}
use Rattle.std.proofs.lemmas.List.{drop-drop, drop_more, drop_at, drop_all, drop-append-le, length-drop, take_all, take_at}
use Rattle.std.proofs.lemmas.Bool.{cases_lt}
use Rattle.bytes.specs.Unread.{IsChunkOf}
use Rattle.h3_frames.specs.Pieces.{joined}

pub joined-push : {T : Type 0} (unread : T → List ℕ) (xs : List T) (x : T) → joined unread (xs ++ x ∷ []) ≡ joined unread xs ++ unread x
joined-push unread [] x = append-nil (unread x)
joined-push unread (y ∷ xs) x = ap (λ l. unread y ++ l) (joined-push unread xs x) ∙ sym (append_assoc (unread y) (joined unread xs) (unread x))

pub length-joined-push : {T : Type 0} (unread : T → List ℕ) (xs : List T) (x : T) → length (joined unread (xs ++ x ∷ [])) ≡ length (joined unread xs) + length (unread x)
length-joined-push unread xs x = ap length (joined-push unread xs x) ∙ length-append (joined unread xs) (unread x)

-- some bytes further within a piece
pub further : (all rest : List ℕ) (p f n : ℕ) → drop p all ≡ drop f rest → drop (p + n) all ≡ drop (f + n) rest
further all rest p f n same = sym (drop-drop n p all) ∙ ap (drop n) same ∙ drop-drop n f rest

-- to the piece after it
pub over : {T : Type 0} (unread : T → List ℕ) (items : List T) (i p f n : ℕ) (x : T) → i < length items → x ≡ get_or items i x
    → f + n ≡ length (unread x) → drop p (joined unread items) ≡ drop f (joined unread (drop i items))
    → drop (p + n) (joined unread items) ≡ joined unread (drop (i + 1) items)
over unread items i p f n x inside is sum same =
    let first : drop i items ≡ x ∷ drop (i + 1) items = drop_more items i x inside ∙ ap (λ y. y ∷ drop (i + 1) items) (sym is) in
    further (joined unread items) (joined unread (drop i items)) p f n same
    ∙ ap (λ l. drop (f + n) (joined unread l)) first
    ∙ drop_at (unread x) (joined unread (drop (i + 1) items)) (f + n) (sym sum)

-- where bytes are left, there is a piece under the place
pub some_piece : {T : Type 0} (unread : T → List ℕ) (items : List T) (i p f : ℕ) → drop p (joined unread items) ≡ drop f (joined unread (drop i items))
    → 0 < length (drop p (joined unread items)) → i < length items
some_piece unread items i p f same some =
    elim (cases_lt i (length items)) [
      | inl inside ↦ inside
      | inr past ↦
          let none = same ∙ ap (λ l. drop f (joined unread l)) (drop_all i items past) in
          let size = ap length none ∙ length-drop f [] in
          absurd (omega arith)
    ]

-- the rest of a piece is what lies together in front of what follows it
pub chunk_here : (p more : List ℕ) (f : ℕ) → f < length p → IsChunkOf (take (length p - f) (drop f p)) (drop f (p ++ more))
chunk_here p more f less =
    let size = length-drop f p in
    let all : take (length p - f) (drop f p) ≡ drop f p = take_all (length p - f) (drop f p) (omega (arith, size)) in
    let both = length-append (drop f p) more in
    let here : IsChunkOf (drop f p) (drop f p ++ more) = record { front = take_at (drop f p) more (length (drop f p)) refl; fits = omega (arith, both); some = λ _. omega (arith, size, less) } in
    subst (λ c. IsChunkOf c (drop f (p ++ more))) (sym all) (subst (IsChunkOf (drop f p)) (sym (drop-append-le f p more (omega (arith, less)))) here)

pub chunk_past : (p left : List ℕ) (f : ℕ) → p ≡ [] → left ≡ [] → IsChunkOf (take (length p - f) (drop f p)) left
chunk_past p left f e none =
    let zero : 0 - f ≡ 0 = omega arith in
    let all : take (length p - f) (drop f p) ≡ [] = ap (λ l. take (length l - f) (drop f l)) e ∙ ap (λ n. take n (drop f [])) zero in
    let here : IsChunkOf [] [] = record { front = refl; fits = omega arith; some = λ h. h } in
    subst (λ c. IsChunkOf c left) (sym all) (subst (IsChunkOf []) (sym none) here)
