-- A piece that stands before a queue of elements.
use Rattle.std.proofs.Common.{◌≡◌, ℕ, Bool, ◌+◌, ◌-◌, ◌<◌, ◌≤◌, true, false, nat_le, List, [], ◌∷◌, ◌++◌, length, drop, length-append, append_assoc, ap, sym, refl, ◌∙◌, arith, Option, Some, None}
use Rattle.std.specs.Prelude.{All, IfSome}
use Rattle.std.specs.List.{concat}
use Rattle.std.proofs.lemmas.Bool.{lt-leb}
use Rattle.std.proofs.lemmas.List.Elements.{All-cons}
use Rattle.std.proofs.lemmas.List.Folds.{concat-append}
use Rattle.std.proofs.lemmas.List.{drop-append-le, drop_at}
use Rattle.h3_frames.specs.PieceLaws.{without-past, without-within}
use Rattle.h3_frames.specs.declared.buf.element.Element.{Element}
use Rattle.h3_frames.specs.declared.buf.element.Element.TheVariants as element
use Rattle.h3_frames.specs.Elements.{all_cuts, all_elements, all_of, front_room, held}
use Rattle.h3_frames.specs.Pieces.{joined, without}
use Rattle.h3_frames.proofs.ElementLemmas.{concat-all_cuts}

-- there is room for one piece at most before the queue, and for none where there is a piece
pub front_room-most : {T : Type 0} (front : Option T) (pieces : List (List ℕ)) → front_room front pieces ≤ 1
front_room-most None [] = omega arith
front_room-most None (p ∷ pieces) = omega arith
front_room-most (Some x) pieces = omega arith

pub front_room-none : {T : Type 0} (unread : T → List ℕ) (front : Option T) (pieces : List (List ℕ)) → 0 < length (held unread front ++ pieces) → front_room front pieces ≡ 0
front_room-none unread None [] some = absurd (omega (arith, some))
front_room-none unread None (p ∷ pieces) some = refl
front_room-none unread (Some x) pieces some = refl

-- where there is no piece, there is none in the queue
pub none_behind : {T : Type 0} (unread : T → List ℕ) (front : Option T) (pieces : List (List ℕ)) → held unread front ++ pieces ≡ [] → pieces ≡ []
none_behind unread None pieces none = none
none_behind unread (Some x) pieces none = let size : length (unread x ∷ pieces) ≡ 0 = ap length none in absurd (omega (arith, size))

-- the elements with it
pub filled_elements : {T : Type 0} (unread : T → List ℕ) (front : Option T) (es : List (Element T)) → IfSome front (λ p. 0 < length (unread p)) → All (λ e. 0 < length (all_of unread e)) es
    → All (λ e. 0 < length (all_of unread e)) (all_elements front es)
filled_elements unread None es some filled = filled
filled_elements unread (Some x) es some filled = All-cons (λ e. 0 < length (all_of unread e)) (element.Whole x) es some filled

pub cuts_elements : {T : Type 0} (unread : T → List ℕ) (front : Option T) (es : List (Element T)) → all_cuts unread (all_elements front es) ≡ held unread front ++ all_cuts unread es
cuts_elements unread None es = refl
cuts_elements unread (Some x) es = refl

pub bytes_elements : {T : Type 0} (unread : T → List ℕ) (front : Option T) (es : List (Element T)) → concat (held unread front ++ all_cuts unread es) ≡ joined (all_of unread) (all_elements front es)
bytes_elements unread front es = ap concat (sym (cuts_elements unread front es)) ∙ concat-all_cuts unread (all_elements front es)

-- whether there is one piece
pub one_more : (pieces : List (List ℕ)) (p : List ℕ) → nat_le (length (p ∷ pieces)) 1 ≡ nat_le (length pieces) 0
one_more [] p = refl
one_more (q ∷ pieces) p = lt-leb (length (p ∷ q ∷ pieces)) 1 (omega arith) ∙ sym (lt-leb (length (q ∷ pieces)) 0 (omega arith))

-- how many bytes there are
pub size_behind : {T : Type 0} (unread : T → List ℕ) (front : Option T) (pieces : List (List ℕ)) → length (concat (held unread front ++ pieces)) ≡ length (concat (held unread front)) + length (concat pieces)
size_behind unread front pieces = ap length (concat-append (held unread front) pieces) ∙ length-append (concat (held unread front)) (concat pieces)

-- one more at the end
pub put_behind : {T : Type 0} (unread : T → List ℕ) (front : Option T) (pieces new : List (List ℕ)) (p : List ℕ) → new ≡ pieces ++ p ∷ [] → held unread front ++ new ≡ (held unread front ++ pieces) ++ p ∷ []
put_behind unread front pieces new p e = ap (λ l. held unread front ++ l) e ∙ sym (append_assoc (held unread front) pieces (p ∷ []))

pub put_size : (pieces : List (List ℕ)) (p : List ℕ) → length (concat (pieces ++ p ∷ [])) ≡ length (concat pieces) + length p
put_size pieces p =
    let size = ap length (concat-append pieces (p ∷ [])) ∙ length-append (concat pieces) (p ++ []) in
    let none = length-append p [] in
    omega (arith, size, none)

-- the pieces, by whether one stands before the queue
pub held_none : {T : Type 0} (unread : T → List ℕ) (front : Option T) (pieces : List (List ℕ)) → front ≡ None → held unread front ++ pieces ≡ pieces
held_none unread front pieces e = ap (λ f. held unread f ++ pieces) e

pub held_some : {T : Type 0} (unread : T → List ℕ) (front : Option T) (x : T) (pieces : List (List ℕ)) → front ≡ Some x → held unread front ++ pieces ≡ unread x ∷ pieces
held_some unread front x pieces e = ap (λ f. held unread f ++ pieces) e

-- Some bytes of the first piece are passed, or all.
pub pass_some : (n : ℕ) (p q : List ℕ) (pieces : List (List ℕ)) → n < length p → q ≡ drop n p → concat (q ∷ pieces) ≡ drop n (concat (p ∷ pieces))
pass_some n p q pieces less e = ap (λ l. l ++ concat pieces) e ∙ sym (drop-append-le n p (concat pieces) (omega (arith, less)))

pub pass_pieces : (n : ℕ) (p q : List ℕ) (pieces : List (List ℕ)) → 0 < n → n < length p → q ≡ drop n p → without (n - n) (q ∷ pieces) ≡ without n (p ∷ pieces)
pass_pieces n p q pieces some less e =
    let none : n - n ≡ 0 = omega arith in
    ap (λ k. without k (q ∷ pieces)) none ∙ ap (λ l. l ∷ pieces) e ∙ sym (without-within n p pieces some less)

pub pass_first : (n : ℕ) (p : List ℕ) (pieces : List (List ℕ)) → n ≡ length p → concat pieces ≡ drop n (concat (p ∷ pieces))
pass_first n p pieces e = sym (drop_at p (concat pieces) n (sym e))

pub pass_behind : (n k : ℕ) (p : List ℕ) (pieces : List (List ℕ)) → 0 < n → k ≡ length p → length p ≤ n → without (n - k) pieces ≡ without n (p ∷ pieces)
pass_behind n k p pieces some e all = ap (λ m. without (n - m) pieces) e ∙ sym (without-past n p pieces some all)

-- where it tells whether there is none
pub none_size : (is : Bool) (pieces : List (List ℕ)) → (is ≡ true → pieces ≡ []) → (is ≡ false → 0 < length pieces) → is ≡ nat_le (length pieces) 0
none_size true pieces none some = sym (ap (λ l. nat_le (length l) 0) (none refl))
none_size false pieces none some = sym (lt-leb (length pieces) 0 (some refl))
