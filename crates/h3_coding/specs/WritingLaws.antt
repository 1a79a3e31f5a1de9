-- What a write of several encodings leaves.
use Rattle.std.specs.Prelude.{◌≡◌, ℕ, ◌+◌, ◌<◌, ◌≤◌, List, ◌++◌, length, take, drop}
use Rattle.std.specs.List.{flat_map}
use Rattle.std.proofs.Common.{get_or, arith, ap, sym, ◌∙◌, length-append, append_assoc, refl}
use Rattle.std.proofs.lemmas.List.{take-append-drop, drop_more}
use Rattle.std.proofs.lemmas.List.Concat.{flat_map-append}
use Rattle.h3_coding.specs.Writing.{AppendsFront}

-- the encodings of the items before one, its own encoding, and those behind it
parts_at : {X : Type 0} (f : X → List ℕ) (xs : List X) (i : ℕ) (x : X) → i < length xs → flat_map f xs ≡ flat_map f (take i xs) ++ (f (get_or xs i x) ++ flat_map f (drop (i + 1) xs))
parts_at f xs i x h =
    ap (λ l. flat_map f l) (sym (take-append-drop i xs)) ∙ flat_map-append f (take i xs) (drop i xs) ∙ ap (λ l. flat_map f (take i xs) ++ flat_map f l) (drop_more xs i x h)

-- A beginning of one encoding, behind the encodings before it, is a beginning of all of them.
pub AppendsFront-item : {X : Type 0} (f : X → List ℕ) (xs : List X) (i : ℕ) (x : X) (old mid new : List ℕ) → i < length xs → mid ≡ old ++ flat_map f (take i xs) → AppendsFront (f (get_or xs i x)) mid new → AppendsFront (flat_map f xs) old new
AppendsFront-item f xs i x old mid new h e p = record {
  front = flat_map f (take i xs) ++ p.front;
  rest = p.rest ++ flat_map f (drop (i + 1) xs);
  parts = parts_at f xs i x h ∙ rw p.parts (simp append_assoc);
  appended = p.appended ∙ rw (e, append_assoc) refl;
}

pub room_at_item : {X : Type 0} (f : X → List ℕ) (xs : List X) (i : ℕ) (x : X) (old mid : ℕ) → i < length xs → old ≤ mid + length (flat_map f (take i xs)) → mid < length (f (get_or xs i x)) → old < length (flat_map f xs)
room_at_item f xs i x old mid h e k =
    let parts = ap (λ l. length l) (parts_at f xs i x h) in
    omega (arith, parts, length-append (flat_map f (take i xs)) (f (get_or xs i x) ++ flat_map f (drop (i + 1) xs)), length-append (f (get_or xs i x)) (flat_map f (drop (i + 1) xs)))
