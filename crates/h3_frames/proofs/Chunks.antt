-- What is taken of the first piece.
use Rattle.std.proofs.Common.{◌≡◌, ℕ, ◌-◌, ◌<◌, ◌≤◌, List, [], ◌∷◌, ◌++◌, length, take, drop, arith, refl, sym, subst, ◌∙◌, ap, inl, inr, length-append, Some, None}
use Rattle.std.proofs.lemmas.List.{length-take}
use Rattle.std.proofs.lemmas.Bool.{cases_lt, lt-leb, le-leb}
use Rattle.std.specs.List.{concat}
use Rattle.h3_frames.specs.Pieces.{without, first_size, chunk_of, IsRest, front_in, others_in, bytes_in}
use Rattle.h3_frames.specs.PieceLaws.{without-none, without-within, without-past}

pub first_within : (pieces : List (List ℕ)) → first_size pieces ≤ length (concat pieces)
first_within [] = omega arith
first_within (p ∷ pieces) = omega (arith, length-append p (concat pieces))

-- the first piece is longer, or is taken whole
chunk_cut : (size : ℕ) (p : List ℕ) (pieces : List (List ℕ)) → size < length p → chunk_of size (p ∷ pieces) ≡ (Some (take size p), drop size p ∷ pieces)
chunk_cut size p pieces more = rw (lt-leb (length p) size more) refl

chunk_whole : (size : ℕ) (p : List ℕ) (pieces : List (List ℕ)) → length p ≤ size → chunk_of size (p ∷ pieces) ≡ (Some p, pieces)
chunk_whole size p pieces all = rw (le-leb (length p) size all) refl

-- where the first piece goes so far, its first bytes are so many
pub chunk_size : (size : ℕ) (pieces others : List (List ℕ)) (front : List ℕ) → size ≤ first_size pieces → (Some front, others) ≡ chunk_of size pieces → length front ≡ size
chunk_size size [] others front h e = let none : Some front ≡ None = ap front_in e in absurd (cc)
chunk_size size (p ∷ pieces) others front h e = elim (cases_lt size (length p)) [
  | inl more ↦
      let is : front ≡ take size p = ap (λ x. bytes_in (front_in x)) (e ∙ chunk_cut size p pieces more) in
      ap length is ∙ omega (arith, length-take size p, more)
  | inr all ↦
      let is : front ≡ p = ap (λ x. bytes_in (front_in x)) (e ∙ chunk_whole size p pieces all) in
      ap length is ∙ omega (arith, h, all)
]

-- behind some bytes of the first piece the others are left
pub chunk_rest : (size : ℕ) (pieces others : List (List ℕ)) (front : List ℕ) → 0 < size → 0 < length front → (Some front, others) ≡ chunk_of size pieces → IsRest pieces others
chunk_rest size [] others front n some e = let none : Some front ≡ None = ap front_in e in absurd (cc)
chunk_rest size (p ∷ pieces) others front n some e = elim (cases_lt size (length p)) [
  | inl more ↦
      let behind : others ≡ drop size p ∷ pieces = ap others_in (e ∙ chunk_cut size p pieces more) in
      let inside : size ≤ length (p ++ concat pieces) = omega (arith, more, length-append p (concat pieces)) in
      (size, inside, behind ∙ sym (without-within size p pieces n more))
  | inr all ↦
      let is : front ≡ p = ap (λ x. bytes_in (front_in x)) (e ∙ chunk_whole size p pieces all) in
      let behind : others ≡ pieces = ap others_in (e ∙ chunk_whole size p pieces all) in
      let here : 0 < length p = subst (λ l. 0 < length l) is some in
      let inside : length p ≤ length (p ++ concat pieces) = omega (arith, length-append p (concat pieces)) in
      let none : length p - length p ≡ 0 = omega arith in
      (length p, inside, behind ∙ sym (without-past (length p) p pieces here (omega arith) ∙ ap (λ k. without k pieces) none ∙ without-none pieces))
]
