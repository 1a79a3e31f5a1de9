-- What holds of the encoding of a byte, which is the byte alone.
use Rattle.std.specs.Prelude.{◌≡◌, ℕ, List, [], ◌∷◌, ◌++◌}
use Rattle.std.proofs.Common.{ap, sym, ◌∙◌}

pub one_byte : (v w : ℕ) (t u r s : List ℕ) → t ≡ v ∷ [] → u ≡ w ∷ [] → t ++ r ≡ u ++ s → (v ≡ w) × (t ≡ u)
one_byte v w t u r s p q e =
    let joined = rw (p, q) at e in
    let firsts : v ≡ w = cc in
    (firsts, p ∙ ap (λ x. x ∷ []) firsts ∙ sym q)

pub byte_finished : (v : ℕ) (t r left : List ℕ) (count : ℕ) → t ≡ v ∷ [] → (t ++ r ≡ []) × (count ≡ 1) × (left ≡ []) → ⊥
byte_finished v t r left count p q = let none = rw p at q.0 in cc
