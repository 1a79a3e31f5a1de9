-- What is asked of the settings of a peer is the same of those that have a meaning.
use Rattle.std.proofs.Common.{◌≡◌, ℕ, Bool, true, false, refl, sym, subst, List, [], ◌∷◌, Some, ap, ◌∙◌, if◌then◌else◌}
use Rattle.std.specs.Prelude.{◌==◌, find, option_map}
use Rattle.std.proofs.lemmas.Bool.{eqb-true}
use Rattle.h3_proto.specs.Settings.{is_known, value_of}
use Rattle.h3_connection.specs.Shown.{limits_of}
use Rattle.h3_field.specs.Field.{Field}
use Rattle.h3_connection.specs.Refusals.{is_too_large}
use Rattle.h3_headline.specs.Standing.{with_meaning}

-- a setting that is left out is not the one that is looked for
left_out : (id other : ℕ) → is_known id ≡ true → is_known other ≡ false → (other == id) ≡ false
left_out id other known unknown = by_test (other == id) refl
  where
    by_test : (b : Bool) → (other == id) ≡ b → b ≡ false
    by_test true e = let same : is_known other ≡ true = subst (λ n. is_known n ≡ true) (sym (eqb-true other id e)) known in absurd (cc)
    by_test false e = refl

pub found_with_meaning : (id : ℕ) (pairs : List (ℕ × ℕ)) → is_known id ≡ true → find (λ p. p.0 == id) (with_meaning pairs) ≡ find (λ p. p.0 == id) pairs
found_with_meaning id [] known = refl
found_with_meaning id (p ∷ pairs) known = by_test (is_known p.0) refl (found_with_meaning id pairs known)
  where
    by_test : (b : Bool) → is_known p.0 ≡ b → find (λ q. q.0 == id) (with_meaning pairs) ≡ find (λ q. q.0 == id) pairs
        → find (λ q. q.0 == id) (if b then p ∷ with_meaning pairs else with_meaning pairs) ≡ find (λ q. q.0 == id) (p ∷ pairs)
    by_test true e later = ap (λ rest. if p.0 == id then Some p else rest) later
    by_test false e later = later ∙ sym (ap (λ b. if b then Some p else find (λ q. q.0 == id) pairs) (left_out id p.0 known e))

-- the value of a setting that has a meaning
pub value_with_meaning : (id : ℕ) (pairs : List (ℕ × ℕ)) → is_known id ≡ true → value_of id (with_meaning pairs) ≡ value_of id pairs
value_with_meaning id pairs known = ap (option_map (λ (p : ℕ × ℕ). p.1)) (found_with_meaning id pairs known)

-- so the peer's limits
pub limits_with_meaning : (pairs : List (ℕ × ℕ)) → limits_of (with_meaning pairs) ≡ limits_of pairs
limits_with_meaning pairs = rw (value_with_meaning 1 pairs refl, value_with_meaning 7 pairs refl, value_with_meaning 6 pairs refl) refl

-- and the size of its sections
pub too_large_with_meaning : (pairs : List (ℕ × ℕ)) (fields : List Field) → is_too_large (Some (with_meaning pairs)) fields ≡ is_too_large (Some pairs) fields
too_large_with_meaning pairs fields = rw (value_with_meaning 6 pairs refl) refl
