-- The last of some ids.
use Rattle.std.proofs.Common.{◌≡◌, ℕ, ◌-◌, List, [], ◌∷◌, ◌++◌, length, Some, refl, ap, ◌∙◌, arith, length-append}
use Rattle.std.specs.Prelude.{slice_get}
use Rattle.h3_connection.specs.Lasts.{last_id}

at_end : (ids : List ℕ) (id : ℕ) → slice_get (ids ++ id ∷ []) (length ids) ≡ Some id
at_end [] id = refl
at_end (first ∷ ids) id = at_end ids id

-- with one more it is that one
pub last_appended : (ids : List ℕ) (id : ℕ) → last_id (ids ++ id ∷ []) ≡ Some id
last_appended ids id =
    let place : length (ids ++ id ∷ []) - 1 ≡ length ids = omega (arith, length-append ids (id ∷ [])) in
    ap (slice_get (ids ++ id ∷ [])) place ∙ at_end ids id
