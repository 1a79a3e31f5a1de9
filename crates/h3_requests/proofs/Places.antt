-- What stands in the places of a row.
use Rattle.std.proofs.Common.{arith, ◌≡◌, ℕ, zero, suc, ◌/◌, ◌%◌, Bool, true, false, List, [], ◌∷◌, ◌++◌, refl, sym, ◌∙◌, ap, subst, inl, inr, if◌then◌else◌, slice_get, slice_index_or, slice_set}
use Rattle.std.specs.Prelude.{Option, Some, None, IsSome, ◌==◌, ◌≢◌}
use Rattle.std.proofs.lemmas.Bool.{cases_eq}
use Rattle.std.proofs.lemmas.Grind.{common_steps}
use Rattle.std.proofs.lemmas.Option.{get_or_from_slice_get}
use Rattle.h3_connection.specs.State.{RequestState}
use Rattle.h3_connection.specs.StreamSetLaws.{other_id}
use Rattle.h3_requests.specs.Row.{held_by, held_in, in_place}
use Rattle.h3_requests.specs.declared.under_way.row.Place.{Place}

itself : (n : ℕ) → (n == n) ≡ true
itself n = grind (arith, common_steps)

same : (a b : ℕ) → (a == b) ≡ true → a ≡ b
same a b e = grind (arith, common_steps)

-- a place that is there has what was put into it,
set_here : {X : Type 0} (xs : List X) (i : ℕ) (x y : X) → slice_get xs i ≡ Some y → slice_get (slice_set xs i x) i ≡ Some x
set_here [] i x y h = absurd (cc)
set_here (z ∷ zs) zero x y h = refl
set_here (z ∷ zs) (suc i) x y h = set_here zs i x y h

-- and the others have what they had
set_there : {X : Type 0} (xs : List X) (i j : ℕ) (x : X) → j ≢ i → slice_get (slice_set xs i x) j ≡ slice_get xs j
set_there [] i j x ne = refl
set_there (z ∷ zs) zero zero x ne = absurd (ne refl)
set_there (z ∷ zs) zero (suc j) x ne = refl
set_there (z ∷ zs) (suc i) zero x ne = refl
set_there (z ∷ zs) (suc i) (suc j) x ne = set_there zs i j x (λ e. ne (ap suc e))

-- a place in which a stream of another id may stand does not have it
not_in : (p : Place) (id q : ℕ) → p.id ≡ id → q ≢ id → in_place p q ≡ None
not_in p id q is differs = let no : (p.id == q) ≡ false = ap (λ n. n == q) is ∙ other_id q id differs in rw no refl

-- where the stream of an id is found its place has it,
pub there : (places : List Place) (id i : ℕ) (p : Place) → i ≡ id / 4 % 128 → slice_get places i ≡ Some p → IsSome (held_in places id) → (p.id ≡ id) × (held_in places id ≡ p.stream)
there places id i p place is some =
    let found : held_in places id ≡ in_place p id = ap (λ o. held_by o id) (ap (slice_get places) (sym place) ∙ is) in
    let has = by_test (p.id == id) refl (subst (λ o. IsSome o) found some) in
    (has.0, found ∙ has.1)
  where
    by_test : (t : Bool) → (p.id == id) ≡ t → IsSome (if t then p.stream else None) → (p.id ≡ id) × ((if t then p.stream else None) ≡ p.stream)
    by_test true e some = (same p.id id e, refl)
    by_test false e some = absurd (cc)

-- as it is read there,
pub read : (places : List Place) (id i : ℕ) (p : Place) → i ≡ id / 4 % 128 → p ≡ slice_index_or places i p → IsSome (held_in places id) → (p.id ≡ id) × (held_in places id ≡ p.stream)
read places id i p place is some = by_what (slice_get places (id / 4 % 128)) refl
  where
    by_what : (o : Option Place) → slice_get places (id / 4 % 128) ≡ o → (p.id ≡ id) × (held_in places id ≡ p.stream)
    by_what None e = absurd (let wrong : IsSome (held_by None id) = subst (λ o. IsSome (held_by o id)) e some in cc)
    by_what (Some q) e =
        let level : p ≡ q = is ∙ ap (λ n. slice_index_or places n p) place ∙ get_or_from_slice_get places (id / 4 % 128) q p e in
        there places id i p place (ap (slice_get places) place ∙ e ∙ ap Some (sym level)) some

-- and it may be written there
pub written : (places : List Place) (id : ℕ) (x : RequestState) (p : Place) → p.id ≡ id → p.stream ≡ Some x → IsSome (held_in places id)
    → (held_in (slice_set places (id / 4 % 128) p) id ≡ Some x) × ((q : ℕ) → q ≢ id → held_in (slice_set places (id / 4 % 128) p) q ≡ held_in places q)
written places id x p named has some = by_what (slice_get places (id / 4 % 128)) refl
  where
    by_what : (o : Option Place) → slice_get places (id / 4 % 128) ≡ o
        → (held_in (slice_set places (id / 4 % 128) p) id ≡ Some x) × ((q : ℕ) → q ≢ id → held_in (slice_set places (id / 4 % 128) p) q ≡ held_in places q)
    by_what None is = absurd (let wrong : IsSome (held_by None id) = subst (λ o. IsSome (held_by o id)) is some in cc)
    by_what (Some before) is =
        let was = there places id (id / 4 % 128) before refl is some in
        let here : slice_get (slice_set places (id / 4 % 128) p) (id / 4 % 128) ≡ Some p = set_here places (id / 4 % 128) p before is in
        let own : in_place p id ≡ Some x = let yes : (p.id == id) ≡ true = ap (λ n. n == id) named ∙ itself id in rw yes has in (
          ap (λ o. held_by o id) here ∙ own,
          λ q differs. elim (cases_eq (q / 4 % 128) (id / 4 % 128)) [
            | inl level ↦
                ap (λ i. held_by (slice_get (slice_set places (id / 4 % 128) p) i) q) level ∙ ap (λ o. held_by o q) here ∙ not_in p id q named differs
                ∙ sym (ap (λ i. held_by (slice_get places i) q) level ∙ ap (λ o. held_by o q) is ∙ not_in before id q was.0 differs)
            | inr apart ↦ ap (λ o. held_by o q) (set_there places (id / 4 % 128) (q / 4 % 128) p apart)
          ],
        )

free_there : (p : Place) (id : ℕ) → p.stream ≡ None → in_place p id ≡ None
free_there p id free = by_test (p.id == id)
  where
    by_test : (t : Bool) → (if t then p.stream else None) ≡ None
    by_test true = free
    by_test false = refl

free_behind : (places : List Place) (i id : ℕ) (p : Place) → p.stream ≡ None → held_by (slice_get (places ++ p ∷ []) i) id ≡ held_by (slice_get places i) id
free_behind [] zero id p free = free_there p id free
free_behind [] (suc i) id p free = refl
free_behind (z ∷ zs) zero id p free = refl
free_behind (z ∷ zs) (suc i) id p free = free_behind zs i id p free

-- A free place more has no stream.
pub lengthened : (places : List Place) (p : Place) → p.stream ≡ None → (q : ℕ) → held_in (places ++ p ∷ []) q ≡ held_in places q
lengthened places p free q = free_behind places (q / 4 % 128) q p free
