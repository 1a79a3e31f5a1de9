-- What a row of places says of each id.
use Rattle.std.proofs.Common.{◌≡◌, ◌≢◌, ◌<◌, ◌≤◌, ℕ, zero, suc, ◌+◌, ◌*◌, ◌/◌, ◌%◌, true, false, List, [], ◌∷◌, ◌++◌, length, Option, Some, None, refl, sym, ◌∙◌, ap, arith, get_or, set, subst, inl, inr}
use Rattle.std.specs.Prelude.{◌==◌, if◌then◌else◌, IsSome, option_map, unwrap_or}
use Rattle.std.specs.BTreeMap.{is_at}
use Rattle.std.specs.Option.{option_or}
use Rattle.std.specs.Ordering.{nat_cmp}
use Rattle.std.specs.Cmp.{unsigned_tied}
use Rattle.std.proofs.lemmas.Grind.{common_steps}
use Rattle.std.proofs.lemmas.List.{get_or-set_same, get_or-set_other}
use Rattle.std.proofs.Math.ListN.{get_or-eq_default}
use Rattle.std.proofs.lemmas.Bool.{cases_eq}
use Rattle.h3_connection.specs.Calls.{Sets}
use Rattle.h3_connection.specs.State.{kept_at}
use Rattle.h3_connection.specs.StreamSets.{Streams}
use Rattle.h3_connection.specs.Unidirectional.{Unidirectional, untold}
use Rattle.h3_streams.specs.Plain.{stream_in, streams_in, entry, last_code, code_at}
use Rattle.h3_streams.specs.declared.plain.ResetCode.{ResetCode}
use Rattle.h3_streams.specs.declared.plain.Place.{Place}
use Rattle.h3_streams.specs.declared.plain.Place.TheVariants.{Free}

test_is : (id q : ℕ) → is_at (nat_cmp id) q ≡ (id == q)
test_is id q = unsigned_tied id q

same : (id : ℕ) → is_at (nat_cmp id) id ≡ true
same id = test_is id id ∙ grind (arith, common_steps)

other : (id q : ℕ) → id ≢ q → is_at (nat_cmp id) q ≡ false
other id q ne = test_is id q ∙ grind (arith, common_steps)

entry_here : (id : ℕ) (o : Option Unidirectional) (rest : Streams Unidirectional) → kept_at (entry id o ++ rest) id ≡ option_or o (kept_at rest id)
entry_here id None rest = refl
entry_here id (Some o) rest = rw (same id) refl

entry_other : (q id : ℕ) (o : Option Unidirectional) (rest : Streams Unidirectional) → id ≢ q → kept_at (entry q o ++ rest) id ≡ kept_at rest id
entry_other q id None rest ne = refl
entry_other q id (Some o) rest ne = rw (other id q ne) refl

-- an id that is none of the row's
elsewhere : (code : ℕ → ℕ) (q id : ℕ) (row : List Place) → ((n : ℕ) → id ≢ q + 4 * n) → kept_at (streams_in code q row) id ≡ None
elsewhere code q id [] none = refl
elsewhere code q id (place ∷ row) none =
    entry_other q id (stream_in place (code q)) (streams_in code (q + 4) row) (λ is. none 0 (omega (arith, is)))
    ∙ elsewhere code (q + 4) id row (λ n is. none (n + 1) (omega (arith, is)))

or_none : {X : Type 0} (o : Option X) → option_or o None ≡ o
or_none None = refl
or_none (Some x) = refl

in_first : (code : ℕ → ℕ) (q : ℕ) (place : Place) (row : List Place) → kept_at (streams_in code q (place ∷ row)) q ≡ stream_in place (code q)
in_first code q place row =
    let none : kept_at (streams_in code (q + 4) row) q ≡ None = elsewhere code (q + 4) q row (λ n at. absurd (omega (arith, at))) in
    entry_here q (stream_in place (code q)) (streams_in code (q + 4) row) ∙ ap (λ o. option_or (stream_in place (code q)) o) none ∙ or_none (stream_in place (code q))

-- the id of a place
in_place : (code : ℕ → ℕ) (q n id : ℕ) (row : List Place) → id ≡ q + 4 * n → kept_at (streams_in code q row) id ≡ stream_in (get_or row n Free) (code id)
in_place code q n id [] is = refl
in_place code q zero id (place ∷ row) is =
    let here : q ≡ id = omega (arith, is) in
    subst (λ i. kept_at (streams_in code q (place ∷ row)) i ≡ stream_in place (code i)) here (in_first code q place row)
in_place code q (suc n) id (place ∷ row) is =
    entry_other q id (stream_in place (code q)) (streams_in code (q + 4) row) (λ at. absurd (omega (arith, is, at)))
    ∙ in_place code (q + 4) n id row (omega (arith, is))

-- an id of the row's kind
pub of_row : (code : ℕ → ℕ) (first id : ℕ) (row : List Place) → id % 4 ≡ first % 4 → kept_at (streams_in code (first % 4) row) id ≡ stream_in (get_or row (id / 4) Free) (code id)
of_row code first id row kind = in_place code (first % 4) (id / 4) id row (omega (arith, kind))

pub not_of_row : (code : ℕ → ℕ) (first id : ℕ) (row : List Place) → id % 4 ≢ first % 4 → kept_at (streams_in code (first % 4) row) id ≡ None
not_of_row code first id row kind = elsewhere code (first % 4) id row (λ n at. kind (omega (arith, at)))

pub behind_row : (code : ℕ → ℕ) (first id : ℕ) (row : List Place) → id % 4 ≡ first % 4 → length row ≤ id / 4 → kept_at (streams_in code (first % 4) row) id ≡ None
behind_row code first id row kind far = of_row code first id row kind ∙ ap (λ p. stream_in p (code id)) (get_or-eq_default row Free far)

-- A place was written, and perhaps a code of its stream.
pub written_here : (code : ℕ → ℕ) (first id : ℕ) (row : List Place) (place : Place) → id % 4 ≡ first % 4 → id / 4 < length row
    → kept_at (streams_in code (first % 4) (set row (id / 4) place)) id ≡ stream_in place (code id)
written_here code first id row place kind within =
    of_row code first id (set row (id / 4) place) kind ∙ ap (λ p. stream_in p (code id)) (get_or-set_same row (id / 4) place Free within)

pub written_others : (before after : ℕ → ℕ) (first id : ℕ) (row : List Place) (place : Place) → id % 4 ≡ first % 4 → ((q : ℕ) → q ≢ id → after q ≡ before q)
    → (q : ℕ) → q ≢ id → kept_at (streams_in after (first % 4) (set row (id / 4) place)) q ≡ kept_at (streams_in before (first % 4) row) q
written_others before after first id row place kind codes q ne = elim (cases_eq (q % 4) (first % 4)) [
  | inl is ↦
      let far : q / 4 ≢ id / 4 = λ same. ne (omega (arith, is, kind, same)) in
      of_row after first q (set row (id / 4) place) is
      ∙ ap (λ p. stream_in p (after q)) (get_or-set_other row (id / 4) (q / 4) place Free far)
      ∙ ap (λ k. stream_in (get_or row (q / 4) Free) k) (codes q ne)
      ∙ sym (of_row before first q row is)
  | inr none ↦ not_of_row after first q (set row (id / 4) place) none ∙ sym (not_of_row before first q row none)
]

-- Where the places are the same, so are the streams.
pub same_places : (code : ℕ → ℕ) (first : ℕ) (old new : List Place) → ((n : ℕ) → get_or new n Free ≡ get_or old n Free)
    → (q : ℕ) → kept_at (streams_in code (first % 4) new) q ≡ kept_at (streams_in code (first % 4) old) q
same_places code first old new places q = elim (cases_eq (q % 4) (first % 4)) [
  | inl is ↦ of_row code first q new is ∙ ap (λ p. stream_in p (code q)) (places (q / 4)) ∙ sym (of_row code first q old is)
  | inr none ↦ not_of_row code first q new none ∙ sym (not_of_row code first q old none)
]

-- one code more: it is the last of its stream
pub code_here : (codes : List ResetCode) (id code : ℕ) → last_code (codes ++ record { id = id; code = code } ∷ []) id ≡ Some code
code_here [] id code = let is : (id == id) ≡ true = grind (arith, common_steps) in rw is refl
code_here (c ∷ codes) id code = rw (code_here codes id code) refl

pub code_others : (codes : List ResetCode) (id code q : ℕ) → q ≢ id → last_code (codes ++ record { id = id; code = code } ∷ []) q ≡ last_code codes q
code_others [] id code q ne = let is : (id == q) ≡ false = grind (arith, common_steps) in rw is refl
code_others (c ∷ codes) id code q ne = ap (λ o. option_or o (if c.id == q then Some c.code else None)) (code_others codes id code q ne)

pub same_codes : (codes : List ResetCode) (id code q : ℕ) → q ≢ id → code_at (codes ++ record { id = id; code = code } ∷ []) q ≡ code_at codes q
same_codes codes id code q ne = ap (λ o. unwrap_or o 0) (code_others codes id code q ne)

-- what stands in a place that changes
changed : (old : Streams Unidirectional) (id : ℕ) (o now : Option Unidirectional) (change : Unidirectional → Unidirectional) → kept_at old id ≡ o → IsSome o → now ≡ option_map change o
    → now ≡ Some (change (unwrap_or (kept_at old id) untold))
changed old id None now change e some is = absurd (cc)
changed old id (Some x) now change e some is = is ∙ ap (λ p. Some (change (unwrap_or p untold))) (sym e)

-- A place was written with what its stream has become.
pub changes : (codes later : List ResetCode) (first id : ℕ) (row : List Place) (place : Place) (change : Unidirectional → Unidirectional) → id % 4 ≡ first % 4 → id / 4 < length row
    → IsSome (kept_at (streams_in (code_at codes) (first % 4) row) id) → ((q : ℕ) → q ≢ id → code_at later q ≡ code_at codes q)
    → stream_in place (code_at later id) ≡ option_map change (stream_in (get_or row (id / 4) Free) (code_at codes id))
    → Sets (streams_in (code_at codes) (first % 4) row) (streams_in (code_at later) (first % 4) (set row (id / 4) place)) id
    (change (unwrap_or (kept_at (streams_in (code_at codes) (first % 4) row) id) untold))
changes codes later first id row place change kind within some others is =
    let was = of_row (code_at codes) first id row kind in
    record {
      here = written_here (code_at later) first id row place kind within
          ∙ changed (streams_in (code_at codes) (first % 4) row) id (stream_in (get_or row (id / 4) Free) (code_at codes id)) (stream_in place (code_at later id)) change was (subst (λ o. IsSome o) was some) is;
      others = written_others (code_at codes) (code_at later) first id row place kind others;
    }
