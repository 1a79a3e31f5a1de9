-- Updates that wait, found by their streams.
use Rattle.std.proofs.Common.{◌≡◌, ℕ, ◌+◌, ◌<◌, suc, Bool, true, false, ◌==◌, [], ◌∷◌, ◌++◌, length, set, nat_lt, if◌then◌else◌, Some, None, refl, ap, sym, subst, ◌∙◌, arith}
use Rattle.std.specs.Prelude.{slice_get, unwrap_or}
use Rattle.std.specs.List.{position_from}
use Rattle.std.proofs.lemmas.Bool.{eqb-true}
use Rattle.std.proofs.lemmas.Option.{slice_get_within}
use Rattle.std.proofs.lemmas.Iterator.Adapters.{position_from-zero}
use Rattle.h3_priority.specs.Priority.{PriorityParameters}
use Rattle.h3_connection.specs.StreamSets.{Streams, stream_at, set_stream}
use Rattle.h3_connection.specs.Updates.{Updates, with_update}
use Rattle.h3_unidirectional.specs.Waits.{is_of, place_of}

-- the update of a stream stands at this place, and no other one before
record IsAt (waiting : Streams PriorityParameters) (id place : ℕ) : Type 0 where
  priority : PriorityParameters
  there : slice_get waiting place ≡ Some (id, priority)
  found : stream_at waiting id ≡ Some priority
  sets : (p : PriorityParameters) → set_stream waiting id p ≡ set waiting place (id, p)

at_from : (id i place : ℕ) (waiting : Streams PriorityParameters) → position_from (is_of id) i waiting ≡ Some place → (k : ℕ) × (place ≡ i + k) × IsAt waiting id k
at_from id i place [] e = absurd (cc)
at_from id i place ((q, x) ∷ waiting) e = by_test (q == id) refl e (λ is. at_from id (i + 1) place waiting is)
  where
    by_test : (b : Bool) → (q == id) ≡ b → (if b then Some i else position_from (is_of id) (i + 1) waiting) ≡ Some place
        → (position_from (is_of id) (i + 1) waiting ≡ Some place → (k : ℕ) × (place ≡ i + 1 + k) × IsAt waiting id k) → (k : ℕ) × (place ≡ i + k) × IsAt ((q, x) ∷ waiting) id k
    by_test true same is later =
        let here : i ≡ place = ap (λ o. unwrap_or o 0) is in
        (0, omega (arith, here), record { priority = x; there = ap (λ n. Some (n, x)) (eqb-true q id same); found = rw same refl; sets = λ p. rw same refl })
    by_test false other is later =
        let rest = later is in
        (suc rest.0, omega (arith, rest.1), record { priority = rest.2.priority; there = rest.2.there; found = rw other rest.2.found; sets = λ p. rw other (ap (λ l. (q, x) ∷ l) (rest.2.sets p)) })

none_from : (id i : ℕ) (waiting : Streams PriorityParameters) → position_from (is_of id) i waiting ≡ None → (stream_at waiting id ≡ None) × ((p : PriorityParameters) → set_stream waiting id p ≡ waiting ++ (id, p) ∷ [])
none_from id i [] e = (refl, λ p. refl)
none_from id i ((q, x) ∷ waiting) e = by_test (q == id) refl e (λ is. none_from id (i + 1) waiting is)
  where
    by_test : (b : Bool) → (q == id) ≡ b → (if b then Some i else position_from (is_of id) (i + 1) waiting) ≡ None
        → (position_from (is_of id) (i + 1) waiting ≡ None → (stream_at waiting id ≡ None) × ((p : PriorityParameters) → set_stream waiting id p ≡ waiting ++ (id, p) ∷ []))
        → (stream_at ((q, x) ∷ waiting) id ≡ None) × ((p : PriorityParameters) → set_stream ((q, x) ∷ waiting) id p ≡ ((q, x) ∷ waiting) ++ (id, p) ∷ [])
    by_test true same is later = absurd (cc)
    by_test false other is later =
        let rest = later is in
        (rw other rest.0, λ p. rw other (ap (λ l. (q, x) ∷ l) (rest.1 p)))

is_at : (waiting : Streams PriorityParameters) (id place : ℕ) → place_of waiting id ≡ Some place → IsAt waiting id place
is_at waiting id place e =
    let at = at_from id 0 place waiting (sym (position_from-zero (is_of id) waiting) ∙ e) in
    let same : place ≡ at.0 = omega (arith, at.1) in
    subst (IsAt waiting id) (sym same) at.2

is_none : (waiting : Streams PriorityParameters) (id : ℕ) → place_of waiting id ≡ None → (stream_at waiting id ≡ None) × ((p : PriorityParameters) → set_stream waiting id p ≡ waiting ++ (id, p) ∷ [])
is_none waiting id e = none_from id 0 waiting (sym (position_from-zero (is_of id) waiting) ∙ e)

-- The one of a stream is that at its place.
pub none_there : (waiting : Streams PriorityParameters) (id : ℕ) → place_of waiting id ≡ None → None ≡ stream_at waiting id
none_there waiting id e = sym (is_none waiting id e).0

some_differs : {X : Type 0} (x : X) → Some x ≡ None → ⊥
some_differs x e = cc

pub not_past : (waiting : Streams PriorityParameters) (id place : ℕ) → place_of waiting id ≡ Some place → slice_get waiting place ≡ None → ⊥
not_past waiting id place e none = some_differs _ (sym (is_at waiting id place e).there ∙ none)

pub one_there : (waiting : Streams PriorityParameters) (id place : ℕ) (update : ℕ × PriorityParameters) → place_of waiting id ≡ Some place → slice_get waiting place ≡ Some update → Some update.1 ≡ stream_at waiting id
one_there waiting id place update e there =
    let at = is_at waiting id place e in
    let same : Some update ≡ Some (id, at.priority) = sym there ∙ at.there in
    ap (λ o. Some (unwrap_or o update).1) same ∙ sym at.found

pub place_within : (waiting : Streams PriorityParameters) (id place : ℕ) → place_of waiting id ≡ Some place → place < length waiting
place_within waiting id place e = let at = is_at waiting id place e in slice_get_within waiting place (id, at.priority) at.there

-- It takes the place of an earlier one, or comes last if there is room.
pub put_there : (most : ℕ) (waiting : Streams PriorityParameters) (id place : ℕ) (p : PriorityParameters) → place_of waiting id ≡ Some place
    → (let u : Updates = record { most = most; waiting = set waiting place (id, p) } in u) ≡ with_update (record { most = most; waiting = waiting }) id p
put_there most waiting id place p e =
    let at = is_at waiting id place e in
    rw at.found (ap (λ l. (let u : Updates = record { most = most; waiting = l } in u)) (sym (at.sets p)))

pub put_last : (most : ℕ) (waiting : Streams PriorityParameters) (id : ℕ) (p : PriorityParameters) → place_of waiting id ≡ None → nat_lt (length waiting) most ≡ true
    → (let u : Updates = record { most = most; waiting = waiting ++ (id, p) ∷ [] } in u) ≡ with_update (record { most = most; waiting = waiting }) id p
put_last most waiting id p e room =
    let none = is_none waiting id e in
    rw (none.0, room) (ap (λ l. (let u : Updates = record { most = most; waiting = l } in u)) (sym (none.1 p)))

pub put_nowhere : (most : ℕ) (waiting : Streams PriorityParameters) (id : ℕ) (p : PriorityParameters) → place_of waiting id ≡ None → nat_lt (length waiting) most ≡ false
    → (let u : Updates = record { most = most; waiting = waiting } in u) ≡ with_update (record { most = most; waiting = waiting }) id p
put_nowhere most waiting id p e full = rw ((is_none waiting id e).0, full) refl
