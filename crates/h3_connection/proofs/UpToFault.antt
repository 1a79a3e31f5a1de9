-- Two lists of calls are answered alike up to the first connection fault in either.
use Rattle.std.proofs.Common.{◌≡◌, ℕ, Bool, true, false, List, [], ◌∷◌, ◌++◌, refl, sym, ◌∙◌, ap, subst}
use Rattle.std.specs.Prelude.{Option, Some, None, if◌then◌else◌}
use Rattle.h3_proto.specs.declared.stream.Side.{Side}
use Rattle.h3_connection.specs.declared.setup.Announced.{Announced}
use Rattle.h3_connection.specs.CallLists.{Call, Result, called, endpoint_after}
use Rattle.h3_connection.specs.Endpoint.{EndpointHistory, kind_of, new_endpoint}
use Rattle.h3_connection.specs.Endpoint.Kind.{Request}
use Rattle.h3_connection.specs.Isolation.{FindsNoFault, IsIsolatedUpToFault, IsIsolatedInFront, AgreeAsFar, Sight, where_open, before_first_fault, front, view_before_fault, answers_before_fault, IsSight, sight_after, sees, seen, view, view_of, answers_to_view, fold_seen, first_sight, encoders_in}
use Rattle.h3_connection.proofs.Brought.{goes_from_new, goes_in_front, encoders_are_peers}
use Rattle.h3_connection.proofs.Isolated.{from_new, sight_isolated}

-- the calls before the first fault find none
finds_none : (e : EndpointHistory) (c : Call) (front : List Call) (closed : Option ℕ) → (called e c).1.closed ≡ closed → FindsNoFault (called e c).1 front
    → FindsNoFault e (where_open closed (c ∷ front))
finds_none e c front (Some code) is h = tt
finds_none e c front None is h = (is, h)

pub front_finds_none : (e : EndpointHistory) (calls : List Call) → FindsNoFault e (before_first_fault e calls)
front_finds_none e [] = tt
front_finds_none e (c ∷ cs) = finds_none e c (before_first_fault (called e c).1 cs) (called e c).1.closed refl (front_finds_none (called e c).1 cs)

-- equal views are answered alike, as far as both go
pub folds_agree : (side : Side) (own : Announced) (id : ℕ) (s : Sight) (some others : List Call) → AgreeAsFar some others → AgreeAsFar (fold_seen side own id s some) (fold_seen side own id s others)
folds_agree side own id s [] others h = tt
folds_agree side own id s (c ∷ cs) [] h = tt
folds_agree side own id s (c ∷ cs) (d ∷ ds) h =
    subst (λ x. AgreeAsFar (fold_seen side own id s (c ∷ cs)) (fold_seen side own id s (x ∷ ds))) h.0 (refl, folds_agree side own id (seen side own id s c).1 cs ds h.1)

-- two fronts of one list are equal as far as both go
record IsFront (some all : List Call) : Type 0 where
  pub rest : List Call
  pub all_is : all ≡ some ++ rest

fronts_agree : (some others rest more : List Call) → some ++ rest ≡ others ++ more → AgreeAsFar some others
fronts_agree [] others rest more is = tt
fronts_agree (c ∷ cs) [] rest more is = tt
fronts_agree (c ∷ cs) (d ∷ ds) rest more is = (cc, fronts_agree cs ds rest more cc)

-- what a stream sees of the calls before the first fault is a front of its view of all of them
seen_more : (c : Call) (b : Bool) (some all : List Call) → IsFront some all → IsFront (if b then c ∷ some else some) (if b then c ∷ all else all)
seen_more c true some all h = record { rest = h.rest; all_is = ap (λ cs. c ∷ cs) h.all_is }
seen_more c false some all h = h

view_more : (T : ℕ → Bool) (id : ℕ) (e : EndpointHistory) (c : Call) (some cs : List Call) (closed : Option ℕ) → IsFront (view T id (called e c).1 some) (view T id (called e c).1 cs)
    → IsFront (view T id e (where_open closed (c ∷ some))) (view T id e (c ∷ cs))
view_more T id e c some cs (Some code) h = record { rest = view T id e (c ∷ cs); all_is = refl }
view_more T id e c some cs None h = seen_more c (sees T id e c) _ _ h

view_front : (T : ℕ → Bool) (id : ℕ) (e : EndpointHistory) (calls : List Call) → IsFront (view T id e (before_first_fault e calls)) (view T id e calls)
view_front T id e [] = record { rest = []; all_is = refl }
view_front T id e (c ∷ cs) = view_more T id e c (before_first_fault (called e c).1 cs) cs (called e c).1.closed (view_front T id (called e c).1 cs)

both_are : (side : Side) (own : Announced) (id : ℕ) (some others : List Result) (cs ds : List Call) → let s = first_sight side own in
    some ≡ fold_seen side own id s cs → others ≡ fold_seen side own id s ds → AgreeAsFar cs ds → AgreeAsFar some others
both_are side own id some others cs ds some_is others_is h = rw (some_is, others_is) (folds_agree side own id (first_sight side own) cs ds h)

-- what is answered before the first fault, and what is left there, is a fold over what the stream sees
pub answered_before : (side : Side) (own : Announced) (id : ℕ) (calls : List Call) → kind_of side id ≡ Request
    → answers_before_fault side own id calls ≡ fold_seen side own id (first_sight side own) (view_before_fault side own id calls)
answered_before side own id calls request =
    from_new (encoders_in side calls) id side own (front side own calls) request (encoders_are_peers side calls) (goes_in_front side own id calls request)

pub left_before : (side : Side) (own : Announced) (id : ℕ) (calls : List Call) → kind_of side id ≡ Request
    → IsSight (encoders_in side calls) id (endpoint_after (new_endpoint side own) (front side own calls)) (sight_after side own id (first_sight side own) (view_before_fault side own id calls))
left_before side own id calls request =
    sight_isolated (encoders_in side calls) id side own (new_endpoint side own) (first_sight side own) (front side own calls)
    (record { request = request; open_still = refl; peers = encoders_are_peers side calls; sight = record { incoming = refl; decoding = refl; fronts = λ q t. refl } })
    refl refl (goes_in_front side own id calls request)

pub up_to_fault : (side : Side) (own : Announced) (id : ℕ) → IsIsolatedUpToFault side own id
up_to_fault side own id calls more request same =
    let e = new_endpoint side own in
    let f = view_front (encoders_in side calls) id e calls in
    let g = view_front (encoders_in side more) id e more in
    both_are side own id _ _ _ _ (answered_before side own id calls request) (answered_before side own id more request)
    (fronts_agree _ _ f.rest g.rest (sym f.all_is ∙ same ∙ g.all_is))

-- and so are two that need not be the same behind it
answered_in_front : (side : Side) (own : Announced) (id : ℕ) (calls : List Call) → kind_of side id ≡ Request
    → answers_to_view side own id (front side own calls) ≡ fold_seen side own id (first_sight side own) (view_of side own id (front side own calls))
answered_in_front side own id calls request =
    let before = front side own calls in
    from_new (encoders_in side before) id side own before request (encoders_are_peers side before) (goes_from_new side own id before request (front_finds_none (new_endpoint side own) calls))

pub in_front : (side : Side) (own : Announced) (id : ℕ) → IsIsolatedInFront side own id
in_front side own id calls more request agree =
    both_are side own id _ _ _ _ (answered_in_front side own id calls request) (answered_in_front side own id more request) agree
