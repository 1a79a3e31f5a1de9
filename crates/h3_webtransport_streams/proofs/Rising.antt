-- Lists of ids in rising order.
use Rattle.std.proofs.Common.{◌≡◌, ◌≢◌, ◌<◌, ◌≤◌, ◌-◌, ℕ, zero, suc, Bool, true, false, ◌||◌, ◌==◌, List, [], ◌∷◌, ◌++◌, length, take, drop, insert, remove, get_or, refl, sym, ap, subst, ◌∙◌, arith, nat_cmp, nat_lt, Less}
use Rattle.std.proofs.Common.{Option, Some, None, Result, Ok, Err, take-append-drop}
use Rattle.std.proofs.lemmas.Bool.{eq-eqb, ne_eqb}
use Rattle.std.proofs.lemmas.Grind.{common_steps}
use Rattle.std.proofs.lemmas.List.{get_or_default}
use Rattle.std.proofs.lemmas.List.Edits.{length-insert}
use Rattle.std.proofs.lemmas.List.Sorted.{searched}
use Rattle.std.proofs.lemmas.Map.Keys.{non_decreasing_from_sorted}
use Rattle.std.specs.List.{AllByRecursion}
use Rattle.std.specs.List.Sorted.{IsBinarySearchResult, IsStrictlySortedBy}
use Rattle.h3_webtransport_streams.specs.Indexed.{has_id, AreAtMost, IsCountBelow, IsPlace, Rises}
use Rattle.h3_webtransport_streams.specs.Sessions.{IsBelow, IsLast}

less : (a b : ℕ) → a < b → nat_cmp a b ≡ Less
less a b lt = let e : nat_lt a b ≡ true = grind (arith, common_steps) in rw e refl

is_less : (a b : ℕ) → nat_cmp a b ≡ Less → a < b
is_less a b h = grind (arith, common_steps, h)

weaker : (P Q : ℕ → Type 0) → ((q : ℕ) → P q → Q q) → (xs : List ℕ) → AllByRecursion P xs → AllByRecursion Q xs
weaker P Q step [] h = h
weaker P Q step (x ∷ xs) h = (step x h.0, weaker P Q step xs h.1)

-- what is known by places is known of the parts
all_front : (P : ℕ → Type 0) (xs : List ℕ) (i : ℕ) → ((k : ℕ) → k < i → P (get_or xs k 0)) → AllByRecursion P (take i xs)
all_front P xs zero h = tt
all_front P [] (suc i) h = tt
all_front P (x ∷ xs) (suc i) h = (h 0 (omega arith), all_front P xs i (λ k lt. h (suc k) (omega (arith, lt))))

all_rest : (P : ℕ → Type 0) (xs : List ℕ) (i : ℕ) → ((k : ℕ) → i ≤ k → k < length xs → P (get_or xs k 0)) → AllByRecursion P (drop i xs)
all_rest P [] zero h = tt
all_rest P [] (suc i) h = tt
all_rest P (x ∷ xs) zero h = (h 0 (omega arith) (omega arith), all_rest P xs zero (λ k from lt. h (suc k) (omega arith) (omega (arith, lt))))
all_rest P (x ∷ xs) (suc i) h = all_rest P xs i (λ k from lt. h (suc k) (omega (arith, from)) (omega (arith, lt)))

-- one between others
module _ (P : ℕ → Type 0) (x : ℕ) (rest : List ℕ) where
  all_with : (front : List ℕ) → AllByRecursion P (front ++ rest) → P x → AllByRecursion P (front ++ x ∷ rest)
  all_with [] h here = (here, h)
  all_with (y ∷ front) h here = (h.0, all_with front h.1 here)

  all_without : (front : List ℕ) → AllByRecursion P (front ++ x ∷ rest) → AllByRecursion P (front ++ rest)
  all_without [] h = h.1
  all_without (y ∷ front) h = (h.0, all_without front h.1)

  at_middle : (front : List ℕ) → AllByRecursion P (front ++ x ∷ rest) → P x
  at_middle [] h = h.0
  at_middle (y ∷ front) h = at_middle front h.1

pub none_rise : (xs : List ℕ) → xs ≡ [] → Rises xs
unfolding IsStrictlySortedBy
none_rise xs none = subst Rises (sym none) tt

rises_with : (front : List ℕ) (x : ℕ) (rest : List ℕ) → Rises (front ++ rest) → AllByRecursion (λ q. q < x) front → AllByRecursion (λ q. x < q) rest → Rises (front ++ x ∷ rest)
unfolding IsStrictlySortedBy
rises_with [] x rest h below above = (weaker (λ q. x < q) (λ q. nat_cmp x q ≡ Less) (λ q lt. less x q lt) rest above, h)
rises_with (y ∷ front) x rest h below above = (all_with (λ q. nat_cmp y q ≡ Less) x rest front h.0 (less y x below.0), rises_with front x rest h.1 below.1 above)

rises_without : (front : List ℕ) (x : ℕ) (rest : List ℕ) → Rises (front ++ x ∷ rest) → Rises (front ++ rest)
unfolding IsStrictlySortedBy
rises_without [] x rest h = h.1
rises_without (y ∷ front) x rest h = (all_without (λ q. nat_cmp y q ≡ Less) x rest front h.0, rises_without front x rest h.1)

-- those in front are less, and those after it greater
front_below : (front : List ℕ) (x : ℕ) (rest : List ℕ) → Rises (front ++ x ∷ rest) → AllByRecursion (λ q. q < x) front
unfolding IsStrictlySortedBy
front_below [] x rest h = tt
front_below (y ∷ front) x rest h = (is_less y x (at_middle (λ q. nat_cmp y q ≡ Less) x rest front h.0), front_below front x rest h.1)

rest_above : (front : List ℕ) (x : ℕ) (rest : List ℕ) → Rises (front ++ x ∷ rest) → AllByRecursion (λ q. x < q) rest
unfolding IsStrictlySortedBy
rest_above [] x rest h = weaker (λ q. nat_cmp x q ≡ Less) (λ q. x < q) (λ q is. is_less x q is) rest h.0
rest_above (y ∷ front) x rest h = rest_above front x rest h.1

-- which ids are there
not_there : (xs : List ℕ) (q : ℕ) → AllByRecursion (λ x. x ≢ q) xs → has_id xs q ≡ false
not_there [] q h = refl
not_there (x ∷ xs) q h = rw (ne_eqb x q h.0) (not_there xs q h.1)

not_either : (front rest : List ℕ) (q : ℕ) → AllByRecursion (λ x. x ≢ q) front → AllByRecursion (λ x. x ≢ q) rest → has_id (front ++ rest) q ≡ false
not_either [] rest q h more = not_there rest q more
not_either (x ∷ front) rest q h more = rw (ne_eqb x q h.0) (not_either front rest q h.1 more)

or_swaps : (a b c : Bool) → (a || (b || c)) ≡ (b || (a || c))
or_swaps true true c = refl
or_swaps true false c = refl
or_swaps false true c = refl
or_swaps false false c = refl

has_with : (front : List ℕ) (x : ℕ) (rest : List ℕ) (q : ℕ) → has_id (front ++ x ∷ rest) q ≡ ((x == q) || has_id (front ++ rest) q)
has_with [] x rest q = refl
has_with (y ∷ front) x rest q = ap (λ b. (y == q) || b) (has_with front x rest q) ∙ or_swaps (y == q) (x == q) (has_id (front ++ rest) q)

rest_at : (xs : List ℕ) (i : ℕ) → i < length xs → drop i xs ≡ get_or xs i 0 ∷ drop (suc i) xs
rest_at [] i within = absurd (omega (arith, within))
rest_at (x ∷ xs) zero within = refl
rest_at (x ∷ xs) (suc i) within = rest_at xs i (omega (arith, within))

-- what the search answers
pub place_is : (ids : List ℕ) (id : ℕ) (r : Result ℕ ℕ) → IsBinarySearchResult (λ q. nat_cmp q id) ids r → Rises ids → IsPlace ids id r
place_is ids id (Ok place) h rises = let at = searched ids id (Ok place) h (λ i j le lt. non_decreasing_from_sorted ids rises i j 0 le lt) in (
  at.0,
  rest_at ids place at.0 ∙ ap (λ q. q ∷ drop (suc place) ids) at.1,
)
place_is ids id (Err place) h rises = let at = searched ids id (Err place) h (λ i j le lt. non_decreasing_from_sorted ids rises i j 0 le lt) in (
  at.0,
  all_front (λ q. q < id) ids place at.1,
  all_rest (λ q. id < q) ids place at.2,
)

parted : (ids : List ℕ) (id place : ℕ) → IsPlace ids id (Ok place) → ids ≡ take place ids ++ id ∷ drop (suc place) ids
parted ids id place h = sym (take-append-drop place ids) ∙ ap (λ rest. take place ids ++ rest) h.1

-- an id is put into its place
pub entered_rises : (ids : List ℕ) (id place : ℕ) → Rises ids → IsPlace ids id (Err place) → Rises (insert ids place id)
entered_rises ids id place rises h = rises_with (take place ids) id (drop place ids) (subst Rises (sym (take-append-drop place ids)) rises) h.1 h.2

pub entered_has : (ids : List ℕ) (id place q : ℕ) → has_id (insert ids place id) q ≡ ((id == q) || has_id ids q)
entered_has ids id place q = has_with (take place ids) id (drop place ids) q ∙ ap (λ all. (id == q) || has_id all q) (take-append-drop place ids)

pub has_room : (ids : List ℕ) (id place room : ℕ) → Rises ids → IsPlace ids id (Err place) → AreAtMost (λ q. (id == q) || has_id ids q) room → length ids < room
has_room ids id place room rises h most =
    omega (arith, length-insert ids place id h.0, most (insert ids place id) (entered_rises ids id place rises h) (λ q there. sym (entered_has ids id place q) ∙ there))

-- or it was there
pub there_has : (ids : List ℕ) (id place q : ℕ) → IsPlace ids id (Ok place) → has_id ids q ≡ ((id == q) || has_id ids q)
there_has ids id place q h = again (id == q) (has_id (take place ids ++ drop (suc place) ids) q) (has_id ids q) (ap (λ all. has_id all q) (parted ids id place h) ∙ has_with (take place ids) id (drop (suc place) ids) q)
  where
    again : (a b c : Bool) → c ≡ (a || b) → c ≡ (a || c)
    again true b c is = is
    again false b c is = refl

-- it is taken out
pub left_rises : (ids : List ℕ) (id place : ℕ) → Rises ids → IsPlace ids id (Ok place) → Rises (remove ids place)
left_rises ids id place rises h = rises_without (take place ids) id (drop (suc place) ids) (subst Rises (parted ids id place h) rises)

pub left_here : (ids : List ℕ) (id place : ℕ) → Rises ids → IsPlace ids id (Ok place) → has_id (remove ids place) id ≡ false
left_here ids id place rises h = let parts = subst Rises (parted ids id place h) rises in
    not_either (take place ids) (drop (suc place) ids) id (weaker (λ q. q < id) (λ q. q ≢ id) (λ q lt same. omega (arith, lt, same)) (take place ids) (front_below (take place ids) id (drop (suc place) ids) parts))
    (weaker (λ q. id < q) (λ q. q ≢ id) (λ q lt same. omega (arith, lt, same)) (drop (suc place) ids) (rest_above (take place ids) id (drop (suc place) ids) parts))

pub left_others : (ids : List ℕ) (id place : ℕ) → IsPlace ids id (Ok place) → (q : ℕ) → q ≢ id → has_id (remove ids place) q ≡ has_id ids q
left_others ids id place h q differs =
    let all : has_id ids q ≡ ((id == q) || has_id (remove ids place) q) = ap (λ all. has_id all q) (parted ids id place h) ∙ has_with (take place ids) id (drop (suc place) ids) q in
    sym (all ∙ rw (ne_eqb id q (λ same. differs (sym same))) refl)

-- or it was not there
pub absent_here : (ids : List ℕ) (id place : ℕ) → IsPlace ids id (Err place) → has_id ids id ≡ false
absent_here ids id place h = ap (λ all. has_id all id) (sym (take-append-drop place ids))
    ∙ not_either (take place ids) (drop place ids) id (weaker (λ q. q < id) (λ q. q ≢ id) (λ q lt same. omega (arith, lt, same)) (take place ids) h.1)
    (weaker (λ q. id < q) (λ q. q ≢ id) (λ q lt same. omega (arith, lt, same)) (drop place ids) h.2)

-- how many are below a number
pub count_all : (ids : List ℕ) → IsCountBelow None ids (length ids)
count_all ids = (omega arith, all_front (λ q. IsBelow None q) ids (length ids) (λ k lt. tt), all_rest (λ q. IsBelow None q → ⊥) ids (length ids) (λ k from lt. absurd (omega (arith, from, lt))))

pub count_there : (ids : List ℕ) (below : Option ℕ) (place count : ℕ) → below ≡ Some place → Rises ids → IsPlace ids place (Ok count) → IsCountBelow below ids count
count_there ids below place count is rises h =
    let parts = subst Rises (parted ids place count h) rises in
    let there : IsCountBelow (Some place) ids count = (
      omega (arith, h.0),
      front_below (take count ids) place (drop (suc count) ids) parts,
      subst (λ rest. AllByRecursion (λ q. IsBelow (Some place) q → ⊥) rest) (sym h.1) (
        λ lt. omega (arith, lt),
        weaker (λ q. place < q) (λ q. q < place → ⊥) (λ q after before. omega (arith, after, before)) (drop (suc count) ids)
            (rest_above (take count ids) place (drop (suc count) ids) parts),
      ),
    ) in
    subst (λ b. IsCountBelow b ids count) (sym is) there

pub count_absent : (ids : List ℕ) (below : Option ℕ) (place count : ℕ) → below ≡ Some place → IsPlace ids place (Err count) → IsCountBelow below ids count
count_absent ids below place count is h =
    let absent : IsCountBelow (Some place) ids count =
    (h.0, h.1, weaker (λ q. place < q) (λ q. q < place → ⊥) (λ q after before. omega (arith, after, before)) (drop count ids) h.2) in
    subst (λ b. IsCountBelow b ids count) (sym is) absent

-- none of them is
pub last_none : (ids : List ℕ) (below : Option ℕ) (count : ℕ) → count ≡ 0 → IsCountBelow below ids count → IsLast (λ q. has_id ids q) below None
last_none ids below count none h =
    λ q there. not_there ids q (weaker (λ x. IsBelow below x → ⊥) (λ x. x ≢ q) (λ x not same. not (subst (λ n. IsBelow below n) (sym same) there)) ids
    (subst (λ n. AllByRecursion (λ x. IsBelow below x → ⊥) (drop n ids)) none h.2))

-- or the last of those that are
at_front : (P : ℕ → Type 0) (xs : List ℕ) (i k : ℕ) → AllByRecursion P (take i xs) → k < i → k < length xs → P (get_or xs k 0)
at_front P [] i k h lt within = absurd (omega (arith, within))
at_front P (x ∷ xs) zero k h lt within = absurd (omega (arith, lt))
at_front P (x ∷ xs) (suc i) zero h lt within = h.0
at_front P (x ∷ xs) (suc i) (suc k) h lt within = at_front P xs i k h.1 (omega (arith, lt)) (omega (arith, within))

last_at : (ids : List ℕ) (below : Option ℕ) (count id : ℕ) → Rises ids → IsCountBelow below ids (suc count) → id ≡ get_or ids count 0 → IsLast (λ q. has_id ids q) below (Some id)
last_at ids below count id rises h is =
    let within : count < length ids = omega (arith, h.0) in
    let place : IsPlace ids id (Ok count) = (within, rest_at ids count within ∙ ap (λ q. q ∷ drop (suc count) ids) (sym is)) in
    let whole = parted ids id count place in
    let parts = subst Rises whole rises in (
      subst (λ n. IsBelow below n) (sym is) (at_front (λ q. IsBelow below q) ids (suc count) count h.1 (omega arith) within),
      ap (λ all. has_id all id) whole ∙ has_with (take count ids) id (drop (suc count) ids) id ∙ rw (eq-eqb id id refl) refl,
      λ q there after. ap (λ all. has_id all q) whole ∙ has_with (take count ids) id (drop (suc count) ids) q ∙ rw (ne_eqb id q (λ same. omega (arith, after, same)))
          (not_either (take count ids) (drop (suc count) ids) q
          (weaker (λ x. x < id) (λ x. x ≢ q) (λ x lt same. omega (arith, lt, after, same)) (take count ids) (front_below (take count ids) id (drop (suc count) ids) parts))
          (weaker (λ x. IsBelow below x → ⊥) (λ x. x ≢ q) (λ x not same. not (subst (λ n. IsBelow below n) (sym same) there)) (drop (suc count) ids) h.2)),
    )

pub last_some : (ids : List ℕ) (below : Option ℕ) (count id : ℕ) → Rises ids → IsCountBelow below ids count → 0 < count → id ≡ get_or ids (count - 1) id → IsLast (λ q. has_id ids q) below (Some id)
last_some ids below zero id rises h some is = absurd (omega (arith, some))
last_some ids below (suc count) id rises h some is =
    let within : count < length ids = omega (arith, h.0) in
    let place : suc count - 1 ≡ count = omega arith in
    let at : id ≡ get_or ids count id = is ∙ ap (λ n. get_or ids n id) place in
    last_at ids below count id rises h (at ∙ get_or_default ids count id 0 within)
