-- The stream that sends next stands, none that stands is more urgent, and there is one if any stands. If nothing is said of any priority it
-- has the least id.
use Rattle.std.proofs.Common.{arith, ◌≡◌, ℕ, Bool, true, false, ◌&&◌, ◌||◌, not, if◌then◌else◌, List, [], ◌∷◌, sym, refl, ap, subst, ◌∙◌, inl, inr}
use Rattle.std.specs.Prelude.{◌==◌, Option, Some, None}
use Rattle.std.specs.List.{AllByRecursion}
use Rattle.std.proofs.lemmas.Bool.{and_parts, eqb-true, eq-eqb, or_cases, true≢false}
use Rattle.h3_priority.specs.Priority.{default_parameters}
use Rattle.h3_scheduler.specs.Least.{IsLeast}
use Rattle.h3_scheduler.specs.Next.{some_stands, stands_at, AreDefault, IsDefault, IsLowest, IsMostUrgent}
use Rattle.h3_scheduler.specs.Rounds.{is_in, round_at, within}
use Rattle.h3_scheduler.specs.Streams.{Stream, Streams, any_by, first_plain, first_urgency, id_of, is_class, is_it, least_by, next_at, next_of, next_turn, or_else, stands, stands_as, takes_turn, urgency_of}
use Rattle.h3_scheduler.specs.declared.round.Round.{Round}
use Rattle.h3_scheduler.proofs.Found.{any_either, any_with, least_is}
use Rattle.h3_scheduler.specs.LeastLaws.{least_alike, one_least}
use Rattle.h3_scheduler.specs.TurnLaws.{either_one, either_other, plain_only, plain_within}
use Rattle.h3_scheduler.proofs.Turning.{class_there, some_at}

-- what passes one test passes another that asks less
asks_less : (number : ℕ × Stream → ℕ) (a b : ℕ × Stream → Bool) → ((e : ℕ × Stream) → a e ≡ true → b e ≡ true) → (es : Streams) (q : ℕ) → any_by number a es q ≡ true → any_by number b es q ≡ true
asks_less number a b less [] q h = h
asks_less number a b less (e ∷ es) q h = elim (or_cases (a e && (number e == q)) (any_by number a es q) h) [
  | inl here ↦
      let parts = and_parts (a e) (number e == q) here in
      either_one (b e && (number e == q)) (any_by number b es q) (ap (λ x. x && (number e == q)) (less e parts.0) ∙ parts.1)
  | inr later ↦ either_other (b e && (number e == q)) (any_by number b es q) (asks_less number a b less es q later)
]

-- tests that answer alike at each stream of a list
asks_same : (number : ℕ × Stream → ℕ) (a b : ℕ × Stream → Bool) (es : Streams) → AllByRecursion (λ e. a e ≡ b e) es → (q : ℕ) → any_by number a es q ≡ any_by number b es q
asks_same number a b [] h q = refl
asks_same number a b (e ∷ es) h q = ap (λ x. (x && (number e == q)) || any_by number a es q) h.0 ∙ ap (λ x. (b e && (number e == q)) || x) (asks_same number a b es h.1 q)

-- who takes turns stands
turn_stands : (u : ℕ) (es : Streams) (e : ℕ × Stream) → takes_turn u es e ≡ true → stands_at u e ≡ true
turn_stands u es e h = elim (or_cases (stands_as u true e) (stands_as u false e && is_it (first_plain u es) e.0) h) [
  | inl shared ↦ class_there e u true shared
  | inr plain ↦ class_there e u false (and_parts (stands_as u false e) (is_it (first_plain u es) e.0) plain).0
]

turns_are : (u : ℕ) (es : Streams) (q : ℕ) → any_by id_of (takes_turn u es) es q ≡ (any_by id_of (stands_as u true) es q || (any_by id_of (stands_as u false) es q && is_it (first_plain u es) q))
turns_are u es q =
    any_either id_of (stands_as u true) (λ e. stands_as u false e && is_it (first_plain u es) e.0) es q
    ∙ ap (λ b. any_by id_of (stands_as u true) es q || b) (any_with (stands_as u false) (is_it (first_plain u es)) es q)

-- some take turns where some stand
some_turn : (u : ℕ) (es : Streams) → any_by urgency_of (λ e. stands e.1) es u ≡ true → (q : ℕ) × (any_by id_of (takes_turn u es) es q ≡ true)
some_turn u es h = let it = some_at u es h in by_kind it.0 it.1 it.2
  where
    by_first : (q : ℕ) → any_by id_of (stands_as u false) es q ≡ true → (o : Option ℕ) → IsLeast (any_by id_of (stands_as u false) es) 0 o
        → IsLeast (λ n. any_by id_of (stands_as u false) es n && is_it (first_plain u es) n) 0 o → (n : ℕ) × (any_by id_of (takes_turn u es) es n ≡ true)
    by_first q there None least turn = absurd (true≢false (sym there ∙ least q (omega arith)))
    by_first q there (Some p) least turn =
        (p, turns_are u es p ∙ either_other (any_by id_of (stands_as u true) es p) (any_by id_of (stands_as u false) es p && is_it (first_plain u es) p) turn.1)

    by_kind : (kind : Bool) (q : ℕ) → any_by id_of (stands_as u kind) es q ≡ true → (n : ℕ) × (any_by id_of (takes_turn u es) es n ≡ true)
    by_kind true q there = (q, turns_are u es q ∙ either_one (any_by id_of (stands_as u true) es q) (any_by id_of (stands_as u false) es q && is_it (first_plain u es) q) there)
    by_kind false q there =
        by_first q there (first_plain u es) (least_is id_of (stands_as u false) es) (plain_only (any_by id_of (stands_as u false) es) (first_plain u es) (least_is id_of (stands_as u false) es))

-- a stream that stands has its urgency
some_urgency : (es : Streams) (q : ℕ) → some_stands es q ≡ true → (u : ℕ) × (any_by urgency_of (λ e. stands e.1) es u ≡ true)
some_urgency [] q h = absurd (cc)
some_urgency (e ∷ es) q h = elim (or_cases (stands e.1 && (e.0 == q)) (some_stands es q) h) [
  | inl here ↦ (
    urgency_of e,
    either_one (stands e.1 && (urgency_of e == urgency_of e)) (any_by urgency_of (λ s. stands s.1) es (urgency_of e))
        (ap (λ b. b && (urgency_of e == urgency_of e)) (and_parts (stands e.1) (e.0 == q) here).0 ∙ eq-eqb (urgency_of e) (urgency_of e) refl),
  )
  | inr later ↦
      let it = some_urgency es q later in
      (it.0, either_other (stands e.1 && (urgency_of e == it.0)) (any_by urgency_of (λ s. stands s.1) es it.0) it.1)
]

none_stands : (es : Streams) → IsLeast (any_by urgency_of (λ e. stands e.1) es) 0 None → (q : ℕ) → some_stands es q ≡ false
none_stands es none q = go (some_stands es q) refl
  where
    go : (b : Bool) → some_stands es q ≡ b → b ≡ false
    go true is = let it = some_urgency es q is in absurd (true≢false (sym it.1 ∙ none it.0 (omega arith)))
    go false is = refl

-- ---- the most urgent
pub most_urgent : (rounds : List Round) (es : Streams) → IsMostUrgent es (next_of rounds es)
unfolding next_of
most_urgent rounds es = by_urgency (first_urgency es) (least_is urgency_of (λ e. stands e.1) es)
  where
    named : (u id : ℕ) → IsLeast (any_by urgency_of (λ e. stands e.1) es) 0 (Some u) → any_by id_of (takes_turn u es) es id ≡ true → IsMostUrgent es (Some id)
    named u id least takes = (u, asks_less id_of (takes_turn u es) (stands_at u) (turn_stands u es) es id takes, λ other less. least.2 other (omega arith) less)

    by_turn : (r : Round) (u : ℕ) → IsLeast (any_by urgency_of (λ e. stands e.1) es) 0 (Some u) → (one other : Option ℕ)
        → IsLeast (any_by id_of (λ s. takes_turn u es s && is_in r s.0) es) 0 one → IsLeast (any_by id_of (takes_turn u es) es) 0 other → IsMostUrgent es (or_else one other)
    by_turn r u least (Some id) other here all =
        named u id least (and_parts (any_by id_of (takes_turn u es) es id) (is_in r id) (sym (any_with (takes_turn u es) (is_in r) es id) ∙ here.1)).0
    by_turn r u least None (Some id) here all = named u id least all.1
    by_turn r u least None None here all = let it = some_turn u es least.1 in absurd (true≢false (sym it.1 ∙ all it.0 (omega arith)))

    by_urgency : (o : Option ℕ) → IsLeast (any_by urgency_of (λ e. stands e.1) es) 0 o → IsMostUrgent es (next_at rounds es o)
    by_urgency None least = none_stands es least
    by_urgency (Some u) least =
        by_turn (round_at rounds u) u least (least_by id_of (λ s. takes_turn u es s && is_in (round_at rounds u) s.0) es) (least_by id_of (takes_turn u es) es)
        (least_is id_of (λ s. takes_turn u es s && is_in (round_at rounds u) s.0) es) (least_is id_of (takes_turn u es) es)

-- ---- the least id
default_class : (kind : Bool) (e : ℕ × Stream) → IsDefault e → stands_as 3 kind e ≡ (stands e.1 && not kind)
default_class kind e h = ap (λ p. is_class (if stands e.1 then Some p else None) 3 kind) h ∙ go (stands e.1) kind
  where
    go : (b k : Bool) → is_class (if b then Some default_parameters else None) 3 k ≡ (b && not k)
    go true true = refl
    go true false = refl
    go false k = refl

all_plain : (es : Streams) → AreDefault es → AllByRecursion (λ e. stands_as 3 false e ≡ stands e.1) es
all_plain [] h = tt
all_plain (e ∷ es) h = (default_class false e h.0 ∙ drop_true (stands e.1), all_plain es h.1)
  where
    drop_true : (b : Bool) → (b && true) ≡ b
    drop_true true = refl
    drop_true false = refl

no_shared : (es : Streams) → AreDefault es → AllByRecursion (λ e. stands_as 3 true e ≡ false) es
no_shared [] h = tt
no_shared (e ∷ es) h = (default_class true e h.0 ∙ and_false (stands e.1), no_shared es h.1)
  where
    and_false : (b : Bool) → (b && false) ≡ false
    and_false true = refl
    and_false false = refl

never : (es : Streams) (q : ℕ) → any_by id_of (λ e. false) es q ≡ false
never [] q = refl
never (e ∷ es) q = never es q

three : (es : Streams) (u : ℕ) → AreDefault es → any_by urgency_of (λ e. stands e.1) es u ≡ true → 3 ≡ u
three [] u h there = absurd (cc)
three (e ∷ es) u h there = elim (or_cases (stands e.1 && (urgency_of e == u)) (any_by urgency_of (λ s. stands s.1) es u) there) [
  | inl here ↦ sym (ap (λ p. p.urgency) h.0) ∙ eqb-true (urgency_of e) u (and_parts (stands e.1) (urgency_of e == u) here).1
  | inr later ↦ three es u h.1 later
]

pub lowest : (rounds : List Round) (es : Streams) → AreDefault es → IsLowest es (next_of rounds es)
unfolding next_of
lowest rounds es h = by_urgency (first_urgency es) (least_is urgency_of (λ e. stands e.1) es)
  where
    plain : (q : ℕ) → any_by id_of (stands_as 3 false) es q ≡ some_stands es q
    plain q = asks_same id_of (stands_as 3 false) (λ e. stands e.1) es (all_plain es h) q

    first : IsLeast (any_by id_of (stands_as 3 false) es) 0 (first_plain 3 es)
    first = least_is id_of (stands_as 3 false) es

    turns : (q : ℕ) → (any_by id_of (stands_as 3 false) es q && is_it (first_plain 3 es) q) ≡ any_by id_of (takes_turn 3 es) es q
    turns q =
        sym (turns_are 3 es q
        ∙ ap (λ b. b || (any_by id_of (stands_as 3 false) es q && is_it (first_plain 3 es) q)) (asks_same id_of (stands_as 3 true) (λ e. false) es (no_shared es h) q ∙ never es q))

    all_is : least_by id_of (takes_turn 3 es) es ≡ first_plain 3 es
    all_is =
        one_least (any_by id_of (takes_turn 3 es) es) 0 (least_by id_of (takes_turn 3 es) es) (first_plain 3 es) (least_is id_of (takes_turn 3 es) es)
        (least_alike (λ q. any_by id_of (stands_as 3 false) es q && is_it (first_plain 3 es) q) (any_by id_of (takes_turn 3 es) es) 0 (first_plain 3 es) turns
        (plain_only (any_by id_of (stands_as 3 false) es) (first_plain 3 es) first))

    round_is : (r : Round) → least_by id_of (λ s. takes_turn 3 es s && is_in r s.0) es ≡ within r (first_plain 3 es)
    round_is r =
        one_least (any_by id_of (λ s. takes_turn 3 es s && is_in r s.0) es) 0 (least_by id_of (λ s. takes_turn 3 es s && is_in r s.0) es) (within r (first_plain 3 es))
        (least_is id_of (λ s. takes_turn 3 es s && is_in r s.0) es)
        (least_alike (λ q. (any_by id_of (stands_as 3 false) es q && is_it (first_plain 3 es) q) && is_in r q) (any_by id_of (λ s. takes_turn 3 es s && is_in r s.0) es) 0
        (within r (first_plain 3 es)) (λ q. ap (λ b. b && is_in r q) (turns q) ∙ sym (any_with (takes_turn 3 es) (is_in r) es q))
        (plain_within (any_by id_of (stands_as 3 false) es) r (first_plain 3 es) first))

    either_round : (r : Round) (o : Option ℕ) → or_else (within r o) o ≡ o
    either_round r None = refl
    either_round r (Some id) = go (is_in r id)
      where
        go : (b : Bool) → or_else (if b then Some id else None) (Some id) ≡ Some id
        go true = refl
        go false = refl

    next_is : (r : Round) → next_turn r 3 es ≡ first_plain 3 es
    next_is r = ap (λ o. or_else o (least_by id_of (takes_turn 3 es) es)) (round_is r) ∙ ap (or_else (within r (first_plain 3 es))) all_is ∙ either_round r (first_plain 3 es)

    by_urgency : (o : Option ℕ) → IsLeast (any_by urgency_of (λ e. stands e.1) es) 0 o → IsLowest es (next_at rounds es o)
    by_urgency None least = λ q there. none_stands es least q
    by_urgency (Some u) least =
        subst (λ v. IsLowest es (next_turn (round_at rounds v) v es)) (three es u h least.1)
        (subst (IsLowest es) (sym (next_is (round_at rounds 3))) (least_alike (any_by id_of (stands_as 3 false) es) (some_stands es) 0 (first_plain 3 es) plain first))
