-- The stream whose turn it is: over places that are those of a list of streams it is that of the list.
use Rattle.std.proofs.Common.{arith, ◌≡◌, ℕ, Bool, true, false, ◌&&◌, ◌||◌, if◌then◌else◌, List, [], ◌∷◌, sym, refl, ap, ◌∙◌, inl, inr}
use Rattle.std.specs.Prelude.{◌==◌, Option, Some, None}
use Rattle.std.proofs.lemmas.Bool.{and_parts, eq-eqb, or_cases, true≢false}
use Rattle.h3_scheduler.specs.Least.{IsLeast}
use Rattle.h3_scheduler.specs.LeastLaws.{least_alike, one_least}
use Rattle.h3_scheduler.specs.Rounds.{is_in, round_at}
use Rattle.h3_scheduler.specs.Places.{takes_at, IsFirstUrgency, IsNext, IsTurn, Places}
use Rattle.h3_scheduler.specs.Next.{ArePlaces}
use Rattle.h3_scheduler.specs.Streams.{Stream, Streams, alike, any_by, first_plain, first_urgency, id_of, is_class, is_it, least_by, next_at, next_of, next_turn, or_else, stands, stands_as, takes_turn, urgency_of}
use Rattle.h3_scheduler.specs.TurnLaws.{either_one, either_other}
use Rattle.h3_scheduler.specs.declared.round.Round.{Round}
use Rattle.h3_scheduler.proofs.Found.{any_either, any_with, least_is}

-- where a stream of a list stands
alike_itself : (b : Bool) → alike b b ≡ true
alike_itself true = refl
alike_itself false = refl

class_here : (e : ℕ × Stream) (u : ℕ) → (stands e.1 && (urgency_of e == u)) ≡ true → stands_as u e.1.priority.incremental e ≡ true
class_here e u h = go (stands e.1) h
  where
    go : (b : Bool) → (b && (urgency_of e == u)) ≡ true → is_class (if b then Some e.1.priority else None) u e.1.priority.incremental ≡ true
    go true level = ap (λ b. b && alike e.1.priority.incremental e.1.priority.incremental) level ∙ alike_itself e.1.priority.incremental
    go false level = absurd (cc)

pub class_there : (e : ℕ × Stream) (u : ℕ) (kind : Bool) → stands_as u kind e ≡ true → (stands e.1 && (urgency_of e == u)) ≡ true
class_there e u kind h = go (stands e.1) h
  where
    go : (b : Bool) → is_class (if b then Some e.1.priority else None) u kind ≡ true → (b && (urgency_of e == u)) ≡ true
    go true level = (and_parts (urgency_of e == u) (alike e.1.priority.incremental kind) level).0
    go false level = absurd (cc)

pub some_at : (u : ℕ) (es : Streams) → any_by urgency_of (λ e. stands e.1) es u ≡ true → (kind : Bool) × (q : ℕ) × (any_by id_of (stands_as u kind) es q ≡ true)
some_at u [] h = absurd (cc)
some_at u (e ∷ es) h = elim (or_cases (stands e.1 && (urgency_of e == u)) (any_by urgency_of (λ s. stands s.1) es u) h) [
  | inl here ↦ (
    e.1.priority.incremental,
    e.0,
    either_one (stands_as u e.1.priority.incremental e && (e.0 == e.0)) (any_by id_of (stands_as u e.1.priority.incremental) es e.0)
        (ap (λ b. b && (e.0 == e.0)) (class_here e u here) ∙ eq-eqb e.0 e.0 refl),
  )
  | inr later ↦
      let it = some_at u es later in
      (it.0, it.1, either_other (stands_as u it.0 e && (e.0 == it.1)) (any_by id_of (stands_as u it.0) es it.1) it.2)
]

at_some : (u : ℕ) (kind : Bool) (q : ℕ) (es : Streams) → any_by id_of (stands_as u kind) es q ≡ true → any_by urgency_of (λ e. stands e.1) es u ≡ true
at_some u kind q [] h = absurd (cc)
at_some u kind q (e ∷ es) h = elim (or_cases (stands_as u kind e && (e.0 == q)) (any_by id_of (stands_as u kind) es q) h) [
  | inl here ↦ either_one (stands e.1 && (urgency_of e == u)) (any_by urgency_of (λ s. stands s.1) es u) (class_there e u kind (and_parts (stands_as u kind e) (e.0 == q) here).0)
  | inr later ↦ either_other (stands e.1 && (urgency_of e == u)) (any_by urgency_of (λ s. stands s.1) es u) (at_some u kind q es later)
]

-- ---- the same of places that are those of a list
module _ (places : Places) (es : Streams) (found : ArePlaces places es) where
  -- the first that is not incremental is that of the list
  first_is : (u : ℕ) (plain : Option ℕ) → IsLeast (places u false) 0 plain → first_plain u es ≡ plain
  first_is u plain h = one_least (any_by id_of (stands_as u false) es) 0 (first_plain u es) plain (least_is id_of (stands_as u false) es) (least_alike (places u false) (any_by id_of (stands_as u false) es) 0 plain (found u false) h)

  -- who takes turns
  takes : (u : ℕ) (plain : Option ℕ) → IsLeast (places u false) 0 plain → (q : ℕ) → takes_at places u plain q ≡ any_by id_of (takes_turn u es) es q
  takes u plain h q =
      ap (λ b. b || (places u false q && is_it plain q)) (found u true q)
      ∙ ap (λ b. any_by id_of (stands_as u true) es q || (b && is_it plain q)) (found u false q)
      ∙ ap (λ o. any_by id_of (stands_as u true) es q || (any_by id_of (stands_as u false) es q && is_it o q)) (sym (first_is u plain h))
      ∙ ap (λ b. any_by id_of (stands_as u true) es q || b) (sym (any_with (stands_as u false) (is_it (first_plain u es)) es q))
      ∙ sym (any_either id_of (stands_as u true) (λ e. stands_as u false e && is_it (first_plain u es) e.0) es q)

  in_round : (u : ℕ) (plain : Option ℕ) (r : Round) → IsLeast (places u false) 0 plain → (q : ℕ)
      → (takes_at places u plain q && is_in r q) ≡ any_by id_of (λ e. takes_turn u es e && is_in r e.0) es q
  in_round u plain r h q = ap (λ b. b && is_in r q) (takes u plain h q) ∙ sym (any_with (takes_turn u es) (is_in r) es q)

  -- the next of the round, and the first of all
  least_in : (u : ℕ) (plain : Option ℕ) (r : Round) (least : Option ℕ) → IsLeast (places u false) 0 plain → IsLeast (λ q. takes_at places u plain q && is_in r q) 0 least
      → least_by id_of (λ e. takes_turn u es e && is_in r e.0) es ≡ least
  least_in u plain r least h k =
      one_least (any_by id_of (λ e. takes_turn u es e && is_in r e.0) es) 0 (least_by id_of (λ e. takes_turn u es e && is_in r e.0) es) least
      (least_is id_of (λ e. takes_turn u es e && is_in r e.0) es)
      (least_alike (λ q. takes_at places u plain q && is_in r q) (any_by id_of (λ e. takes_turn u es e && is_in r e.0) es) 0 least (in_round u plain r h) k)

  least_of_all : (u : ℕ) (plain least : Option ℕ) → IsLeast (places u false) 0 plain → IsLeast (takes_at places u plain) 0 least → least_by id_of (takes_turn u es) es ≡ least
  least_of_all u plain least h k =
      one_least (any_by id_of (takes_turn u es) es) 0 (least_by id_of (takes_turn u es) es) least (least_is id_of (takes_turn u es) es)
      (least_alike (takes_at places u plain) (any_by id_of (takes_turn u es) es) 0 least (takes u plain h) k)

  -- the least urgency is that of the list
  urgency_is : (first : Option ℕ) → IsFirstUrgency places first → first_urgency es ≡ first
  urgency_is first h = one_least (any_by urgency_of (λ e. stands e.1) es) 0 (first_urgency es) first (least_is urgency_of (λ e. stands e.1) es) (least first h)
    where
      nowhere : (u : ℕ) → ((kind : Bool) (q : ℕ) → places u kind q ≡ false) → any_by urgency_of (λ e. stands e.1) es u ≡ false
      nowhere u none = go (any_by urgency_of (λ e. stands e.1) es u) refl
        where
          go : (b : Bool) → any_by urgency_of (λ e. stands e.1) es u ≡ b → b ≡ false
          go true is = let it = some_at u es is in absurd (true≢false (sym it.2 ∙ sym (found u it.0 it.1) ∙ none it.0 it.1))
          go false is = refl

      least : (first : Option ℕ) → IsFirstUrgency places first → IsLeast (any_by urgency_of (λ e. stands e.1) es) 0 first
      least None h = λ u there. nowhere u (h u)
      least (Some n) h = (omega arith, at_some n h.0.0 h.0.1 es (sym (found n h.0.0 h.0.1) ∙ h.0.2), λ u there less. nowhere u (λ kind q. h.1 u kind q less))

  -- whose turn it is
  turn_is : (r : Round) (u : ℕ) (plain : Option ℕ) (id : ℕ) → IsLeast (places u false) 0 plain → IsTurn (takes_at places u plain) r id → next_turn r u es ≡ Some id
  turn_is r u plain id h (inl here) = ap (λ o. or_else o (least_by id_of (takes_turn u es) es)) (least_in u plain r (Some id) h here)
  turn_is r u plain id h (inr all) =
      ap (λ o. or_else o (least_by id_of (takes_turn u es) es)) (least_in u plain r None h all.0) ∙ least_of_all u plain (Some id) h all.1

  -- the stream that sends next is that of the list
  pub next_is : (rounds : List Round) (o : Option ℕ) → IsNext places rounds o → o ≡ next_of rounds es
  unfolding next_of
  next_is rounds None h = sym (ap (next_at rounds es) (urgency_is None h))
  next_is rounds (Some id) h = sym (ap (next_at rounds es) (urgency_is (Some h.urgency) h.first) ∙ turn_is (round_at rounds h.urgency) h.urgency h.plain id h.least h.turn)
