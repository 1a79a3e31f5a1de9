-- None has a third turn over places, where those send that are next.
use Rattle.std.proofs.Common.{arith, ◌≡◌, ◌<◌, ◌≤◌, ◌+◌, ℕ, Bool, true, false, ◌&&◌, List, [], ◌∷◌, sym, refl, subst, ◌∙◌, inl, inr}
use Rattle.std.specs.Prelude.{◌==◌, nat_le, Option}
use Rattle.std.proofs.lemmas.Bool.{and_parts, eqb-true, or_cases}
use Rattle.h3_scheduler.specs.Least.{IsLeast}
use Rattle.h3_scheduler.specs.LeastLaws.{one_least}
use Rattle.h3_scheduler.specs.Places.{takes_at, HasTurn, IsTurn, Places}
use Rattle.h3_scheduler.specs.PlaceTurns.{round_if, turns_at, PlaceTurn, TakesTurns, WaitsAtPlaces, WasNextIf}
use Rattle.h3_scheduler.specs.Rounds.{is_in, round_at}
use Rattle.h3_scheduler.specs.Streams.{is_it}
use Rattle.h3_scheduler.specs.declared.round.Round.{Round}
use Rattle.h3_scheduler.specs.ThirdTurnLaws.{facts_of, fewer_left, two_left}
use Rattle.h3_scheduler.specs.TurnsLeft.{left, one_if, TurnFacts}

-- who takes turns stands there
stands_of : (places : Places) (u : ℕ) (plain : Option ℕ) (q : ℕ) → takes_at places u plain q ≡ true → (kind : Bool) × (places u kind q ≡ true)
stands_of places u plain q takes = elim (or_cases (places u true q) (places u false q && is_it plain q) takes) [
  | inl shared ↦ (true, shared)
  | inr first ↦ (false, (and_parts (places u false q) (is_it plain q) first).0)
]

takes_of : (takes : ℕ → Bool) (r : Round) (n : ℕ) → IsTurn takes r n → takes n ≡ true
takes_of takes r n (inl here) = (and_parts (takes n) (is_in r n) here.1).0
takes_of takes r n (inr all) = all.1.1

-- the turn of one urgency is that of another that is the same
same_turn : (places : Places) (rounds : List Round) (id u v : ℕ) (plain other : Option ℕ) → v ≡ u → IsLeast (places u false) 0 plain → IsLeast (places v false) 0 other
    → IsTurn (takes_at places v other) (round_at rounds v) id → IsTurn (takes_at places u plain) (round_at rounds u) id
same_turn places rounds id u v plain other same h k turn =
    let least : IsLeast (places u false) 0 other = subst (λ n. IsLeast (places n false) 0 other) same k in
    let one : other ≡ plain = one_least (places u false) 0 other plain least h in
    subst (λ o. IsTurn (takes_at places u o) (round_at rounds u) id) one (subst (λ n. IsTurn (takes_at places n other) (round_at rounds n) id) same turn)

turn_here : (t : PlaceTurn) (u : ℕ) (plain : Option ℕ) → t.urgency ≡ u → ((v : ℕ) (kind : Bool) → t.places v kind t.id ≡ true → v ≡ t.urgency) → IsLeast (t.places u false) 0 plain
    → HasTurn t.places t.rounds t.id → IsTurn (takes_at t.places u plain) (round_at t.rounds u) t.id
turn_here t u plain level one least h =
    let there = stands_of t.places h.urgency h.plain t.id (takes_of (takes_at t.places h.urgency h.plain) (round_at t.rounds h.urgency) t.id h.turn) in
    same_turn t.places t.rounds t.id u h.urgency plain h.plain (one h.urgency there.0 there.1 ∙ level) least h.least h.turn

one_turn : (u waiting id : ℕ) (t : PlaceTurn) (rest : ℕ) (b : Bool) → (t.urgency == u) ≡ b → TakesTurns t.places u waiting → waiting < t.bound → WasNextIf b t waiting
    → rest ≤ left (round_if b (round_at t.rounds u) t) waiting id → one_if (b && (t.id == id)) + rest ≤ left (round_at t.rounds u) waiting id
one_turn u waiting id t rest false level takes below was h = omega (arith, h)
one_turn u waiting id t rest true level takes below was h =
    let turn : IsTurn (takes_at t.places u takes.plain) (round_at t.rounds u) t.id = turn_here t u takes.plain (eqb-true t.urgency u level) was.one takes.least was.next in
    let facts : TurnFacts (round_at t.rounds u) waiting t.id = facts_of (takes_at t.places u takes.plain) (round_at t.rounds u) waiting t.id turn takes.takes was.other in
    let fewer = fewer_left (round_at t.rounds u) waiting id t.id t.bound below facts in
    omega (arith, h, fewer)

few_at : (u waiting id : ℕ) (r : Round) (turns : List PlaceTurn) → WaitsAtPlaces u waiting r turns → turns_at u id turns ≤ left r waiting id
few_at u waiting id r [] waits = omega arith
few_at u waiting id r (t ∷ turns) waits =
    subst (λ s. one_if ((t.urgency == u) && (t.id == id)) + turns_at u id turns ≤ left s waiting id) waits.0
    (one_turn u waiting id t (turns_at u id turns) (t.urgency == u) refl waits.1 waits.2 waits.3
    (subst (λ s. turns_at u id turns ≤ left (round_if (t.urgency == u) s t) waiting id) (sym waits.0)
    (few_at u waiting id (round_if (t.urgency == u) r t) turns waits.4)))

pub two_at_places : (urgency waiting id : ℕ) (r : Round) (turns : List PlaceTurn) → WaitsAtPlaces urgency waiting r turns → turns_at urgency id turns ≤ 2
two_at_places urgency waiting id r turns waits =
    let few = few_at urgency waiting id r turns waits in
    let two = two_left (is_in r waiting) (nat_le r.from id) (is_in r id) in
    omega (arith, few, two)
