-- The turn, over any places: what look-ups of them answer gives whose turn it is.
use Rattle.std.proofs.Common.{arith, ◌≡◌, ◌<◌, ◌≤◌, ℕ, Bool, true, false, ◌&&◌, ◌||◌, if◌then◌else◌, List, sym, refl, ap, subst, ◌∙◌, inl, inr}
use Rattle.std.specs.Prelude.{◌==◌, nat_le, nat_lt, Option, Some, None, is_some}
use Rattle.std.proofs.lemmas.Bool.{cases_lt, eqb-true, eq-eqb, lt-leb, le-ltb, true≢false}
use Rattle.std.proofs.lemmas.Grind.{common_steps}
use Rattle.h3_scheduler.specs.Least.{IsLeast, lesser_of}
use Rattle.h3_scheduler.specs.LeastLaws.{least_alike, least_either}
use Rattle.h3_scheduler.specs.Rounds.{is_in, round_at, within}
use Rattle.h3_scheduler.specs.Places.{takes_at, IsFirstUrgency, IsNext, Places}
use Rattle.h3_scheduler.specs.Streams.{is_it}
use Rattle.h3_scheduler.specs.declared.round.Round.{Round}

and_false : (b : Bool) → (b && false) ≡ false
and_false true = refl
and_false false = refl

-- an id below the round, or at its end, has no turn in it
early : (r : Round) (q : ℕ) → q < r.from → is_in r q ≡ false
early r q less = ap (λ b. b && nat_lt q r.until) (lt-leb r.from q less)

late : (r : Round) (q : ℕ) → r.until ≤ q → is_in r q ≡ false
late r q past = ap (λ b. nat_le r.from q && b) (le-ltb q r.until past) ∙ and_false (nat_le r.from q)

past_of : (r : Round) (id : ℕ) → r.from ≤ id → is_in r id ≡ false → r.until ≤ id
past_of r id there out = elim (cases_lt id r.until) [
  | inl less ↦ absurd (true≢false (sym (in_it less) ∙ out))
  | inr past ↦ past
]
  where
    in_it : id < r.until → is_in r id ≡ true
    in_it less = grind (arith, common_steps, there, less)

-- the first of the streams that are not incremental is the only one of them
pub plain_only : (f : ℕ → Bool) (plain : Option ℕ) → IsLeast f 0 plain → IsLeast (λ q. f q && is_it plain q) 0 plain
plain_only f None h = λ q there. and_false (f q)
plain_only f (Some p) h = (h.0, ap (λ b. b && (p == p)) h.1 ∙ eq-eqb p p refl, λ q there less. ap (λ b. b && (p == q)) (h.2 q there less))

-- the least from where the round is, if it is in the round
pub shared_within : (g : ℕ → Bool) (r : Round) (shared : Option ℕ) → IsLeast g r.from shared → IsLeast (λ q. g q && is_in r q) 0 (within r shared)
shared_within g r None h = λ q there. elim (cases_lt q r.from) [
  | inl less ↦ ap (λ b. g q && b) (early r q less) ∙ and_false (g q)
  | inr past ↦ ap (λ b. b && is_in r q) (h q past)
]
shared_within g r (Some s) h = by_round (is_in r s) refl
  where
    before : (q : ℕ) → q < s → (g q && is_in r q) ≡ false
    before q less = elim (cases_lt q r.from) [
      | inl low ↦ ap (λ b. g q && b) (early r q low) ∙ and_false (g q)
      | inr there ↦ ap (λ b. b && is_in r q) (h.2 q there less)
    ]

    by_round : (b : Bool) → is_in r s ≡ b → IsLeast (λ q. g q && is_in r q) 0 (if b then Some s else None)
    by_round true is = (omega arith, ap (λ b. b && is_in r s) h.1 ∙ is, λ q there less. before q less)
    by_round false out = λ q there. elim (cases_lt q s) [
      | inl less ↦ before q less
      | inr past ↦ ap (λ b. g q && b) (late r q (omega (arith, past_of r s h.0 out, past))) ∙ and_false (g q)
    ]

-- the first that is not incremental, if it is in the round
pub plain_within : (f : ℕ → Bool) (r : Round) (plain : Option ℕ) → IsLeast f 0 plain → IsLeast (λ q. (f q && is_it plain q) && is_in r q) 0 (within r plain)
plain_within f r None h = λ q there. ap (λ b. b && is_in r q) (and_false (f q))
plain_within f r (Some p) h = by_round (is_in r p) refl
  where
    by_round : (b : Bool) → is_in r p ≡ b → IsLeast (λ q. (f q && (p == q)) && is_in r q) 0 (if b then Some p else None)
    by_round true is =
        (omega arith, ap (λ b. (b && (p == p)) && is_in r p) h.1 ∙ ap (λ b. b && is_in r p) (eq-eqb p p refl) ∙ is, λ q there less. ap (λ b. (b && (p == q)) && is_in r q) (h.2 q there less))
    by_round false out = λ q there. by_id q (p == q) refl
      where
        by_id : (q : ℕ) (b : Bool) → (p == q) ≡ b → ((f q && (p == q)) && is_in r q) ≡ false
        by_id q true same = ap (λ b. (f q && (p == q)) && b) (sym (ap (is_in r) (eqb-true p q same)) ∙ out) ∙ and_false (f q && (p == q))
        by_id q false apart = ap (λ b. (f q && b) && is_in r q) apart ∙ ap (λ b. b && is_in r q) (and_false (f q))

pub either_one : (a b : Bool) → a ≡ true → (a || b) ≡ true
either_one true b is = refl
either_one false b is = absurd (cc)

pub either_other : (a b : Bool) → b ≡ true → (a || b) ≡ true
either_other true b is = refl
either_other false b is = is

-- the turn
swap : (a b : Bool) → (a || b) ≡ (b || a)
swap true true = refl
swap true false = refl
swap false true = refl
swap false false = refl

both : (a b c : Bool) → ((a && c) || (b && c)) ≡ ((b || a) && c)
both true true true = refl
both true true false = refl
both true false true = refl
both true false false = refl
both false true true = refl
both false true false = refl
both false false c = refl

-- the next of the round,
turn_in : (places : Places) (u : ℕ) (r : Round) (plain shared : Option ℕ) → IsLeast (places u false) 0 plain → IsLeast (places u true) r.from shared
    → IsLeast (λ q. takes_at places u plain q && is_in r q) 0 (lesser_of (within r plain) (within r shared))
turn_in places u r plain shared h k =
    least_alike (λ q. ((places u false q && is_it plain q) && is_in r q) || (places u true q && is_in r q)) (λ q. takes_at places u plain q && is_in r q) 0 (lesser_of (within r plain) (within r shared))
    (λ q. both (places u false q && is_it plain q) (places u true q) (is_in r q))
    (least_either (λ q. (places u false q && is_it plain q) && is_in r q) (λ q. places u true q && is_in r q) 0 (within r plain) (within r shared) (plain_within (places u false) r plain h)
    (shared_within (places u true) r shared k))

-- and the first of all
turn_of_all : (places : Places) (u : ℕ) (plain again : Option ℕ) → IsLeast (places u false) 0 plain → IsLeast (places u true) 0 again → IsLeast (takes_at places u plain) 0 (lesser_of plain again)
turn_of_all places u plain again h k =
    least_alike (λ q. (places u false q && is_it plain q) || places u true q) (takes_at places u plain) 0 (lesser_of plain again) (λ q. swap (places u false q && is_it plain q) (places u true q))
    (least_either (λ q. places u false q && is_it plain q) (places u true) 0 plain again (plain_only (places u false) plain h) k)

-- where one stands, one takes turns
someone : (places : Places) (u : ℕ) (plain : Option ℕ) → IsLeast (places u false) 0 plain → (kind : Bool) (q : ℕ) → places u kind q ≡ true → IsLeast (takes_at places u plain) 0 None → ⊥
someone places u plain h true q there none = true≢false (sym (either_one (places u true q) (places u false q && is_it plain q) there) ∙ none q (omega arith))
someone places u None h false q there none = true≢false (sym there ∙ h q (omega arith))
someone places u (Some p) h false q there none =
    true≢false (sym (either_other (places u true p) (places u false p && (p == p)) (ap (λ b. b && (p == p)) h.1 ∙ eq-eqb p p refl)) ∙ none p (omega arith))

pub next_in_round : (places : Places) (rounds : List Round) (u : ℕ) (plain shared found : Option ℕ) → IsFirstUrgency places (Some u) → IsLeast (places u false) 0 plain
    → IsLeast (places u true) (round_at rounds u).from shared → found ≡ lesser_of (within (round_at rounds u) plain) (within (round_at rounds u) shared) → is_some found ≡ true
    → IsNext places rounds found
next_in_round places rounds u plain shared None first h k is there = absurd (cc)
next_in_round places rounds u plain shared (Some id) first h k is there =
    record {
      urgency = u;
      first = first;
      plain = plain;
      least = h;
      turn = inl (subst (IsLeast (λ q. takes_at places u plain q && is_in (round_at rounds u) q) 0) (sym is) (turn_in places u (round_at rounds u) plain shared h k));
    }

pub next_in_another : (places : Places) (rounds : List Round) (u : ℕ) (plain shared again here found : Option ℕ) → IsFirstUrgency places (Some u) → IsLeast (places u false) 0 plain
    → IsLeast (places u true) (round_at rounds u).from shared → IsLeast (places u true) 0 again → here ≡ lesser_of (within (round_at rounds u) plain) (within (round_at rounds u) shared)
    → is_some here ≡ false → found ≡ lesser_of plain again → IsNext places rounds found
next_in_another places rounds u plain shared again (Some other) found first h k l was none is = absurd (cc)
next_in_another places rounds u plain shared again None None first h k l was none is =
    absurd (someone places u plain h first.0.0 first.0.1 first.0.2 (subst (IsLeast (takes_at places u plain) 0) (sym is) (turn_of_all places u plain again h l)))
next_in_another places rounds u plain shared again None (Some id) first h k l was none is =
    record {
      urgency = u;
      first = first;
      plain = plain;
      least = h;
      turn =
          inr (
            subst (IsLeast (λ q. takes_at places u plain q && is_in (round_at rounds u) q) 0) (sym was) (turn_in places u (round_at rounds u) plain shared h k),
            subst (IsLeast (takes_at places u plain) 0) (sym is) (turn_of_all places u plain again h l),
          );
    }

-- places that are alike have the same next
first_alike : (places others : Places) (first : Option ℕ) → ((urgency : ℕ) (incremental : Bool) (q : ℕ) → others urgency incremental q ≡ places urgency incremental q) → IsFirstUrgency places first → IsFirstUrgency others first
first_alike places others None same h = λ urgency incremental q. same urgency incremental q ∙ h urgency incremental q
first_alike places others (Some first) same h = ((h.0.0, h.0.1, same first h.0.0 h.0.1 ∙ h.0.2), λ urgency incremental q less. same urgency incremental q ∙ h.1 urgency incremental q less)

takes_alike : (places others : Places) (urgency : ℕ) (plain : Option ℕ) → ((urgency : ℕ) (incremental : Bool) (q : ℕ) → others urgency incremental q ≡ places urgency incremental q) → (q : ℕ)
    → takes_at others urgency plain q ≡ takes_at places urgency plain q
takes_alike places others urgency plain same q =
    ap (λ b. b || (others urgency false q && is_it plain q)) (same urgency true q) ∙ ap (λ b. places urgency true q || (b && is_it plain q)) (same urgency false q)

pub next_alike : (places others : Places) (rounds : List Round) (found : Option ℕ) → ((urgency : ℕ) (incremental : Bool) (q : ℕ) → others urgency incremental q ≡ places urgency incremental q)
    → IsNext places rounds found → IsNext others rounds found
next_alike places others rounds None same h = first_alike places others None same h
next_alike places others rounds (Some id) same h =
    record {
      urgency = h.urgency;
      first = first_alike places others (Some h.urgency) same h.first;
      plain = h.plain;
      least = least_alike (places h.urgency false) (others h.urgency false) 0 h.plain (λ q. sym (same h.urgency false q)) h.least;
      turn = elim h.turn [
        | inl here ↦ inl (least_alike (λ q. takes_at places h.urgency h.plain q && is_in (round_at rounds h.urgency) q) (λ q. takes_at others h.urgency h.plain q && is_in (round_at rounds h.urgency) q) 0 (Some id)
            (λ q. sym (ap (λ b. b && is_in (round_at rounds h.urgency) q) (takes_alike places others h.urgency h.plain same q))) here)
        | inr another ↦ inr (
          least_alike (λ q. takes_at places h.urgency h.plain q && is_in (round_at rounds h.urgency) q) (λ q. takes_at others h.urgency h.plain q && is_in (round_at rounds h.urgency) q) 0 None
              (λ q. sym (ap (λ b. b && is_in (round_at rounds h.urgency) q) (takes_alike places others h.urgency h.plain same q))) another.0,
          least_alike (takes_at places h.urgency h.plain) (takes_at others h.urgency h.plain) 0 (Some id) (λ q. sym (takes_alike places others h.urgency h.plain same q)) another.1,
        )
      ];
    }
