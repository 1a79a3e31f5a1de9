-- How many turns a stream can have while another of its urgency waits: at most one that is left of a round, and one of the round in which the
-- other has its own.
use Rattle.std.proofs.Common.{arith, ◌≡◌, ◌≢◌, ◌<◌, ◌≤◌, ◌+◌, ℕ, Bool, true, false, ◌&&◌, if◌then◌else◌, List, length, sym, refl, ap, subst, ◌∙◌, inl, inr}
use Rattle.std.specs.Prelude.{◌==◌, nat_le, nat_lt, slice_set, Some}
use Rattle.std.proofs.lemmas.Bool.{and_parts, cases_eq, cases_lt, cases_order, eq-eqb, ne_eqb, le-leb, lt-leb, leb-true, lt-ltb, le-ltb, ltb-true, true≢false}
use Rattle.std.proofs.lemmas.List.{get_or-set_other, get_or-set_same}
use Rattle.std.proofs.lemmas.Option.{unwrap_or-slice_get}
use Rattle.h3_scheduler.specs.Least.{IsLeast}
use Rattle.h3_scheduler.specs.Rounds.{after_turn, is_in, no_round, round_at}
use Rattle.h3_scheduler.specs.Places.{IsTurn}
use Rattle.h3_scheduler.specs.TurnsLeft.{left, left_by, one_if, TurnFacts}
use Rattle.h3_scheduler.specs.declared.round.Round.{Round}

-- ---- rounds
in_it : (r : Round) (q : ℕ) → r.from ≤ q → q < r.until → is_in r q ≡ true
in_it r q there less = ap (λ b. b && nat_lt q r.until) (le-leb r.from q there) ∙ lt-ltb q r.until less

bounds_of : (r : Round) (q : ℕ) → is_in r q ≡ true → (r.from ≤ q) × (q < r.until)
bounds_of r q is =
    let parts = and_parts (nat_le r.from q) (nat_lt q r.until) is in
    (leb-true r.from q parts.0, ltb-true q r.until parts.1)

and_false : (b : Bool) → (b && false) ≡ false
and_false true = refl
and_false false = refl

early : (r : Round) (q : ℕ) → q < r.from → is_in r q ≡ false
early r q less = ap (λ b. b && nat_lt q r.until) (lt-leb r.from q less)

late : (r : Round) (q : ℕ) → r.until ≤ q → is_in r q ≡ false
late r q past = ap (λ b. nat_le r.from q && b) (le-ltb q r.until past) ∙ and_false (nat_le r.from q)

-- what is out of a round is out of what is left of it
out_later : (r : Round) (n q : ℕ) → r.from ≤ n → is_in r q ≡ false → is_in (record { from = n + 1; until = r.until }) q ≡ false
out_later r n q there out = elim (cases_lt q r.from) [
  | inl less ↦ early (record { from = n + 1; until = r.until }) q (omega (arith, less, there))
  | inr from ↦ elim (cases_lt q r.until) [
    | inl less ↦ absurd (true≢false (sym (in_it r q from less) ∙ out))
    | inr past ↦ late (record { from = n + 1; until = r.until }) q past
  ]
]

pub two_left : (a b c : Bool) → left_by a b c ≤ 2
two_left true true c = omega arith
two_left true false c = omega arith
two_left false b true = omega arith
two_left false b false = omega arith

-- the round goes on
goes_on : (r : Round) (waiting id n : ℕ) → is_in r n ≡ true → (is_in r waiting ≡ true → n < waiting) → (w : Bool) → is_in r waiting ≡ w
    → one_if (n == id) + left (record { from = n + 1; until = r.until }) waiting id ≤ left r waiting id
goes_on r waiting id n is before true in_round =
    let b : (r.from ≤ n) × (n < r.until) = bounds_of r n is in
    let c : (r.from ≤ waiting) × (waiting < r.until) = bounds_of r waiting in_round in
    let less : n < waiting = before in_round in
    let still : is_in (record { from = n + 1; until = r.until }) waiting ≡ true = in_it (record { from = n + 1; until = r.until }) waiting (omega (arith, less)) c.1 in
    subst (λ v. one_if (n == id) + left_by v (nat_le (n + 1) id) (is_in (record { from = n + 1; until = r.until }) id) ≤ left r waiting id) (sym still)
    (subst (λ v. one_if (n == id) + one_if (nat_le (n + 1) id) ≤ left_by v (nat_le r.from id) (is_in r id)) (sym in_round) (counts b.0))
  where
    counts : r.from ≤ n → one_if (n == id) + one_if (nat_le (n + 1) id) ≤ one_if (nat_le r.from id)
    counts there = elim (cases_order n id) [
      | inl same ↦
          let later : nat_le (n + 1) id ≡ false = lt-leb (n + 1) id (omega (arith, same)) in
          let from : nat_le r.from id ≡ true = le-leb r.from id (omega (arith, same, there)) in
          rw (eq-eqb n id same, later, from) (omega arith)
      | inr apart ↦ elim apart [
        | inl less ↦
            let other : (n == id) ≡ false = ne_eqb n id (λ same. omega (arith, same, less)) in
            let later : nat_le (n + 1) id ≡ true = le-leb (n + 1) id (omega (arith, less)) in
            let from : nat_le r.from id ≡ true = le-leb r.from id (omega (arith, less, there)) in
            rw (other, later, from) (omega arith)
        | inr more ↦
            let other : (n == id) ≡ false = ne_eqb n id (λ same. omega (arith, same, more)) in
            let later : nat_le (n + 1) id ≡ false = lt-leb (n + 1) id (omega (arith, more)) in
            rw (other, later) (omega arith)
      ]
    ]
goes_on r waiting id n is before false out =
    let b : (r.from ≤ n) × (n < r.until) = bounds_of r n is in
    let still : is_in (record { from = n + 1; until = r.until }) waiting ≡ false = out_later r n waiting b.0 out in
    subst (λ v. one_if (n == id) + left_by v (nat_le (n + 1) id) (is_in (record { from = n + 1; until = r.until }) id) ≤ left r waiting id) (sym still)
    (subst (λ v. one_if (n == id) + (if is_in (record { from = n + 1; until = r.until }) id then 2 else 1) ≤ left_by v (nat_le r.from id) (is_in r id)) (sym out) (counts b.0))
  where
    counts : r.from ≤ n → one_if (n == id) + (if is_in (record { from = n + 1; until = r.until }) id then 2 else 1) ≤ (if is_in r id then 2 else 1)
    counts there = elim (cases_eq n id) [
      | inl same ↦
          let over : is_in (record { from = n + 1; until = r.until }) id ≡ false = early (record { from = n + 1; until = r.until }) id (omega (arith, same)) in
          let here : is_in r id ≡ true = subst (λ q. is_in r q ≡ true) same is in
          rw (eq-eqb n id same, over, here) (omega arith)
      | inr apart ↦ rw (ne_eqb n id apart) (fewer (is_in r id) refl)
    ]
      where
        fewer : (v : Bool) → is_in r id ≡ v → 0 + (if is_in (record { from = n + 1; until = r.until }) id then 2 else 1) ≤ (if is_in r id then 2 else 1)
        fewer true here = rw here (most (is_in (record { from = n + 1; until = r.until }) id))
          where
            most : (v : Bool) → 0 + (if v then 2 else 1) ≤ 2
            most true = omega arith
            most false = omega arith
        fewer false out = rw (out_later r n id there out, out) (omega arith)

-- another begins
begins : (r : Round) (waiting id n bound : ℕ) → is_in r waiting ≡ false → n < waiting → waiting < bound → one_if (n == id) + left (record { from = n + 1; until = bound }) waiting id ≤ left r waiting id
begins r waiting id n bound out less below =
    let there : is_in (record { from = n + 1; until = bound }) waiting ≡ true = in_it (record { from = n + 1; until = bound }) waiting (omega (arith, less)) below in
    subst (λ v. one_if (n == id) + left_by v (nat_le (n + 1) id) (is_in (record { from = n + 1; until = bound }) id) ≤ left r waiting id) (sym there)
    (subst (λ v. one_if (n == id) + one_if (nat_le (n + 1) id) ≤ left_by v (nat_le r.from id) (is_in r id)) (sym out) (counts (is_in r id)))
  where
    one_at_most : one_if (n == id) + one_if (nat_le (n + 1) id) ≤ 1
    one_at_most = elim (cases_eq n id) [
      | inl same ↦
          let later : nat_le (n + 1) id ≡ false = lt-leb (n + 1) id (omega (arith, same)) in
          rw (eq-eqb n id same, later) (omega arith)
      | inr apart ↦ rw (ne_eqb n id apart) (most (nat_le (n + 1) id))
    ]
      where
        most : (v : Bool) → 0 + one_if v ≤ 1
        most true = omega arith
        most false = omega arith

    counts : (v : Bool) → one_if (n == id) + one_if (nat_le (n + 1) id) ≤ (if v then 2 else 1)
    counts true = let most = one_at_most in omega (arith, most)
    counts false = one_at_most

-- a turn leaves as many fewer as it is
pub fewer_left : (r : Round) (waiting id n bound : ℕ) → waiting < bound → TurnFacts r waiting n → one_if (n == id) + left (after_turn r n bound) waiting id ≤ left r waiting id
fewer_left r waiting id n bound below (inl facts) =
    subst (λ v. one_if (n == id) + left (record { from = n + 1; until = if v then r.until else bound }) waiting id ≤ left r waiting id) (sym facts.0)
    (goes_on r waiting id n facts.0 facts.1 (is_in r waiting) refl)
fewer_left r waiting id n bound below (inr facts) =
    subst (λ v. one_if (n == id) + left (record { from = n + 1; until = if v then r.until else bound }) waiting id ≤ left r waiting id) (sym facts.0)
    (begins r waiting id n bound facts.1 facts.2 below)

-- ---- whose turn it is
front : (f : ℕ → Bool) (n waiting : ℕ) → IsLeast f 0 (Some n) → f waiting ≡ true → n ≢ waiting → n < waiting
front f n waiting least passes apart = elim (cases_order n waiting) [
  | inl same ↦ absurd (apart same)
  | inr other ↦ elim other [
    | inl less ↦ less
    | inr more ↦ absurd (true≢false (sym passes ∙ least.2 waiting (omega arith) more))
  ]
]

pub facts_of : (takes : ℕ → Bool) (r : Round) (waiting n : ℕ) → IsTurn takes r n → takes waiting ≡ true → n ≢ waiting → TurnFacts r waiting n
facts_of takes r waiting n (inl here) is apart =
    inl ((and_parts (takes n) (is_in r n) here.1).1, λ it. front (λ q. takes q && is_in r q) n waiting here (ap (λ b. b && is_in r waiting) is ∙ it) apart)
facts_of takes r waiting n (inr all) is apart =
    inr
    (sym (ap (λ b. b && is_in r n) all.1.1) ∙ all.0 n (omega arith), sym (ap (λ b. b && is_in r waiting) is) ∙ all.0 waiting (omega arith), front takes n waiting all.1 is apart)

-- ---- the round once a turn is over
pub set_same : (rounds : List Round) (u : ℕ) (r : Round) → u < length rounds → round_at (slice_set rounds u r) u ≡ r
set_same rounds u r within = unwrap_or-slice_get (slice_set rounds u r) u no_round ∙ get_or-set_same rounds u r no_round within

pub set_other : (rounds : List Round) (v u : ℕ) (r : Round) → u ≢ v → round_at (slice_set rounds v r) u ≡ round_at rounds u
set_other rounds v u r apart = unwrap_or-slice_get (slice_set rounds v r) u no_round ∙ get_or-set_other rounds v u r no_round apart ∙ sym (unwrap_or-slice_get rounds u no_round)
