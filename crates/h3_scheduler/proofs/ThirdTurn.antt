-- No stream has a third turn while another of its urgency waits.
use Rattle.std.proofs.Common.{arith, ◌≡◌, ◌<◌, ◌≤◌, ◌+◌, ℕ, Bool, true, false, ◌&&◌, if◌then◌else◌, List, [], ◌∷◌, length, sym, refl, ap, subst, inl, inr}
use Rattle.std.specs.Prelude.{◌==◌, nat_le, slice_set, Option, Some, None, unwrap_or}
use Rattle.std.proofs.lemmas.Bool.{eqb-true, eqb-false}
use Rattle.std.proofs.lemmas.List.{length-set}
use Rattle.h3_scheduler.specs.Least.{IsLeast}
use Rattle.h3_scheduler.specs.LeastLaws.{least_alike}
use Rattle.h3_scheduler.specs.Moments.{turns_among, Moment, WaitsThrough}
use Rattle.h3_scheduler.specs.Rounds.{after_turn, is_in, round_at}
use Rattle.h3_scheduler.specs.Places.{IsTurn}
use Rattle.h3_scheduler.specs.Streams.{Stream, Streams, any_by, id_of, is_it, least_by, next_turn, or_else, stream_at, takes_turn}
use Rattle.h3_scheduler.specs.ThirdTurnLaws.{facts_of, fewer_left, set_other, set_same, two_left}
use Rattle.h3_scheduler.specs.TurnsLeft.{left, one_if}
use Rattle.h3_scheduler.specs.Turns.{at_urgency, ended_at, has_turns, rounds_after, turn_of, turns_in, IsAnothers, Turn, Waits}
use Rattle.h3_scheduler.specs.declared.round.Round.{Round}
use Rattle.h3_scheduler.proofs.Found.{any_with, least_is}

-- ---- whose turn it is
the_same : (m n : ℕ) → Some m ≡ Some n → m ≡ n
the_same m n h = ap (λ o. unwrap_or o 0) h

is_turn : (urgency : ℕ) (es : Streams) (r : Round) (n : ℕ) → next_turn r urgency es ≡ Some n → IsTurn (any_by id_of (takes_turn urgency es) es) r n
is_turn urgency es r n named = by_round (least_by id_of (λ s. takes_turn urgency es s && is_in r s.0) es) (least_is id_of (λ s. takes_turn urgency es s && is_in r s.0) es) named
  where
    with_round : (o : Option ℕ) → IsLeast (any_by id_of (λ s. takes_turn urgency es s && is_in r s.0) es) 0 o → IsLeast (λ q. any_by id_of (takes_turn urgency es) es q && is_in r q) 0 o
    with_round o least =
        least_alike (any_by id_of (λ s. takes_turn urgency es s && is_in r s.0) es) (λ q. any_by id_of (takes_turn urgency es) es q && is_in r q) 0 o
        (λ q. any_with (takes_turn urgency es) (is_in r) es q) least

    by_round : (o : Option ℕ) → IsLeast (any_by id_of (λ s. takes_turn urgency es s && is_in r s.0) es) 0 o → or_else o (least_by id_of (takes_turn urgency es) es) ≡ Some n
        → IsTurn (any_by id_of (takes_turn urgency es) es) r n
    by_round (Some m) least is = inl (subst (λ q. IsLeast (λ k. any_by id_of (takes_turn urgency es) es k && is_in r k) 0 (Some q)) (the_same m n is) (with_round (Some m) least))
    by_round None least is = inr (with_round None least, subst (IsLeast (any_by id_of (takes_turn urgency es) es) 0) is (least_is id_of (takes_turn urgency es) es))

-- ---- the round after a turn
abbrev ended : Round → ℕ → Option ℕ → Round
ended r bound None = r
ended r bound (Some n) = after_turn r n bound

turn_ended : (u : ℕ) (rounds : List Round) (id bound : ℕ) (o : Option Stream) → u < length rounds → round_at (ended_at rounds id bound o) u ≡ ended (round_at rounds u) bound (at_urgency u id o)
turn_ended u rounds id bound None within = refl
turn_ended u rounds id bound (Some there) within = by_urgency (there.priority.urgency == u) refl
  where
    by_urgency : (b : Bool) → (there.priority.urgency == u) ≡ b
        → round_at (slice_set rounds there.priority.urgency (after_turn (round_at rounds there.priority.urgency) id bound)) u
        ≡ ended (round_at rounds u) bound (if b then Some id else None)
    by_urgency true level =
        subst (λ v. round_at (slice_set rounds v (after_turn (round_at rounds v) id bound)) u ≡ after_turn (round_at rounds u) id bound)
        (sym (eqb-true there.priority.urgency u level)) (set_same rounds u (after_turn (round_at rounds u) id bound) within)
    by_urgency false apart =
        set_other rounds there.priority.urgency u (after_turn (round_at rounds there.priority.urgency) id bound) (λ same. eqb-false there.priority.urgency u apart (sym same))

length_after : (rounds : List Round) (id bound : ℕ) (o : Option Stream) → length (ended_at rounds id bound o) ≡ length rounds
length_after rounds id bound None = refl
length_after rounds id bound (Some there) = length-set rounds there.priority.urgency (after_turn (round_at rounds there.priority.urgency) id bound)

-- ---- all turns
one_turn : (u waiting id : ℕ) (rounds : List Round) (t : Turn) (o : Option ℕ) (rest : ℕ) → has_turns u t.streams waiting ≡ true → waiting < t.bound → IsAnothers u rounds t.streams waiting o
    → rest ≤ left (ended (round_at rounds u) t.bound o) waiting id → one_if (is_it o id) + rest ≤ left (round_at rounds u) waiting id
one_turn u waiting id rounds t None rest waits below another h = omega (arith, h)
one_turn u waiting id rounds t (Some n) rest waits below another h =
    let facts = facts_of (any_by id_of (takes_turn u t.streams) t.streams) (round_at rounds u) waiting n (is_turn u t.streams (round_at rounds u) n another.0) waits another.1 in
    let fewer = fewer_left (round_at rounds u) waiting id n t.bound below facts in
    omega (arith, h, fewer)

few_turns : (u waiting id : ℕ) (rounds : List Round) (turns : List Turn) → u < length rounds → Waits u waiting rounds turns → turns_in u id turns ≤ left (round_at rounds u) waiting id
few_turns u waiting id rounds [] within waits = omega arith
few_turns u waiting id rounds (t ∷ turns) within waits =
    one_turn u waiting id rounds t (turn_of u t) (turns_in u id turns) waits.0 waits.1 waits.2
    (subst (λ r. turns_in u id turns ≤ left r waiting id) (turn_ended u rounds t.id t.bound (stream_at t.streams t.id) within)
    (few_turns u waiting id (rounds_after rounds t) turns (subst (λ n. u < n) (sym (length_after rounds t.id t.bound (stream_at t.streams t.id))) within) waits.3))

pub two_at_most : (urgency waiting id : ℕ) (rounds : List Round) (turns : List Turn) → urgency < length rounds → Waits urgency waiting rounds turns → turns_in urgency id turns ≤ 2
two_at_most urgency waiting id rounds turns within waits =
    let few = few_turns urgency waiting id rounds turns within waits in
    let two = two_left (is_in (round_at rounds urgency) waiting) (nat_le (round_at rounds urgency).from id) (is_in (round_at rounds urgency) id) in
    omega (arith, few, two)

-- ---- moments
few_among : (waiting id : ℕ) (r : Round) (moments : List Moment) → WaitsThrough waiting r moments → turns_among id moments ≤ left r waiting id
few_among waiting id r [] waits = omega arith
few_among waiting id r (m ∷ moments) waits =
    let later = few_among waiting id (after_turn r m.id m.bound) moments waits.4 in
    let fewer = fewer_left r waiting id m.id m.bound waits.1 (facts_of m.takes r waiting m.id waits.2 waits.0 waits.3) in
    omega (arith, later, fewer)

pub two_among : (waiting id : ℕ) (r : Round) (moments : List Moment) → WaitsThrough waiting r moments → turns_among id moments ≤ 2
two_among waiting id r moments waits =
    let few = few_among waiting id r moments waits in
    let two = two_left (is_in r waiting) (nat_le r.from id) (is_in r id) in
    omega (arith, few, two)
