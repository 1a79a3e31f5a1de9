-- None of an endpoint's request streams has a third turn while another of its urgency waits: the scheduler's law, of its own calls.
use Rattle.std.proofs.Common.{◌≡◌, ◌<◌, ◌≤◌, ℕ, Bool, true, false, ◌&&◌, ◌||◌, if◌then◌else◌, List, [], ◌∷◌, length, sym, refl, ap, subst, ◌∙◌}
use Rattle.std.specs.Prelude.{◌==◌, not, nat_lt, map, slice_set, Some, option_map, unwrap_or}
use Rattle.std.proofs.lemmas.Bool.{and_parts, eqb-true, eqb-false}
use Rattle.std.proofs.lemmas.List.{length-set}
use Rattle.h3_scheduler.specs.PlaceTurnLaws.{two_at_places}
use Rattle.h3_scheduler.specs.PlaceTurns.{round_if, PlaceTurn, WaitsAtPlaces, WasNextIf}
use Rattle.h3_scheduler.specs.Rounds.{after_turn, round_at}
use Rattle.h3_scheduler.specs.Streams.{alike, is_class}
use Rattle.h3_scheduler.specs.ThirdTurnLaws.{set_other, set_same}
use Rattle.h3_scheduler.specs.declared.round.Round.{Round}
use Rattle.h3_scheduler.specs.declared.round.Rounds.{Rounds}
use Rattle.h3_connection.specs.ByPriority.{places_of, sends_at}
use Rattle.h3_connection.specs.EndpointTurns.{bound_in, place_turn, turns_of, urgency_of, EndpointTurn, IsTurn, WaitsForTurn, WasNamedIf}
use Rattle.h3_connection.specs.Order.{rounds_of, turn_over}
use Rattle.h3_connection.specs.Outgoing.{end_waits, part_bytes_waiting}
use Rattle.h3_connection.specs.Sending.{advance, order_after}

-- a stream that sends has one urgency
one_urgency : (t : EndpointTurn) → IsTurn t → (v : ℕ) (kind : Bool) → places_of t.e v kind t.id ≡ true → v ≡ urgency_of t
one_urgency t is v kind passes =
    let sends : sends_at v kind t.stream ≡ true = ap (λ x. unwrap_or (option_map (sends_at v kind) x) false) (sym is.there) ∙ passes in
    let behind = and_parts (nat_lt 0 (length (part_bytes_waiting t.stream)) || end_waits t.stream) (not t.stream.precedence.is_held && is_class (Some t.stream.precedence.priority) v kind) sends in
    let class = and_parts (not t.stream.precedence.is_held) (is_class (Some t.stream.precedence.priority) v kind) behind.1 in
    let level = and_parts (t.stream.precedence.priority.urgency == v) (alike t.stream.precedence.priority.incremental kind) class.1 in
    sym (eqb-true t.stream.precedence.priority.urgency v level.0)

as_next : (b : Bool) (t : EndpointTurn) (waiting : ℕ) → IsTurn t → WasNamedIf b t waiting → WasNextIf b (place_turn t) waiting
as_next false t waiting is named = tt
as_next true t waiting is named = record { next = named.0; one = one_urgency t is; other = named.1 }

-- the rounds once a turn is over
abbrev turned : Rounds → EndpointTurn → Rounds
turned r t = record { rounds = slice_set r.rounds (urgency_of t) (after_turn (round_at r.rounds (urgency_of t)) t.id (bound_in t.e)) }

rounds_then : (t : EndpointTurn) (r : Rounds) → IsTurn t → t.e.order.rounds ≡ Some r → (advance t.e t.id t.count).order.rounds ≡ Some (turned r t)
rounds_then t r is here =
    ap (λ x. (order_after t.e t.id t.count x).rounds) is.there
    ∙ ap (λ b. (if b then t.e.order else record t.e.order { rounds = turn_over t.e.order.rounds t.stream.precedence.priority t.id (bound_in t.e) }).rounds) is.some
    ∙ ap (λ x. turn_over x t.stream.precedence.priority t.id (bound_in t.e)) here

round_then : (u v id bound : ℕ) (rounds : List Round) (t : PlaceTurn) → t.id ≡ id → t.bound ≡ bound → u < length rounds → (b : Bool) → (v == u) ≡ b
    → round_at (slice_set rounds v (after_turn (round_at rounds v) id bound)) u ≡ round_if b (round_at rounds u) t
round_then u v id bound rounds t one other within true level =
    subst (λ n. round_at (slice_set rounds n (after_turn (round_at rounds n) id bound)) u ≡ after_turn (round_at rounds u) t.id t.bound) (sym (eqb-true v u level))
    (set_same rounds u (after_turn (round_at rounds u) id bound) within ∙ ap (λ n. after_turn (round_at rounds u) n bound) (sym one) ∙ ap (after_turn (round_at rounds u) t.id) (sym other))
round_then u v id bound rounds t one other within false apart = set_other rounds v u (after_turn (round_at rounds v) id bound) (λ same. eqb-false v u apart (sym same))

to_places : (u waiting : ℕ) (r : Rounds) (turns : List EndpointTurn) → u < length r.rounds → WaitsForTurn u waiting (Some r) turns → WaitsAtPlaces u waiting (round_at r.rounds u) (map place_turn turns)
to_places u waiting r [] within h = tt
to_places u waiting r (t ∷ turns) within h = (
  ap (λ o. round_at (rounds_of o) u) h.0,
  h.1,
  h.2,
  as_next (urgency_of t == u) t waiting h.3 h.4,
  subst (λ s. WaitsAtPlaces u waiting s (map place_turn turns)) (round_then u (urgency_of t) t.id (bound_in t.e) r.rounds (place_turn t) refl refl within (urgency_of t == u) refl)
      (to_places u waiting (turned r t) turns
      (subst (λ n. u < n) (sym (length-set r.rounds (urgency_of t) (after_turn (round_at r.rounds (urgency_of t)) t.id (bound_in t.e)))) within)
      (subst (λ o. WaitsForTurn u waiting o turns) (rounds_then t r h.3 h.0) h.5)),
)

pub two_turns : (urgency waiting id : ℕ) (r : Rounds) (turns : List EndpointTurn) → urgency < length r.rounds → WaitsForTurn urgency waiting (Some r) turns → turns_of urgency id turns ≤ 2
two_turns urgency waiting id r turns within h = two_at_places urgency waiting id (round_at r.rounds urgency) (map place_turn turns) (to_places urgency waiting r turns within h)
