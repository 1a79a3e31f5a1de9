-- No more streams wait at a side than it allows.
use Rattle.std.proofs.Common.{◌≡◌, ◌⊎◌, inl, inr, ℕ, zero, suc, ◌<◌, ◌≤◌, Bool, true, false, List, [], ◌∷◌, refl, sym, arith, nat_lt, ◌&&◌, if◌then◌else◌, unwrap_or, Option, Some, None, ap, subst}
use Rattle.std.specs.List.{AllByRecursion, count_by, sum_by}
use Rattle.std.specs.Prelude.{slice_get, is_none}
use Rattle.std.proofs.lemmas.Grind.{common_steps}
use Rattle.std.proofs.lemmas.List.Sums.{sum_by-cons}
use Rattle.h3_qpack.specs.EncoderHistory.{blocks_out}
use Rattle.h3_qpack.specs.Session.{IsSound}
use Rattle.h3_proto.specs.declared.stream.Side.{Side}
use Rattle.h3_proto.specs.declared.stream.Side.TheVariants.{Client, Server}
use Rattle.h3_world.specs.Setup.{Setup}
use Rattle.h3_connection.specs.OwnIds.{other}
use Rattle.h3_world.specs.Following.{limits_for}
use Rattle.h3_world.specs.Flow.{Flow, Part, Section}
use Rattle.h3_world.specs.Flow.Part.{Interim, Head, Body, Trailer, End}
use Rattle.h3_world.specs.World.{World, Exchange, Party, party}
use Rattle.h3_world.specs.Came.{insertions_came}
use Rattle.h3_world.specs.Order.{next_part}
use Rattle.h3_world.specs.Shown.{incoming, streams_waiting}
use Rattle.h3_world.specs.Step.{IsWithinLimits}
use Rattle.h3_world.specs.Sound.{IsSoundFlow, IsSoundExchange, IsSoundParty, IsSoundWorld, WaitsForNext, counts_in, sections_above}

-- the sections among some parts that need more insertions
abbrev pub above : ℕ → List Part → ℕ
above most parts = count_by (λ count. nat_lt most count) (counts_in parts)

one : (most count : ℕ) → most < count → nat_lt most count ≡ true
one most count h = grind (arith, common_steps, h)

-- a section among them is counted
counted : (most : ℕ) (parts : List Part) (n : ℕ) (s : Section) → most < s.count
    → (slice_get parts n ≡ Some (Interim s)) ⊎ ((slice_get parts n ≡ Some (Head s)) ⊎ (slice_get parts n ≡ Some (Trailer s))) → 1 ≤ above most parts
counted most [] n s h (inl e) = cc
counted most [] n s h (inr (inl e)) = cc
counted most [] n s h (inr (inr e)) = cc
counted most (p ∷ ps) zero s h (inl e) = subst (λ q. 1 ≤ above most (q ∷ ps)) (sym (ap (λ o. unwrap_or o p) e)) (grind (arith, common_steps, one most s.count h))
counted most (p ∷ ps) zero s h (inr (inl e)) = subst (λ q. 1 ≤ above most (q ∷ ps)) (sym (ap (λ o. unwrap_or o p) e)) (grind (arith, common_steps, one most s.count h))
counted most (p ∷ ps) zero s h (inr (inr e)) = subst (λ q. 1 ≤ above most (q ∷ ps)) (sym (ap (λ o. unwrap_or o p) e)) (grind (arith, common_steps, one most s.count h))
counted most (Interim s' ∷ ps) (suc n) s h e = grind (arith, common_steps, counted most ps n s h e)
counted most (Head s' ∷ ps) (suc n) s h e = grind (arith, common_steps, counted most ps n s h e)
counted most (Trailer s' ∷ ps) (suc n) s h e = grind (arith, common_steps, counted most ps n s h e)
counted most (Body bytes own ∷ ps) (suc n) s h e = counted most ps n s h e
counted most (End ∷ ps) (suc n) s h e = counted most ps n s h e

-- where a stream waits for more insertions, one of its sections needs them
waiting_flow : (p : Party) (f : Flow) (most : ℕ) → IsSoundFlow p f → most < f.waits_for → 1 ≤ above most f.sent
waiting_flow p f most sound waits = by_waits sound.waits
  where
    next : (o : Option Part) → next_part f ≡ o → WaitsForNext f o → 1 ≤ above most f.sent
    next None e h = absurd h
    next (Some (Interim s)) e h = counted most f.sent f.parts_out s (omega (arith, h.0, waits)) (inl e)
    next (Some (Head s)) e h = counted most f.sent f.parts_out s (omega (arith, h.0, waits)) (inr (inl e))
    next (Some (Trailer s)) e h = counted most f.sent f.parts_out s (omega (arith, h.0, waits)) (inr (inr e))
    next (Some (Body bytes own)) e h = absurd h
    next (Some End) e h = absurd h

    by_waits : (f.waits_for ≡ 0) ⊎ WaitsForNext f (next_part f) → 1 ≤ above most f.sent
    by_waits (inl h) = absurd (omega (arith, h, waits))
    by_waits (inr h) = next (next_part f) refl h

one_waits : (p : Party) (f : Flow) (most : ℕ) (a b : Bool) → IsSoundFlow p f → nat_lt most f.waits_for ≡ a → (if a && b then 1 else 0) ≤ above most f.sent
one_waits p f most true true sound e = waiting_flow p f most sound (grind (arith, common_steps, e))
one_waits p f most true false sound e = omega arith
one_waits p f most false b sound e = omega arith

waits_in : (w : World) (side : Side) (most : ℕ) (e : Exchange) → IsSoundExchange w e
    → (if nat_lt most (incoming side e).waits_for && is_none (incoming side e).fault then 1 else 0) ≤ sections_above (other side) most e
waits_in w Client most e h = one_waits w.server e.response most _ _ h.response refl
waits_in w Server most e h = one_waits w.client e.request most _ _ h.request refl

all_waiting : (w : World) (side : Side) (most : ℕ) (es : List Exchange) → AllByRecursion (IsSoundExchange w) es
    → count_by (λ e. nat_lt most (incoming side e).waits_for && is_none (incoming side e).fault) es ≤ sum_by (sections_above (other side) most) es
all_waiting w side most [] h = omega arith
all_waiting w side most (e ∷ es) h =
    omega (
      arith,
      waits_in w side most e h.0,
      all_waiting w side most es h.1,
      sum_by-cons (sections_above (other side) most) e es,
      sum_by-cons (λ x. if nat_lt most (incoming side x).waits_for && is_none (incoming side x).fault then 1 else 0) e es,
    )

fewer_above : (few many : ℕ) (counts : List ℕ) → few ≤ many → count_by (λ count. nat_lt many count) counts ≤ count_by (λ count. nat_lt few count) counts
fewer_above few many [] h = omega arith
fewer_above few many (c ∷ cs) h = grind (arith, common_steps, h, fewer_above few many cs h)

-- at a side no more streams wait than the other side's session lets wait
waiting_at : (setup : Setup) (w : World) (side : Side) → AllByRecursion (IsSoundExchange w) w.exchanges → (sends : IsSoundParty setup w (other side)) → IsSound sends.session.session
    → streams_waiting w side ≤ (limits_for setup (other side)).blocked
waiting_at setup w side each sends sound =
    let p = party w (other side) in
    let s = sends.session.session in
    let follows = sends.session.follows in
    let out : blocks_out p.encoder ≤ p.encoder.limit = subst (λ x. blocks_out x ≤ x.limit) follows.encoder sound.within_limit in
    let known : p.encoder.known_received ≡ s.encoder.known_received = sym (ap (λ x. x.known_received) follows.encoder) in
    let read : p.encoder.known_received ≤ insertions_came p = omega (arith, known, sound.accounted, follows.received) in
    omega (
      arith,
      out,
      sends.writer.limit,
      sends.counts (insertions_came p),
      all_waiting w side (insertions_came p) w.exchanges each,
      fewer_above p.encoder.known_received (insertions_came p) p.encoder.required_insert_counts read,
    )

pub within_limits : (setup : Setup) (w : World) (sound : IsSoundWorld setup w) → IsSound sound.server.session.session → IsSound sound.client.session.session → IsWithinLimits setup w
within_limits setup w sound server client =
    record { client = waiting_at setup w Client sound.exchanges sound.server server; server = waiting_at setup w Server sound.exchanges sound.client client }
