-- How many streams wait at an end is how many exchanges do; and all that an end shows.
use Rattle.std.proofs.Common.{◌≡◌, ℕ, true, false, ap, ◌∙◌, Bool, [], ◌∷◌, refl, sym, if◌then◌else◌, Some, arith, ◌+◌, ◌-◌, nat_lt, subst, suc, ◌*◌, ◌≤◌, List, zero, ◌<◌}
use Rattle.std.specs.Prelude.{◌==◌, unwrap_or, count_by, slice_get, take, length, ◌&&◌, ◌%◌, is_none}
use Rattle.h3_connection.specs.Incoming.{Incoming}
use Rattle.h3_connection.specs.StreamSets.{Streams, stream_at}
use Rattle.std.proofs.lemmas.List.Sums.{sum_by-cons}
use Rattle.h3_proto.specs.declared.stream.Side.{Side}
use Rattle.h3_world.specs.World.{Exchange, World, party, no_exchange}
use Rattle.h3_field.specs.Instruction.{EncoderInstruction, encoder_bytes}
use Rattle.h3_qpack.specs.WholeInstructions.{whole_in}
use Rattle.h3_connection.specs.Endpoint.{EndpointHistory, first_decoder}
use Rattle.h3_connection.specs.OwnIds.{other}
use Rattle.h3_world.specs.Setup.{IsMadeSetup, Setup, announced_at}
use Rattle.h3_headline.specs.Cited.{StreamLaws}
use Rattle.h3_world.specs.Came.{insertions_came}
use Rattle.h3_proto.specs.StreamIds.{is_request_stream, index_of}
use Rattle.h3_proto.specs.declared.stream.Side.TheVariants.{Client, Server}
use Rattle.h3_world.specs.Shown.{incoming, streams_waiting, limits_shown, sizes_shown}
use Rattle.h3_world.specs.Streams.{flow, is_open}
use Rattle.std.proofs.lemmas.Grind.{common_steps}
use Rattle.std.proofs.Math.Nat.{div-add-mod}
use Rattle.h3_connection.specs.Shown.{waiting_heads, table_sizes}
use Rattle.h3_world.specs.Flow.{Flow}
use Rattle.h3_world.specs.Sound.{IsSoundWorld}
use Rattle.h3_world.specs.declared.event.Event.TheVariants as event
use Rattle.h3_world.specs.declared.event.Answer.TheVariants as answer
use Rattle.h3_world.specs.Ends.{Ends, end_at, answered}
use Rattle.h3_world.specs.Machine.{served}
use Rattle.h3_headline.specs.AcceptedLaws.{counts_all}
use Rattle.h3_headline.specs.Calls.{Serves}
use Rattle.h3_headline.specs.ComingLaws.{incoming_there, is_unseen}
use Rattle.h3_headline.specs.FlowLaws.{same_number}
use Rattle.h3_headline.specs.SendingLaws.{both_of}
use Rattle.h3_headline.specs.ShowLaws.{limits_agree, sizes_agree}
use Rattle.h3_headline.specs.Standing.{Stands, StandsAt}
use Rattle.h3_headline.specs.Steps.{IsThere}
use Rattle.h3_headline.specs.Waiting.{WaitsThere, one_if, waiting_above, waits_in, without}
use Rattle.h3_headline.specs.WaitingAtLaws.{endpoint_waits}

differs : (p id q : ℕ) → (p == id) ≡ true → (id == q) ≡ false → (p == q) ≡ false
differs p id q same off = ap (λ n. n == q) (same_number p id same) ∙ off

without_other : (streams : Streams Incoming) (id q : ℕ) → (id == q) ≡ false → stream_at (without streams id) q ≡ stream_at streams q
without_other [] id q off = refl
without_other ((p, i) ∷ streams) id q off = by_id (p == id) refl (without_other streams id q off)
  where
    by_id : (t : Bool) → (p == id) ≡ t → stream_at (without streams id) q ≡ stream_at streams q
        → stream_at (if t then streams else (p, i) ∷ without streams id) q ≡ (if p == q then Some i else stream_at streams q)
    by_id true same later = sym (ap (λ b. if b then Some i else stream_at streams q) (differs p id q same off))
    by_id false not later = ap (λ o. if p == q then Some i else o) later

one_taken : (n : ℕ) (streams : Streams Incoming) (id : ℕ) (i : Incoming) → stream_at streams id ≡ Some i → nat_lt n i.waits_for ≡ true → waiting_above n streams ≡ 1 + waiting_above n (without streams id)
one_taken n [] id i at waits = cc
one_taken n ((p, x) ∷ streams) id i at waits = by_id (p == id) at (λ later. one_taken n streams id i later waits)
  where
    count : (y : Incoming) (s : Streams Incoming) → waiting_above n ((p, y) ∷ s) ≡ one_if (nat_lt n y.waits_for) + waiting_above n s
    count y s = sum_by-cons (λ z. one_if (nat_lt n z.1.waits_for)) (p, y) s

    by_id : (t : Bool) → (if t then Some x else stream_at streams id) ≡ Some i → (stream_at streams id ≡ Some i → waiting_above n streams ≡ 1 + waiting_above n (without streams id))
        → waiting_above n ((p, x) ∷ streams) ≡ 1 + waiting_above n (if t then streams else (p, x) ∷ without streams id)
    by_id true is later =
        let same : x ≡ i = ap (λ o. unwrap_or o x) is in
        let here : one_if (nat_lt n x.waits_for) ≡ 1 = ap (λ (y : Incoming). one_if (nat_lt n y.waits_for)) same ∙ ap one_if waits in
        omega (arith, count x streams, here)
    by_id false is later = omega (arith, later is, count x streams, count x (without streams id))

at_id : (n : ℕ) (streams : Streams Incoming) (a b : ℕ) → a ≡ b → WaitsThere n streams a → WaitsThere n streams b
at_id n streams a b is h = subst (WaitsThere n streams) is h

-- **No more exchanges wait than streams do.**
all_wait : (n : ℕ) (side : Side) (es : List Exchange) (k : ℕ) (streams : Streams Incoming)
    → ((j : ℕ) (e : Exchange) → slice_get es j ≡ Some e → waits_in n side e ≡ true → WaitsThere n streams (4 * (k + j))) → count_by (waits_in n side) es ≤ waiting_above n streams
all_wait n side [] k streams each = omega arith
all_wait n side (e ∷ es) k streams each = by_first (waits_in n side e) refl (all_wait n side es (k + 1) streams) (all_wait n side es (k + 1) (without streams (4 * (k + 0))))
  where
    count : count_by (waits_in n side) (e ∷ es) ≡ one_if (waits_in n side e) + count_by (waits_in n side) es
    count = sum_by-cons (λ x. one_if (waits_in n side x)) e es

    next : (j : ℕ) → 4 * (k + suc j) ≡ 4 * (k + 1 + j)
    next j = omega arith

    apart : (j : ℕ) → (4 * (k + 0) == 4 * (k + 1 + j)) ≡ false
    apart j = by_test (4 * (k + 0) == 4 * (k + 1 + j)) refl
      where
        by_test : (t : Bool) → (4 * (k + 0) == 4 * (k + 1 + j)) ≡ t → t ≡ false
        by_test true s = absurd (omega (arith, same_number (4 * (k + 0)) (4 * (k + 1 + j)) s))
        by_test false s = refl

    by_first : (b : Bool) → waits_in n side e ≡ b
        → (((j : ℕ) (x : Exchange) → slice_get es j ≡ Some x → waits_in n side x ≡ true → WaitsThere n streams (4 * (k + 1 + j))) → count_by (waits_in n side) es ≤ waiting_above n streams)
        → (((j : ℕ) (x : Exchange) → slice_get es j ≡ Some x → waits_in n side x ≡ true → WaitsThere n (without streams (4 * (k + 0))) (4 * (k + 1 + j)))
        → count_by (waits_in n side) es ≤ waiting_above n (without streams (4 * (k + 0))))
        → count_by (waits_in n side) (e ∷ es) ≤ waiting_above n streams
    by_first false none same less = omega (arith, count, ap one_if none, same (λ j x at waits. at_id n streams (4 * (k + suc j)) (4 * (k + 1 + j)) (next j) (each (suc j) x at waits)))
    by_first true one same less =
        let w = each 0 e refl one in
        omega (
          arith,
          count,
          ap one_if one,
          one_taken n streams (4 * (k + 0)) w.i w.at w.waits,
          less (λ j x at waits.
              let v = at_id n streams (4 * (k + suc j)) (4 * (k + 1 + j)) (next j) (each (suc j) x at waits) in
              record { i = v.i; at = without_other streams (4 * (k + 0)) (4 * (k + 1 + j)) (apart j) ∙ v.at; waits = v.waits }),
        )

both_ways : (a b : ℕ) → a ≤ b → b ≤ a → a ≡ b
both_ways a b h k = omega (arith, h, k)

-- what came of the encoder's insertions is what the decoder counts
pub inserted_is : (setup : Setup) (w : World) (side : Side) (e : EndpointHistory) → StandsAt setup w side e → e.decoding.decoder.table.inserted ≡ insertions_came (party w (other side))
inserted_is setup w side e h =
    let own = (party w (other side)).own in
    (counts_all (first_decoder (announced_at setup side)) e.decoding.decoder (take_front own.encoder_taken own.instructions) h.encoder_stream.decoder).sum
    ∙ from_none (insertions_came (party w (other side)))
  where
    from_none : (n : ℕ) → 0 + n ≡ n
    from_none n = omega arith

    take_front : ℕ → List EncoderInstruction → List EncoderInstruction
    take_front n is = take (whole_in encoder_bytes (n - 1) is) is

received : (w : World) (side : Side) (id : ℕ) (x : Exchange) → is_request_stream id ≡ true → slice_get w.exchanges (index_of id) ≡ Some x → flow w (other side) id ≡ incoming side x
received w Client id x request at =
    ap (λ b. (if b then unwrap_or (slice_get w.exchanges (index_of id)) no_exchange else no_exchange).response) request ∙ ap (λ o. (unwrap_or o no_exchange).response) at
received w Server id x request at =
    ap (λ b. (if b then unwrap_or (slice_get w.exchanges (index_of id)) no_exchange else no_exchange).request) request ∙ ap (λ o. (unwrap_or o no_exchange).request) at

found_within : (es : List Exchange) (n : ℕ) (x : Exchange) → slice_get es n ≡ Some x → n < length es
found_within [] n x e = cc
found_within (y ∷ es) zero x e = omega arith
found_within (y ∷ es) (suc n) x e = omega (arith, found_within es n x e)

none_above : (n m : ℕ) → m ≡ 0 → nat_lt n m ≡ true → ⊥
none_above n m z e = grind (arith, common_steps, z, e)

pub waits_agree : (setup : Setup) (w : World) (side : Side) (e : EndpointHistory) → StandsAt setup w side e → IsSoundWorld setup w → waiting_heads e ≡ streams_waiting w side
waits_agree setup w side e h sound =
    let inserted = inserted_is setup w side e h in
    both_ways (waiting_heads e) (streams_waiting w side) (endpoint_waits setup w side e h inserted)
    (subst (λ n. streams_waiting w side ≤ waiting_above n e.incoming) (sym inserted) (all_wait came side w.exchanges 0 e.incoming back))
  where
    came : ℕ
    came = insertions_came (party w (other side))

    back : (j : ℕ) (x : Exchange) → slice_get w.exchanges j ≡ Some x → waits_in came side x ≡ true → WaitsThere came e.incoming (4 * (0 + j))
    back j x at waits = by_open (is_open w side id) refl
      where
        id : ℕ
        id = 4 * (0 + j)

        place : index_of id ≡ j
        place = omega (arith, div-add-mod (4 * (0 + j)) 4)

        zero_mod : (4 * (0 + j)) % 4 ≡ 0
        zero_mod = omega (arith, div-add-mod (4 * (0 + j)) 4)

        request : is_request_stream id ≡ true
        request = ap (λ m. m == 0) zero_mod

        is : flow w (other side) id ≡ incoming side x
        is = received w side id x request (ap (slice_get w.exchanges) place ∙ at)

        first : (a b : Bool) → (a && b) ≡ true → a ≡ true
        first true b t = refl
        first false b t = cc

        above : nat_lt came (flow w (other side) id).waits_for ≡ true
        above = ap (λ (f : Flow). nat_lt came f.waits_for) is ∙ first (nat_lt came (incoming side x).waits_for) (is_none (incoming side x).fault) waits

        there : IsThere w id
        there = record { request = request; place = subst (λ n. n < length w.exchanges) (sym place) (found_within w.exchanges j x at) }

        by_open : (b : Bool) → is_open w side id ≡ b → WaitsThere came e.incoming id
        by_open true opened =
            let i = incoming_there setup w side id e h opened in
            record { i = i.0; at = i.1; waits = ap (nat_lt came) i.2.waits_for ∙ above }
        by_open false closed = absurd (none_above came (flow w (other side) id).waits_for (sym (is_unseen setup w side id sound there closed).kept.waits_for) above)

-- **What an end shows.**
pub show_served : (laws : StreamLaws) (setup : Setup) (w : World) (ends : Ends) (side : Side) → IsMadeSetup setup → Stands setup w ends → Serves setup (answered ends (event.Show side)) (served setup w (event.Show side))
show_served laws setup w ends side made h =
    let e = end_at ends side in
    let b = both_of setup w side ends h in
    record {
      answer = ap (λ l. answer.Shown l (table_sizes e) (waiting_heads e)) (limits_agree setup w side e b.here)
          ∙ ap (λ s. answer.Shown (limits_shown setup w side) s (waiting_heads e)) (sizes_agree laws setup w side e made h.sound b.here)
          ∙ ap (answer.Shown (limits_shown setup w side) (sizes_shown w side)) (waits_agree setup w side e b.here h.sound);
      both = both_of setup w Client ends h;
      next_id = h.next_id;
    }
