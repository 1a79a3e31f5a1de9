-- A pull of an open request stream: both endpoints answer as the world allows, the pause is exact, and both stand in the world after it.
use Rattle.std.proofs.Common.{◌≡◌, ap, subst, Option, Some, ℕ, Bool, true, false, refl, nat_lt, if◌then◌else◌, None, List, sym, ◌∙◌, [], arith, ◌%◌, ◌+◌, length, ◌≤◌}
use Rattle.std.specs.Prelude.{unwrap_or, ◌==◌, not, MatchOption}
use Rattle.h3_connection.specs.declared.event.Pull.{Pull}
use Rattle.h3_world.specs.Pauses.{pause_of, section_pause, pause_before, paused}
use Rattle.h3_connection.specs.declared.event.Pull.TheVariants as pull
use Rattle.h3_world.specs.Flow.{Flow, Section, Part}
use Rattle.h3_world.specs.Flow.Part.{Interim, Head, Body, Trailer, End}
use Rattle.h3_field.specs.Instruction.{DecoderInstruction}
use Rattle.h3_proto.specs.declared.stream.Side.{Side}
use Rattle.h3_connection.specs.OwnIds.{other, control_id}
use Rattle.h3_world.specs.World.{World, party, with_party}
use Rattle.h3_world.specs.Streams.{flow, with_flow, is_open}
use Rattle.h3_proto.specs.declared.stream.Side.TheVariants.{Client, Server}
use Rattle.h3_connection.specs.Endpoint.{Own, EndpointHistory, replied, heads_waiting, kind_of}
use Rattle.std.proofs.lemmas.Grind.{common_steps}
use Rattle.h3_proto.specs.StreamIds.{is_request_stream}
use Rattle.h3_connection.specs.declared.event.Item.{Item}
use Rattle.h3_connection.specs.declared.event.Item.TheVariants as item
use Rattle.h3_world.specs.Order.{is_over, outgoing_of, next_part}
use Rattle.h3_world.specs.Pulling.{settled, pull_unidirectional, pull_unopened, fault_or, PullsNext, Pulls, PausesExactly}
use Rattle.h3_world.specs.Items.{after_item, acknowledgment_of, handed_out}
use Rattle.h3_connection.specs.Announcing.{section_of}
use Rattle.h3_connection.specs.Delivering.{with_incoming}
use Rattle.h3_connection.specs.Keeping.{pulls, pulls_behind}
use Rattle.h3_connection.specs.Pulling.{Pulled, pull_stream}
use Rattle.h3_connection.specs.Sending.{pull_at, pull_unless, pull_request, pulled, if_too_many, after_answer}
use Rattle.h3_connection.specs.StreamSets.{set_stream}
use Rattle.h3_world.specs.Setup.{Setup, announced_at, IsPlain}
use Rattle.h3_world.specs.Came.{insertions_came}
use Rattle.h3_world.specs.Machine.{count_waited_for}
use Rattle.h3_world.specs.Sound.{IsSoundWorld}
use Rattle.std.proofs.lemmas.Bool.{le-ltb}
use Rattle.h3_world.specs.Shown.{streams_waiting}
use Rattle.h3_headline.specs.Arriving.{Receives, owning, saying}
use Rattle.h3_headline.specs.Cited.{ListsAreTheirValue}
use Rattle.h3_headline.specs.ComingLaws.{incoming_there, kind_is, saying_nothing, sound_flow}
use Rattle.h3_headline.specs.DeliverLaws.{sends_same}
use Rattle.h3_headline.specs.FlowLaws.{flow-with_flow, flow-with_party, flow-with_peer, is_open-own, is_open-peer_kept, is_open-with_party, open_there, party-with_flow, party-with_other, party-with_party, same_number, there-with_party}
use Rattle.h3_headline.specs.MovesLaws.{receiver_stands, sender_stands}
use Rattle.h3_headline.specs.PulledStreamLaws.{stream_comes}
use Rattle.h3_headline.specs.Pulling.{ComesTo, DecodesNext, HandsOut, IsReadableNext, Pauses}
use Rattle.h3_headline.specs.Pulls.{PullStands, with_owner}
use Rattle.h3_headline.specs.Standing.{HasDecoderStreamOf, ReceivesFlow, StandsAt}
use Rattle.h3_headline.specs.WaitingAtLaws.{endpoint_waits}

told : (q given : Pull) → ◌≡◌ {A = Option Pull} (Some q) (Some given) → pause_of q ≡ Some q → pause_of given ≡ Some given
told q given e at = subst (λ x. pause_of x ≡ Some x) (ap (λ o. unwrap_or o q) e) at

section_told : (f : Flow) (came : ℕ) (s : Section) (q : Pull) → section_pause f came s ≡ Some q → pause_of q ≡ Some q
section_told f came s q e = by_tests (nat_lt f.delivered s.own_length) (nat_lt came s.count) e
  where
    by_tests : (a b : Bool) → ◌≡◌ {A = Option Pull} (if a then Some pull.Pending else (if b then Some (pull.Waiting s.count) else None)) (Some q) → pause_of q ≡ Some q
    by_tests true b e = told pull.Pending q e refl
    by_tests false true e = told (pull.Waiting s.count) q e refl
    by_tests false false e = cc

-- what a reader waits for is told
pauses_told : (f : Flow) (came : ℕ) (part : Option Part) (q : Pull) → pause_before f came part ≡ Some q → pause_of q ≡ Some q
pauses_told f came None q e = told pull.Pending q e refl
pauses_told f came (Some (Interim s)) q e = section_told f came s q e
pauses_told f came (Some (Head s)) q e = section_told f came s q e
pauses_told f came (Some (Trailer s)) q e = section_told f came s q e
pauses_told f came (Some (Body bytes own)) q e = by_test _ e
  where
    by_test : (b : Bool) → ◌≡◌ {A = Option Pull} (if b then Some pull.Pending else None) (Some q) → pause_of q ≡ Some q
    by_test true e = told pull.Pending q e refl
    by_test false e = cc
pauses_told f came (Some End) q e = by_test f.ended e
  where
    by_test : (b : Bool) → ◌≡◌ {A = Option Pull} (if b then None else Some pull.Pending) (Some q) → pause_of q ≡ Some q
    by_test true e = cc
    by_test false e = told pull.Pending q e refl

-- The worlds of a pull of an open stream.
pub pulled_receives : (w : World) (side : Side) (id : ℕ) (more : List DecoderInstruction) (g : Flow) → is_open w side id ≡ true → g.seen ≡ (flow w (other side) id).seen
    → Receives w (with_flow (with_party w side (owning (party w side) (saying (party w side).own more))) (other side) id g) side id more g
pulled_receives w side id more g there seen =
    let p = owning (party w side) (saying (party w side).own more) in
    let v = with_party w side p in
    let is = open_there w side id there in
    let in_v = there-with_party w side p id is in
    record {
      here = party-with_flow v (other side) side id g ∙ party-with_party w side p;
      there = party-with_flow v (other side) (other side) id g ∙ party-with_other w side p;
      to_it = λ i. flow-with_flow v (other side) id i g in_v ∙ ap (λ o. if id == i then g else o) (flow-with_party w side (other side) p i);
      from_it = λ i. flow-with_peer v side id i g in_v ∙ flow-with_party w side side p i;
      open_here = λ i. is_open-peer_kept v side id i g in_v (seen ∙ sym (ap (λ o. o.seen) (flow-with_party w side (other side) p id))) ∙ is_open-with_party w side side p i ∙ sym (stays i);
      open_there = λ i. is_open-own v (other side) id i g in_v ∙ is_open-with_party w side (other side) p i;
    }
  where
    by_id : (i : ℕ) (t : Bool) → (id == i) ≡ t → (if t then true else is_open w side i) ≡ is_open w side i
    by_id i true e = sym (ap (is_open w side) (sym (same_number id i e)) ∙ there)
    by_id i false e = refl

    stays : (i : ℕ) → (if id == i then true else is_open w side i) ≡ is_open w side i
    stays i = by_id i (id == i) refl

same_party : (w : World) (side : Side) → with_party w side (party w side) ≡ w
same_party w Client = refl
same_party w Server = refl

-- a pause says nothing
pub paused_receives : (w : World) (side : Side) (id count : ℕ) → is_open w side id ≡ true
    → Receives w (paused w side id count) side id [] (record (flow w (other side) id) { waits_for = count })
paused_receives w side id count there =
    let g : Flow = record (flow w (other side) id) { waits_for = count } in
    let nothing : owning (party w side) (saying (party w side).own []) ≡ party w side = ap (λ (o : Own). owning (party w side) o) (saying_nothing (party w side).own) in
    subst (λ (v : World). Receives w v side id [] g) (ap (with_owner w side id g) nothing ∙ ap (λ v. with_flow v (other side) id g) (same_party w side)) (pulled_receives w side id [] g there refl)

not_own : (side : Side) (id : ℕ) → is_request_stream id ≡ true → (id % 4 == control_id (other side)) ≡ false
not_own Client id e = grind (arith, common_steps, e)
not_own Server id e = grind (arith, common_steps, e)

pub none_settled : (w : World) (side : Side) (id : ℕ) → is_open w side id ≡ true → (flow w (other side) id).fault ≡ None → is_over (flow w (other side) id) ≡ false → settled w side id ≡ None
none_settled w side id there alive more =
    let f = flow w (other side) id in
    let request = (open_there w side id there).request in
    ap (λ b. if b then Some (pull_unidirectional w (other side) id) else (if not (is_request_stream id) then Some pull.NoMessages else (if not (is_open w side id) then Some (pull_unopened side) else fault_or f.fault (if is_over f then Some (pull.Item item.End) else None)))) (not_own side id request)
    ∙ ap (λ b. if not b then Some pull.NoMessages else (if not (is_open w side id) then Some (pull_unopened side) else fault_or f.fault (if is_over f then Some (pull.Item item.End) else None))) request
    ∙ ap (λ b. if not b then Some (pull_unopened side) else fault_or f.fault (if is_over f then Some (pull.Item item.End) else None)) there
    ∙ ap (λ o. fault_or o (if is_over f then Some (pull.Item item.End) else None)) alive
    ∙ ap (λ b. if b then Some (pull.Item item.End) else None) more

-- the changes of a flow by an item leave what its sender has of it, what its receiver has seen and what was sent
pub item_leaves : (f : Flow) (part : Option Part) (i : Item) → (outgoing_of (after_item f part i) ≡ outgoing_of f) × ((after_item f part i).seen ≡ f.seen) × ((after_item f part i).sent ≡ f.sent)
item_leaves f None i = (refl, refl, refl)
item_leaves f (Some (Interim s)) i = (refl, refl, refl)
item_leaves f (Some (Head s)) i = (refl, refl, refl)
item_leaves f (Some (Trailer s)) i = (refl, refl, refl)
item_leaves f (Some End) i = (refl, refl, refl)
item_leaves f (Some (Body bytes own)) (item.Body piece) = by_size (f.body_out + length piece == length bytes)
  where
    by_size : (b : Bool) → (outgoing_of (if b then record f { parts_out = f.parts_out + 1; body_out = 0; waits_for = 0 } else record f { body_out = f.body_out + length piece; waits_for = 0 }) ≡ outgoing_of f)
        × ((if b then record f { parts_out = f.parts_out + 1; body_out = 0; waits_for = 0 } else record f { body_out = f.body_out + length piece; waits_for = 0 }).seen ≡ f.seen)
        × ((if b then record f { parts_out = f.parts_out + 1; body_out = 0; waits_for = 0 } else record f { body_out = f.body_out + length piece; waits_for = 0 }).sent ≡ f.sent)
    by_size true = (refl, refl, refl)
    by_size false = (refl, refl, refl)
item_leaves f (Some (Body bytes own)) _ = (refl, refl, refl)

-- **The pull of an open stream that was not given up and is not over,** at a side that judges plainly. The premises from the session of QPACK: what the decoder makes
-- of the next section, how many insertions it read, and that no more streams wait than allowed.
pub pull_stands : (lists : ListsAreTheirValue) (setup : Setup) (w : World) (side : Side) (id : ℕ) (er ew : EndpointHistory) → IsPlain (announced_at setup side) → StandsAt setup w side er → StandsAt setup w (other side) ew → IsSoundWorld setup w
    → is_open w side id ≡ true → (flow w (other side) id).fault ≡ None → is_over (flow w (other side) id) ≡ false
    → er.decoding.decoder.table.inserted ≡ insertions_came (party w (other side))
    → DecodesNext lists side (announced_at setup side) id er.decoding.decoder (insertions_came (party w (other side))) (next_part (flow w (other side) id))
    → IsReadableNext lists side (announced_at setup side) id er.decoding.decoder (insertions_came (party w (other side))) (next_part (flow w (other side) id))
    → ((more : List DecoderInstruction) → HasDecoderStreamOf setup (other side) (saying (party w side).own more) ew)
    → ((a : Pull) (new : World) → Pulls setup w side id a new → PausesExactly w side id a → streams_waiting new side ≤ er.announced.limits.blocked)
    → PullStands setup w side id er ew
pull_stands lists setup w side id er ew plain hr hw sound there alive more inserted decodes readable heard limits =
    let f = flow w (other side) id in
    let came = insertions_came (party w (other side)) in
    let i = incoming_there setup w side id er hr there in
    let p = pull_stream side (announced_at setup side) id er.decoding.decoder i.0 in
    let is = open_there w side id there in
    let same : pull_stream er.side er.announced id er.decoding.decoder i.0 ≡ p =
    ap (λ s. pull_stream s er.announced id er.decoding.decoder i.0) hr.side_is ∙ ap (λ a. pull_stream side a id er.decoding.decoder i.0) hr.announced in
    let called : nat_lt er.announced.limits.blocked (heads_waiting er.decoding.decoder (set_stream er.incoming id p.incoming)) ≡ false → pulls er id ≡ pulled er id p =
    λ few. ap (λ k. pulls_behind k er id) hr.nothing_kept ∙ ap (λ c. pull_unless c er (pull_at er id (kind_of er.side id))) hr.no_fault
    ∙ ap (pull_at er id) (kind_is er.side id is.request) ∙ ap (pull_request er id) i.1
    ∙ ap (λ q. pulled er id (if_too_many (nat_lt er.announced.limits.blocked (heads_waiting er.decoding.decoder (set_stream er.incoming id q.incoming))) q)) same
    ∙ ap (λ b. pulled er id (if_too_many b p)) few in
    by_answer p called (stream_comes lists side (announced_at setup side) id er.decoding.decoder came plain (party w (other side)) f i.0 (sound_flow setup w (other side) id sound is) i.2 alive more inserted decodes readable)
  where
    fits : (q : Pull) (new : World) (after : EndpointHistory) → StandsAt setup new side after → after.decoding ≡ er.decoding → party new (other side) ≡ party w (other side) → Pulls setup w side id q new → PausesExactly w side id q
        → nat_lt er.announced.limits.blocked (heads_waiting er.decoding.decoder after.incoming) ≡ false
    fits q new after h same party_same step exact =
        let came : after.decoding.decoder.table.inserted ≡ insertions_came (party new (other side)) = ap (λ d. d.decoder.table.inserted) same ∙ inserted ∙ sym (ap insertions_came party_same) in
        let waits = subst (λ d. heads_waiting d.decoder after.incoming ≤ streams_waiting new side) same (endpoint_waits setup new side after h came) in
        le-ltb er.announced.limits.blocked (heads_waiting er.decoding.decoder after.incoming) (omega (arith, waits, limits q new step exact))

    by_answer : (p : Pulled) → (nat_lt er.announced.limits.blocked (heads_waiting er.decoding.decoder (set_stream er.incoming id p.incoming)) ≡ false → pulls er id ≡ pulled er id p)
        → ComesTo (section_of (announced_at setup side)) id (flow w (other side) id) (insertions_came (party w (other side))) (next_part (flow w (other side) id)) p → PullStands setup w side id er ew
    by_answer p called (HandsOut i pause come answer replies keeps) =
        let f = flow w (other side) id in
        let ack = acknowledgment_of id (next_part f) in
        let g = after_item f (next_part f) i in
        let r = pulled_receives w side id ack g there (item_leaves f (next_part f) i).1 in
        let new = handed_out w side id i in
        let after = replied (with_incoming er id p.incoming) ack in
        let step : Pulls setup w side id (pull.Item i) new = subst (λ o. MatchOption o (PullsNext setup w side id (pull.Item i) new) (λ a. (pull.Item i ≡ a) × (new ≡ w))) (sym (none_settled w side id there alive more)) (come, refl) in
        let exact : PausesExactly w side id (pull.Item i) = subst (λ o. MatchOption o (pause_of (pull.Item i) ≡ pause_before f (insertions_came (party w (other side))) (next_part f)) (λ a. Unit {0})) (sym (none_settled w side id there alive more)) (sym pause) in
        let reader = receiver_stands setup w new side id ack g er after p.incoming hr r there keeps refl in
        record {
          answer = pull.Item i;
          after = after;
          new = new;
          pulled_is = called (fits (pull.Item i) new after reader refl r.there step exact) ∙ ap (λ a. after_answer a (replied (with_incoming er id p.incoming) p.replies)) answer ∙ ap (λ l. (pull.Item i, replied (with_incoming er id p.incoming) l)) replies;
          step = step;
          exact = exact;
          reader = reader;
          writer = sender_stands setup w new side id ack g ew ew ew.outgoing hw r refl (heard ack) (sends_same setup w (other side) id g ew hw (item_leaves f (next_part f) i).0);
        }
    by_answer p called (Pauses q pause answer replies keeps) = by_pull q pause (λ few. called few ∙ ap (λ a. after_answer a (replied (with_incoming er id p.incoming) p.replies)) answer ∙ ap (λ l. after_answer q (replied (with_incoming er id p.incoming) l)) replies) keeps
        (pauses_told (flow w (other side) id) (insertions_came (party w (other side))) (next_part (flow w (other side) id)) q pause)
      where
        waits : (q : Pull) (count : ℕ) → pause_before (flow w (other side) id) (insertions_came (party w (other side))) (next_part (flow w (other side) id)) ≡ Some q
            → (nat_lt er.announced.limits.blocked (heads_waiting er.decoding.decoder (set_stream er.incoming id p.incoming)) ≡ false → pulls er id ≡ (q, replied (with_incoming er id p.incoming) [])) → ReceivesFlow (record (flow w (other side) id) { waits_for = count }) p.incoming → pause_of q ≡ Some q
            → PullsNext setup w side id q (paused w side id count) → PullStands setup w side id er ew
        waits q count pause is keeps told next =
            let f = flow w (other side) id in
            let g : Flow = record f { waits_for = count } in
            let new = paused w side id count in
            let r = paused_receives w side id count there in
            let after = replied (with_incoming er id p.incoming) [] in
            let step : Pulls setup w side id q new = subst (λ o. MatchOption o (PullsNext setup w side id q new) (λ a. (q ≡ a) × (new ≡ w))) (sym (none_settled w side id there alive more)) next in
            let exact : PausesExactly w side id q = subst (λ o. MatchOption o (pause_of q ≡ pause_before f (insertions_came (party w (other side))) (next_part f)) (λ a. Unit {0})) (sym (none_settled w side id there alive more)) (told ∙ sym pause) in
            let reader = receiver_stands setup w new side id [] g er after p.incoming hr r there keeps refl in
            record {
              answer = q;
              after = after;
              new = new;
              pulled_is = is (fits q new after reader refl r.there step exact);
              step = step;
              exact = exact;
              reader = reader;
              writer = sender_stands setup w new side id [] g ew ew ew.outgoing hw r refl (heard []) (sends_same setup w (other side) id g ew hw refl);
            }

        by_pull : (q : Pull) → pause_before (flow w (other side) id) (insertions_came (party w (other side))) (next_part (flow w (other side) id)) ≡ Some q
            → (nat_lt er.announced.limits.blocked (heads_waiting er.decoding.decoder (set_stream er.incoming id p.incoming)) ≡ false → pulls er id ≡ after_answer q (replied (with_incoming er id p.incoming) [])) → ReceivesFlow (record (flow w (other side) id) { waits_for = count_waited_for q }) p.incoming → pause_of q ≡ Some q
            → PullStands setup w side id er ew
        by_pull pull.Pending pause is keeps told = waits pull.Pending 0 pause is keeps told refl
        by_pull (pull.Waiting count) pause is keeps told = waits (pull.Waiting count) count pause is keeps told refl
        by_pull (pull.Item i) pause is keeps told = cc
        by_pull (pull.Fault fault) pause is keeps told = cc
        by_pull pull.NoMessages pause is keeps told = cc
