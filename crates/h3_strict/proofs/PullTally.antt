-- **A pull of a strict end leaves that both ends count alike.**
use Rattle.std.proofs.Common.{◌≡◌, inl, ℕ, ◌%◌, Bool, true, false, ◌++◌, refl, sym, ap, ◌∙◌, subst, Option, Some, None, arith, nat_lt, if◌then◌else◌}
use Rattle.std.specs.Prelude.{◌==◌, ◌&&◌, not, unwrap_or, option_map, MatchOption}
use Rattle.std.proofs.lemmas.Grind.{common_steps}
use Rattle.h3_messages.specs.Content.{awaited_by}
use Rattle.h3_messages.specs.OwnMessages.{IsSentOf}
use Rattle.h3_messages.specs.declared.content.Content.{Content}
use Rattle.h3_proto.specs.StreamIds.{is_request_stream}
use Rattle.h3_proto.specs.declared.stream.Side.{Side}
use Rattle.h3_proto.specs.declared.stream.Side.TheVariants.{Client, Server}
use Rattle.h3_connection.specs.Announcing.{section_of}
use Rattle.h3_connection.specs.Delivering.{incoming_at, with_incoming}
use Rattle.h3_connection.specs.Endpoint.{EndpointHistory, heads_waiting, kind_of, replied}
use Rattle.h3_connection.specs.Incoming.{Incoming, nothing_came}
use Rattle.h3_connection.specs.Keeping.{pulls}
use Rattle.h3_connection.specs.Outgoing.{Outgoing, nothing_sent}
use Rattle.h3_connection.specs.OwnIds.{control_id, other}
use Rattle.h3_connection.specs.Pulling.{Pulled, pull_stream}
use Rattle.h3_connection.specs.Sending.{if_too_many, outgoing_at, pull_at, pull_request, pulled}
use Rattle.h3_connection.specs.StreamSetLaws.{set-here}
use Rattle.h3_connection.specs.StreamSets.{Streams, set_stream, stream_at}
use Rattle.h3_connection.specs.declared.event.Fault.TheVariants.{Stream}
use Rattle.h3_connection.specs.declared.event.Item.{Item}
use Rattle.h3_connection.specs.declared.event.Item.TheVariants as item
use Rattle.h3_connection.specs.declared.event.Pull.{Pull}
use Rattle.h3_connection.specs.declared.event.Pull.TheVariants as pull
use Rattle.h3_connection.specs.declared.event.StreamFault.{StreamFault}
use Rattle.h3_world.specs.Ends.{Ends, end_at, with_end}
use Rattle.h3_world.specs.Flow.{Flow, Part, Section}
use Rattle.h3_world.specs.Flow.Part.{Head as HeadPart}
use Rattle.h3_world.specs.Headline.{is_connection_fault}
use Rattle.h3_world.specs.Items.{HasCome, acknowledgment_of, after_item}
use Rattle.h3_world.specs.Order.{is_over, next_part}
use Rattle.h3_world.specs.Pauses.{paused}
use Rattle.h3_world.specs.Pulling.{Pulls, PullsNext, fault_or, pull_unidirectional, pull_unopened, settled}
use Rattle.h3_world.specs.Setup.{IsMadeSetup, Setup, announced_at}
use Rattle.h3_world.specs.Streams.{flow, is_open}
use Rattle.h3_world.specs.World.{Party, World, party, with_party}
use Rattle.h3_world.specs.declared.event.Answer.TheVariants as answer
use Rattle.h3_headline.specs.Cited.{Laws}
use Rattle.h3_headline.specs.ComingLaws.{incoming_none, incoming_there, kind_is, sound_flow}
use Rattle.h3_headline.specs.Contents.{KeepsParts}
use Rattle.h3_headline.specs.FlowLaws.{flow-with_party, open_there, same_number, there-with_party}
use Rattle.h3_headline.specs.KeepsPartsLaws.{flow_at, keeps_same, same_flow}
use Rattle.h3_headline.specs.Messages.{is_on}
use Rattle.h3_headline.specs.PullLaws.{item_leaves, none_settled}
use Rattle.h3_headline.specs.Standing.{ReceivesFlow, Stands, StandsAt}
use Rattle.h3_headline.specs.Steps.{IsThere}
use Rattle.h3_strict.proofs.KeepsCounts.{KeepsBut, SameCounts, SendsSame, no_stream, not_itself, same_counts, sends_same}
use Rattle.h3_strict.proofs.PlainStreams.{at_each}
use Rattle.h3_strict.proofs.PullEvents.{Receiving, counts_on, given_up_again, many_keeps, other_streams, over_again, pulls_is, receiving, tallied}
use Rattle.h3_strict.proofs.PulledTallies.{answer_is, answer_streams, head_asks, head_part_of, item_fault, pulled_in, pulled_keeps, pulled_out, response_stays}
use Rattle.h3_strict.proofs.QuietEvents.{keeps_one, only_at}
use Rattle.h3_strict.proofs.SentTallies.{stands_at}
use Rattle.h3_strict.proofs.TallySteps.{flow_keeps, quiet_tallies}
use Rattle.h3_strict.specs.PlainEnds.{plain_ends, plain_setup}
use Rattle.h3_strict.specs.Plainly.{plain_incoming, plainly}
use Rattle.h3_strict.specs.ServerKnows.{hands_head, is_server}
use Rattle.h3_strict.specs.StrictPull.{CountsFlow, PullsOn, flow_after, response_after, response_of_part}
use Rattle.h3_strict.specs.Tallies.{IsFine, JudgesStrictly, KnowsResponse, Tallies, TalliesFlow, awaited_of, has_head}
use Rattle.h3_strict.specs.Unbroken.{AreUnbroken, content_along}

-- A stream that is not open has a settled answer, which is no head.
record IsSettled (w : World) (side : Side) (id : ℕ) : Type 0 where
  answer : Pull
  is : settled w side id ≡ Some answer
  no_head : hands_head answer ≡ false

unidirectional_none : (came : ℕ) → hands_head (if came == 0 then pull.Pending else pull.NoMessages) ≡ false
unidirectional_none came = by_test (came == 0)
  where
    by_test : (b : Bool) → hands_head (if b then pull.Pending else pull.NoMessages) ≡ false
    by_test true = refl
    by_test false = refl

unopened_none : (side : Side) → hands_head (pull_unopened side) ≡ false
unopened_none Client = refl
unopened_none Server = refl

closed_settled : (w : World) (side : Side) (id : ℕ) → is_open w side id ≡ false → IsSettled w side id
closed_settled w side id closed = by_tests (id % 4 == control_id (other side)) refl (is_request_stream id) refl
  where
    rest : Option Pull
    rest = fault_or (flow w (other side) id).fault (if is_over (flow w (other side) id) then Some (pull.Item item.End) else None)

    by_tests : (a : Bool) → (id % 4 == control_id (other side)) ≡ a → (b : Bool) → is_request_stream id ≡ b → IsSettled w side id
    by_tests true e b k = record {
      answer = pull_unidirectional w (other side) id;
      is = ap (λ x. if x then Some (pull_unidirectional w (other side) id) else (if not (is_request_stream id) then Some pull.NoMessages else (if not (is_open w side id) then Some (pull_unopened side) else rest))) e;
      no_head = unidirectional_none _;
    }
    by_tests false e false k = record {
      answer = pull.NoMessages;
      is = ap (λ x. if x then Some (pull_unidirectional w (other side) id) else (if not (is_request_stream id) then Some pull.NoMessages else (if not (is_open w side id) then Some (pull_unopened side) else rest))) e
          ∙ ap (λ x. if not x then Some pull.NoMessages else (if not (is_open w side id) then Some (pull_unopened side) else rest)) k;
      no_head = refl;
    }
    by_tests false e true k = record {
      answer = pull_unopened side;
      is = ap (λ x. if x then Some (pull_unidirectional w (other side) id) else (if not (is_request_stream id) then Some pull.NoMessages else (if not (is_open w side id) then Some (pull_unopened side) else rest))) e
          ∙ ap (λ x. if not x then Some pull.NoMessages else (if not (is_open w side id) then Some (pull_unopened side) else rest)) k
          ∙ ap (λ x. if not x then Some (pull_unopened side) else rest) closed;
      no_head = unopened_none side;
    }

-- and so has one that was given up or is over
open_settled : (w : World) (side : Side) (id : ℕ) → is_open w side id ≡ true → settled w side id ≡ fault_or (flow w (other side) id).fault (if is_over (flow w (other side) id) then Some (pull.Item item.End) else None)
open_settled w side id opened =
    let rest = fault_or (flow w (other side) id).fault (if is_over (flow w (other side) id) then Some (pull.Item item.End) else None) in
    let request = (open_there w side id opened).request in
    ap (λ x. if x then Some (pull_unidirectional w (other side) id) else (if not (is_request_stream id) then Some pull.NoMessages else (if not (is_open w side id) then Some (pull_unopened side) else rest))) (not_own side id request)
    ∙ ap (λ x. if not x then Some pull.NoMessages else (if not (is_open w side id) then Some (pull_unopened side) else rest)) request
    ∙ ap (λ x. if not x then Some (pull_unopened side) else rest) opened
  where
    not_own : (side : Side) (id : ℕ) → is_request_stream id ≡ true → (id % 4 == control_id (other side)) ≡ false
    not_own Client id e = grind (arith, common_steps, e)
    not_own Server id e = grind (arith, common_steps, e)

settled_pulls : (setup : Setup) (w : World) (side : Side) (id : ℕ) (q x : Pull) (v : World) → settled w side id ≡ Some x → Pulls setup w side id q v → (q ≡ x) × (v ≡ w)
settled_pulls setup w side id q x v is step = subst (λ o. MatchOption o (PullsNext setup w side id q v) (λ a. (q ≡ a) × (v ≡ w))) is step

knows_as_before : (b c d k : Bool) → d ≡ false → (if b && c && d then true else k) ≡ true → k ≡ true
knows_as_before true true d k off is = ap (λ x. if x then true else k) (sym off) ∙ is
knows_as_before true false d k off is = is
knows_as_before false c d k off is = is

receives_of : (setup : Setup) (w : World) (side : Side) (id : ℕ) (e : EndpointHistory) (i : Incoming) → StandsAt (plain_setup setup) w side (plainly e) → stream_at e.incoming id ≡ Some i → ReceivesFlow (flow w (other side) id) (plain_incoming i)
receives_of setup w side id e i h is = by_open (is_open w side id) refl
  where
    plain_is : stream_at (plainly e).incoming id ≡ Some (plain_incoming i)
    plain_is = at_each plain_incoming e.incoming id ∙ ap (option_map plain_incoming) is

    by_open : (b : Bool) → is_open w side id ≡ b → ReceivesFlow (flow w (other side) id) (plain_incoming i)
    by_open false k = absurd (let never : None ≡ Some (plain_incoming i) = sym (incoming_none (plain_setup setup) w side id (plainly e) h k) ∙ plain_is in cc)
    by_open true k =
        let there = incoming_there (plain_setup setup) w side id (plainly e) h k in
        subst (ReceivesFlow (flow w (other side) id)) (ap (λ o. unwrap_or o nothing_came) (sym there.1 ∙ plain_is)) there.2

end_of : (ends : Ends) (side : Side) (e : EndpointHistory) → end_at (with_end ends side e) side ≡ e
end_of ends Client e = refl
end_of ends Server e = refl

-- both ends of the other flows
others_same : (ends : Ends) (side : Side) (e : EndpointHistory) (id : ℕ) → e.outgoing ≡ (end_at ends side).outgoing → ((j : ℕ) → (id == j) ≡ false → SameCounts (incoming_at (end_at ends side) j) (incoming_at e j))
    → (writer : Side) (j : ℕ) → is_on writer j (other side) id ≡ false
    → SendsSame (outgoing_at (end_at ends writer) j) (outgoing_at (end_at (with_end ends side e) writer) j) × SameCounts (incoming_at (end_at ends (other writer)) j) (incoming_at (end_at (with_end ends side e) (other writer)) j)
others_same ends Client e id out off Client j is = (subst (λ (l : Streams Outgoing). SendsSame (outgoing_at ends.client j) (unwrap_or (stream_at l j) nothing_sent)) (sym out) (sends_same (outgoing_at ends.client j)), same_counts (incoming_at ends.server j))
others_same ends Client e id out off Server j is = (sends_same (outgoing_at ends.server j), off j is)
others_same ends Server e id out off Client j is = (sends_same (outgoing_at ends.client j), off j is)
others_same ends Server e id out off Server j is = (subst (λ (l : Streams Outgoing). SendsSame (outgoing_at ends.server j) (unwrap_or (stream_at l j) nothing_sent)) (sym out) (sends_same (outgoing_at ends.server j)), same_counts (incoming_at ends.client j))

on_flow : (setup : Setup) (ends : Ends) (side : Side) (e : EndpointHistory) (id : ℕ) (awaited : Content) (g : Flow) → TalliesFlow side (announced_at setup side) awaited g (outgoing_at (end_at ends (other side)) id) (incoming_at e id)
    → TalliesFlow (other (other side)) (announced_at setup (other (other side))) awaited g (outgoing_at (end_at (with_end ends side e) (other side)) id) (incoming_at (end_at (with_end ends side e) (other (other side))) id)
on_flow setup ends Client e id awaited g h = h
on_flow setup ends Server e id awaited g h = h

at_flow : (s writer : Side) (id i : ℕ) → is_on writer id s i ≡ true → (writer ≡ s) × (i ≡ id)
at_flow Client Client id i e = (refl, same_number i id e)
at_flow Server Server id i e = (refl, same_number i id e)
at_flow Client Server id i e = absurd (cc)
at_flow Server Client id i e = absurd (cc)

-- The flow that was pulled, after the pull.
record PulledFlow (w v : World) (side : Side) (id : ℕ) (awaited : Content) (j : Incoming) : Type 0 where
  after : Flow
  flows : (writer : Side) (i : ℕ) → flow v writer i ≡ (if is_on writer i (other side) id then after else flow w writer i)
  sent : after.sent ≡ (flow w (other side) id).sent
  fault : after.fault ≡ (flow w (other side) id).fault
  counts : CountsFlow side awaited after j

pulled_flow : (setup : Setup) (w v : World) (side : Side) (id : ℕ) (awaited : Content) (known : Option Content) (p : Pulled) → is_open w side id ≡ true → PullsOn side awaited known (flow w (other side) id) p → PullsNext setup w side id p.answer v
    → PulledFlow w v side id awaited p.incoming
pulled_flow setup w v side id awaited known p opened good step = by_answer p.answer refl step
  where
    there : IsThere w id
    there = open_there w side id opened

    waits : (count : ℕ) → v ≡ paused w side id count → flow_after (flow w (other side) id) p.answer ≡ flow w (other side) id → PulledFlow w v side id awaited p.incoming
    waits count is same = record {
      after = record (flow w (other side) id) { waits_for = count };
      flows = λ writer i. ap (λ u. flow u writer i) is ∙ flow_at w (other side) writer id i (record (flow w (other side) id) { waits_for = count }) there;
      sent = refl;
      fault = refl;
      counts = subst (λ g. CountsFlow side awaited g p.incoming) same good.counts;
    }

    by_answer : (q : Pull) → p.answer ≡ q → PullsNext setup w side id q v → PulledFlow w v side id awaited p.incoming
    by_answer (pull.Item it) is step =
        let g = after_item (flow w (other side) id) (next_part (flow w (other side) id)) it in
        let leaves = item_leaves (flow w (other side) id) (next_part (flow w (other side) id)) it in
        let q : Party = record (party w side) { own = record (party w side).own { replies = (party w side).own.replies ++ acknowledgment_of id (next_part (flow w (other side) id)) } } in
        record {
          after = g;
          flows = λ writer i. ap (λ u. flow u writer i) step.1 ∙ flow_at (with_party w side q) (other side) writer id i g (there-with_party w side q id there)
              ∙ ap (λ x. if is_on writer i (other side) id then g else x) (flow-with_party w side writer q i);
          sent = leaves.2;
          fault = item_fault (flow w (other side) id) (next_part (flow w (other side) id)) it;
          counts = subst (λ x. CountsFlow side awaited (flow_after (flow w (other side) id) x) p.incoming) is good.counts;
        }
    by_answer pull.Pending is step = waits 0 step (ap (flow_after (flow w (other side) id)) is)
    by_answer (pull.Waiting count) is step = waits count step (ap (flow_after (flow w (other side) id)) is)
    by_answer (pull.Fault x) is step = absurd step
    by_answer pull.NoMessages is step = absurd step

itself : (id : ℕ) → (id == id) ≡ true
itself id = grind (arith, common_steps)

on_it : (s : Side) (id : ℕ) → is_on s id s id ≡ true
on_it Client id = itself id
on_it Server id = itself id

-- the server's end
server_here : (ends : Ends) (s : Side) → s ≡ Server → end_at ends s ≡ ends.server
server_here ends Client e = absurd (cc)
server_here ends Server e = refl

server_now : (ends : Ends) (s : Side) (e : EndpointHistory) → s ≡ Server → end_at (with_end ends s e) Server ≡ e
server_now ends Client e is = absurd (cc)
server_now ends Server e is = refl

server_kept : (ends : Ends) (s : Side) (e : EndpointHistory) → s ≡ Client → end_at (with_end ends s e) Server ≡ ends.server
server_kept ends Client e is = refl
server_kept ends Server e is = absurd (cc)

client_flow : (w : World) (s : Side) (id : ℕ) → s ≡ Server → flow w (other s) id ≡ flow w Client id
client_flow w Client id is = absurd (cc)
client_flow w Server id is = refl

head_response : (q : Pull) (side : Side) (part : Option Part) (known : Option Content) (s : Section) → hands_head q ≡ true → side ≡ Server → part ≡ Some (HeadPart s) → response_after q side part known ≡ Some (awaited_by s.fields)
head_response (pull.Item (item.Head x)) side part known s on is next = ap (λ d. response_of_part d part known) is ∙ ap (λ o. response_of_part Server o known) next
head_response (pull.Item (item.Interim x)) side part known s on is next = absurd (cc)
head_response (pull.Item (item.Trailer x)) side part known s on is next = absurd (cc)
head_response (pull.Item (item.Body x)) side part known s on is next = absurd (cc)
head_response (pull.Item (item.TooLarge x)) side part known s on is next = absurd (cc)
head_response (pull.Item (item.Session x)) side part known s on is next = absurd (cc)
head_response (pull.Item (item.Raw x)) side part known s on is next = absurd (cc)
head_response (pull.Item item.End) side part known s on is next = absurd (cc)
head_response pull.Pending side part known s on is next = absurd (cc)
head_response (pull.Waiting count) side part known s on is next = absurd (cc)
head_response (pull.Fault f) side part known s on is next = absurd (cc)
head_response pull.NoMessages side part known s on is next = absurd (cc)

module _ (laws : Laws) (setup : Setup) (made : IsMadeSetup (plain_setup setup)) (w : World) (ends : Ends) (known : ℕ → Bool) (h : Stands (plain_setup setup) w (plain_ends ends)) (t : Tallies setup w ends known)
    (strict : JudgesStrictly setup) (side : Side) (id : ℕ) where
  settled_tally : (x : Pull × EndpointHistory) (v : World) → KeepsBut no_stream (end_at ends side) x.1 → hands_head x.0 ≡ false → v ≡ w
      → Tallies setup v (with_end ends side x.1) (λ j. if is_server side && (id == j) && hands_head x.0 then true else known j)
  settled_tally x v keeps no_head same =
      let after = quiet_tallies setup w v ends (with_end ends side x.1) known (only_at side no_stream) (subst (KeepsParts w) (sym same) (keeps_same w)) (keeps_one side no_stream ends x.1 keeps) t in
      record {
        flows = after.flows;
        announced = after.announced;
        asked = after.asked;
        knows = λ j is. after.knows j (knows_as_before (is_server side) (id == j) (hands_head x.0) (known j) no_head is);
      }

  -- The pull of a stream that goes on.
  module _ (i : Incoming) (r : Receiving w (end_at ends side) side id i) (alive : (flow w (other side) id).fault ≡ None) (v : World) (p : Pulled)
      (good : PullsOn side (awaited_of (other side) (flow w Client id).sent) i.response (flow w (other side) id) p) (stands : Stands (plain_setup setup) v (plain_ends (with_end ends side (pulled (end_at ends side) id p).1)))
      (step : PullsNext (plain_setup setup) w side id p.answer v) where
    abbrev pub now : EndpointHistory
    now = (pulled (end_at ends side) id p).1

    g : PulledFlow w v side id (awaited_of (other side) (flow w Client id).sent) p.incoming
    g = pulled_flow (plain_setup setup) w v side id (awaited_of (other side) (flow w Client id).sent) i.response p r.opened good step

    sent_same : (writer : Side) (j : ℕ) → (flow v writer j).sent ≡ (flow w writer j).sent
    sent_same writer j = ap (λ (x : Flow). x.sent) (g.flows writer j) ∙ by_on (is_on writer j (other side) id) refl
      where
        by_on : (b : Bool) → is_on writer j (other side) id ≡ b → (if b then g.after else flow w writer j).sent ≡ (flow w writer j).sent
        by_on true e = g.sent ∙ ap (λ (x : Flow). x.sent) (sym (same_flow w (other side) writer id j e))
        by_on false e = refl

    -- the receiver after it
    now_in : (j : ℕ) (P : ℕ → Incoming → Type 0) → P id p.incoming → ((id == j) ≡ false → P j (incoming_at (end_at ends side) j)) → P j (incoming_at now j)
    now_in j P first rest = pulled_in (end_at ends side) id p j P first rest

    now_here : incoming_at now id ≡ p.incoming
    now_here = now_in id (λ n k. n ≡ id → k ≡ p.incoming) (λ e. refl) (λ apart. absurd (not_itself id apart)) refl

    -- and it was not given up
    now_alive : p.incoming.fault ≡ None
    now_alive =
        let stream : stream_at now.incoming id ≡ Some p.incoming = ap (λ (l : Streams Incoming). stream_at l id) (answer_streams p.answer (replied (with_incoming (end_at ends side) id p.incoming) p.replies)).0 ∙ set-here (end_at ends side).incoming id p.incoming in
        let at_v = subst (λ (e : EndpointHistory). StandsAt (plain_setup setup) v side (plainly e)) (end_of ends side now) (stands_at setup v (with_end ends side now) side stands) in
        let same = receives_of setup v side id now p.incoming at_v stream in
        same.fault ∙ ap (λ (x : Flow). x.fault) (g.flows (other side) id) ∙ by_on (is_on (other side) id (other side) id) (on_it (other side) id)
      where
        by_on : (b : Bool) → b ≡ true → (if b then g.after else flow w (other side) id).fault ≡ None
        by_on true e = g.fault ∙ alive
        by_on false e = absurd (cc)

    off_same : (j : ℕ) → (id == j) ≡ false → SameCounts (incoming_at (end_at ends side) j) (incoming_at now j)
    off_same j off = now_in j (λ n k. (id == n) ≡ false → SameCounts (incoming_at (end_at ends side) n) k) (λ e. absurd (not_itself id e)) (λ apart e. same_counts (incoming_at (end_at ends side) j)) off

    out_same : now.outgoing ≡ (end_at ends side).outgoing
    out_same = pulled_out (end_at ends side) id p

    now_announced : (s : Side) → (end_at (with_end ends side now) s).announced ≡ (end_at ends s).announced
    now_announced s = by_sides side s (pulled (end_at ends side) id p).1 (answer_streams p.answer (replied (with_incoming (end_at ends side) id p.incoming) p.replies)).2
      where
        by_sides : (d s : Side) (e : EndpointHistory) → e.announced ≡ (end_at ends d).announced → (end_at (with_end ends d e) s).announced ≡ (end_at ends s).announced
        by_sides Client Client e is = is
        by_sides Client Server e is = refl
        by_sides Server Client e is = refl
        by_sides Server Server e is = is

    pulled_flow_tally : TalliesFlow side (announced_at setup side) (awaited_of (other side) (flow w Client id).sent) g.after (outgoing_at (end_at ends (other side)) id) (incoming_at now id)
    pulled_flow_tally =
        let old = tallied laws setup made w ends known h t strict side id in
        record {
          unbroken = subst (AreUnbroken side (announced_at setup side) (awaited_of (other side) (flow w Client id).sent)) (sym g.sent) old.unbroken;
          sends = λ takes. subst (IsSentOf (outgoing_at (end_at ends (other side)) id).content) (ap (content_along side (awaited_of (other side) (flow w Client id).sent)) (sym g.sent)) (old.sends takes);
          receives = λ alive more. subst (CountsFlow side (awaited_of (other side) (flow w Client id).sent) g.after) (sym now_here) g.counts;
          fine = subst IsFine (sym (ap (λ (x : Incoming). x.fault) now_here ∙ now_alive)) tt;
        }

    flow_tally : (writer : Side) (j : ℕ) (b : Bool) → is_on writer j (other side) id ≡ b
        → TalliesFlow (other writer) (announced_at setup (other writer)) (awaited_of writer (flow w Client j).sent) (if b then g.after else flow w writer j) (outgoing_at (end_at (with_end ends side now) writer) j) (incoming_at (end_at (with_end ends side now) (other writer)) j)
    flow_tally writer j true e =
        let at = at_flow (other side) writer j id e in
        subst (λ s. TalliesFlow (other s) (announced_at setup (other s)) (awaited_of s (flow w Client j).sent) g.after (outgoing_at (end_at (with_end ends side now) s) j) (incoming_at (end_at (with_end ends side now) (other s)) j)) (sym at.0)
        (subst (λ n. TalliesFlow (other (other side)) (announced_at setup (other (other side))) (awaited_of (other side) (flow w Client n).sent) g.after (outgoing_at (end_at (with_end ends side now) (other side)) n) (incoming_at (end_at (with_end ends side now) (other (other side))) n)) at.1
        (on_flow setup ends side now id (awaited_of (other side) (flow w Client id).sent) g.after pulled_flow_tally))
    flow_tally writer j false e =
        let k = others_same ends side now id out_same off_same writer j e in
        flow_keeps (other writer) (announced_at setup (other writer)) (awaited_of writer (flow w Client j).sent) (awaited_of writer (flow w Client j).sent) (flow w writer j) (flow w writer j)
        (outgoing_at (end_at ends writer) j) (outgoing_at (end_at (with_end ends side now) writer) j) (incoming_at (end_at ends (other writer)) j) (incoming_at (end_at (with_end ends side now) (other writer)) j)
        (record { sent = refl; parts_out = refl; body_out = refl }) refl k.0 (inl k.1) (t.flows writer j)

    -- what the server knows then
    head_step : (q : Pull) → hands_head q ≡ true → PullsNext (plain_setup setup) w side id q v → (it : Item) × (q ≡ pull.Item it) × HasCome (section_of (announced_at (plain_setup setup) side)) (flow w (other side) id) (next_part (flow w (other side) id)) it
    head_step (pull.Item it) on step = (it, refl, step.0)
    head_step pull.Pending on step = absurd (cc)
    head_step (pull.Waiting count) on step = absurd (cc)
    head_step (pull.Fault x) on step = absurd (cc)
    head_step pull.NoMessages on step = absurd (cc)

    head_known : side ≡ Server → hands_head p.answer ≡ true → KnowsResponse (flow w Client id).sent p.incoming
    head_known is head =
        let f = flow w (other side) id in
        let come = head_step p.answer head step in
        let part = head_part_of (section_of (announced_at (plain_setup setup) side)) f (next_part f) p.answer come.0 come.1 head come.2 in
        let sound = sound_flow (plain_setup setup) w (other side) id h.sound (open_there w side id r.opened) in
        let asks = head_asks (party w (other side)) None 0 f.sent f.parts_out part.0 sound.sent part.1 in
        subst (λ (x : Flow). KnowsResponse x.sent p.incoming) (client_flow w side id is) (record {
          has = asks.1;
          response = good.responds ∙ head_response p.answer side (next_part f) i.response part.0 head is part.1 ∙ ap Some (sym asks.0);
        })

    known_here : side ≡ Server → known id ≡ true → hands_head p.answer ≡ false → KnowsResponse (flow w Client id).sent p.incoming
    known_here is sure off =
        let k = t.knows id sure in
        record {
          has = k.has;
          response = good.responds ∙ response_stays p.answer side (next_part (flow w (other side) id)) i.response off ∙ ap (λ (x : Incoming). x.response) (sym r.here) ∙ ap (λ (e : EndpointHistory). (incoming_at e id).response) (server_here ends side is) ∙ k.response;
        }

    knows_after : (j : ℕ) → (if is_server side && (id == j) && hands_head p.answer then true else known j) ≡ true → KnowsResponse (flow w Client j).sent (incoming_at (end_at (with_end ends side now) Server) j)
    knows_after j is = by_side side refl
      where
        at_server : (s : Side) → side ≡ s → s ≡ Server → (b c : Bool) → (id == j) ≡ b → hands_head p.answer ≡ c → (if b && c then true else known j) ≡ true → KnowsResponse (flow w Client j).sent (incoming_at now j)
        at_server s same e true true at head sure = subst (λ n. KnowsResponse (flow w Client n).sent (incoming_at now n)) (same_number id j at) (subst (KnowsResponse (flow w Client id).sent) (sym now_here) (head_known (same ∙ e) head))
        at_server s same e true false at head sure =
            subst (λ n. KnowsResponse (flow w Client n).sent (incoming_at now n)) (same_number id j at) (subst (KnowsResponse (flow w Client id).sent) (sym now_here) (known_here (same ∙ e) (ap known (same_number id j at) ∙ sure) head))
        at_server s same e false c at head sure =
            let k = t.knows j sure in
            let o = subst (λ (x : EndpointHistory). SameCounts (incoming_at x j) (incoming_at now j)) (server_here ends side (same ∙ e)) (off_same j at) in
            record { has = k.has; response = o.response ∙ k.response }

        by_side : (s : Side) → side ≡ s → KnowsResponse (flow w Client j).sent (incoming_at (end_at (with_end ends side now) Server) j)
        by_side Client e = subst (λ (x : EndpointHistory). KnowsResponse (flow w Client j).sent (incoming_at x j)) (sym (server_kept ends side now e)) (t.knows j (sym (ap (λ s. if is_server s && (id == j) && hands_head p.answer then true else known j) e) ∙ is))
        by_side Server e =
            subst (λ (x : EndpointHistory). KnowsResponse (flow w Client j).sent (incoming_at x j)) (sym (server_now ends side now e))
            (at_server Server e refl (id == j) (hands_head p.answer) refl refl (sym (ap (λ s. if is_server s && (id == j) && hands_head p.answer then true else known j) e) ∙ is))

    pub going_tally : Tallies setup v (with_end ends side now) (λ j. if is_server side && (id == j) && hands_head p.answer then true else known j)
    going_tally = record {
      flows = λ writer j. subst (λ l. TalliesFlow (other writer) (announced_at setup (other writer)) (awaited_of writer l) (flow v writer j) (outgoing_at (end_at (with_end ends side now) writer) j) (incoming_at (end_at (with_end ends side now) (other writer)) j)) (sym (sent_same Client j))
          (subst (λ (x : Flow). TalliesFlow (other writer) (announced_at setup (other writer)) (awaited_of writer (flow w Client j).sent) x (outgoing_at (end_at (with_end ends side now) writer) j) (incoming_at (end_at (with_end ends side now) (other writer)) j)) (sym (g.flows writer j))
          (flow_tally writer j (is_on writer j (other side) id) refl));
      announced = λ s. now_announced s ∙ t.announced s;
      asked = λ j has. ap has_head (sent_same Client j) ∙ t.asked j (sym (ap has_head (sent_same Server j)) ∙ has);
      knows = λ j is. subst (λ l. KnowsResponse l (incoming_at (end_at (with_end ends side now) Server) j)) (sym (sent_same Client j)) (knows_after j is);
    }

  -- **A pull.**
  pub pull_tally : (v : World) → Pulls (plain_setup setup) w side id (pulls (end_at ends side) id).0 v → is_connection_fault (answer.Pulled (pulls (end_at ends side) id).0) ≡ false → Stands (plain_setup setup) v (plain_ends (with_end ends side (pulls (end_at ends side) id).1))
      → Tallies setup v (with_end ends side (pulls (end_at ends side) id).1) (λ j. if is_server side && (id == j) && hands_head (pulls (end_at ends side) id).0 then true else known j)
  pull_tally v =
      subst (λ (x : Pull × EndpointHistory). Pulls (plain_setup setup) w side id x.0 v → is_connection_fault (answer.Pulled x.0) ≡ false → Stands (plain_setup setup) v (plain_ends (with_end ends side x.1))
      → Tallies setup v (with_end ends side x.1) (λ j. if is_server side && (id == j) && hands_head x.0 then true else known j)) (sym (pulls_is laws setup made w ends known h t strict side id))
      (by_open (is_open w side id) refl)
    where
      Goes : Pull × EndpointHistory → Type 0
      Goes x = Pulls (plain_setup setup) w side id x.0 v → is_connection_fault (answer.Pulled x.0) ≡ false → Stands (plain_setup setup) v (plain_ends (with_end ends side x.1))
          → Tallies setup v (with_end ends side x.1) (λ j. if is_server side && (id == j) && hands_head x.0 then true else known j)

      by_open : (b : Bool) → is_open w side id ≡ b → Goes (pull_at (end_at ends side) id (kind_of (end_at ends side).side id))
      by_open false e = λ step no_fault stands.
          let k = closed_settled w side id e in
          let x = pull_at (end_at ends side) id (kind_of (end_at ends side).side id) in
          let s = settled_pulls (plain_setup setup) w side id x.0 k.answer v k.is step in
          settled_tally x v (other_streams laws setup made w ends known h t strict side id (kind_of (end_at ends side).side id)
          (λ i request is. absurd (let never : false ≡ true = sym e ∙ (receiving laws setup made w ends known h t strict side id i is).opened in cc))) (ap hands_head s.0 ∙ k.no_head) s.1
      by_open true e =
          subst Goes (sym (ap (pull_at (end_at ends side) id) (kind_is (end_at ends side).side id (open_there w side id e).request))) (by_stream (stream_at (end_at ends side).incoming id) refl)
        where
          by_stream : (o : Option Incoming) → stream_at (end_at ends side).incoming id ≡ o → Goes (pull_request (end_at ends side) id o)
          by_stream None is =
              let there = incoming_there (plain_setup setup) w side id (plainly (end_at ends side)) (stands_at setup w ends side h) e in
              absurd (let never : None ≡ Some there.0 = sym (at_each plain_incoming (end_at ends side).incoming id ∙ ap (option_map plain_incoming) is) ∙ there.1 in cc)
          by_stream (Some i) is = by_fault (flow w (other side) id).fault refl (is_over (flow w (other side) id)) refl
            where
              r : Receiving w (end_at ends side) side id i
              r = receiving laws setup made w ends known h t strict side id i is

              p : Pulled
              p = pull_stream (end_at ends side).side (end_at ends side).announced id (end_at ends side).decoding.decoder i

              many : Bool
              many = nat_lt (end_at ends side).announced.limits.blocked (heads_waiting (end_at ends side).decoding.decoder (set_stream (end_at ends side).incoming id (pull_stream (end_at ends side).side (end_at ends side).announced id (end_at ends side).decoding.decoder i).incoming))

              stays : (x : Pull) → settled w side id ≡ Some x → hands_head x ≡ false → p.incoming ≡ i → Goes (pulled (end_at ends side) id (if_too_many many p))
              stays x is_settled none same = λ step no_fault stands.
                  let y = pulled (end_at ends side) id (if_too_many many p) in
                  let s = settled_pulls (plain_setup setup) w side id y.0 x v is_settled step in
                  settled_tally y v (pulled_keeps (end_at ends side) id (if_too_many many p) (subst (λ k. SameCounts k (if_too_many many p).incoming) (sym r.here)
                  (many_keeps laws setup made w ends known h t strict side id many i p (subst (SameCounts i) (sym same) (same_counts i))))) (ap hands_head s.0 ∙ none) s.1

              goes_on : (b : Bool) → (flow w (other side) id).fault ≡ None → is_over (flow w (other side) id) ≡ false → Goes (pulled (end_at ends side) id (if_too_many b p))
              goes_on true alive more = λ step no_fault stands. absurd (let never : true ≡ false = no_fault in cc)
              goes_on false alive more = λ step no_fault stands.
                  let good = counts_on laws setup made w ends known h t strict side id i r alive more in
                  let none = none_settled w side id e alive more in
                  let given : (pulled (end_at ends side) id p).0 ≡ p.answer = answer_is p.answer _ in
                  let next = subst (λ o. MatchOption o (PullsNext (plain_setup setup) w side id p.answer v) (λ a. (p.answer ≡ a) × (v ≡ w))) none (subst (λ q. Pulls (plain_setup setup) w side id q v) given step) in
                  subst (λ q. Tallies setup v (with_end ends side (pulled (end_at ends side) id p).1) (λ j. if is_server side && (id == j) && hands_head q then true else known j)) (sym given)
                  (going_tally i r alive v p good stands next)

              by_fault : (o : Option StreamFault) → (flow w (other side) id).fault ≡ o → (b : Bool) → is_over (flow w (other side) id) ≡ b → Goes (pulled (end_at ends side) id (if_too_many many p))
              by_fault (Some fault) lost b over =
                  stays (pull.Fault (Stream fault)) (open_settled w side id e ∙ ap (λ o. fault_or o (if is_over (flow w (other side) id) then Some (pull.Item item.End) else None)) lost) refl
                  (ap (λ (x : Pulled). x.incoming) (given_up_again (end_at ends side).side (end_at ends side).announced id (end_at ends side) i fault (r.same.fault ∙ lost)))
              by_fault None alive true over =
                  stays (pull.Item item.End) (open_settled w side id e ∙ ap (λ o. fault_or o (if is_over (flow w (other side) id) then Some (pull.Item item.End) else None)) alive ∙ ap (λ b. if b then Some (pull.Item item.End) else None) over) refl
                  (ap (λ (x : Pulled). x.incoming) (over_again (end_at ends side).side (end_at ends side).announced id (end_at ends side) i (r.same.fault ∙ alive) (r.same.is_over ∙ over)))
              by_fault None alive false over = goes_on many alive over
