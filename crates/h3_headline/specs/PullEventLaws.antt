-- A pull: both ends answer as the world allows, the pause is exact, and both stand in the world after it.
use Rattle.std.proofs.Common.{◌≡◌, ℕ, length, refl, sym, ap, subst, None, Some, ◌≤◌, arith, ◌∙◌, ◌^◌, ◌<◌, Bool, true, false, [], ◌∷◌, if◌then◌else◌, Option, List, ◌%◌}
use Rattle.h3_proto.specs.declared.stream.Side.{Side}
use Rattle.h3_connection.specs.Endpoint.{EndpointHistory, heads_waiting}
use Rattle.h3_connection.specs.Keeping.{pulls}
use Rattle.h3_connection.specs.OwnIds.{other, decoder_id, control_id}
use Rattle.h3_connection.specs.declared.event.Pull.{Pull}
use Rattle.h3_connection.specs.declared.event.Pull.TheVariants as pull
use Rattle.h3_world.specs.declared.event.Event.TheVariants as event
use Rattle.h3_world.specs.declared.event.Answer.TheVariants as answer
use Rattle.h3_world.specs.Ends.{Ends, answered, end_at, was_pulled, with_end}
use Rattle.h3_world.specs.Headline.{Happens}
use Rattle.h3_world.specs.Pulling.{Pulls, PausesExactly, settled, PullsNext, pull_unidirectional, pull_unopened}
use Rattle.h3_world.specs.World.{World, party, Party, with_party}
use Rattle.std.specs.Prelude.{MatchOption, ◌==◌}
use Rattle.h3_world.specs.Came.{insertions_came}
use Rattle.h3_world.specs.Order.{next_part, is_over}
use Rattle.h3_world.specs.Pauses.{pause_before, pause_of, paused}
use Rattle.h3_world.specs.Streams.{flow, is_open}
use Rattle.h3_proto.specs.declared.stream.Side.TheVariants.{Client, Server}
use Rattle.h3_world.specs.Setup.{Setup, announced_at, IsMadeSetup, JudgesPlainly}
use Rattle.h3_world.specs.Shown.{streams_waiting, limits_shown, sizes_shown}
use Rattle.h3_world.specs.Step.{IsWithinLimits}
use Rattle.std.proofs.lemmas.Bool.{le-ltb}
use Rattle.h3_connection.specs.declared.setup.Announced.{Announced}
use Rattle.h3_connection.specs.declared.event.Fault.{Fault}
use Rattle.h3_connection.specs.declared.event.Item.{Item}
use Rattle.std.specs.List.{AllByRecursion}
use Rattle.h3_field.specs.Instruction.DecoderInstruction.{Acknowledge}
use Rattle.h3_field.specs.InstructionAnswer.{IsReply}
use Rattle.h3_connection.specs.Pulling.{acknowledgment}
use Rattle.h3_world.specs.Flow.{Part, Flow}
use Rattle.h3_world.specs.Flow.Part.{Interim, Head, Body, Trailer, End}
use Rattle.h3_world.specs.Items.{acknowledgment_of, after_item, handed_out}
use Rattle.h3_field.specs.Instruction.{DecoderInstruction}
use Rattle.h3_connection.specs.Sending.{after_fault, after_answer, pull_request, pull_at}
use Rattle.h3_connection.specs.declared.event.Fault.TheVariants as faults
use Rattle.h3_connection.specs.Incoming.{Incoming}
use Rattle.h3_proto.specs.StreamIds.{is_request_stream}
use Rattle.h3_connection.specs.StreamSets.{stream_at}
use Rattle.h3_connection.specs.declared.event.StreamFault.{StreamFault}
use Rattle.h3_connection.specs.declared.event.Item.TheVariants as item
use Rattle.h3_headline.specs.Arriving.{Receives, saying}
use Rattle.h3_headline.specs.Calls.{Both, Serves}
use Rattle.h3_headline.specs.Cited.{Laws}
use Rattle.h3_headline.specs.ComingLaws.{kind_is}
use Rattle.h3_headline.specs.DecodesLaws.{next_readable}
use Rattle.h3_headline.specs.FewLaws.{few_kept, open_is_small}
use Rattle.h3_headline.specs.FlowLaws.{open_there}
use Rattle.h3_headline.specs.OwnWritesLaws.{saying_writable}
use Rattle.h3_headline.specs.PeerPullLaws.{plain_pull, silent_pull, unidirectional_pull}
use Rattle.h3_headline.specs.PullLaws.{item_leaves, none_settled, paused_receives, pull_stands, pulled_receives}
use Rattle.h3_headline.specs.Pulls.{IsWithin, Pulled, settled_by}
use Rattle.h3_headline.specs.SendingLaws.{both_of, call_agrees, does_on, flow_count, stands_served}
use Rattle.h3_headline.specs.SessionDecoderLaws.{endpoint_decodes, insertions_read}
use Rattle.h3_headline.specs.SettledPullLaws.{given_up_pull, over_pull, unopened_pull}
use Rattle.h3_headline.specs.Standing.{IsReadable, IsWritable, Stands, StandsAt, are_settings_there}
use Rattle.h3_headline.specs.Steps.{StandsOn}
use Rattle.h3_headline.specs.WaitingAtLaws.{endpoint_waits}
use Rattle.h3_headline.specs.WritesMoreLaws.{decoder_stream_more}
use Rattle.h3_headline.specs.WritingLaws.{hears, party_count, sound_party}

-- A pull that the ends answer so, and both stand in the world after it.
answered_on : (laws : Laws) (setup : Setup) (w new : World) (ends : Ends) (side : Side) (id : ℕ) (a : Pull) (after : EndpointHistory) → Stands setup w ends → pulls (end_at ends side) id ≡ (a, after)
    → Pulls setup w side id a new → PausesExactly w side id a → Both setup new side after (end_at ends (other side)) → after.next_id ≡ (end_at ends side).next_id → length new.exchanges ≡ length w.exchanges
    → StandsOn setup w ends (event.Pull side id)
answered_on laws setup w new ends side id a after h is step exact both next count =
    let happens = laws.worlds.both setup w new (event.Pull side id) (answer.Pulled a) tt step exact h.sound in
    let given : answered ends (event.Pull side id) ≡ (answer.Pulled a, with_end ends side after) = ap (was_pulled ends side) is in
    let serves : Serves setup (answer.Pulled a, with_end ends side after) (answer.Pulled a, new) =
    call_agrees setup w new ends side (answer.Pulled a) (answer.Pulled a) None None after h refl (λ goes. does_on setup w new ends side (answer.Pulled a) after h next count both) in
    record {
      new = new;
      happens = subst (λ x. Happens setup w (event.Pull side id) x.0 new) (sym given) happens.0;
      stands = subst (λ x. Stands setup new x.1) (sym given) (stands_served setup (answer.Pulled a, with_end ends side after) (answer.Pulled a, new) serves (few_kept w new h.few count) happens.1);
    }

-- An answer that is settled changes nothing.
settled_on : (laws : Laws) (setup : Setup) (w : World) (ends : Ends) (side : Side) (id : ℕ) (a : Pull) → Stands setup w ends → settled w side id ≡ Some a → pulls (end_at ends side) id ≡ (a, end_at ends side)
    → StandsOn setup w ends (event.Pull side id)
settled_on laws setup w ends side id a h is given =
    let f = flow w (other side) id in
    let step : Pulls setup w side id a w = subst (λ o. MatchOption o (PullsNext setup w side id a w) (λ x. (a ≡ x) × (w ≡ w))) (sym is) (refl, refl) in
    let exact : PausesExactly w side id a = subst (λ o. MatchOption o (pause_of a ≡ pause_before f (insertions_came (party w (other side))) (next_part f)) (λ x. Unit {0})) (sym is) tt in
    answered_on laws setup w w ends side id a (end_at ends side) h given step exact (both_of setup w side ends h) refl refl

-- no more streams wait at a side than it announced
within : (setup : Setup) (w : World) (side : Side) → IsWithinLimits setup w → streams_waiting w side ≤ (announced_at setup side).limits.blocked
within setup w Client h = h.client
within setup w Server h = h.server

ends_within : (laws : Laws) (setup : Setup) (w : World) (ends : Ends) (side : Side) → Stands setup w ends → IsWithin (end_at ends side)
ends_within laws setup w ends side h =
    let e = end_at ends side in
    let b = both_of setup w side ends h in
    let shown = laws.worlds.both setup w w (event.Show side) (answer.Shown (limits_shown setup w side) (sizes_shown w side) (streams_waiting w side)) tt (refl, refl) tt h.sound in
    let bound = within setup w side shown.0.within_limits in
    let waits = endpoint_waits setup w side e b.here (insertions_read setup w side e b.here) in
    let same = ap (λ (x : Announced). x.limits.blocked) b.here.announced in
    le-ltb e.announced.limits.blocked (heads_waiting e.decoding.decoder e.incoming) (omega (arith, waits, bound, same))

-- An acknowledgment is a reply where the stream's id is one.
acknowledgment_is_reply : (id count : ℕ) → id < 2 ^ 62 → AllByRecursion IsReply (acknowledgment id count)
acknowledgment_is_reply id count small = by_test (count == 0)
  where
    by_test : (b : Bool) → AllByRecursion IsReply (if b then [] else Acknowledge id ∷ [])
    by_test true = tt
    by_test false = (small, tt)

replies_of : (id : ℕ) (part : Option Part) → id < 2 ^ 62 → AllByRecursion IsReply (acknowledgment_of id part)
replies_of id None small = tt
replies_of id (Some (Interim s)) small = acknowledgment_is_reply id s.count small
replies_of id (Some (Head s)) small = acknowledgment_is_reply id s.count small
replies_of id (Some (Trailer s)) small = acknowledgment_is_reply id s.count small
replies_of id (Some (Body bytes own)) small = tt
replies_of id (Some End) small = tt

-- What was written and sent is what readers take, also after a side got further on one stream.
writes_on : (setup : Setup) (w new : World) (side : Side) (id : ℕ) (more : List DecoderInstruction) (g : Flow) (e f after : EndpointHistory) → Both setup w side e f → Receives w new side id more g → AllByRecursion IsReply more
    → g.sent ≡ (flow w (other side) id).sent → StandsAt setup new side after → StandsAt setup new (other side) f → Both setup new side after f
writes_on setup w new side id more g e f after b r replies same here there =
    record {
      here = here;
      there = there;
      writes_here = subst (λ (p : Party). IsWritable side p.own) (sym r.here) (saying_writable side (party w side).own more b.writes_here replies);
      writes_there = subst (λ (p : Party). IsWritable (other side) p.own) (sym r.there) b.writes_there;
      sends_here = λ i. subst (λ (x : Flow). AllByRecursion (IsReadable setup (other side)) x.sent) (sym (r.from_it i)) (b.sends_here i);
      sends_there = λ i. subst (λ (x : Flow). AllByRecursion (IsReadable setup side) x.sent) (sym (r.to_it i)) (by_id i (id == i) refl);
    }
  where
    by_id : (i : ℕ) (t : Bool) → (id == i) ≡ t → AllByRecursion (IsReadable setup side) (if t then g else flow w (other side) i).sent
    by_id i true is = subst (AllByRecursion (IsReadable setup side)) (sym same) (b.sends_there id)
    by_id i false is = b.sends_there i

pulled_both : (setup : Setup) (w new : World) (side : Side) (id : ℕ) (e f after : EndpointHistory) (q : Pull) → Both setup w side e f → is_open w side id ≡ true → id < 2 ^ 62 → StandsAt setup new side after
    → StandsAt setup new (other side) f → PullsNext setup w side id q new → Pulled setup w new side after f
pulled_both setup w new side id e f after q b there small here other_side next = by_pull q next
  where
    pauses : (count : ℕ) → new ≡ paused w side id count → Pulled setup w new side after f
    pauses count is =
        let g : Flow = record (flow w (other side) id) { waits_for = count } in
        record {
          both = writes_on setup w new side id [] g e f after b (subst (λ v. Receives w v side id [] g) (sym is) (paused_receives w side id count there)) tt refl here other_side;
          count = ap (λ (v : World). length v.exchanges) is ∙ flow_count w (other side) id g;
        }

    hands_out : (i : Item) → new ≡ handed_out w side id i → Pulled setup w new side after f
    hands_out i is =
        let flow_there = flow w (other side) id in
        let part = next_part flow_there in
        let more = acknowledgment_of id part in
        let g = after_item flow_there part i in
        let leaves = item_leaves flow_there part i in
        let p : Party = record (party w side) { own = saying (party w side).own more } in
        record {
          both = writes_on setup w new side id more g e f after b (subst (λ v. Receives w v side id more g) (sym is) (pulled_receives w side id more g there leaves.1)) (replies_of id part small) leaves.2 here other_side;
          count = ap (λ (v : World). length v.exchanges) is ∙ flow_count (with_party w side p) (other side) id g ∙ party_count w side p;
        }

    by_pull : (q : Pull) → PullsNext setup w side id q new → Pulled setup w new side after f
    by_pull pull.Pending next = pauses 0 next
    by_pull (pull.Waiting count) next = pauses count next
    by_pull (pull.Item i) next = hands_out i next.1
    by_pull (pull.Fault fault) next = absurd next
    by_pull pull.NoMessages next = absurd next

-- a pull leaves the id of the next request
fault_keeps : (fault : Fault) (e : EndpointHistory) → (after_fault fault e).1.next_id ≡ e.next_id
fault_keeps (faults.Connection code) e = refl
fault_keeps (faults.Stream fault) e = refl
fault_keeps faults.Memory e = refl

answer_keeps : (a : Pull) (e : EndpointHistory) → (after_answer a e).1.next_id ≡ e.next_id
answer_keeps (pull.Fault fault) e = fault_keeps fault e
answer_keeps pull.Pending e = refl
answer_keeps (pull.Waiting count) e = refl
answer_keeps (pull.Item i) e = refl
answer_keeps pull.NoMessages e = refl

request_keeps : (e : EndpointHistory) (id : ℕ) (o : Option Incoming) → (pull_request e id o).1.next_id ≡ e.next_id
request_keeps e id None = refl
request_keeps e id (Some i) = answer_keeps _ _

next_kept : (setup : Setup) (w : World) (side : Side) (id : ℕ) (e after : EndpointHistory) (a : Pull) → StandsAt setup w side e → is_request_stream id ≡ true → pulls e id ≡ (a, after) → after.next_id ≡ e.next_id
next_kept setup w side id e after a h request is =
    ap (λ (x : Pull × EndpointHistory). x.1.next_id) (sym is ∙ plain_pull setup w side id e h ∙ ap (pull_at e id) (kind_is side id request)) ∙ request_keeps e id (stream_at e.incoming id)

-- An open stream that was not given up and is not over.
open_on : (laws : Laws) (setup : Setup) (w : World) (ends : Ends) (side : Side) (id : ℕ) → IsMadeSetup setup → JudgesPlainly setup → Stands setup w ends → is_open w side id ≡ true → (flow w (other side) id).fault ≡ None
    → is_over (flow w (other side) id) ≡ false → StandsOn setup w ends (event.Pull side id)
open_on laws setup w ends side id made plain h there alive more =
    let e = end_at ends side in
    let f = end_at ends (other side) in
    let b = both_of setup w side ends h in
    let own = (party w side).own in
    let none = none_settled w side id there alive more in
    let p = pull_stands laws.lists setup w side id e f (plain side) b.here b.there h.sound there alive more
    (insertions_read setup w side e b.here)
    (endpoint_decodes laws.streams laws.lists setup w side id e made b.here h.sound there alive)
    (next_readable laws.lists side (announced_at setup side) id (insertions_came (party w (other side))) e.decoding.decoder (flow w (other side) id) (b.sends_there id))
    (λ replies. decoder_stream_more (other side) (are_settings_there setup (other (other side)) own.control_taken) own.decoder_taken own.replies replies (stream_at f.unidirectional (decoder_id (other (other side)))) f.decoder_on f.decoder_unread
    (sound_party setup w side h.sound).writer.decoder (hears setup w side f b.there).decoder_stream)
    (λ a new step exact. limited a new step exact) in
    let next : PullsNext setup w side id p.answer p.new = subst (λ o. MatchOption o (PullsNext setup w side id p.answer p.new) (λ x. (p.answer ≡ x) × (p.new ≡ w))) none p.step in
    let after = pulled_both setup w p.new side id e f p.after p.answer b there (open_is_small setup w ends side id h there) p.reader p.writer next in
    answered_on laws setup w p.new ends side id p.answer p.after h p.pulled_is p.step p.exact after.both
    (next_kept setup w side id e p.after p.answer b.here (open_there w side id there).request p.pulled_is) after.count
  where
    limited : (a : Pull) (new : World) → Pulls setup w side id a new → PausesExactly w side id a → streams_waiting new side ≤ (end_at ends side).announced.limits.blocked
    limited a new step exact =
        let happens = laws.worlds.both setup w new (event.Pull side id) (answer.Pulled a) tt step exact h.sound in
        subst (λ (x : Announced). streams_waiting new side ≤ x.limits.blocked) (sym (both_of setup w side ends h).here.announced) (within setup new side happens.0.within_limits)

settled_is : (w : World) (side : Side) (id : ℕ) (is_peer request opened : Bool) (fault : Option StreamFault) (over : Bool) → (id % 4 == control_id (other side)) ≡ is_peer → is_request_stream id ≡ request → is_open w side id ≡ opened
    → (flow w (other side) id).fault ≡ fault → is_over (flow w (other side) id) ≡ over → settled w side id ≡ settled_by w side id is_peer request opened fault over
settled_is w side id is_peer request opened fault over a b c d e =
    let f = flow w (other side) id in
    ap (λ x. settled_by w side id x (is_request_stream id) (is_open w side id) f.fault (is_over f)) a
    ∙ ap (λ x. settled_by w side id is_peer x (is_open w side id) f.fault (is_over f)) b
    ∙ ap (λ x. settled_by w side id is_peer request x f.fault (is_over f)) c
    ∙ ap (λ x. settled_by w side id is_peer request opened x (is_over f)) d
    ∙ ap (λ x. settled_by w side id is_peer request opened fault x) e

-- **A pull.**
pub pull_on : (laws : Laws) (setup : Setup) (w : World) (ends : Ends) (side : Side) (id : ℕ) → IsMadeSetup setup → JudgesPlainly setup → Stands setup w ends → StandsOn setup w ends (event.Pull side id)
pull_on laws setup w ends side id made plain h =
    by_tests (id % 4 == control_id (other side)) refl (is_request_stream id) refl (is_open w side id) refl (flow w (other side) id).fault refl (is_over (flow w (other side) id)) refl
  where
    by_tests : (is_peer : Bool) → (id % 4 == control_id (other side)) ≡ is_peer → (request : Bool) → is_request_stream id ≡ request → (opened : Bool) → is_open w side id ≡ opened → (fault : Option StreamFault)
        → (flow w (other side) id).fault ≡ fault → (over : Bool) → is_over (flow w (other side) id) ≡ over → StandsOn setup w ends (event.Pull side id)
    by_tests true a request b opened c fault d over e =
        settled_on laws setup w ends side id (pull_unidirectional w (other side) id) h (settled_is w side id true request opened fault over a b c d e)
        (unidirectional_pull setup w side id (end_at ends side) (both_of setup w side ends h).here a)
    by_tests false a false b opened c fault d over e =
        settled_on laws setup w ends side id pull.NoMessages h (settled_is w side id false false opened fault over a b c d e)
        (silent_pull setup w side id (end_at ends side) (both_of setup w side ends h).here b a)
    by_tests false a true b false c fault d over e =
        settled_on laws setup w ends side id (pull_unopened side) h (settled_is w side id false true false fault over a b c d e)
        (unopened_pull setup w side id (end_at ends side) (both_of setup w side ends h).here b c)
    by_tests false a true b true c (Some fault) d over e =
        settled_on laws setup w ends side id (pull.Fault (faults.Stream fault)) h (settled_is w side id false true true (Some fault) over a b c d e)
        (given_up_pull laws.lists setup w side id (end_at ends side) fault (both_of setup w side ends h).here c (ends_within laws setup w ends side h) d)
    by_tests false a true b true c None d true e =
        settled_on laws setup w ends side id (pull.Item item.End) h (settled_is w side id false true true None true a b c d e)
        (over_pull laws.lists setup w side id (end_at ends side) (both_of setup w side ends h).here c (ends_within laws setup w ends side h) d e)
    by_tests false a true b true c None d false e = open_on laws setup w ends side id made plain h c d e
