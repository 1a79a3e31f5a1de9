-- The ids of request streams stay below 2^62 (RFC 9000, section 2.1): one more is opened only where its id is.
use Rattle.std.proofs.Common.{◌≡◌, ℕ, ◌*◌, ◌<◌, ◌^◌, Bool, true, false, if◌then◌else◌, Some, None, refl, arith, Option, length, ◌+◌, ◌≤◌, sym, subst, ◌∙◌, List, [], ◌∷◌}
use Rattle.std.specs.Prelude.{nat_le, not, is_some, ◌||◌, nat_lt, ◌%◌}
use Rattle.std.proofs.lemmas.Grind.{common_steps}
use Rattle.h3_connection.specs.declared.event.Refusal.TheVariants as refusal
use Rattle.h3_world.specs.Sending.{opened, sent_body, given_up, sent_head, sent_fields, sent_trailer, sent_trailer_fields, finished, cut_off, with_goaway}
use Rattle.h3_connection.specs.Refusals.{going_away}
use Rattle.h3_connection.specs.declared.event.Refusal.{Refusal}
use Rattle.h3_proto.specs.declared.stream.Side.{Side}
use Rattle.h3_connection.specs.Lasts.{last_id}
use Rattle.h3_connection.specs.OwnIds.{other, is_own}
use Rattle.h3_connection.specs.Pulling.{is_client}
use Rattle.h3_world.specs.Came.{goaways_came, insertions_came}
use Rattle.h3_world.specs.Refusals.{next_id, open_refusal, head_refusal, fields_refusal, body_refusal, trailer_refusal, trailer_fields_refusal, finish_refusal, reset_refusal, cancel_refusal, goaway_refusal}
use Rattle.h3_world.specs.World.{World, Party, with_party, party}
use Rattle.h3_world.specs.declared.event.Answer.{Answer}
use Rattle.h3_world.specs.Machine.{done, count_waited_for, pull_next, pull_settled, pulled, item_there, served}
use Rattle.h3_world.specs.Flow.{Flow}
use Rattle.h3_world.specs.Streams.{with_flow, flow, has_outgoing, waiting, is_open}
use Rattle.h3_connection.specs.declared.event.StreamFault.{StreamFault}
use Rattle.h3_world.specs.Delivering.{further, having_listened, delivered_own, delivered_message, delivered, delivered_reset, reset_code, is_closed, may_end, delivered_end}
use Rattle.h3_connection.specs.declared.event.StreamFault.TheVariants as stream_fault
use Rattle.h3_connection.specs.declared.event.Item.{Item}
use Rattle.h3_connection.specs.declared.event.Pull.{Pull}
use Rattle.h3_world.specs.Items.{handed_out}
use Rattle.h3_world.specs.Pauses.{paused, pause_before}
use Rattle.h3_connection.specs.Announcing.{section_of}
use Rattle.h3_world.specs.declared.event.Event.{Event}
use Rattle.h3_world.specs.declared.event.Event.TheVariants as event
use Rattle.h3_world.specs.declared.event.Answer.TheVariants as answer
use Rattle.h3_world.specs.Order.{next_part}
use Rattle.h3_world.specs.Pulling.{settled}
use Rattle.h3_world.specs.Setup.{Setup, announced_at}
use Rattle.std.proofs.Math.Nat.{div-add-mod}
use Rattle.h3_world.specs.Ends.{Ends}
use Rattle.h3_headline.specs.FlowLaws.{open_there, same_number}
use Rattle.h3_headline.specs.OpeningLaws.{one_more}
use Rattle.h3_headline.specs.SendingLaws.{flow_count}
use Rattle.h3_headline.specs.Standing.{Stands}
use Rattle.h3_headline.specs.Steps.{Few, Keeps}
use Rattle.h3_headline.specs.WritingLaws.{party_count}

-- one more stream is opened below 2^62
not_used_up : (n : ℕ) → (if nat_le (2 ^ 62) (4 * n) then Some refusal.IdsUsedUp else None) ≡ None → 4 * n < 2 ^ 62
not_used_up n e = by_test (nat_le (2 ^ 62) (4 * n)) refl e
  where
    below : nat_le (2 ^ 62) (4 * n) ≡ false → 4 * n < 2 ^ 62
    below t = grind (arith, common_steps, t)

    by_test : (b : Bool) → nat_le (2 ^ 62) (4 * n) ≡ b → (if b then Some refusal.IdsUsedUp else None) ≡ None → 4 * n < 2 ^ 62
    by_test true t x = cc
    by_test false t x = below t

not_going : (last : Option ℕ) (later : Option Refusal) → going_away last later ≡ None → later ≡ None
not_going None later e = e
not_going (Some id) later e = cc

opens_below : (setup : Setup) (w : World) (side : Side) → open_refusal setup w side ≡ None → 4 * length w.exchanges < 2 ^ 62
opens_below setup w side e = by_side (is_client side) e
  where
    by_side : (b : Bool)
        → (if not b then Some refusal.NotClient else going_away (last_id (goaways_came setup w (other side))) (if nat_le (2 ^ 62) (next_id w) then Some refusal.IdsUsedUp else None)) ≡ None → 4 * length w.exchanges < 2 ^ 62
    by_side true x = not_used_up (length w.exchanges) (not_going (last_id (goaways_came setup w (other side))) (if nat_le (2 ^ 62) (next_id w) then Some refusal.IdsUsedUp else None) x)
    by_side false x = cc

few_opened : (w : World) → 4 * length w.exchanges < 2 ^ 62 → 4 * length (opened w).exchanges ≤ 2 ^ 62
few_opened w h = rw (one_more w) (sum (length w.exchanges) h)
  where
    sum : (n : ℕ) → 4 * n < 2 ^ 62 → 4 * (n + 1) ≤ 2 ^ 62
    sum n less = omega (arith, less)

pub few_kept : (w v : World) → Few w → Keeps w v → Few v
few_kept w v h same = subst (λ n. 4 * n ≤ 2 ^ 62) (sym same) h

few_done : (r : Option Refusal) (w v : World) (a : Answer) → Few w → (r ≡ None → Few v) → Few (done r w a v).1
few_done (Some x) w v a h k = h
few_done None w v a h k = k refl

few_either : (b : Bool) (x y : Answer × World) → Few x.1 → Few y.1 → Few (if b then x else y).1
few_either true x y h k = h
few_either false x y h k = k

keeps_both : (w : World) (side s : Side) (id : ℕ) (p : Party) (g : Flow) → Keeps w (with_flow (with_party w side p) s id g)
keeps_both w side s id p g = flow_count (with_party w side p) s id g ∙ party_count w side p

keeps_body : (w : World) (side : Side) (id : ℕ) (bytes : List ℕ) → Keeps w (sent_body w side id bytes)
keeps_body w side id [] = refl
keeps_body w side id (byte ∷ bytes) = flow_count w side id _

keeps_given_up : (w : World) (side : Side) (id : ℕ) (fault : StreamFault) → Keeps w (given_up w side id fault)
keeps_given_up w side id fault = keeps_both w side (other side) id _ _

keeps_delivered : (setup : Setup) (w : World) (writer : Side) (id count : ℕ) → Keeps w (delivered setup w writer id count)
keeps_delivered setup w writer id count = by_own (is_own writer id)
  where
    new : World
    new = with_party w writer (further (party w writer) writer id count)

    by_own : (b : Bool) → Keeps w (if b then delivered_own setup w writer id count else delivered_message w writer id count)
    by_own true = party_count new (other writer) (having_listened setup w new writer) ∙ party_count w writer (further (party w writer) writer id count)
    by_own false = flow_count w writer id _

keeps_reset : (w : World) (writer : Side) (id : ℕ) → Keeps w (delivered_reset w writer id)
keeps_reset w writer id = by_fault (is_some (flow w writer id).fault)
  where
    new : World
    new = with_flow w writer id (record (flow w writer id) { seen = true; reset_came = true })

    by_fault : (b : Bool) → Keeps w (if b then new else given_up new (other writer) id (stream_fault.Reset reset_code))
    by_fault true = flow_count w writer id _
    by_fault false = keeps_given_up new (other writer) id (stream_fault.Reset reset_code) ∙ flow_count w writer id _

few_next : (w : World) (side : Side) (id : ℕ) (p : Option Pull) (i : Item) → Few w → Few (pull_next w side id p i).1
few_next w side id (Some p) i h = few_kept w (paused w side id (count_waited_for p)) h (flow_count w (other side) id _)
few_next w side id None i h = few_kept w (handed_out w side id i) h (keeps_both w side (other side) id _ _)

few_settled : (w : World) (o : Option Pull) (next : Answer × World) → Few w → Few next.1 → Few (pull_settled w o next).1
few_settled w (Some p) next h k = h
few_settled w None next h k = k

few_pulled : (setup : Setup) (w : World) (side : Side) (id : ℕ) → Few w → Few (pulled setup w side id).1
few_pulled setup w side id h =
    let f = flow w (other side) id in
    let next = pull_next w side id (pause_before f (insertions_came (party w (other side))) (next_part f)) (item_there (section_of (announced_at setup side)) f (next_part f)) in
    few_settled w (settled w side id) next h (few_next w side id (pause_before f (insertions_came (party w (other side))) (next_part f)) (item_there (section_of (announced_at setup side)) f (next_part f)) h)

-- **After each event.**
pub few_after : (setup : Setup) (w : World) (e : Event) → 4 * length w.exchanges ≤ 2 ^ 62 → 4 * length (served setup w e).1.exchanges ≤ 2 ^ 62
few_after setup w (event.OpenRequest side) h =
    few_done (open_refusal setup w side) w (opened w) (answer.Opened (next_id w)) h (λ goes. few_opened w (opens_below setup w side goes))
few_after setup w (event.Head side id head) h =
    few_done (head_refusal setup w side id head) w (sent_head w side id head) answer.Done h (λ goes. few_kept w (sent_head w side id head) h (keeps_both w side side id _ _))
few_after setup w (event.Fields side id fields) h =
    few_done (fields_refusal setup w side id fields) w (sent_fields w side id fields) answer.Done h (λ goes. few_kept w (sent_fields w side id fields) h (keeps_both w side side id _ _))
few_after setup w (event.Body side id bytes) h =
    few_done (body_refusal w side id) w (sent_body w side id bytes) answer.Done h (λ goes. few_kept w (sent_body w side id bytes) h (keeps_body w side id bytes))
few_after setup w (event.Trailer side id trailer) h =
    few_done (trailer_refusal setup w side id trailer) w (sent_trailer w side id trailer) answer.Done h (λ goes. few_kept w (sent_trailer w side id trailer) h (keeps_both w side side id _ _))
few_after setup w (event.TrailerFields side id fields) h =
    few_done (trailer_fields_refusal setup w side id fields) w (sent_trailer_fields w side id fields) answer.Done h (λ goes. few_kept w (sent_trailer_fields w side id fields) h (keeps_both w side side id _ _))
few_after setup w (event.Finish side id) h =
    few_done (finish_refusal w side id) w (finished w side id) answer.Done h (λ goes. few_kept w (finished w side id) h (flow_count w side id _))
few_after setup w (event.Reset side id) h =
    few_done (reset_refusal w side id) w (cut_off w side id) answer.Done h (λ goes. few_kept w (cut_off w side id) h (flow_count w side id _))
few_after setup w (event.Cancel side id) h =
    few_done (cancel_refusal w side id) w (given_up w side id stream_fault.Canceled) answer.Done h (λ goes. few_kept w (given_up w side id stream_fault.Canceled) h (keeps_given_up w side id stream_fault.Canceled))
few_after setup w (event.Goaway side id) h =
    few_done (goaway_refusal w side id) w (with_goaway w side id) answer.Done h (λ goes. few_kept w (with_goaway w side id) h (party_count w side _))
few_after setup w (event.Deliver side id count) h =
    few_either (not (has_outgoing w side id)) _ _ h
    (few_either (nat_lt (waiting setup w side id) count) _ _ h
    (few_either (is_closed w side id) _ _ h (few_kept w (delivered setup w side id count) h (keeps_delivered setup w side id count))))
few_after setup w (event.DeliverEnd side id) h =
    few_either (not (has_outgoing w side id)) _ _ h
    (few_either (not (may_end setup w side id)) _ _ h
    (few_either (is_closed w side id) _ _ h (few_kept w (delivered_end w side id) h (flow_count w side id _))))
few_after setup w (event.DeliverReset side id) h =
    few_either (not (has_outgoing w side id)) _ _ h
    (few_either (is_own side id || not (flow w side id).is_reset) _ _ h
    (few_either (is_closed w side id) _ _ h (few_kept w (delivered_reset w side id) h (keeps_reset w side id))))
few_after setup w (event.PullFields side id) h = few_pulled setup w side id h
few_after setup w (event.Pull side id) h = few_pulled setup w side id h
few_after setup w (event.Show side) h = h

-- **The id of an open stream is below 2^62.**
pub open_is_small : (setup : Setup) (w : World) (ends : Ends) (side : Side) (id : ℕ) → Stands setup w ends → is_open w side id ≡ true → id < 2 ^ 62
open_is_small setup w ends side id h opened =
    let there = open_there w side id opened in
    let whole : id % 4 ≡ 0 = same_number (id % 4) 0 there.request in
    omega (arith, h.few, there.place, whole, div-add-mod id 4)
