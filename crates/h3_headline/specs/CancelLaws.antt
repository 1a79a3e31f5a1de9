-- A stream that is given up, and a cancellation: what the ends answer, and where they stand.
use Rattle.std.proofs.Common.{◌≡◌, ◌≤◌, ℕ, ◌*◌, ◌^◌, true, List, length, sym, ap, ◌∙◌, if◌then◌else◌, Bool, false, [], ◌∷◌, refl, Option, Some, None, ◌++◌, subst}
use Rattle.std.specs.Prelude.{◌==◌, not, ◌||◌, is_some, unwrap_or}
use Rattle.h3_field.specs.Instruction.{DecoderInstruction}
use Rattle.h3_proto.specs.declared.stream.Side.{Side}
use Rattle.h3_connection.specs.OwnIds.{other, decoder_id}
use Rattle.h3_world.specs.Flow.{Flow}
use Rattle.h3_world.specs.Streams.{flow, with_flow, is_open}
use Rattle.h3_world.specs.World.{World, party, with_party, Party}
use Rattle.h3_connection.specs.Delivering.{incoming_at, give_up, given_up_by, cancellation, with_incoming}
use Rattle.h3_connection.specs.Endpoint.{EndpointHistory, replied}
use Rattle.h3_connection.specs.Incoming.{Incoming, nothing_came}
use Rattle.h3_connection.specs.Refusals.{first_of}
use Rattle.h3_connection.specs.StreamSets.{stream_at}
use Rattle.h3_connection.specs.declared.event.Refusal.{Refusal}
use Rattle.h3_connection.specs.declared.event.Refusal.TheVariants as refusal
use Rattle.h3_world.specs.Setup.{Setup}
use Rattle.h3_world.specs.Order.{is_over}
use Rattle.std.specs.List.{AllByRecursion}
use Rattle.h3_connection.specs.declared.event.StreamFault.{StreamFault}
use Rattle.h3_field.specs.Instruction.DecoderInstruction.{CancelStream}
use Rattle.h3_field.specs.InstructionAnswer.{IsReply}
use Rattle.h3_connection.specs.Incoming as incoming
use Rattle.h3_connection.specs.Sending as sender
use Rattle.h3_connection.specs.declared.event.StreamFault.TheVariants.{Canceled}
use Rattle.h3_world.specs.declared.event.Event.TheVariants as event
use Rattle.h3_world.specs.declared.event.Answer.TheVariants as answer
use Rattle.h3_world.specs.Ends.{Ends, end_at, answered, with_end}
use Rattle.h3_world.specs.Machine.{served}
use Rattle.h3_world.specs.Refusals.{is_critical, cancel_refusal}
use Rattle.h3_world.specs.Sending.{given_up}
use Rattle.h3_world.specs.Sound.{IsSoundWorld}
use Rattle.h3_headline.specs.Arriving.{Receives, saying}
use Rattle.h3_headline.specs.Calls.{Does, Serves, saying_more}
use Rattle.h3_headline.specs.ComingLaws.{incoming_none, incoming_there}
use Rattle.h3_headline.specs.DeliverLaws.{sends_same}
use Rattle.h3_headline.specs.FewLaws.{open_is_small}
use Rattle.h3_headline.specs.GivenUp.{giving_up, gone}
use Rattle.h3_headline.specs.FlowLaws.{flow-with_flow, flow-with_party, flow-with_peer, is_open-own, is_open-peer_kept, is_open-with_party, open_there, party-with_flow, party-with_other, party-with_party, same_both, same_number, there-with_party}
use Rattle.h3_headline.specs.MovesLaws.{receiver_stands, sender_stands}
use Rattle.h3_headline.specs.ReceivingLaws.{is_given_up}
use Rattle.h3_headline.specs.SendingLaws.{both_of, call_agrees, does_on, flow_count, goes_unclosed, not_refused, not_refused_open, stands_served}
use Rattle.h3_headline.specs.SentLaws.{critical_agrees}
use Rattle.h3_headline.specs.Standing.{HasDecoderStreamOf, IsReadable, IsWritable, ReceivesFlow, Stands, StandsAt, are_settings_there}
use Rattle.h3_headline.specs.WritesMoreLaws.{decoder_stream_more}
use Rattle.h3_headline.specs.WritingLaws.{hears, party_count, sound_party}

-- the worlds of a change of one flow to a side of which it has seen no more, and whose decoder wrote more
pub flow_answered : (w : World) (side : Side) (id : ℕ) (more : List DecoderInstruction) (g : Flow) → is_open w side id ≡ true → g.seen ≡ (flow w (other side) id).seen
    → Receives w (with_flow (with_party w side (saying_more (party w side) more)) (other side) id g) side id more g
flow_answered w side id more g opened seen =
    let p = saying_more (party w side) more in
    let u = with_party w side p in
    let there = there-with_party w side p id (open_there w side id opened) in
    let kept : g.seen ≡ (flow u (other side) id).seen = seen ∙ sym (ap (λ (o : Flow). o.seen) (flow-with_party w side (other side) p id)) in
    record {
      here = party-with_flow u (other side) side id g ∙ party-with_party w side p;
      there = party-with_flow u (other side) (other side) id g ∙ party-with_other w side p;
      to_it = λ i. flow-with_flow u (other side) id i g there ∙ ap (λ o. if id == i then g else o) (flow-with_party w side (other side) p i);
      from_it = λ i. flow-with_peer u side id i g there ∙ flow-with_party w side side p i;
      open_here = λ i. is_open-peer_kept u side id i g there kept ∙ is_open-with_party w side side p i
          ∙ sym (same_both (id == i) true (is_open w side i) (λ same. sym (ap (is_open w side) (sym (same_number id i same)) ∙ opened)));
      open_there = λ i. is_open-own u (other side) id i g there ∙ is_open-with_party w side (other side) p i;
    }

-- what is canceled is refused alike
cancel_agrees : (setup : Setup) (w : World) (side : Side) (id : ℕ) (e : EndpointHistory) → StandsAt setup w side e
    → first_of ((not (is_some (stream_at e.incoming id)), refusal.NotOpen) ∷ ((incoming_at e id).is_over || is_some (incoming_at e id).fault, refusal.Ended) ∷ [])
    ≡ first_of ((not (is_open w side id), refusal.NotOpen) ∷ (is_over (flow w (other side) id) || is_some (flow w (other side) id).fault, refusal.Ended) ∷ [])
cancel_agrees setup w side id e h = by_open (is_open w side id) refl
  where
    judged : Option Incoming → Option Refusal
    judged o = first_of ((not (is_some o), refusal.NotOpen) ∷ ((unwrap_or o nothing_came).is_over || is_some (unwrap_or o nothing_came).fault, refusal.Ended) ∷ [])

    by_open : (b : Bool) → is_open w side id ≡ b
        → judged (stream_at e.incoming id) ≡ first_of ((not b, refusal.NotOpen) ∷ (is_over (flow w (other side) id) || is_some (flow w (other side) id).fault, refusal.Ended) ∷ [])
    by_open true opened =
        let i = incoming_there setup w side id e h opened in
        ap judged i.1 ∙ ap (λ b. if b || is_some i.0.fault then Some refusal.Ended else None) i.2.is_over
        ∙ ap (λ o. if is_over (flow w (other side) id) || is_some o then Some refusal.Ended else None) i.2.fault
    by_open false closed = ap judged (incoming_none setup w side id e h closed)

all_then : {X : Type 0} (P : X → Type 0) (xs : List X) (x : X) → AllByRecursion P xs → P x → AllByRecursion P (xs ++ x ∷ [])
all_then P [] x h k = (k, tt)
all_then P (y ∷ xs) x h k = (h.0, all_then P xs x h.1 k)

no_fault_of : (a : Bool) (o : Option StreamFault) → (a || is_some o) ≡ false → o ≡ None
no_fault_of true o e = cc
no_fault_of false None e = refl
no_fault_of false (Some x) e = cc

module _ (setup : Setup) (w : World) (ends : Ends) (side : Side) (id : ℕ) (h : Stands setup w ends) (opened : is_open w side id ≡ true) where
  given_up_does : (why : StreamFault) (j : Incoming) → ReceivesFlow (gone (flow w (other side) id) why) j
      → Does setup (given_up w side id why) ends side answer.Done answer.Done (giving_up (end_at ends side) id j)
  given_up_does why j keeps =
      let e = end_at ends side in
      let f = end_at ends (other side) in
      let b = both_of setup w side ends h in
      let own = (party w side).own in
      let v = given_up w side id why in
      let more : List DecoderInstruction = CancelStream id ∷ [] in
      let g : Flow = gone (flow w (other side) id) why in
      let r : Receives w v side id more g = flow_answered w side id more g opened refl in
      let heard : HasDecoderStreamOf setup (other side) (saying own more) f =
      decoder_stream_more (other side) (are_settings_there setup (other (other side)) own.control_taken) own.decoder_taken own.replies more (stream_at f.unidirectional (decoder_id (other (other side)))) f.decoder_on f.decoder_unread
      (sound_party setup w side h.sound).writer.decoder (hears setup w side f b.there).decoder_stream in
      let writes : IsWritable side (saying own more) =
      record { goaways = b.writes_here.goaways; instructions = b.writes_here.instructions; replies = all_then IsReply own.replies (CancelStream id) b.writes_here.replies (open_is_small setup w ends side id h opened); updates = b.writes_here.updates } in
      does_on setup w v ends side answer.Done (giving_up e id j) h refl
      (flow_count (with_party w side (saying_more (party w side) more)) (other side) id g ∙ party_count w side (saying_more (party w side) more))
      (record {
        here = receiver_stands setup w v side id more g e (giving_up e id j) j b.here r opened keeps refl;
        there = sender_stands setup w v side id more g f f f.outgoing b.there r refl heard (sends_same setup w (other side) id g f b.there refl);
        writes_here = subst (λ (q : Party). IsWritable side q.own) (sym r.here) writes;
        writes_there = subst (λ (q : Party). IsWritable (other side) q.own) (sym r.there) b.writes_there;
        sends_here = λ n. subst (λ (q : Flow). AllByRecursion (IsReadable setup (other side)) q.sent) (sym (r.from_it n)) (b.sends_here n);
        sends_there = λ n. subst (λ (q : Flow). AllByRecursion (IsReadable setup side) q.sent) (sym (r.to_it n)) (by_id n (id == n));
      })
    where
      by_id : (n : ℕ) (t : Bool) → AllByRecursion (IsReadable setup side) (if t then gone (flow w (other side) id) why else flow w (other side) n).sent
      by_id n true = (both_of setup w side ends h).sends_there id
      by_id n false = (both_of setup w side ends h).sends_there n

  -- So both ends stand in the world without it.
  pub given_up_stands : (why : StreamFault) (j : Incoming) → IsSoundWorld setup (given_up w side id why) → ReceivesFlow (gone (flow w (other side) id) why) j
      → Stands setup (given_up w side id why) (with_end ends side (giving_up (end_at ends side) id j))
  given_up_stands why j sound keeps =
      let new = giving_up (end_at ends side) id j in
      let v = given_up w side id why in
      let p = saying_more (party w side) (CancelStream id ∷ []) in
      let count : length v.exchanges ≡ length w.exchanges = flow_count (with_party w side p) (other side) id (gone (flow w (other side) id) why) ∙ party_count w side p in
      stands_served setup (answer.Done, with_end ends side new) (answer.Done, v)
      (call_agrees setup w v ends side answer.Done answer.Done None None new h refl (λ none. given_up_does why j keeps))
      (subst (λ n. 4 * n ≤ 2 ^ 62) (sym count) h.few) sound

pub cancel_served : (setup : Setup) (w : World) (ends : Ends) (side : Side) (id : ℕ) → Stands setup w ends
    → Serves setup (answered ends (event.Cancel side id)) (served setup w (event.Cancel side id))
cancel_served setup w ends side id h =
    let e = end_at ends side in
    let b = both_of setup w side ends h in
    let to = flow w (other side) id in
    let v = given_up w side id Canceled in
    let new = give_up e id (incoming_at e id) Canceled in
    call_agrees setup w v ends side answer.Done answer.Done (sender.cancel_refusal e id) (cancel_refusal w side id) new h
    (goes_unclosed setup w side e _ b.here
    ∙ ap (λ t. first_of ((t, refusal.Critical) ∷ (not (is_some (stream_at e.incoming id)), refusal.NotOpen) ∷ ((incoming_at e id).is_over || is_some (incoming_at e id).fault, refusal.Ended) ∷ []))
    (critical_agrees setup w side id e b.here)
    ∙ ap (λ o. if is_critical id then Some refusal.Critical else o) (cancel_agrees setup w side id e b.here))
    (λ goes.
    let c = not_refused (is_critical id) refusal.Critical ((not (is_open w side id), refusal.NotOpen) ∷ (is_over to || is_some to.fault, refusal.Ended) ∷ []) goes in
    let o = not_refused_open (is_open w side id) ((is_over to || is_some to.fault, refusal.Ended) ∷ []) c.1 in
    let fresh = no_fault_of (is_over to) to.fault (not_refused (is_over to || is_some to.fault) refusal.Ended [] o.1).0 in
    let i = incoming_there setup w side id e b.here o.0 in
    let j = incoming.given_up i.0 Canceled in
    let is : new ≡ giving_up e id j =
    ap (λ (x : Option Incoming). give_up e id (unwrap_or x nothing_came) Canceled) i.1
    ∙ ap (λ q. replied (with_incoming e id (given_up_by i.0 Canceled q)) (cancellation id q)) (i.2.fault ∙ fresh) in
    subst (λ x. Does setup v ends side answer.Done answer.Done x) (sym is)
    (given_up_does setup w ends side id h o.0 Canceled j (is_given_up to i.0 Canceled i.2.ended i.2.was_reset i.2.is_over)))
