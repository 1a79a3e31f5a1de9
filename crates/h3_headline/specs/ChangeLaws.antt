-- What holds of each change of a world holds of each event.
use Rattle.std.proofs.Common.{◌≡◌, true, false, ℕ, [], refl, sym, subst, Option, Some, None, Bool, not, List, ◌∷◌, ap, ◌∙◌, ◌+◌, length, ◌++◌, MatchOption}
use Rattle.h3_world.specs.Flow.{Flow, Part, flow_bytes}
use Rattle.h3_proto.specs.declared.stream.Side.{Side}
use Rattle.h3_world.specs.Streams.{flow, with_flow, is_open, has_outgoing, waiting}
use Rattle.h3_world.specs.World.{World, Party, with_party, party}
use Rattle.h3_connection.specs.declared.event.Refusal.{Refusal}
use Rattle.h3_world.specs.declared.event.Answer.{Answer}
use Rattle.h3_world.specs.declared.event.Answer.TheVariants as answer
use Rattle.h3_world.specs.Step.{Does, Step}
use Rattle.h3_connection.specs.Refusals.{is_too_large, of_list, unless_going, with_pseudo, wrong_side}
use Rattle.h3_connection.specs.StrictSending.{unless_malformed}
use Rattle.h3_connection.specs.declared.event.Refusal.TheVariants as refusal
use Rattle.std.specs.Prelude.{min}
use Rattle.h3_field.specs.Field.{Field}
use Rattle.h3_field.specs.Instruction.EncoderInstruction.{SetCapacity}
use Rattle.h3_proto.specs.declared.stream.Side.TheVariants.{Client, Server}
use Rattle.h3_qpack.specs.EncoderHistory.{using_table}
use Rattle.h3_connection.specs.Endpoint.{Own}
use Rattle.h3_connection.specs.OwnIds.{control_id, decoder_id, encoder_id}
use Rattle.h3_connection.specs.declared.setup.Limits.{Limits}
use Rattle.h3_world.specs.Came.{settings_came}
use Rattle.h3_world.specs.Delivering.{having_learned}
use Rattle.h3_world.specs.Setup.{Setup, has_table}
use Rattle.h3_headline.specs.FlowLaws.{party-with_other}
use Rattle.std.specs.Prelude.{if◌then◌else◌, ◌||◌, ◌&&◌, ◌==◌, nat_lt, is_some}
use Rattle.h3_world.specs.Order.{outgoing_of, is_finished, is_sent_off, is_over, next_part}
use Rattle.h3_world.specs.Sending.{appended, finished, having_encoded, section_sent, sent_head, sent_fields, sent_body, sent_trailer, sent_trailer_fields, cut_off, given_up, opened, with_goaway}
use Rattle.h3_world.specs.Flow.Part.{End, Interim, Head, Body, Trailer}
use Rattle.h3_field.specs.Field.{section_size}
use Rattle.h3_header.specs.Head.{Head as Fields, head_fields, has_pseudo}
use Rattle.h3_header.specs.Reads.{head_of_fields}
use Rattle.h3_connection.specs.Outgoing.{takes_head, takes_body, takes_end}
use Rattle.h3_connection.specs.OwnIds.{other}
use Rattle.h3_connection.specs.Pulling.{is_for, is_interim}
use Rattle.h3_world.specs.declared.event.Event.TheVariants as event
use Rattle.h3_world.specs.Came.{settings_known}
use Rattle.h3_world.specs.Refusals.{none_after, head_refusal, body_refusal, trailer_refusal, finish_refusal, is_critical, reset_refusal, cancel_refusal, next_id, open_refusal, goaway_refusal, fields_refusal, trailer_fields_refusal}
use Rattle.h3_frames.specs.Encoded.{frame_encoding}
use Rattle.h3_connection.specs.declared.event.StreamFault.TheVariants.{Canceled}
use Rattle.h3_connection.specs.declared.event.Item.{Item}
use Rattle.h3_connection.specs.declared.event.Item.TheVariants as item
use Rattle.h3_connection.specs.declared.event.Pull.TheVariants as pull
use Rattle.h3_world.specs.Items.{handed_out, acknowledgment_of, after_item, after_piece}
use Rattle.h3_world.specs.Setup.{announced_at, takes_any}
use Rattle.h3_world.specs.Lists.{unreadable}
use Rattle.h3_connection.specs.declared.event.Pull.{Pull}
use Rattle.h3_world.specs.Pulling.{settled, PullsNext, Pulls}
use Rattle.h3_world.specs.Delivering.{delivery, end_delivery, reset_delivery}
use Rattle.h3_world.specs.declared.event.Event.{Event}
use Rattle.h3_headline.specs.Changes.{Allows, Comes, Ends, FlowChange, HandsOut, IsGivenUp, IsMarked, LeadsTo, Sends, Stepwise, Waits}
use Rattle.h3_headline.specs.FlowLaws.{and_first, flow-with_party, open_there, there-with_party}
use Rattle.h3_headline.specs.KeepsPartsLaws.{flow_at, same_flow}
use Rattle.h3_headline.specs.Messages.{is_on}
use Rattle.h3_headline.specs.OpeningLaws.{flow_opened}
use Rattle.h3_headline.specs.SettledLaws.{settled_none}
use Rattle.h3_headline.specs.Steps.{IsThere}
use Rattle.h3_field.specs.Instruction.DecoderInstruction.{CancelStream}
use Rattle.h3_connection.specs.OwnIds.{is_own}
use Rattle.h3_connection.specs.declared.event.StreamFault.{StreamFault}
use Rattle.h3_connection.specs.declared.event.StreamFault.TheVariants as stream_fault
use Rattle.h3_connection.specs.Lists.{pull_of}
use Rattle.h3_world.specs.Delivering.{delivered_end, delivered_message, delivered_own, delivered_reset, further, having_listened, is_closed, may_end, reset_code}
use Rattle.h3_headline.specs.KeepsPartsLaws.{neither, not_is, request_there, there_with_flow}
use Rattle.h3_headline.specs.MovedLaws.{not_critical, not_refused, world_is}

module _ (R : World → World → Type 0) (c : Stepwise R) where
  -- with a change of what a side wrote
  pub stays_on : (w : World) (t s : Side) (i : ℕ) (p : Party) (g : Flow) → IsThere w i → p.own.goaways ≡ (party w t).own.goaways → FlowChange (flow w s i) g → R w (with_flow (with_party w t p) s i g)
  stays_on w t s i p g there says change =
      c.joined w (with_party w t p) (with_flow (with_party w t p) s i g) (c.writes w t p says)
      (c.changes (with_party w t p) s i g (there-with_party w t p i there) (subst (λ f. FlowChange f g) (sym (flow-with_party w t s p i)) change))

  -- a call that is refused, or done
  stays_done : (o : Option Refusal) (w after new : World) (success a : Answer) → (o ≡ None → a ≡ success → R w after) → Does o w success after a new → R w new
  stays_done (Some r) w after new success a goes h = subst (R w) (sym h.1) (c.same w)
  stays_done None w after new success a goes h = subst (R w) (sym h.1) (goes refl h.0)

  -- a stream that is given up now
  pub stays_given_up : (w : World) (receiver : Side) (i : ℕ) (fault : StreamFault) → IsThere w i → R w (given_up w receiver i fault)
  stays_given_up w receiver i fault there =
      let q : Party = record (party w receiver) { own = record (party w receiver).own { replies = (party w receiver).own.replies ++ CancelStream i ∷ [] } } in
      stays_on w receiver (other receiver) i q (record (flow w (other receiver) i) { fault = Some fault; waits_for = 0 }) there refl (IsGivenUp fault)

  -- what comes of a side's own streams
  pub stays_own : (setup : Setup) (w : World) (s : Side) (i count : ℕ) → R w (delivered_own setup w s i count)
  stays_own setup w s i count =
      let v = with_party w s (further (party w s) s i count) in
      c.joined w v (delivered_own setup w s i count) (c.writes w s (further (party w s) s i count) (advances (party w s).own (i == control_id s) (i == encoder_id s) (i == decoder_id s)))
      (c.writes v (other s) (having_listened setup w v s) (listens setup w v s ∙ sym (ap (λ (p : Party). p.own.goaways) (party-with_other w s (further (party w s) s i count)))))
    where
      advances : (own : Own) (a b d : Bool) → (if a then record own { control_taken = own.control_taken + count } else (if b then record own { encoder_taken = own.encoder_taken + count } else (
          if d then record own { decoder_taken = own.decoder_taken + count } else own))).goaways ≡ own.goaways
      advances own true b d = refl
      advances own false true d = refl
      advances own false false true = refl
      advances own false false false = refl

      learned : (p : Party) (limits : Limits) → (having_learned p limits).own.goaways ≡ p.own.goaways
      learned p limits = by_table (has_table p.encoder.most_capacity limits)
        where
          by_table : (b : Bool) → (if b then record { own = record p.own { instructions = p.own.instructions ++ SetCapacity (min p.encoder.most_capacity limits.table) ∷ [] }; encoder = using_table p.encoder limits.table limits.blocked } else p).own.goaways ≡ p.own.goaways
          by_table true = refl
          by_table false = refl

      listens : (setup : Setup) (old new : World) (writer : Side) → (having_listened setup old new writer).own.goaways ≡ (party old (other writer)).own.goaways
      listens setup old new writer = by_learns (not (settings_came setup old writer) && settings_came setup new writer)
        where
          by_learns : (b : Bool) → (if b then having_learned (party old (other writer)) (announced_at setup writer).limits else party old (other writer)).own.goaways ≡ (party old (other writer)).own.goaways
          by_learns true = learned (party old (other writer)) (announced_at setup writer).limits
          by_learns false = refl

  pub stays_delivery : (setup : Setup) (w : World) (s : Side) (i count : ℕ) → LeadsTo R w (delivery setup w s i count)
  stays_delivery setup w s i count = by_tests (has_outgoing w s i) (nat_lt (waiting setup w s i) count) (is_closed w s i) (is_own s i) refl refl
    where
      by_tests : (there short closed own : Bool) → has_outgoing w s i ≡ there → is_own s i ≡ own
          → LeadsTo R w (if not there then (answer.NoStream, w) else (if short then (answer.Short (waiting setup w s i), w) else (if closed then (answer.Refused refusal.AfterEnd, w) else
          (answer.Delivered count, if own then delivered_own setup w s i count else delivered_message w s i count))))
      by_tests false short closed own t o = c.same w
      by_tests true true closed own t o = c.same w
      by_tests true false true own t o = c.same w
      by_tests true false false true t o = stays_own setup w s i count
      by_tests true false false false t o = c.changes w s i (record (flow w s i) { delivered = (flow w s i).delivered + count; seen = true }) (request_there w s i t o) (Comes count)

  pub stays_end : (setup : Setup) (w : World) (s : Side) (i : ℕ) → LeadsTo R w (end_delivery setup w s i)
  stays_end setup w s i = by_tests (has_outgoing w s i) (may_end setup w s i) (is_closed w s i) refl refl
    where
      request : may_end setup w s i ≡ true → is_own s i ≡ false
      request e = not_is (is_own s i) (and_first (not (is_own s i)) (is_finished (flow w s i)) (and_first (not (is_own s i) && is_finished (flow w s i)) (waiting setup w s i == 0) e))

      by_tests : (there may closed : Bool) → has_outgoing w s i ≡ there → may_end setup w s i ≡ may
          → LeadsTo R w (if not there then (answer.NoStream, w) else (if not may then (answer.Early, w) else (if closed then (answer.Refused refusal.AfterEnd, w) else (answer.Done, delivered_end w s i))))
      by_tests false may closed t m = c.same w
      by_tests true false closed t m = c.same w
      by_tests true true true t m = c.same w
      by_tests true true false t m = c.changes w s i (record (flow w s i) { seen = true; ended = true }) (request_there w s i t (request m)) Ends

  pub stays_reset : (w : World) (s : Side) (i : ℕ) → LeadsTo R w (reset_delivery w s i)
  stays_reset w s i = by_tests (has_outgoing w s i) (is_own s i || not (flow w s i).is_reset) (is_closed w s i) refl refl
    where
      marked : Flow
      marked = record (flow w s i) { seen = true; reset_came = true }

      lost : (there : IsThere w i) (b : Bool) → R w (if b then with_flow w s i marked else given_up (with_flow w s i marked) (other s) i (stream_fault.Reset reset_code))
      lost there true = c.changes w s i marked there IsMarked
      lost there false =
          c.joined w (with_flow w s i marked) (given_up (with_flow w s i marked) (other s) i (stream_fault.Reset reset_code)) (c.changes w s i marked there IsMarked)
          (stays_given_up (with_flow w s i marked) (other s) i (stream_fault.Reset reset_code) (there_with_flow w s i marked there))

      by_tests : (there early closed : Bool) → has_outgoing w s i ≡ there → (is_own s i || not (flow w s i).is_reset) ≡ early
          → LeadsTo R w (if not there then (answer.NoStream, w) else (if early then (answer.Early, w) else (if closed then (answer.Refused refusal.AfterEnd, w) else (answer.Done, delivered_reset w s i))))
      by_tests false early closed t r = c.same w
      by_tests true true closed t r = c.same w
      by_tests true false true t r = c.same w
      by_tests true false false t r = lost (request_there w s i t (neither (is_own s i) (not (flow w s i).is_reset) r)) (is_some (flow w s i).fault)

  -- what a sender's part leaves
  stays_section : (w : World) (s : Side) (i : ℕ) (fields : List Field) (part : Part) → IsThere w i → R w (with_flow (with_party w s (having_encoded (party w s) i fields)) s i (appended (flow w s i) part))
  stays_section w s i fields part there = stays_on w s s i (having_encoded (party w s) i fields) (appended (flow w s i) part) there refl (Sends part)

  stays_body : (w : World) (side : Side) (i : ℕ) (bytes : List ℕ) → IsThere w i → R w (sent_body w side i bytes)
  stays_body w side i [] there = c.same w
  stays_body w side i (b ∷ bs) there =
      let part : Part = Body (b ∷ bs) (length (flow_bytes (flow w side i)) + length (frame_encoding 0 (b ∷ bs))) in
      c.changes w side i (appended (flow w side i) part) there (Sends part)

  -- the stream is there behind an item
  pub stays_handed : (w : World) (side : Side) (i : ℕ) (it : Item) → IsThere w i → R w (handed_out w side i it)
  stays_handed w side i it there =
      let f = flow w (other side) i in
      let q : Party = record (party w side) { own = record (party w side).own { replies = (party w side).own.replies ++ acknowledgment_of i (next_part f) } } in
      stays_on w side (other side) i q (after_item f (next_part f) it) there refl (HandsOut (next_part f) it)

  stays_pull : (setup : Setup) (w new : World) (side : Side) (i : ℕ) (p : Pull) → Pulls setup w side i p new → R w new
  stays_pull setup w new side i p step = by_settled (settled w side i) refl step
    where
      next : (p : Pull) → IsThere w i → PullsNext setup w side i p new → R w new
      next (pull.Item it) there step = subst (R w) (sym step.1) (stays_handed w side i it there)
      next pull.Pending there step = subst (R w) (sym step) (c.changes w (other side) i (record (flow w (other side) i) { waits_for = 0 }) there (Waits 0))
      next (pull.Waiting count) there step = subst (R w) (sym step) (c.changes w (other side) i (record (flow w (other side) i) { waits_for = count }) there (Waits count))
      next (pull.Fault fault) there step = absurd step
      next pull.NoMessages there step = absurd step

      by_settled : (o : Option Pull) → settled w side i ≡ o → MatchOption o (PullsNext setup w side i p new) (λ q. (p ≡ q) × (new ≡ w)) → R w new
      by_settled (Some q) e step = subst (R w) (sym step.1) (c.same w)
      by_settled None e step = next p (open_there w side i (settled_none w side i e).is_there) step

  -- **So it is over each event.**
  pub event_stays : (setup : Setup) (w new : World) (e : Event) (a : Answer) → Allows R w e a → Step setup w e a new → R w new
  event_stays setup w new (event.OpenRequest side) a allowed step = stays_done (open_refusal setup w side) w (opened w) new (answer.Opened (next_id w)) a (λ none done. c.opens w) step
  event_stays setup w new (event.Head side i head) a allowed step =
      stays_done (head_refusal setup w side i head) w (sent_head w side i head) new answer.Done a (λ none done.
      stays_section w side i (head_fields head) ((if is_interim head.status then Interim else Head) (section_sent (party w side) i (head_fields head) (flow w side i)))
      (open_there w side i (not_refused (is_open w side i) (
      (not (takes_head (outgoing_of (flow w side i))), refusal.OutOfOrder) ∷ unless_going (none_after setup w side) ((not (is_for (other side) head), refusal.WrongSide) ∷
      (is_too_large (settings_known setup w side) (head_fields head), refusal.TooLarge (section_size (head_fields head))) ∷ [])) none))) step
  event_stays setup w new (event.Fields side i fields) a allowed step =
      stays_done (fields_refusal setup w side i fields) w (sent_fields w side i fields) new answer.Done a (λ none done.
      stays_section w side i fields ((if is_interim (head_of_fields fields).status then Interim else Head) (section_sent (party w side) i fields (flow w side i)))
      (open_there w side i (not_refused (is_open w side i) (
      (not (takes_head (outgoing_of (flow w side i))), refusal.OutOfOrder) ∷
      unless_going (none_after setup w side) (unless_malformed (unreadable (takes_any (announced_at setup side)) fields) (wrong_side side (head_of_fields fields) ∷ of_list None (settings_known setup w side) fields))) none))) step
  event_stays setup w new (event.Body side i bytes) a allowed step =
      stays_done (body_refusal w side i) w (sent_body w side i bytes) new answer.Done a (λ none done.
      stays_body w side i bytes (open_there w side i (not_refused (is_open w side i) ((not (takes_body (outgoing_of (flow w side i))), refusal.OutOfOrder) ∷ []) none))) step
  event_stays setup w new (event.Trailer side i trailer) a allowed step =
      stays_done (trailer_refusal setup w side i trailer) w (sent_trailer w side i trailer) new answer.Done a (λ none done.
      stays_section w side i (head_fields trailer) (Trailer (section_sent (party w side) i (head_fields trailer) (flow w side i)))
      (open_there w side i (not_refused (is_open w side i) (
      (not (takes_body (outgoing_of (flow w side i))), refusal.OutOfOrder) ∷ (has_pseudo trailer, refusal.PseudoInTrailer) ∷
      (is_too_large (settings_known setup w side) (head_fields trailer), refusal.TooLarge (section_size (head_fields trailer))) ∷ []) none))) step
  event_stays setup w new (event.TrailerFields side i fields) a allowed step =
      stays_done (trailer_fields_refusal setup w side i fields) w (sent_trailer_fields w side i fields) new answer.Done a (λ none done.
      stays_section w side i fields (Trailer (section_sent (party w side) i fields (flow w side i)))
      (open_there w side i (not_refused (is_open w side i) (
      (not (takes_body (outgoing_of (flow w side i))), refusal.OutOfOrder) ∷
      unless_malformed (unreadable (takes_any (announced_at setup side)) fields) (with_pseudo (head_of_fields fields) ∷ of_list None (settings_known setup w side) fields)) none))) step
  event_stays setup w new (event.Finish side i) a allowed step =
      stays_done (finish_refusal w side i) w (finished w side i) new answer.Done a (λ none done.
      c.changes w side i (appended (flow w side i) End) (open_there w side i (not_refused (is_open w side i) ((not (takes_end (outgoing_of (flow w side i))), refusal.OutOfOrder) ∷ []) none)) (Sends End)) step
  event_stays setup w new (event.Reset side i) a allowed step =
      stays_done (reset_refusal w side i) w (cut_off w side i) new answer.Done a (λ none done.
      allowed (open_there w side i (not_critical (is_critical i) (is_open w side i) ((is_sent_off (flow w side i), refusal.Ended) ∷ []) none)) done) step
  event_stays setup w new (event.Cancel side i) a allowed step =
      stays_done (cancel_refusal w side i) w (given_up w side i Canceled) new answer.Done a (λ none done.
      stays_given_up w side i Canceled (open_there w side i (not_critical (is_critical i) (is_open w side i) ((is_over (flow w (other side) i) || is_some (flow w (other side) i).fault, refusal.Ended) ∷ []) none))) step
  event_stays setup w new (event.Goaway side i) a allowed step =
      stays_done (goaway_refusal w side i) w (with_goaway w side i) new answer.Done a (λ none done.
      allowed done) step
  event_stays setup w new (event.Deliver side i count) a allowed step = subst (R w) (sym (world_is a new (delivery setup w side i count) step)) (stays_delivery setup w side i count)
  event_stays setup w new (event.DeliverEnd side i) a allowed step = subst (R w) (sym (world_is a new (end_delivery setup w side i) step)) (stays_end setup w side i)
  event_stays setup w new (event.DeliverReset side i) a allowed step = subst (R w) (sym (world_is a new (reset_delivery w side i) step)) (stays_reset w side i)
  event_stays setup w new (event.Pull side i) (answer.Pulled p) allowed step = stays_pull setup w new side i p step
  event_stays setup w new (event.PullFields side i) (answer.Listed l) allowed step = stays_pull setup w new side i (pull_of l) step.0
  event_stays setup w new (event.Pull side i) a allowed step = absurd step
  event_stays setup w new (event.PullFields side i) a allowed step = absurd step
  event_stays setup w new (event.Show side) a allowed step = subst (R w) (sym step.1) (c.same w)
