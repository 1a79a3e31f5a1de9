-- In a world that a schedule leads to in which each reader takes what is sent to it, each section is no longer than its reader takes.
use Rattle.std.proofs.Common.{◌≡◌, ℕ, ◌+◌, ◌≤◌, Bool, true, false, List, [], ◌∷◌, ◌++◌, Option, Some, None, MatchOption, refl, sym, ap, ◌∙◌, subst, length, arith, if◌then◌else◌}
use Rattle.std.specs.Prelude.{not, ◌||◌, is_some}
use Rattle.h3_field.specs.Field.{Field, section_size}
use Rattle.h3_header.specs.Head.{Head as Fields, has_pseudo, head_fields}
use Rattle.h3_header.specs.Reads.{head_of_fields}
use Rattle.h3_proto.specs.Config.{is_limit}
use Rattle.h3_proto.specs.StreamIds.{is_request_stream}
use Rattle.h3_proto.specs.declared.stream.Side.{Side}
use Rattle.h3_proto.specs.declared.stream.Side.TheVariants.{Client, Server}
use Rattle.h3_qpack.specs.EncoderHistory.{EncoderHistory, writing_on}
use Rattle.h3_qpack.specs.SectionEncoding.{encoded_section}
use Rattle.h3_frames.specs.Encoded.{frame_encoding}
use Rattle.h3_connection.specs.Outgoing.{takes_body, takes_end, takes_head}
use Rattle.h3_connection.specs.OwnIds.{other}
use Rattle.h3_connection.specs.Pulling.{is_for, is_interim}
use Rattle.h3_connection.specs.Refusals.{first_of, is_too_large, of_list, unless_going, with_pseudo, wrong_side}
use Rattle.h3_connection.specs.StrictSending.{unless_malformed}
use Rattle.h3_connection.specs.declared.event.Pull.{Pull}
use Rattle.h3_connection.specs.declared.event.Pull.TheVariants as pull
use Rattle.h3_connection.specs.declared.event.Refusal.{Refusal}
use Rattle.h3_connection.specs.declared.event.Refusal.TheVariants as refusal
use Rattle.h3_connection.specs.declared.event.StreamFault.TheVariants.{Canceled}
use Rattle.h3_connection.specs.Lists.{pull_of}
use Rattle.h3_world.specs.Came.{settings_known}
use Rattle.h3_world.specs.Delivering.{delivery, end_delivery, reset_delivery}
use Rattle.h3_world.specs.Flow.{Flow, Part, Section, flow_bytes, unused}
use Rattle.h3_world.specs.Flow.Part.{Body, End, Head, Interim, Trailer}
use Rattle.h3_world.specs.Headline.{Happens}
use Rattle.h3_world.specs.Items.{after_item, acknowledgment_of, handed_out}
use Rattle.h3_world.specs.Order.{is_over, is_sent_off, next_part, outgoing_of}
use Rattle.h3_world.specs.Pauses.{paused}
use Rattle.h3_world.specs.Pulling.{Pulls, PullsNext, settled}
use Rattle.h3_world.specs.Refusals.{body_refusal, cancel_refusal, finish_refusal, goaway_refusal, head_refusal, is_critical, none_after, next_id, open_refusal, reset_refusal, trailer_refusal, fields_refusal, trailer_fields_refusal}
use Rattle.h3_world.specs.Run.{Run}
use Rattle.h3_world.specs.Sending.{appended, cut_off, finished, given_up, having_encoded, opened, section_sent, sent_body, sent_head, sent_trailer, with_goaway, sent_fields, sent_trailer_fields}
use Rattle.h3_world.specs.Lists.{unreadable}
use Rattle.h3_world.specs.Setup.{Setup, announced_at, takes_any}
use Rattle.h3_world.specs.Step.{Does, Step}
use Rattle.h3_world.specs.Streams.{flow, is_open, with_flow}
use Rattle.h3_world.specs.World.{Party, World, empty_world, no_exchange, party, with_party}
use Rattle.h3_world.specs.declared.event.Answer.{Answer}
use Rattle.h3_world.specs.declared.event.Answer.TheVariants as answer
use Rattle.h3_world.specs.declared.event.Event.{Event}
use Rattle.h3_world.specs.declared.event.Event.TheVariants as event
use Rattle.h3_headline.specs.Contents.{KeepsParts}
use Rattle.h3_headline.specs.FlowLaws.{flow-with_party, open_there, same_both, there-with_party}
use Rattle.h3_headline.specs.KeepsPartsLaws.{flow_at, keeps_delivery, keeps_end, keeps_flows, keeps_given_up, keeps_reset, keeps_with_flow, keeps_with_party, same_flow}
use Rattle.h3_headline.specs.Messages.{is_done, is_on}
use Rattle.h3_headline.specs.OpeningLaws.{flow_opened}
use Rattle.h3_headline.specs.PullLaws.{item_leaves}
use Rattle.h3_headline.specs.SettledLaws.{settled_none}
use Rattle.h3_headline.specs.Steps.{IsThere}
use Rattle.h3_strict.specs.Limits.{AreTaken, IsTaken, limit_at}
use Rattle.h3_qpack.specs.SectionSizes.{most_encoded}
use Rattle.h3_strict.proofs.CallEvents.{not_refused}
use Rattle.h3_strict.proofs.TakenFronts.{PartTaken, PartsTaken}

-- h3_qpack's law on the length of an encoded section
abbrev pub SectionsAreShort : Type 0
SectionsAreShort = (s : EncoderHistory) (fields : List Field) → length (encoded_section s fields) ≤ most_encoded fields

-- Each section that was sent is no longer than its reader takes.
abbrev pub IsTakenWorld : Setup → World → Type 0
IsTakenWorld setup w = (writer : Side) (id : ℕ) → PartsTaken (limit_at setup (other writer)) (flow w writer id).sent

not_critical : (critical there : Bool) (rules : List (Bool × Refusal)) → first_of ((critical, refusal.Critical) ∷ (not there, refusal.NotOpen) ∷ rules) ≡ None → there ≡ true
not_critical true there rules e = absurd (cc)
not_critical false there rules e = not_refused there rules e

all_more : (most : ℕ) (parts : List Part) (part : Part) → PartTaken most part → PartsTaken most parts → PartsTaken most (parts ++ part ∷ [])
all_more most [] part x h = (x, tt)
all_more most (p ∷ parts) part x h = (h.0, all_more most parts part x h.1)

writer_is : (s writer : Side) (id i : ℕ) → is_on writer id s i ≡ true → writer ≡ s
writer_is Client Client id i e = refl
writer_is Server Server id i e = refl
writer_is Client Server id i e = absurd (cc)
writer_is Server Client id i e = absurd (cc)

module _ (setup : Setup) where
  kept : (w v : World) → KeepsParts w v → IsTakenWorld setup w → IsTakenWorld setup v
  kept w v keeps t writer id = subst (PartsTaken (limit_at setup (other writer))) (sym (keeps writer id).sent) (t writer id)

  does : (o : Option Refusal) (w after v : World) (success a : Answer) → Does o w success after a v → IsTakenWorld setup w → (o ≡ None → a ≡ success → IsTakenWorld setup after) → IsTakenWorld setup v
  does (Some r) w after v success a step t done = subst (IsTakenWorld setup) (sym step.1) t
  does None w after v success a step t done = subst (IsTakenWorld setup) (sym step.1) (done refl step.0)

  -- a part is sent on a stream of a world whose flows are those of another
  part_sent : (w u : World) (s : Side) (i : ℕ) (part : Part) → IsThere u i → ((x : Side) (j : ℕ) → flow u x j ≡ flow w x j) → PartTaken (limit_at setup (other s)) part → IsTakenWorld setup w
      → IsTakenWorld setup (with_flow u s i (appended (flow w s i) part))
  part_sent w u s i part there same taken t writer id =
      subst (λ (f : Flow). PartsTaken (limit_at setup (other writer)) f.sent)
      (sym (flow_at u s writer i id (appended (flow w s i) part) there ∙ ap (λ f. if is_on writer id s i then appended (flow w s i) part else f) (same writer id)))
      (by_on (is_on writer id s i) refl)
    where
      by_on : (b : Bool) → is_on writer id s i ≡ b → PartsTaken (limit_at setup (other writer)) (if b then appended (flow w s i) part else flow w writer id).sent
      by_on true e = subst (λ (x : Side). PartsTaken (limit_at setup (other x)) (appended (flow w s i) part).sent) (sym (writer_is s writer id i e)) (all_more (limit_at setup (other s)) (flow w s i).sent part taken (t s i))
      by_on false e = t writer id

  -- a section goes out
  section_goes : (w : World) (s : Side) (i : ℕ) (fields : List Field) (part : Part) → IsThere w i → PartTaken (limit_at setup (other s)) part → IsTakenWorld setup w
      → IsTakenWorld setup (with_flow (with_party w s (having_encoded (party w s) i fields)) s i (appended (flow w s i) part))
  section_goes w s i fields part there taken t =
      let p = having_encoded (party w s) i fields in
      part_sent w (with_party w s p) s i part (there-with_party w s p i there) (λ x j. flow-with_party w s x p j) taken t

  module _ (short : SectionsAreShort) (world : Setup) where
    section_taken : (most : ℕ) (p : Party) (id : ℕ) (fields : List Field) (f : Flow) → (is_limit most ≡ true → most_encoded fields ≤ most) → is_limit most ≡ true → length (section_sent p id fields f).encoded ≤ most
    section_taken most p id fields f within limited = omega (arith, short (writing_on p.encoder id) fields, within limited)

    head_taken : (interim : Bool) (most : ℕ) (s : Section) → (is_limit most ≡ true → length s.encoded ≤ most) → PartTaken most ((if interim then Interim else Head) s)
    head_taken true most s h = h
    head_taken false most s h = h

    head_step : (w v : World) (s : Side) (i : ℕ) (head : Fields) (a : Answer) → Step world w (event.Head s i head) a v → IsTaken setup (event.Head s i head) a → IsTakenWorld setup w → IsTakenWorld setup v
    head_step w v s i head a step within t =
        does (head_refusal world w s i head) w (sent_head w s i head) v answer.Done a step t (λ none done.
        let there = open_there w s i (not_refused (is_open w s i) (
        (not (takes_head (outgoing_of (flow w s i))), refusal.OutOfOrder) ∷ unless_going (none_after world w s) ((not (is_for (other s) head), refusal.WrongSide) ∷
        (is_too_large (settings_known world w s) (head_fields head), refusal.TooLarge (section_size (head_fields head))) ∷ [])) none) in
        section_goes w s i (head_fields head) ((if is_interim head.status then Interim else Head) (section_sent (party w s) i (head_fields head) (flow w s i))) there
        (head_taken (is_interim head.status) (limit_at setup (other s)) (section_sent (party w s) i (head_fields head) (flow w s i)) (section_taken (limit_at setup (other s)) (party w s) i (head_fields head) (flow w s i) (within (ap is_done done)))) t)

    trailer_step : (w v : World) (s : Side) (i : ℕ) (trailer : Fields) (a : Answer) → Step world w (event.Trailer s i trailer) a v → IsTaken setup (event.Trailer s i trailer) a → IsTakenWorld setup w → IsTakenWorld setup v
    trailer_step w v s i trailer a step within t =
        does (trailer_refusal world w s i trailer) w (sent_trailer w s i trailer) v answer.Done a step t (λ none done.
        let there = open_there w s i (not_refused (is_open w s i) (
        (not (takes_body (outgoing_of (flow w s i))), refusal.OutOfOrder) ∷ (has_pseudo trailer, refusal.PseudoInTrailer) ∷
        (is_too_large (settings_known world w s) (head_fields trailer), refusal.TooLarge (section_size (head_fields trailer))) ∷ []) none) in
        section_goes w s i (head_fields trailer) (Trailer (section_sent (party w s) i (head_fields trailer) (flow w s i))) there
        (section_taken (limit_at setup (other s)) (party w s) i (head_fields trailer) (flow w s i) (within (ap is_done done))) t)

    -- of lists
    fields_step : (w v : World) (s : Side) (i : ℕ) (fields : List Field) (a : Answer) → Step world w (event.Fields s i fields) a v → IsTaken setup (event.Fields s i fields) a → IsTakenWorld setup w → IsTakenWorld setup v
    fields_step w v s i fields a step within t =
        does (fields_refusal world w s i fields) w (sent_fields w s i fields) v answer.Done a step t (λ none done.
        let head = head_of_fields fields in
        let there = open_there w s i (not_refused (is_open w s i) (
        (not (takes_head (outgoing_of (flow w s i))), refusal.OutOfOrder) ∷ unless_going (none_after world w s) (
        unless_malformed (unreadable (takes_any (announced_at world s)) fields) (wrong_side s head ∷ of_list None (settings_known world w s) fields))) none) in
        section_goes w s i fields ((if is_interim head.status then Interim else Head) (section_sent (party w s) i fields (flow w s i))) there
        (head_taken (is_interim head.status) (limit_at setup (other s)) (section_sent (party w s) i fields (flow w s i)) (section_taken (limit_at setup (other s)) (party w s) i fields (flow w s i) (within (ap is_done done)))) t)

    trailer_fields_step : (w v : World) (s : Side) (i : ℕ) (fields : List Field) (a : Answer) → Step world w (event.TrailerFields s i fields) a v → IsTaken setup (event.TrailerFields s i fields) a → IsTakenWorld setup w → IsTakenWorld setup v
    trailer_fields_step w v s i fields a step within t =
        does (trailer_fields_refusal world w s i fields) w (sent_trailer_fields w s i fields) v answer.Done a step t (λ none done.
        let there = open_there w s i (not_refused (is_open w s i) (
        (not (takes_body (outgoing_of (flow w s i))), refusal.OutOfOrder) ∷
        unless_malformed (unreadable (takes_any (announced_at world s)) fields) (with_pseudo (head_of_fields fields) ∷ of_list None (settings_known world w s) fields)) none) in
        section_goes w s i fields (Trailer (section_sent (party w s) i fields (flow w s i))) there
        (section_taken (limit_at setup (other s)) (party w s) i fields (flow w s i) (within (ap is_done done))) t)

    body_step : (w v : World) (s : Side) (i : ℕ) (bytes : List ℕ) (a : Answer) → Step world w (event.Body s i bytes) a v → IsTakenWorld setup w → IsTakenWorld setup v
    body_step w v s i bytes a step t =
        does (body_refusal w s i) w (sent_body w s i bytes) v answer.Done a step t
        (λ none done. goes bytes (open_there w s i (not_refused (is_open w s i) ((not (takes_body (outgoing_of (flow w s i))), refusal.OutOfOrder) ∷ []) none)))
      where
        goes : (bytes : List ℕ) → IsThere w i → IsTakenWorld setup (sent_body w s i bytes)
        goes [] there = t
        goes (b ∷ bs) there = part_sent w w s i (Body (b ∷ bs) (length (flow_bytes (flow w s i)) + length (frame_encoding 0 (b ∷ bs)))) there (λ x j. refl) tt t

    finish_step : (w v : World) (s : Side) (i : ℕ) (a : Answer) → Step world w (event.Finish s i) a v → IsTakenWorld setup w → IsTakenWorld setup v
    finish_step w v s i a step t =
        does (finish_refusal w s i) w (finished w s i) v answer.Done a step t
        (λ none done. part_sent w w s i End (open_there w s i (not_refused (is_open w s i) ((not (takes_end (outgoing_of (flow w s i))), refusal.OutOfOrder) ∷ []) none)) (λ x j. refl) tt t)

    -- a pull sends nothing
    item_step : (w : World) (s : Side) (i : ℕ) (it : _) → IsThere w i → IsTakenWorld setup w → IsTakenWorld setup (handed_out w s i it)
    item_step w s i it there t writer id =
        let q : Party = record (party w s) { own = record (party w s).own { replies = (party w s).own.replies ++ acknowledgment_of i (next_part (flow w (other s) i)) } } in
        let g = after_item (flow w (other s) i) (next_part (flow w (other s) i)) it in
        subst (λ (f : Flow). PartsTaken (limit_at setup (other writer)) f.sent)
        (sym (flow_at (with_party w s q) (other s) writer i id g (there-with_party w s q i there) ∙ ap (λ f. if is_on writer id (other s) i then g else f) (flow-with_party w s writer q id)))
        (by_on g (item_leaves (flow w (other s) i) (next_part (flow w (other s) i)) it).2 (is_on writer id (other s) i) refl)
      where
        by_on : (g : Flow) → g.sent ≡ (flow w (other s) i).sent → (b : Bool) → is_on writer id (other s) i ≡ b → PartsTaken (limit_at setup (other writer)) (if b then g else flow w writer id).sent
        by_on g same true e = subst (PartsTaken (limit_at setup (other writer))) (ap (λ (f : Flow). f.sent) (same_flow w (other s) writer i id e) ∙ sym same) (t writer id)
        by_on g same false e = t writer id

    pause_step : (w v : World) (s : Side) (i count : ℕ) → IsThere w i → v ≡ paused w s i count → IsTakenWorld setup w → IsTakenWorld setup v
    pause_step w v s i count there is t =
        subst (IsTakenWorld setup) (sym is) (kept w (paused w s i count) (keeps_with_flow w (other s) i (record (flow w (other s) i) { waits_for = count }) there (record { sent = refl; parts_out = refl; body_out = refl })) t)

    pull_step : (w v : World) (s : Side) (i : ℕ) (q : Pull) → Pulls world w s i q v → IsTakenWorld setup w → IsTakenWorld setup v
    pull_step w v s i q step t = by_settled (settled w s i) refl step
      where
        next : (q : Pull) → IsThere w i → PullsNext world w s i q v → IsTakenWorld setup v
        next (pull.Item it) there step = subst (IsTakenWorld setup) (sym step.1) (item_step w s i it there t)
        next pull.Pending there step = pause_step w v s i 0 there step t
        next (pull.Waiting count) there step = pause_step w v s i count there step t
        next (pull.Fault fault) there step = absurd step
        next pull.NoMessages there step = absurd step

        by_settled : (o : Option Pull) → settled w s i ≡ o → MatchOption o (PullsNext world w s i q v) (λ x. (q ≡ x) × (v ≡ w)) → IsTakenWorld setup v
        by_settled (Some x) e step = subst (IsTakenWorld setup) (sym step.1) t
        by_settled None e step = next q (open_there w s i (settled_none w s i e).is_there) step

    pulled_step : (w v : World) (s : Side) (i : ℕ) (a : Answer) → Step world w (event.Pull s i) a v → IsTakenWorld setup w → IsTakenWorld setup v
    pulled_step w v s i (answer.Pulled q) step t = pull_step w v s i q step t
    pulled_step w v s i _ step t = absurd step

    listed_step : (w v : World) (s : Side) (i : ℕ) (a : Answer) → Step world w (event.PullFields s i) a v → IsTakenWorld setup w → IsTakenWorld setup v
    listed_step w v s i (answer.Listed l) step t = pull_step w v s i (pull_of l) step.0 t
    listed_step w v s i _ step t = absurd step

    -- the world after a delivery
    comes : (w v : World) (a : Answer) (next : Answer × World) → ◌≡◌ {A = Answer × World} (a, v) next → KeepsParts w next.1 → IsTakenWorld setup w → IsTakenWorld setup v
    comes w v a next step keeps t = kept w v (subst (KeepsParts w) (sym (ap (λ (x : Answer × World). x.1) step)) keeps) t

    pub step_taken : (w v : World) (e : Event) (a : Answer) → Step world w e a v → IsTaken setup e a → IsTakenWorld setup w → IsTakenWorld setup v
    step_taken w v (event.Head s i head) a step within t = head_step w v s i head a step within t
    step_taken w v (event.Trailer s i trailer) a step within t = trailer_step w v s i trailer a step within t
    step_taken w v (event.Fields s i fields) a step within t = fields_step w v s i fields a step within t
    step_taken w v (event.TrailerFields s i fields) a step within t = trailer_fields_step w v s i fields a step within t
    step_taken w v (event.PullFields s i) a step within t = listed_step w v s i a step t
    step_taken w v (event.Body s i bytes) a step within t = body_step w v s i bytes a step t
    step_taken w v (event.Finish s i) a step within t = finish_step w v s i a step t
    step_taken w v (event.Pull s i) a step within t = pulled_step w v s i a step t
    step_taken w v (event.OpenRequest s) a step within t =
        does (open_refusal world w s) w (opened w) v (answer.Opened (next_id w)) a step t (λ none done. kept w (opened w) (keeps_flows w (opened w) (flow_opened w)) t)
    step_taken w v (event.Reset s i) a step within t =
        does (reset_refusal w s i) w (cut_off w s i) v answer.Done a step t
        (λ none done. kept w (cut_off w s i) (keeps_with_flow w s i (record (flow w s i) { is_reset = true })
        (open_there w s i (not_critical (is_critical i) (is_open w s i) ((is_sent_off (flow w s i), refusal.Ended) ∷ []) none)) (record { sent = refl; parts_out = refl; body_out = refl })) t)
    step_taken w v (event.Cancel s i) a step within t =
        does (cancel_refusal w s i) w (given_up w s i Canceled) v answer.Done a step t
        (λ none done. kept w (given_up w s i Canceled) (keeps_given_up w s i Canceled
        (open_there w s i (not_critical (is_critical i) (is_open w s i) ((is_over (flow w (other s) i) || is_some (flow w (other s) i).fault, refusal.Ended) ∷ []) none))) t)
    step_taken w v (event.Goaway s i) a step within t =
        does (goaway_refusal w s i) w (with_goaway w s i) v answer.Done a step t
        (λ none done. kept w (with_goaway w s i) (keeps_with_party w s (record (party w s) { own = record (party w s).own { goaways = (party w s).own.goaways ++ i ∷ [] } })) t)
    step_taken w v (event.Deliver s i count) a step within t = comes w v a (delivery world w s i count) step (keeps_delivery world w s i count) t
    step_taken w v (event.DeliverEnd s i) a step within t = comes w v a (end_delivery world w s i) step (keeps_end world w s i) t
    step_taken w v (event.DeliverReset s i) a step within t = comes w v a (reset_delivery w s i) step (keeps_reset w s i) t
    step_taken w v (event.Show s) a step within t = subst (IsTakenWorld setup) (sym step.1) t

    run_taken : (w v : World) (events : List Event) (answers : List Answer) → Run (Happens world) w events answers v → AreTaken setup events answers → IsTakenWorld setup w → IsTakenWorld setup v
    run_taken w v [] [] run within t = subst (IsTakenWorld setup) (sym run) t
    run_taken w v (e ∷ events) (a ∷ answers) run within t = run_taken run.0 v events answers run.2 within.1 (step_taken w run.0 e a run.1.step within.0 t)
    run_taken w v [] (a ∷ answers) run within t = absurd run
    run_taken w v (e ∷ events) [] run within t = absurd run

    nothing_yet : (writer : Side) (id : ℕ) → flow (empty_world world) writer id ≡ unused
    nothing_yet Client id = ap (λ e. e.request) (same_both (is_request_stream id) no_exchange no_exchange (λ e. refl))
    nothing_yet Server id = ap (λ e. e.response) (same_both (is_request_stream id) no_exchange no_exchange (λ e. refl))

    -- **From nothing.**
    pub run_from_nothing : (v : World) (events : List Event) (answers : List Answer) → Run (Happens world) (empty_world world) events answers v → AreTaken setup events answers → IsTakenWorld setup v
    run_from_nothing v events answers run within =
        run_taken (empty_world world) v events answers run within (λ writer id. subst (λ (f : Flow). PartsTaken (limit_at setup (other writer)) f.sent) (sym (nothing_yet writer id)) tt)
