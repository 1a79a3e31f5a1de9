-- Between two strict ends no pull finds a message malformed, where the server knows what was asked when it answers.
use Rattle.std.proofs.Common.{◌≡◌, inl, ℕ, Bool, true, false, List, [], ◌∷◌, ◌++◌, refl, sym, ap, ◌∙◌, subst, arith, if◌then◌else◌}
use Rattle.std.specs.Prelude.{◌==◌, ◌&&◌}
use Rattle.std.specs.List.{AllByRecursion}
use Rattle.std.proofs.lemmas.Bool.{and_right}
use Rattle.h3_header.specs.Head.{Head, head_fields, trailer_head}
use Rattle.h3_header.specs.Reads.{AcceptsAll}
use Rattle.h3_messages.specs.declared.content.Content.{Content}
use Rattle.h3_messages.specs.declared.content.Content.TheVariants.{Unsaid}
use Rattle.h3_proto.specs.declared.stream.Side.{Side}
use Rattle.h3_proto.specs.declared.stream.Side.TheVariants.{Client, Server}
use Rattle.h3_proto.specs.Config.{is_limit}
use Rattle.h3_connection.specs.Delivering.{incoming_at}
use Rattle.h3_connection.specs.Endpoint.{EndpointHistory, limit_of}
use Rattle.h3_connection.specs.Incoming.{nothing_came}
use Rattle.h3_connection.specs.Keeping.{pulls}
use Rattle.h3_connection.specs.Outgoing.{nothing_sent}
use Rattle.h3_connection.specs.OwnIds.{other}
use Rattle.h3_connection.specs.Sending.{outgoing_at}
use Rattle.h3_connection.specs.StrictConnection.{is_strict}
use Rattle.h3_connection.specs.declared.setup.Announced.{Announced}
use Rattle.h3_proto.specs.StreamIds.{is_request_stream}
use Rattle.h3_connection.specs.declared.event.Pull.{Pull}
use Rattle.h3_connection.specs.Coming.{fields_behind}
use Rattle.h3_connection.specs.Lists.{listed_pull, pull_of}
use Rattle.h3_world.specs.ListLaws.{pulls_listed}
use Rattle.h3_world.specs.Pulling.{Pulls, list_next}
use Rattle.h3_world.specs.Step.{IsExact, Step}
use Rattle.h3_world.specs.Ends.{Ends, answered, answers_of_ends, delivery, end_at, end_delivery, ends_after, new_ends, reset_delivery}
use Rattle.h3_world.specs.Flow.{Flow, unused}
use Rattle.h3_world.specs.Headline.{Happens}
use Rattle.h3_world.specs.Refusals.{next_id}
use Rattle.h3_world.specs.Run.{Run}
use Rattle.h3_world.specs.Sendable.{IsSendable, IsSendableHead}
use Rattle.h3_world.specs.Setup.{IsMadeSetup, Setup, TakesAnyLength, announced_at, both_take_any, takes_any}
use Rattle.h3_world.specs.Streams.{flow}
use Rattle.h3_world.specs.World.{World, empty_world, no_exchange}
use Rattle.h3_world.specs.declared.event.Answer.{Answer}
use Rattle.h3_world.specs.declared.event.Answer.TheVariants as answer
use Rattle.h3_world.specs.declared.event.Event.{Event}
use Rattle.h3_world.specs.declared.event.Event.TheVariants as event
use Rattle.h3_headline.specs.Cited.{Laws}
use Rattle.h3_headline.specs.FlowLaws.{same_both}
use Rattle.h3_headline.specs.ListEventLaws.{same_lists}
use Rattle.h3_headline.specs.PullEventLaws.{pull_on}
use Rattle.h3_headline.specs.SentEventLaws.{each_takes, list_accepted}
use Rattle.h3_headline.specs.Standing.{Stands}
use Rattle.h3_strict.proofs.CallEvents.{body_event, fields_event, finish_event, head_event, trailer_event, trailer_fields_event}
use Rattle.h3_strict.proofs.PlainLists.{faults_same, heads_same}
use Rattle.h3_strict.proofs.PlainPulled.{lists_plain}
use Rattle.h3_strict.proofs.PlainSetups.{judges_plainly}
use Rattle.h3_strict.proofs.SentTallies.{stands_at}
use Rattle.h3_strict.proofs.PlainSteps.{every_step}
use Rattle.h3_strict.proofs.PullEvents.{not_judged}
use Rattle.h3_strict.proofs.PullTally.{pull_tally}
use Rattle.h3_strict.proofs.QuietEvents.{cancel_event, deliver_event, end_event, goaway_event, lost_event, open_event, reset_event}
use Rattle.h3_strict.proofs.SameWorlds.{answers_more, ends_more, run_last, run_same}
use Rattle.h3_strict.specs.PlainEnds.{Alike, Judges, NoneJudges, RefusesMalformed, StepsPlainly, is_malformed_refusal, judges, plain_ends, plain_setup, refused_by, was_too_long}
use Rattle.h3_headline.specs.Messages.{is_done}
use Rattle.h3_strict.specs.NarrowLaws.{all_widen}
use Rattle.h3_strict.specs.Plainly.{is_excess, plainly}
use Rattle.h3_strict.specs.ServerKnows.{AnswersKnowing, ServerKnows, ServerKnowsFrom, hands_head, is_server, knows_behind, tells_head}
use Rattle.h3_strict.specs.Tallies.{Tallies, TalliesFlow, JudgesStrictly, awaited_of, has_head}

-- The law that two ends without strict messages run in a world, over every schedule.
abbrev pub RunsInWorlds : Setup → Type 0
RunsInWorlds setup =
    (events : List Event) → AllByRecursion (IsSendable setup) events → (w : World) × Run (Happens setup) (empty_world setup) events (answers_of_ends (new_ends setup) events) w × Stands setup w (ends_after (new_ends setup) events)

-- less is known
known_less : (setup : Setup) (w : World) (ends : Ends) (known later : ℕ → Bool) → ((id : ℕ) → later id ≡ true → known id ≡ true) → Tallies setup w ends known → Tallies setup w ends later
known_less setup w ends known later less t = record { flows = t.flows; announced = t.announced; asked = t.asked; knows = λ id is. t.knows id (less id is) }

module _ (laws : Laws) (setup : Setup) (made : IsMadeSetup (plain_setup setup)) (strict : JudgesStrictly setup) where
  -- The list that comes next reads as the header that is pulled.
  reads_as : (s : Side) (i : ℕ) (w : World) (ends : Ends) (known : ℕ → Bool) → Stands (plain_setup setup) w (plain_ends ends) → Tallies setup w ends known
      → pull_of (listed_pull (fields_behind (end_at ends s).kept (end_at ends s) i) (pulls (end_at ends s) i).0) ≡ (pulls (end_at ends s) i).0
  reads_as s i w ends known h t = by_step (every_step ends (event.Pull s i))
    where
      e : EndpointHistory
      e = end_at ends s

      p : Pull
      p = (pulls e i).0

      by_step : StepsPlainly ends (event.Pull s i) → pull_of (listed_pull (fields_behind e.kept e i) p) ≡ p
      by_step (RefusesMalformed told same) = absurd (cc)
      by_step (Judges judged told) = absurd (let never : false ≡ true = sym (not_judged laws setup made w ends known h t strict s i) ∙ judged in cc)
      by_step (Alike told same) =
          let plain = plain_setup setup in
          let on = pull_on laws plain w (plain_ends ends) s i made (judges_plainly setup) h in
          let given : (answered (plain_ends ends) (event.Pull s i)).0 ≡ answer.Pulled p = ap (λ (x : Answer × Ends). x.0) same in
          let step : Step plain w (event.Pull s i) (answer.Pulled p) on.new = subst (λ a. Step plain w (event.Pull s i) a on.new) given on.happens.step in
          let exact : IsExact w (event.Pull s i) (answer.Pulled p) = subst (IsExact w (event.Pull s i)) given on.happens.exact in
          let lists : listed_pull (fields_behind e.kept e i) p ≡ listed_pull (list_next plain w s i) p =
          sym (lists_plain e.kept e i) ∙ same_lists laws plain w on.new s i (plainly e) p made (stands_at setup w ends s h) h.sound step exact in
          ap pull_of lists ∙ (pulls_listed plain w on.new s i p step).stands

  -- what its reader reads of a header that may be sent
  header_read : (s : Side) (head : Head) → IsSendableHead (both_take_any setup) head → AcceptsAll (takes_any (announced_at setup (other s))) (trailer_head []) (head_fields head)
  header_read s head sendable = (sendable.reads_back (takes_any (announced_at setup (other s))) (each_takes setup (other s) head.protocol sendable.taken)).0

  -- What an event leaves.
  event_tally : (e : Event) (w v : World) (ends : Ends) (known : ℕ → Bool) → IsSendable setup e → Stands (plain_setup setup) w (plain_ends ends) → Stands (plain_setup setup) v (plain_ends (answered ends e).1) → Happens (plain_setup setup) w e (answered ends e).0 v
      → AnswersKnowing known e (answered ends e).0 → Tallies setup w ends known → Tallies setup v (answered ends e).1 (λ id. knows_behind id (known id) e (answered ends e).0)
  event_tally (event.OpenRequest s) w v ends known sendable h g step knows t = open_event setup w ends known h t s v (answered ends (event.OpenRequest s)).0 (answered ends (event.OpenRequest s)).1 refl (answer.Opened (next_id w)) step.step
  event_tally (event.Head s i head) w v ends known sendable h g step knows t =
      head_event setup w ends known h t (λ side. (strict side).0) s i head (header_read s head sendable) v (answered ends (event.Head s i head)).0 (answered ends (event.Head s i head)).1 refl step.step (λ side done final. knows (ap is_server side) (ap is_done done) final)
  event_tally (event.Fields s i fields) w v ends known sendable h g step knows t =
      fields_event setup w ends known h t (λ side. (strict side).0) s i fields (λ none. list_accepted laws.reading setup (takes_any (end_at ends s).announced) (other s) fields sendable none) v (answered ends (event.Fields s i fields)).0 (answered ends (event.Fields s i fields)).1 refl step.step (λ side done final. knows (ap is_server side) (ap is_done done) final)
  event_tally (event.Body s i bytes) w v ends known sendable h g step knows t = body_event setup w ends known h t (λ side. (strict side).0) s i bytes v (answered ends (event.Body s i bytes)).0 (answered ends (event.Body s i bytes)).1 refl step.step
  event_tally (event.Trailer s i trailer) w v ends known sendable h g step knows t = trailer_event setup w ends known h t (λ side. (strict side).0) s i trailer (header_read s trailer sendable) v (answered ends (event.Trailer s i trailer)).0 (answered ends (event.Trailer s i trailer)).1 refl step.step
  event_tally (event.TrailerFields s i fields) w v ends known sendable h g step knows t =
      trailer_fields_event setup w ends known h t (λ side. (strict side).0) s i fields (λ none. list_accepted laws.reading setup (takes_any (end_at ends s).announced) (other s) fields sendable none) v (answered ends (event.TrailerFields s i fields)).0 (answered ends (event.TrailerFields s i fields)).1 refl step.step
  event_tally (event.Finish s i) w v ends known sendable h g step knows t = finish_event setup w ends known h t (λ side. (strict side).0) s i v (answered ends (event.Finish s i)).0 (answered ends (event.Finish s i)).1 refl step.step
  event_tally (event.Reset s i) w v ends known sendable h g step knows t = reset_event setup w ends known h t s i v (answered ends (event.Reset s i)).0 (answered ends (event.Reset s i)).1 refl step.step
  event_tally (event.Cancel s i) w v ends known sendable h g step knows t = cancel_event setup w ends known h t s i v (answered ends (event.Cancel s i)).0 (answered ends (event.Cancel s i)).1 refl step.step
  event_tally (event.Goaway s i) w v ends known sendable h g step knows t = goaway_event setup w ends known h t s i v (answered ends (event.Goaway s i)).0 (answered ends (event.Goaway s i)).1 refl step.step
  event_tally (event.Deliver s i count) w v ends known sendable h g step knows t = deliver_event setup w ends known h t s i count v (answered ends (event.Deliver s i count)).0 (answered ends (event.Deliver s i count)).1 refl step.step
  event_tally (event.DeliverEnd s i) w v ends known sendable h g step knows t = end_event setup w ends known h t s i v (answered ends (event.DeliverEnd s i)).0 (answered ends (event.DeliverEnd s i)).1 refl step.step
  event_tally (event.DeliverReset s i) w v ends known sendable h g step knows t = lost_event setup w ends known h t s i v (answered ends (event.DeliverReset s i)).0 (answered ends (event.DeliverReset s i)).1 refl step.step
  event_tally (event.Pull s i) w v ends known sendable h g step knows t =
      known_less setup v (answered ends (event.Pull s i)).1 (λ j. if is_server s && (i == j) && hands_head (pulls (end_at ends s) i).0 then true else known j) _ (λ j is. is)
      (pull_tally laws setup made w ends known h t strict s i v step.step step.no_connection_fault g)
  event_tally (event.PullFields s i) w v ends known sendable h g step knows t =
      let e = end_at ends s in
      let p = (pulls e i).0 in
      let o = fields_behind e.kept e i in
      known_less setup v (answered ends (event.PullFields s i)).1 (λ j. if is_server s && (i == j) && hands_head p then true else known j) _
      (λ j is. subst (λ b. (if is_server s && (i == j) && b then true else known j) ≡ true) (heads_same o p) is)
      (pull_tally laws setup made w ends known h t strict s i v (subst (λ q. Pulls (plain_setup setup) w s i q v) (reads_as s i w ends known h t) step.step.0) (sym (faults_same o p) ∙ step.no_connection_fault) g)
  event_tally (event.Show s) w v ends known sendable h g step knows t = subst (λ u. Tallies setup u ends known) (sym step.step.1) t

  -- what comes is never too long
  none_too_long : (s : Side) (ends : Ends) → (end_at ends s).announced ≡ announced_at setup s → TakesAnyLength (announced_at setup s) → (a : Answer) → was_too_long ends s a ≡ false
  none_too_long s ends same any a = and_right (is_excess (is_strict (end_at ends s).announced) (refused_by a)) (is_limit (limit_of (end_at ends s))) (subst TakesAnyLength (sym same) any)

  none_here : (e : Event) (w : World) (ends : Ends) (known : ℕ → Bool) → Stands (plain_setup setup) w (plain_ends ends) → Tallies setup w ends known → judges ends e ≡ false
  none_here (event.Pull s i) w ends known h t = not_judged laws setup made w ends known h t strict s i
  none_here (event.PullFields s i) w ends known h t = not_judged laws setup made w ends known h t strict s i
  none_here (event.Fields s i fields) w ends known h t = refl
  none_here (event.TrailerFields s i fields) w ends known h t = refl
  none_here (event.OpenRequest s) w ends known h t = refl
  none_here (event.Head s i head) w ends known h t = refl
  none_here (event.Body s i bytes) w ends known h t = refl
  none_here (event.Trailer s i trailer) w ends known h t = refl
  none_here (event.Finish s i) w ends known h t = refl
  none_here (event.Reset s i) w ends known h t = refl
  none_here (event.Cancel s i) w ends known h t = refl
  none_here (event.Goaway s i) w ends known h t = refl
  none_here (event.Deliver s i count) w ends known h t = none_too_long (other s) ends (t.announced (other s)) (strict (other s)).1 (delivery ends s i count).0
  none_here (event.DeliverEnd s i) w ends known h t = none_too_long (other s) ends (t.announced (other s)) (strict (other s)).1 (end_delivery ends s i).0
  none_here (event.DeliverReset s i) w ends known h t = none_too_long (other s) ends (t.announced (other s)) (strict (other s)).1 (reset_delivery ends s i).0
  none_here (event.Show s) w ends known h t = refl

  -- A send that was refused as malformed tells nothing of what is known.
  tells_nothing : (a : Answer) → is_malformed_refusal a ≡ true → (tells_head a ≡ false) × (is_done a ≡ false)
  tells_nothing (answer.Refused r) is = (refl, refl)
  tells_nothing answer.Done is = absurd (cc)
  tells_nothing (answer.Opened n) is = absurd (cc)
  tells_nothing (answer.Delivered n) is = absurd (cc)
  tells_nothing (answer.Short n) is = absurd (cc)
  tells_nothing answer.NoStream is = absurd (cc)
  tells_nothing answer.Early is = absurd (cc)
  tells_nothing (answer.Pulled q) is = absurd (cc)
  tells_nothing (answer.Listed l) is = absurd (cc)
  tells_nothing (answer.Shown a b c) is = absurd (cc)

  less_by : (b c d k : Bool) → d ≡ false → (if b && c && d then true else k) ≡ true → k ≡ true
  less_by true true d k off is = ap (λ x. if x then true else k) (sym off) ∙ is
  less_by true false d k off is = is
  less_by false c d k off is = is

  known_before : (e : Event) (a : Answer) (id : ℕ) (k : Bool) → is_malformed_refusal a ≡ true → knows_behind id k e a ≡ true → k ≡ true
  known_before (event.Pull s i) a id k told is = less_by (is_server s) (i == id) (tells_head a) k (tells_nothing a told).0 is
  known_before (event.PullFields s i) a id k told is = less_by (is_server s) (i == id) (tells_head a) k (tells_nothing a told).0 is
  known_before (event.Fields s i fields) a id k told is = is
  known_before (event.TrailerFields s i fields) a id k told is = is
  known_before (event.Cancel s i) a id k told is = is
  known_before (event.DeliverReset s i) a id k told is = is
  known_before (event.OpenRequest s) a id k told is = is
  known_before (event.Head s i head) a id k told is = is
  known_before (event.Body s i bytes) a id k told is = is
  known_before (event.Trailer s i trailer) a id k told is = is
  known_before (event.Finish s i) a id k told is = is
  known_before (event.Reset s i) a id k told is = is
  known_before (event.Goaway s i) a id k told is = is
  known_before (event.Deliver s i count) a id k told is = is
  known_before (event.DeliverEnd s i) a id k told is = is
  known_before (event.Show s) a id k told is = is

  -- Behind some events, of which those that were not refused as malformed lead to this world.
  record Reached (past : List Event) (ends : Ends) (known : ℕ → Bool) : Type 0 where
    sendable : AllByRecursion (IsSendable setup) past
    leads : ends_after (new_ends (plain_setup setup)) past ≡ plain_ends ends
    world : World
    run : Run (Happens (plain_setup setup)) (empty_world (plain_setup setup)) past (answers_of_ends (new_ends (plain_setup setup)) past) world
    stands : Stands (plain_setup setup) world (plain_ends ends)
    tallies : Tallies setup world ends known

  all_more : (past : List Event) (e : Event) → AllByRecursion (IsSendable setup) past → IsSendable setup e → AllByRecursion (IsSendable setup) (past ++ e ∷ [])
  all_more [] e h k = (k, tt)
  all_more (d ∷ past) e h k = (h.0, all_more past e h.1 k)

  module _ (runs : RunsInWorlds (plain_setup setup)) where
    goes_on : (past : List Event) (ends : Ends) (known : ℕ → Bool) (e : Event) → IsSendable setup e → AnswersKnowing known e (answered ends e).0 → answered (plain_ends ends) e ≡ ((answered ends e).0, plain_ends (answered ends e).1)
        → Reached past ends known → Reached (past ++ e ∷ []) (answered ends e).1 (λ id. knows_behind id (known id) e (answered ends e).0)
    goes_on past ends known e sendable knows same r =
        let plain = plain_setup setup in
        let begun = new_ends plain in
        let all = all_more past e r.sendable sendable in
        let next = runs (past ++ e ∷ []) (all_widen (both_take_any setup) (past ++ e ∷ []) all) in
        let answers : answers_of_ends begun (past ++ e ∷ []) ≡ answers_of_ends begun past ++ (answered ends e).0 ∷ [] =
        answers_more begun past e ∙ ap (λ x. answers_of_ends begun past ++ (answered x e).0 ∷ []) r.leads ∙ ap (λ (x : Answer × Ends). answers_of_ends begun past ++ x.0 ∷ []) same in
        let leads : ends_after begun (past ++ e ∷ []) ≡ plain_ends (answered ends e).1 = ends_more begun past e ∙ ap (λ x. (answered x e).1) r.leads ∙ ap (λ (x : Answer × Ends). x.1) same in
        let last = run_last plain (empty_world plain) past (answers_of_ends begun past) e (answered ends e).0 next.0 (subst (λ l. Run (Happens plain) (empty_world plain) (past ++ e ∷ []) l next.0) answers next.1) in
        let one : last.mid ≡ r.world = run_same plain (empty_world plain) past (answers_of_ends begun past) last.mid r.world last.front r.run in
        let happens = subst (λ u. Happens plain u e (answered ends e).0 next.0) one last.last in
        let stands = subst (Stands plain next.0) leads next.2 in
        record {
          sendable = all;
          leads = leads;
          world = next.0;
          run = next.1;
          stands = stands;
          tallies = event_tally e r.world next.0 ends known sendable r.stands stands happens knows r.tallies;
        }

    next_from : (events past : List Event) (ends : Ends) (known : ℕ → Bool) (e : Event) → StepsPlainly ends e → IsSendable setup e → AnswersKnowing known e (answered ends e).0
        → ServerKnowsFrom (λ id. knows_behind id (known id) e (answered ends e).0) events (answers_of_ends (answered ends e).1 events) → Reached past ends known
        → ((p : List Event) (n : Ends) (k : ℕ → Bool) → ServerKnowsFrom k events (answers_of_ends n events) → Reached p n k → NoneJudges n events) → NoneJudges (answered ends e).1 events
    next_from events past ends known e (RefusesMalformed told same) sendable knows later r rest =
        let t = known_less setup r.world ends known (λ id. knows_behind id (known id) e (answered ends e).0) (λ id is. known_before e (answered ends e).0 id (known id) told is) r.tallies in
        let q : Reached past ends (λ id. knows_behind id (known id) e (answered ends e).0) = record { sendable = r.sendable; leads = r.leads; world = r.world; run = r.run; stands = r.stands; tallies = t } in
        rest past (answered ends e).1 (λ id. knows_behind id (known id) e (answered ends e).0) later (subst (λ n. Reached past n (λ id. knows_behind id (known id) e (answered ends e).0)) (sym same) q)
    next_from events past ends known e (Judges judged told) sendable knows later r rest = absurd (let never : false ≡ true = sym (none_here e r.world ends known r.stands r.tallies) ∙ judged in cc)
    next_from events past ends known e (Alike told same) sendable knows later r rest =
        rest (past ++ e ∷ []) (answered ends e).1 (λ id. knows_behind id (known id) e (answered ends e).0) later (goes_on past ends known e sendable knows same r)

    none_from : (events past : List Event) (ends : Ends) (known : ℕ → Bool) → AllByRecursion (IsSendable setup) events → ServerKnowsFrom known events (answers_of_ends ends events) → Reached past ends known → NoneJudges ends events
    none_from [] past ends known sendable knows r = tt
    none_from (e ∷ events) past ends known sendable knows r =
        (none_here e r.world ends known r.stands r.tallies, next_from events past ends known e (every_step ends e) sendable.0 knows.0 knows.1 r (λ p n k later q. none_from events p n k sendable.1 later q))

-- Before anything.
nothing_yet : (setup : Setup) (writer : Side) (id : ℕ) → flow (empty_world setup) writer id ≡ unused
nothing_yet setup Client id = ap (λ e. e.request) (same_both (is_request_stream id) no_exchange no_exchange (λ e. refl))
nothing_yet setup Server id = ap (λ e. e.response) (same_both (is_request_stream id) no_exchange no_exchange (λ e. refl))

awaits_nothing : (writer : Side) → Unsaid ≡ awaited_of writer []
awaits_nothing Client = refl
awaits_nothing Server = refl

unused_tally : (reader : Side) (peer : Announced) (awaited : Content) → Unsaid ≡ awaited → TalliesFlow reader peer awaited unused nothing_sent nothing_came
unused_tally reader peer awaited is = record {
  unbroken = tt;
  sends = λ takes. absurd (cc);
  receives = λ alive more. record { before = λ e. is; counts = inl is; within = omega arith };
  fine = tt;
}

begins_tally : (setup : Setup) → Tallies setup (empty_world (plain_setup setup)) (new_ends setup) (λ id. false)
begins_tally setup = record {
  flows = flows;
  announced = announced;
  asked = λ id has. absurd (let never : false ≡ true = sym (ap (λ (f : Flow). has_head f.sent) (nothing_yet (plain_setup setup) Server id)) ∙ has in cc);
  knows = λ id is. absurd (cc);
}
  where
    announced : (side : Side) → (end_at (new_ends setup) side).announced ≡ announced_at setup side
    announced Client = refl
    announced Server = refl

    at : (writer : Side) (id : ℕ) → TalliesFlow (other writer) (announced_at setup (other writer)) (awaited_of writer (flow (empty_world (plain_setup setup)) Client id).sent) (flow (empty_world (plain_setup setup)) writer id) nothing_sent nothing_came
    at writer id =
        subst (λ f. TalliesFlow (other writer) (announced_at setup (other writer)) (awaited_of writer (flow (empty_world (plain_setup setup)) Client id).sent) f nothing_sent nothing_came) (sym (nothing_yet (plain_setup setup) writer id))
        (subst (λ (f : Flow). TalliesFlow (other writer) (announced_at setup (other writer)) (awaited_of writer f.sent) unused nothing_sent nothing_came) (sym (nothing_yet (plain_setup setup) Client id))
        (unused_tally (other writer) (announced_at setup (other writer)) (awaited_of writer []) (awaits_nothing writer)))

    flows : (writer : Side) (id : ℕ) → TalliesFlow (other writer) (announced_at setup (other writer)) (awaited_of writer (flow (empty_world (plain_setup setup)) Client id).sent) (flow (empty_world (plain_setup setup)) writer id)
        (outgoing_at (end_at (new_ends setup) writer) id) (incoming_at (end_at (new_ends setup) (other writer)) id)
    flows Client id = at Client id
    flows Server id = at Server id

-- **Between two strict ends no pull finds a message malformed.**
pub none_judges : (laws : Laws) (setup : Setup) (events : List Event) → IsMadeSetup (plain_setup setup) → RunsInWorlds (plain_setup setup) → JudgesStrictly setup → AllByRecursion (IsSendable setup) events
    → ServerKnows events (answers_of_ends (new_ends setup) events) → NoneJudges (new_ends setup) events
none_judges laws setup events made runs strict sendable knows =
    let begun = runs [] tt in
    none_from laws setup made strict runs events [] (new_ends setup) (λ id. false) sendable knows (record {
      sendable = tt;
      leads = refl;
      world = begun.0;
      run = begun.1;
      stands = begun.2;
      tallies = subst (λ w. Tallies setup w (new_ends setup) (λ id. false)) (sym begun.1) (begins_tally setup);
    })
