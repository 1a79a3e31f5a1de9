-- What the events and their answers say of a stream holds of it behind a run of the world.
use Rattle.std.proofs.Common.{◌≡◌, arith, ℕ, Bool, true, false, if◌then◌else◌, List, [], ◌∷◌, refl, ap, sym, ◌∙◌, subst, Option, Some, None}
use Rattle.std.specs.Prelude.{not, ◌||◌, ◌+◌, ◌==◌, nat_lt}
use Rattle.std.specs.List.{AllByRecursion}
use Rattle.std.proofs.lemmas.Grind.{common_steps}
use Rattle.h3_proto.specs.StreamIds.{is_request_stream}
use Rattle.h3_proto.specs.declared.stream.Side.{Side}
use Rattle.h3_proto.specs.declared.stream.Side.TheVariants.{Client, Server}
use Rattle.h3_connection.specs.OwnIds.{is_own, other}
use Rattle.h3_connection.specs.declared.event.Pull.{Pull}
use Rattle.h3_connection.specs.declared.event.Refusal.{Refusal}
use Rattle.h3_connection.specs.declared.event.Refusal.TheVariants as refusal
use Rattle.h3_connection.specs.declared.event.StreamFault.TheVariants.{Malformed}
use Rattle.h3_connection.specs.Lists.{pull_of}
use Rattle.h3_world.specs.Delivering.{delivered, delivered_message, delivered_own, delivery, is_closed}
use Rattle.h3_world.specs.Flow.{Flow}
use Rattle.h3_world.specs.Items.{handed_out}
use Rattle.h3_world.specs.Refusals.{next_id, open_refusal}
use Rattle.h3_world.specs.Run.{Run}
use Rattle.h3_world.specs.Sendable.{IsSendableBy}
use Rattle.h3_world.specs.Sending.{given_up, opened}
use Rattle.h3_world.specs.Step.{Does}
use Rattle.h3_world.specs.Streams.{flow, has_outgoing, is_open, waiting, with_flow}
use Rattle.h3_world.specs.World.{World, empty_world, no_exchange}
use Rattle.h3_world.specs.declared.event.Answer.{Answer}
use Rattle.h3_world.specs.declared.event.Answer.TheVariants as answer
use Rattle.h3_world.specs.declared.event.Event.{Event}
use Rattle.h3_world.specs.declared.event.Event.TheVariants as event
use Rattle.h3_world.specs.Setup.{Setup}
use Rattle.h3_headline.specs.ChangeLaws as change
use Rattle.h3_headline.specs.Changes.{StaysAs, StaysBy, goes_away, resets_on}
use Rattle.h3_headline.specs.ComingLaws.{sound_flow}
use Rattle.h3_headline.specs.FlowLaws.{is_open-peer, open_there}
use Rattle.h3_headline.specs.GoneLaws.{as_steps, there_handed}
use Rattle.h3_headline.specs.Messages.{any_of, is_on}
use Rattle.h3_headline.specs.OpeningLaws.{open_opened}
use Rattle.h3_headline.specs.SettledLaws.{settled_none}
use Rattle.h3_headline.specs.Steps.{IsThere}
use Rattle.h3_memory.specs.Kept.{KeepingWorld, caught_up, nothing_kept, with_kept}
use Rattle.h3_memory.specs.MemoryStep.{read_behind}
use Rattle.h3_memory.specs.SoundKeeping.{IsSoundKeeping}
use Rattle.h3_strict.specs.GivesUp.{AtOnce, BehindPart, GivesUp}
use Rattle.h3_strict.specs.PlainEnds.{plain_setup}
use Rattle.h3_faithful.specs.Sends.{opens}
use Rattle.h3_faithful.specs.Steps.{AsPlainly, GivesMessageUp, HappensAnywhere, LacksMemory, PullsMalformed, PullsOn, RefusesMalformed, RefusesOwn}
use Rattle.h3_faithful.proofs.Accounts.{MemoryMoves, RunsSo, accounts_of, sound_after}
use Rattle.h3_faithful.proofs.Ordered.{Tells, on_same}
use Rattle.h3_faithful.proofs.SoundSteps.{sound_step}
use Rattle.h3_faithful.proofs.Takes.{both_of, none_of}

same_id : (n : ℕ) → (n == n) ≡ true
same_id n = grind (arith, common_steps)

-- a request stream is none of a side's own
pub request_apart : (side : Side) (id : ℕ) → is_request_stream id ≡ true → is_own side id ≡ false
request_apart side id request = by_own side (is_own side id) refl
  where
    client_apart : (n : ℕ) → is_request_stream n ≡ true → is_own Client n ≡ true → ⊥
    client_apart n r h = grind (arith, common_steps, r, h)

    server_apart : (n : ℕ) → is_request_stream n ≡ true → is_own Server n ≡ true → ⊥
    server_apart n r h = grind (arith, common_steps, r, h)

    by_own : (s : Side) (b : Bool) → is_own s id ≡ b → b ≡ false
    by_own Client true e = absurd (client_apart id request e)
    by_own Server true e = absurd (server_apart id request e)
    by_own Client false e = refl
    by_own Server false e = refl

-- What each step leaves of a stream.
module _ (laws : MemoryMoves) (setup : Setup) where
  abbrev ps : Setup
  ps = plain_setup setup

  module _ (k new : KeepingWorld) (sound : IsSoundKeeping ps k) (writer : Side) (id : ℕ) where
    abbrev R : World → World → Type 0
    R w v = StaysAs writer id false false w v

    gives_up_stays : (side : Side) (i : ℕ) (p : Pull) → PullsMalformed setup k side i p new → StaysAs writer id false false k.world new.world
    gives_up_stays side i p m = by_way m.given_up
      where
        u : World
        u = caught_up ps k side

        caught : StaysAs writer id false false k.world u
        caught = laws.caught_as ps k side writer id false false sound

        there : IsThere u i
        there = open_there u side i (settled_none u side i m.unsettled).is_there

        from : (v : World) → StaysAs writer id false false u v → IsThere v i → new.world ≡ given_up v side i (Malformed m.why) → StaysAs writer id false false k.world new.world
        from v stays there_then is =
            let steps = as_steps writer id false false in
            subst (StaysAs writer id false false k.world) (sym is)
            (steps.joined k.world u (given_up v side i (Malformed m.why)) caught
            (steps.joined u v (given_up v side i (Malformed m.why)) stays (change.stays_given_up (StaysAs writer id false false) steps v side i (Malformed m.why) there_then)))

        by_way : GivesUp ps u side i m.why new.world → StaysAs writer id false false k.world new.world
        by_way (AtOnce is) = from u ((as_steps writer id false false).same u) there is
        by_way (BehindPart it come exact is) =
            from (handed_out u side i it) (change.stays_handed (StaysAs writer id false false) (as_steps writer id false false) u side i it there) (there_handed u side i it there) is

    pulls_stay : (e : Event) (a : Answer) → PullsOn setup k e a new → StaysBy k.world e writer id a new.world
    pulls_stay (event.Pull side i) (answer.Pulled p) m = gives_up_stays side i p m
    pulls_stay (event.PullFields side i) (answer.Listed l) m = gives_up_stays side i (pull_of l) m
    pulls_stay e a m = absurd m

    pub step_stays : (e : Event) (a : Answer) → HappensAnywhere setup k e a new → StaysBy k.world e writer id a new.world
    step_stays e a (AsPlainly told h) = laws.stays ps k new e a writer id sound h.step
    step_stays e a (LacksMemory told h) = laws.stays ps k new e a writer id sound h.step
    step_stays e a (RefusesMalformed strict told is) = subst (λ v. StaysBy k.world e writer id a v.world) (sym is) ((as_steps writer id (resets_on writer id e a) (goes_away e a)).same k.world)
    step_stays e a (RefusesOwn unread is) = subst (λ v. StaysBy k.world e writer id a v.world) (sym is) ((as_steps writer id (resets_on writer id e a) (goes_away e a)).same k.world)
    step_stays e a (GivesMessageUp pulls) = pulls_stay e a pulls

  -- a stream that is opened
  opens_request : (w new : World) (acting : Side) (i : ℕ) → Does (open_refusal ps w acting) w (answer.Opened (next_id w)) (opened w) (answer.Opened i) new → is_open new acting i ≡ true
  opens_request w new Server i step = absurd (let never : answer.Opened i ≡ answer.Refused refusal.NotClient = step.0 in cc)
  opens_request w new Client i step = by_refusal (open_refusal ps w Client) step
    where
      number : (a b : ℕ) → answer.Opened a ≡ answer.Opened b → a ≡ b
      number a b is = ap (λ x. elim x [ answer.Opened n ↦ n | _ ↦ a ]) is

      if_same : (b x : Bool) → b ≡ true → (if b then true else x) ≡ true
      if_same true x h = refl
      if_same false x h = absurd (cc)

      by_refusal : (o : Option Refusal) → Does o w (answer.Opened (next_id w)) (opened w) (answer.Opened i) new → is_open new Client i ≡ true
      by_refusal (Some r) step = absurd (let never : answer.Opened i ≡ answer.Refused r = step.0 in cc)
      by_refusal None step =
          let same = number i (next_id w) step.0 in
          ap (λ v. is_open v Client i) step.1 ∙ open_opened w i ∙ if_same (next_id w == i) (is_open w Client i) (ap (λ n. next_id w == n) same ∙ same_id (next_id w))

  -- a stream on which bytes come
  comes_open : (u : World) (acting : Side) (i : ℕ) (g : Flow) → IsThere u i → g.seen ≡ true → is_open (with_flow u acting i g) (other acting) i ≡ true
  comes_open u Client i g there seen = is_open-peer u Server i i g there seen ∙ ap (λ b. if b then true else is_open u Server i) (same_id i)
  comes_open u Server i g there seen = is_open-peer u Client i i g there seen ∙ ap (λ b. if b then true else is_open u Client i) (same_id i)

  kept_world : (k : KeepingWorld) (side : Side) (v : World) → (with_kept k side v []).world ≡ v
  kept_world k Client v = refl
  kept_world k Server v = refl

  second_of : (own there : Bool) → own ≡ false → (own || there) ≡ true → there ≡ true
  second_of true there off h = cc
  second_of false there off h = h

  delivers_open : (k new : KeepingWorld) (acting : Side) (i count n : ℕ) → is_request_stream i ≡ true → (answer.Delivered n, new) ≡ read_behind k (other acting) (delivery ps (caught_up ps k (other acting)) acting i count)
      → is_open new.world (other acting) i ≡ true
  delivers_open k new acting i count n request step = by_tests (has_outgoing u acting i) (nat_lt (waiting ps u acting i) count) (is_closed u acting i) refl step
    where
      u : World
      u = caught_up ps k (other acting)

      g : Flow
      g = record (flow u acting i) { delivered = (flow u acting i).delivered + count; seen = true }

      off : is_own acting i ≡ false
      off = request_apart acting i request

      by_tests : (there short closed : Bool) → has_outgoing u acting i ≡ there
          → (answer.Delivered n, new) ≡ read_behind k (other acting) (if not there then (answer.NoStream, u) else (if short then (answer.Short (waiting ps u acting i), u) else (if closed then (answer.Refused refusal.AfterEnd, u) else (answer.Delivered count, delivered ps u acting i count))))
          → is_open new.world (other acting) i ≡ true
      by_tests false short closed t h = absurd (let never : answer.Delivered n ≡ answer.NoStream = ap (λ x. x.0) h in cc)
      by_tests true true closed t h = absurd (let never : answer.Delivered n ≡ answer.Short (waiting ps u acting i) = ap (λ x. x.0) h in cc)
      by_tests true false true t h = absurd (let never : answer.Delivered n ≡ answer.Refused refusal.AfterEnd = ap (λ x. x.0) h in cc)
      by_tests true false false t h =
          let there = open_there u acting i (second_of (is_own acting i) (is_open u acting i) off t) in
          ap (λ (x : KeepingWorld). is_open x.world (other acting) i) (ap (λ x. x.1) h)
          ∙ ap (λ v. is_open v (other acting) i) (kept_world k (other acting) (delivered ps u acting i count))
          ∙ ap (λ b. is_open (if b then delivered_own ps u acting i count else delivered_message u acting i count) (other acting) i) off
          ∙ comes_open u acting i g there refl

  opened_so : (k new : KeepingWorld) (side : Side) (id : ℕ) (e : Event) (a : Answer) → opens side id e a ≡ true → HappensAnywhere setup k e a new → is_open new.world side id ≡ true
  opened_so k new side id (event.OpenRequest acting) (answer.Opened i) on (AsPlainly told h) =
      let same = on_same side acting id i on in
      subst (λ s. is_open new.world s id ≡ true) same.0 (subst (λ n. is_open new.world acting n ≡ true) same.1 (opens_request k.world new.world acting i h.step.0))
  opened_so k new side id (event.Deliver acting i count) (answer.Delivered n) on (AsPlainly told h) =
      let both = both_of (is_on (other side) id acting i) (is_request_stream i) on in
      let same = on_same (other side) acting id i both.0 in
      turn side acting same.0 (subst (λ m. is_open new.world (other acting) m ≡ true) same.1 (delivers_open k new acting i count n both.1 h.step))
    where
      turn : (s t : Side) → t ≡ other s → is_open new.world (other t) id ≡ true → is_open new.world s id ≡ true
      turn Client t same h = subst (λ x. is_open new.world (other x) id ≡ true) same h
      turn Server t same h = subst (λ x. is_open new.world (other x) id ≡ true) same h
  opened_so k new side id (event.OpenRequest acting) (answer.Opened i) on (LacksMemory told h) = absurd (let never : false ≡ true = told in cc)
  opened_so k new side id (event.Deliver acting i count) (answer.Delivered n) on (LacksMemory told h) = absurd (let never : false ≡ true = told in cc)
  opened_so k new side id (event.OpenRequest acting) (answer.Opened i) on (RefusesMalformed strict told is) = absurd (let never : false ≡ true = told in cc)
  opened_so k new side id (event.Deliver acting i count) (answer.Delivered n) on (RefusesMalformed strict told is) = absurd (let never : false ≡ true = told in cc)
  opened_so k new side id (event.OpenRequest acting) (answer.Opened i) on (RefusesOwn unread is) = absurd unread
  opened_so k new side id (event.Deliver acting i count) (answer.Delivered n) on (RefusesOwn unread is) = absurd unread
  opened_so k new side id (event.OpenRequest acting) (answer.Opened i) on (GivesMessageUp pulls) = absurd pulls
  opened_so k new side id (event.Deliver acting i count) (answer.Delivered n) on (GivesMessageUp pulls) = absurd pulls
  opened_so k new side id e a on happens = absurd (cc)

  -- **A whole run.**
  record StaysOver (k new : KeepingWorld) (events : List Event) (answers : List Answer) (side : Side) (id : ℕ) : Type 0 where
    opened : (any_of (opens side id) events answers || is_open k.world side id) ≡ true → is_open new.world side id ≡ true
    unreset : any_of (resets_on side id) events answers ≡ false → (flow k.world side id).is_reset ≡ false → (flow new.world side id).is_reset ≡ false
    unsaid : any_of goes_away events answers ≡ false → k.world.server.own.goaways ≡ [] → new.world.server.own.goaways ≡ []

  run_stays : (k new : KeepingWorld) (events : List Event) (answers : List Answer) (side : Side) (id : ℕ) → AllByRecursion (IsSendableBy true) events → IsSoundKeeping ps k → Run (HappensAnywhere setup) k events answers new → StaysOver k new events answers side id
  run_stays k new [] [] side id sendable sound run = subst (λ v. StaysOver k v [] [] side id) (sym run) (record { opened = λ h. h; unreset = λ e h. h; unsaid = λ e h. h })
  run_stays k new (e ∷ es) (a ∷ later) side id sendable sound run =
      let mid = run.0 in
      let step = step_stays k mid sound side id e a run.1 in
      let rest = run_stays mid new es later side id sendable.1 (sound_step laws.sound setup k mid sound e a sendable.0 run.1) run.2 in
      record {
        opened = λ h. rest.opened (by_first (opens side id e a) refl (any_of (opens side id) es later) (is_open k.world side id) refl (is_open mid.world side id) (λ o. opened_so k mid side id e a o run.1) step.opened h);
        unreset = λ none h. let n = none_of (resets_on side id e a) (any_of (resets_on side id) es later) none in rest.unreset n.1 (step.unreset n.0 h);
        unsaid = λ none h. let n = none_of (goes_away e a) (any_of goes_away es later) none in rest.unsaid n.1 (step.unsaid n.0 h);
      }
    where
      by_first : (x : Bool) → opens side id e a ≡ x → (y b : Bool) → is_open k.world side id ≡ b → (d : Bool) → (opens side id e a ≡ true → d ≡ true) → (is_open k.world side id ≡ true → d ≡ true) → ((x || y) || b) ≡ true → (y || d) ≡ true
      by_first true e true b f d first second h = refl
      by_first true e false b f d first second h = first e
      by_first false e true b f d first second h = refl
      by_first false e false b f d first second h = second (f ∙ h)
  run_stays k new [] (a ∷ later) side id sendable sound run = absurd run
  run_stays k new (e ∷ es) [] side id sendable sound run = absurd run

  or_nothing : (b c : Bool) → b ≡ true → (b || c) ≡ true
  or_nothing true c h = refl
  or_nothing false c h = absurd (cc)

  -- before anything no flow is reset
  not_reset_yet : (side : Side) (id : ℕ) → (flow (empty_world ps) side id).is_reset ≡ false
  not_reset_yet Client id = of (is_request_stream id)
    where
      of : (b : Bool) → (if b then no_exchange else no_exchange).request.is_reset ≡ false
      of true = refl
      of false = refl
  not_reset_yet Server id = of (is_request_stream id)
    where
      of : (b : Bool) → (if b then no_exchange else no_exchange).response.is_reset ≡ false
      of true = refl
      of false = refl

  pub tells : (events : List Event) (answers : List Answer) (k : KeepingWorld) → AllByRecursion (IsSendableBy true) events → RunsSo setup events answers k → (side : Side) (id : ℕ) → Tells k.world side id events answers
  tells events answers k sendable run side id =
      let first = nothing_kept (empty_world ps) in
      let told = run_stays first k events answers side id sendable (laws.begins ps) run in
      let accounts = accounts_of laws setup events answers k sendable run side id in
      record {
        opened = λ h. told.opened (or_nothing (any_of (opens side id) events answers) (is_open first.world side id) h);
        not_reset = λ none. told.unreset none (not_reset_yet side id);
        sent_is = accounts.sent_is;
        end_is = accounts.end_is;
        going = λ none. told.unsaid none refl;
        sound = λ open_. sound_flow ps k.world side id (sound_after laws setup events answers k sendable run) (open_there k.world side id open_);
      }
