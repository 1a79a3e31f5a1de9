-- What holds of two ends that judge alike stays so over each event, memory refused or not.
use Rattle.std.proofs.Common.{◌≡◌, ◌⊎◌, inl, inr, ℕ, Bool, true, false, List, [], ◌∷◌, ◌++◌, refl, sym, ap, ◌∙◌, subst, Option, Some, None}
use Rattle.std.specs.Prelude.{take}
use Rattle.h3_field.specs.Field.{Field}
use Rattle.h3_proto.specs.declared.stream.Side.{Side}
use Rattle.h3_proto.specs.declared.stream.Side.TheVariants.{Client, Server}
use Rattle.h3_connection.specs.Bounds.{IsBounded}
use Rattle.h3_connection.specs.Coming.{fields_behind}
use Rattle.h3_connection.specs.Delivering.{with_incoming}
use Rattle.h3_connection.specs.Endpoint.{EndpointHistory}
use Rattle.h3_connection.specs.Incoming.{Incoming}
use Rattle.h3_connection.specs.Keeping.{pulls, settles, unkept}
use Rattle.h3_connection.specs.OwnIds.{other}
use Rattle.h3_connection.specs.PartReading.{ReadsPart}
use Rattle.h3_connection.specs.Sections as section
use Rattle.h3_connection.specs.Sending as sender
use Rattle.h3_connection.specs.StreamSets.{stream_at}
use Rattle.h3_connection.specs.declared.arrival.Arrival.{Arrival}
use Rattle.h3_connection.specs.declared.arrival.Arrival.TheVariants.{EndCame, ResetCame}
use Rattle.h3_connection.specs.declared.event.Fault.TheVariants as fault
use Rattle.h3_connection.specs.declared.event.Malformation.{Malformation}
use Rattle.h3_connection.specs.declared.event.Pull.{Pull}
use Rattle.h3_connection.specs.declared.event.Pull.TheVariants as pull
use Rattle.h3_connection.specs.declared.event.Refusal.{Refusal}
use Rattle.h3_connection.specs.declared.event.Refusal.TheVariants as refusal
use Rattle.h3_connection.specs.Lists.{listed_pull}
use Rattle.h3_connection.specs.declared.lists.ListPull.TheVariants as list
use Rattle.h3_world.specs.Delivering.{reset_code}
use Rattle.h3_world.specs.Ends.{Ends, answered, end_at, with_end}
use Rattle.h3_world.specs.Headline.{is_connection_fault, is_out_of_memory}
use Rattle.h3_world.specs.Pulling.{settled}
use Rattle.h3_world.specs.Refused.{with_insertions}
use Rattle.h3_world.specs.Sendable.{IsSendableBy}
use Rattle.h3_world.specs.Setup.{IsMadeSetup, Setup}
use Rattle.h3_world.specs.Step.{Step}
use Rattle.h3_world.specs.World.{World}
use Rattle.h3_world.specs.declared.event.Answer.{Answer}
use Rattle.h3_world.specs.declared.event.Answer.TheVariants as answer
use Rattle.h3_world.specs.declared.event.Event.{Event}
use Rattle.h3_world.specs.declared.event.Event.TheVariants as event
use Rattle.h3_headline.specs.Contents.{KeepsParts}
use Rattle.h3_headline.specs.KeepsPartsLaws.{keeps_with_party}
use Rattle.h3_memory.specs.Keeping.{StandsKeeping}
use Rattle.h3_memory.specs.Kept.{KeepingWorld, caught_up, is_settled}
use Rattle.h3_memory.specs.MemoryStep as memory
use Rattle.h3_memory.specs.MemoryStep.{Answers, StepOf, StepWithMemory}
use Rattle.h3_memory.specs.QuietEvents.{is_quiet}
use Rattle.h3_memory.specs.Refused.{AnswerOf, CutsList, CutsOff, CutsSection, EndsStep, IsAsked, LosesNothing, Stores, handed_over}
use Rattle.h3_memory.specs.Refused as refused
use Rattle.h3_strict.specs.GivesUp.{GivesUpBy}
use Rattle.h3_strict.specs.HoldsBehind.{HoldsBehind}
use Rattle.h3_strict.specs.PlainEnds.{Alike, AreBounded, Judges, RefusesMalformed as RefusedSo, StepsPlainly, is_malformed_refusal, judges, plain_ends, plain_setup}
use Rattle.h3_strict.specs.Plainly.{plainly}
use Rattle.h3_strict.specs.StandsBehind.{StandsBehind}
use Rattle.h3_strict.specs.WorldSteps.{KeepsNone, WorldStep}
use Rattle.h3_faithful.specs.Steps.{AsPlainly, GivesMessageUp, HappensAnywhere, IsRefusedUnread, LacksMemory, MayLack, PullsOn, RefusesMalformed, RefusesOwn, RefusesUnread, is_send, is_strict_send, unread}
use Rattle.h3_faithful.proofs.AlikeFaultless.{AlikeLaws, Standing, before, behind_then, bounded_at, caught, faultless, keeps_none, open_then, sound_so, stays_then}
use Rattle.h3_faithful.proofs.AnyPull.{StepsSo, StepsTo, end_set, listed_is, plain_step, pulled_is, set_twice, unsettled_before}
use Rattle.h3_faithful.proofs.AnyStep.{any_step}
use Rattle.h3_faithful.proofs.BehindBoth.{stands_behind}
use Rattle.h3_faithful.proofs.CaughtUpEnds.{CaughtUp}
use Rattle.h3_faithful.proofs.PlainMemory.{LacksPlainly, QuietSides, at_end, memory_plainly}
use Rattle.h3_faithful.proofs.PullsNext.{list_next, pull_next, pulls_settled}
use Rattle.h3_faithful.proofs.Quiet.{quiet_step, refuses_plainly}

-- Where both ends stand after an event.
pub record GoesOn (setup : Setup) (P : World → Ends → Type 0) (new : Ends) : Type 0 where
  pub after : KeepingWorld
  pub standing : Standing setup P after new

-- two answers to one question
differ : (b : Bool) → b ≡ true → b ≡ false → ⊥
differ b h k = let never : true ≡ false = sym h ∙ k in cc

sets : (ends : Ends) (side : Side) (e : EndpointHistory) → AreBounded ends → IsBounded e → AreBounded (with_end ends side e)
sets ends Client e h k = record { client = k; server = h.server }
sets ends Server e h k = record { client = h.client; server = k }

unkept_bounded : (e : EndpointHistory) → IsBounded e → IsBounded (unkept e)
unkept_bounded e b = record { tries = b.tries; once = b.once; waiting = b.waiting }

inserted_bounded : (e : EndpointHistory) (id : ℕ) (fields : List Field) → IsBounded e → IsBounded (section.with_insertions e id fields)
inserted_bounded e id fields b = record { tries = b.tries; once = b.once; waiting = b.waiting }

other_end : (ends : Ends) (writer : Side) (x : EndpointHistory) → end_at (with_end ends writer x) (other writer) ≡ end_at ends (other writer)
other_end ends Client x = refl
other_end ends Server x = refl

-- the same parts, the other way
back : (w v : World) → KeepsParts w v → KeepsParts v w
back w v parts = λ writer id. let p = parts writer id in record { sent = sym p.sent; parts_out = sym p.parts_out; body_out = sym p.body_out }

-- what is refused so is a send
strict_sends : (setup : Setup) (e : Event) → is_strict_send setup e ≡ true → is_send e ≡ true
strict_sends setup (event.Head side id head) h = refl
strict_sends setup (event.Fields side id fields) h = refl
strict_sends setup (event.Body side id bytes) h = refl
strict_sends setup (event.Trailer side id trailer) h = refl
strict_sends setup (event.TrailerFields side id fields) h = refl
strict_sends setup (event.Finish side id) h = refl
strict_sends setup e h = absurd (cc)

unread_sends : (setup : Setup) (e : Event) (a : Answer) → RefusesUnread setup e a → is_send e ≡ true
unread_sends setup (event.Head side id head) a h = refl
unread_sends setup (event.Fields side id fields) a h = refl
unread_sends setup (event.Trailer side id trailer) a h = refl
unread_sends setup (event.TrailerFields side id fields) a h = refl
unread_sends setup e a h = absurd h

-- where memory is not wanting it is malformed
unread_malformed : (a : Answer) (lacks : Type 0) (own : Option Malformation) → is_out_of_memory a ≡ false → IsRefusedUnread lacks own a → is_malformed_refusal a ≡ true
unread_malformed (answer.Refused (refusal.Malformed why)) lacks (Some told) none h = refl
unread_malformed (answer.Refused refusal.OutOfMemory) lacks (Some told) none h = absurd (cc)
unread_malformed a lacks (Some told) none h = absurd h
unread_malformed a lacks None none h = absurd h

module _ (laws : AlikeLaws) (setup : Setup) (made : IsMadeSetup setup) (P : World → Ends → Type 0) (holds : HoldsBehind setup P) (k : KeepingWorld) (ends : Ends) (s : Standing setup P k ends) where
  abbrev ps : Setup
  ps = plain_setup setup

  -- Where memory was refused.
  module _ (new : Ends) where
    record Stays : Type 0 where
      holds_still : P k.world new
      bounded : AreBounded new

    same : new ≡ ends → Stays
    same is = record { holds_still = subst (P k.world) (sym is) s.stays; bounded = subst AreBounded (sym is) s.bounded }

    cut_stays : (side : Side) (id : ℕ) (fields : List Field) → CutsOff ends side id fields new → Stays
    cut_stays side id fields cut =
        let front = take cut.front fields in
        let e = end_at ends side in
        record {
          holds_still = subst (P k.world) (sym cut.is)
              (holds.stays (with_insertions k.world side id front) k.world (with_end ends side (section.with_insertions e id front)) (back k.world (with_insertions k.world side id front) (keeps_with_party k.world side _))
              (holds.inserts k.world ends side id front s.stays));
          bounded = subst AreBounded (sym cut.is) (sets ends side (section.with_insertions e id front) s.bounded (inserted_bounded e id front (bounded_at ends side s.bounded)));
        }

    section_stays : (p : Option Refusal) (side : Side) (id : ℕ) (fields : List Field) → CutsSection p ends side id fields new → Stays
    section_stays None side id fields cut = cut_stays side id fields cut
    section_stays (Some (refusal.Malformed why)) side id fields is = same is
    section_stays (Some (refusal.TooLarge size)) side id fields is = same is
    section_stays (Some r) side id fields is = absurd is

    list_stays : (p : Option Refusal) (side : Side) (id : ℕ) (fields : List Field) → CutsList p ends side id fields new → Stays
    list_stays None side id fields cut = cut_stays side id fields cut
    list_stays (Some (refusal.TooLarge size)) side id fields is = same is
    list_stays (Some (refusal.Malformed why)) side id fields is = same is.1
    list_stays (Some refusal.WrongSide) side id fields is = same is.1
    list_stays (Some refusal.PseudoInTrailer) side id fields is = same is.1
    list_stays (Some r) side id fields is = absurd is

    part_bounded : (side : Side) (arrivals : List Arrival) (after : EndpointHistory) → ReadsPart (unkept (end_at ends side)) arrivals after → IsBounded after
    part_bounded side arrivals after read = laws.bounds.part (unkept (end_at ends side)) after arrivals (unkept_bounded (end_at ends side) (bounded_at ends side s.bounded)) read

    stored_stays : (reader : Side) (a : Arrival) → Stores ends reader a ends new → Stays
    stored_stays reader a t =
        let arrivals = (end_at ends reader).kept ++ a ∷ [] in
        record {
          holds_still = subst (P k.world) (sym t.is) (holds.reads_part k.world ends reader arrivals t.after s.stays t.read);
          bounded = subst AreBounded (sym t.is) (sets ends reader t.after s.bounded (part_bounded reader arrivals t.after t.read));
        }

    offered_stays : (writer : Side) (id count : ℕ) (a : Arrival) → Stores ends (other writer) a (handed_over ends writer id count) new → Stays
    offered_stays writer id count a t =
        let e = end_at ends writer in
        let arrivals = (end_at ends (other writer)).kept ++ a ∷ [] in
        let sent = handed_over ends writer id count in
        record {
          holds_still = subst (P k.world) (sym t.is)
              (holds.reads_part k.world sent (other writer) arrivals t.after (holds.hands k.world ends writer id count s.stays) (subst (λ x. ReadsPart (unkept x) arrivals t.after) (sym (other_end ends writer (sender.advance e id count))) t.read));
          bounded = subst AreBounded (sym t.is)
              (sets sent (other writer) t.after (sets ends writer (sender.advance e id count) s.bounded (laws.bounds.advances e id count (bounded_at ends writer s.bounded))) (part_bounded (other writer) arrivals t.after t.read));
        }

    asked_stays : (side : Side) (id : ℕ) (after : EndpointHistory) → ReadsPart (unkept (end_at ends side)) (end_at ends side).kept after → IsAsked after id (end_at new side) → new ≡ with_end ends side (end_at new side) → Stays
    asked_stays side id after read a is =
        let x = with_end ends side after in
        let there : end_at x side ≡ after = end_set ends side after in
        let goal : with_end x side (with_incoming (end_at x side) id a.asked) ≡ new =
        set_twice ends side after (with_incoming (end_at x side) id a.asked) ∙ ap (λ z. with_end ends side (with_incoming z id a.asked)) there ∙ ap (with_end ends side) (sym a.is) ∙ sym is in
        record {
          holds_still = subst (P k.world) goal
              (holds.asked k.world x side id a.old a.asked (holds.reads_part k.world ends side (end_at ends side).kept after s.stays read) (ap (λ z. stream_at z.incoming id) there ∙ a.here)
              (ap (λ (i : Incoming). i.fault) a.resumes.same) (ap (λ (i : Incoming). i.response) a.resumes.same) a.counts);
          bounded = subst AreBounded (sym (is ∙ ap (with_end ends side) a.is))
              (sets ends side (with_incoming after id a.asked) s.bounded (laws.bounds.asked after id a.old a.asked a.here a.resumes (part_bounded side (end_at ends side).kept after read)));
        }

    lost_stays : (side : Side) (id : ℕ) → LosesNothing ends side id new → Stays
    lost_stays side id l = by_case l.is
      where
        by_case : (new ≡ with_end ends side l.after) ⊎ ((l.after.kept ≡ []) × IsAsked l.after id (end_at new side) × (new ≡ with_end ends side (end_at new side))) → Stays
        by_case (inl is) = record {
          holds_still = subst (P k.world) (sym is) (holds.reads_part k.world ends side (end_at ends side).kept l.after s.stays l.read);
          bounded = subst AreBounded (sym is) (sets ends side l.after s.bounded (part_bounded side (end_at ends side).kept l.after l.read));
        }
        by_case (inr (none, asked, is)) = asked_stays side id l.after l.read asked is

    lacks_stays : (e : Event) (a : Answer) → refused.LacksMemory ends e a new → Stays
    lacks_stays (event.OpenRequest side) (answer.Refused refusal.OutOfMemory) l = same l.1
    lacks_stays (event.Head side id head) (answer.Refused refusal.OutOfMemory) l = section_stays _ side id _ l
    lacks_stays (event.Fields side id fields) (answer.Refused refusal.OutOfMemory) l = list_stays _ side id fields l
    lacks_stays (event.Body side id bytes) (answer.Refused refusal.OutOfMemory) l = same l
    lacks_stays (event.Trailer side id trailer) (answer.Refused refusal.OutOfMemory) l = section_stays _ side id _ l
    lacks_stays (event.TrailerFields side id fields) (answer.Refused refusal.OutOfMemory) l = list_stays _ side id fields l
    lacks_stays (event.Cancel side id) (answer.Refused refusal.OutOfMemory) l = same l.1
    lacks_stays (event.Goaway side id) (answer.Refused refusal.OutOfMemory) l = same l.1
    lacks_stays (event.Deliver writer id count) (answer.Refused refusal.OutOfMemory) l = same l
    lacks_stays (event.DeliverEnd writer id) (answer.Refused refusal.OutOfMemory) l = same l.3
    lacks_stays (event.DeliverReset writer id) (answer.Refused refusal.OutOfMemory) l = same l.2
    lacks_stays (event.Deliver writer id count) (answer.Refused refusal.Kept) l = offered_stays writer id count _ l.2
    lacks_stays (event.DeliverEnd writer id) (answer.Refused refusal.Kept) l = stored_stays (other writer) (EndCame id) l.2
    lacks_stays (event.DeliverReset writer id) (answer.Refused refusal.Kept) l = stored_stays (other writer) (ResetCame id reset_code) l.1
    lacks_stays (event.Pull side id) (answer.Pulled (pull.Fault fault.Memory)) l = lost_stays side id l
    lacks_stays (event.PullFields side id) (answer.Listed (list.Fault fault.Memory)) l = lost_stays side id l
    lacks_stays e a l = absurd l

    refused_step : (e : Event) (a : Answer) → IsSendableBy true e → is_out_of_memory a ≡ true → EndsStep ends e a new → GoesOn setup P new
    refused_step e a sendable told step = by_own (memory_plainly laws.runs.steps.does setup ends new e a s.quiet told step)
      where
        left : Stays
        left = lacks_stays e a (subst (λ b. AnswerOf b ends e a new) told step)

        quiet : QuietSides setup new
        quiet = quiet_step laws.runs.quiet setup ends new e a s.quiet step

        by_plain : EndsStep (plain_ends ends) e a (plain_ends new) → GoesOn setup P new
        by_plain plain =
            let on : StepsSo (plain_setup setup) k e a (plain_ends new) = plain_step laws.runs.steps laws.runs.moves setup made k ends s.stands e a (plain_ends new) sendable plain in
            record {
              after = on.after;
              standing = record {
                stands = on.stands;
                stays = holds.stays k.world on.after.world new (laws.parts.lacks ps k on.after e a (sound_so laws setup made P holds k ends s) told on.happens.step) left.holds_still;
                bounded = left.bounded;
                quiet = quiet;
              };
            }

        by_own : LacksPlainly setup ends e a new → GoesOn setup P new
        by_own (inl plain) = by_plain plain
        by_own (inr (own, same)) =
            record { after = k; standing = record { stands = subst (λ x. StandsKeeping ps k (plain_ends x)) (sym same) s.stands; stays = left.holds_still; bounded = left.bounded; quiet = quiet } }

  -- Where none was.
  module _ (e : Event) (sendable : IsSendableBy true e) (told : is_out_of_memory (answered ends e).0 ≡ false) where
    calm : is_connection_fault (answered ends e).0 ≡ false
    calm = faultless laws setup made P holds k ends s e sendable

    step_so : EndsStep ends e (answered ends e).0 (answered ends e).1
    step_so = subst (λ b. AnswerOf b ends e (answered ends e).0 (answered ends e).1) (sym told) (refl, refl)

    on : StepsTo setup k e (answered ends e).0 (answered ends e).1
    on = any_step laws.runs.steps laws.runs.moves setup made k ends s.stands (answered ends e).1 e (answered ends e).0 s.quiet sendable (refuses_plainly laws.runs.quiet setup ends e s.quiet) step_so calm

    standing_so : P on.after.world (answered ends e).1 → GoesOn setup P (answered ends e).1
    standing_so stays = record {
      after = on.after;
      standing = record { stands = on.stands; stays = stays; bounded = laws.bounds.kept ends e s.bounded; quiet = quiet_step laws.runs.quiet setup ends (answered ends e).1 e (answered ends e).0 s.quiet step_so };
    }

    then_behind : StandsBehind setup on.after.world (answered ends e).1
    then_behind = stands_behind setup on.after (answered ends e).1 on.stands

    -- a send that was refused as malformed changed nothing
    unchanged : is_malformed_refusal (answered ends e).0 ≡ true → judges ends e ≡ false → (answered ends e).1 ≡ ends
    unchanged malformed unjudged = by_step (laws.runs.steps.plainly ends e)
      where
        by_step : StepsPlainly ends e → (answered ends e).1 ≡ ends
        by_step (RefusedSo told_so same) = same
        by_step (Judges judged few) = absurd (differ (judges ends e) judged unjudged)
        by_step (Alike unrefused same) = absurd (differ (is_malformed_refusal (answered ends e).0) malformed unrefused)

    -- an event that is no pull
    goes : ((v : KeepingWorld) → StepWithMemory (plain_setup setup) k e (answered ends e).0 v → WorldStep setup k.world e (answered ends e).0 v.world) → KeepsNone ends e → (is_send e ≡ true → judges ends e ≡ false)
        → ((v : KeepingWorld) → PullsOn setup k e (answered ends e).0 v → ⊥) → GoesOn setup P (answered ends e).1
    goes from none unjudged no_pull = standing_so (by_case on.happens)
      where
        by_case : HappensAnywhere setup k e (answered ends e).0 on.after → P on.after.world (answered ends e).1
        by_case (AsPlainly unrefused h) = holds.goes k.world on.after.world ends e s.stays (before laws setup made P holds k ends s) then_behind (from on.after h.step) none calm
        by_case (LacksMemory lacks h) = absurd (differ (is_out_of_memory (answered ends e).0) lacks told)
        by_case (RefusesMalformed strict malformed is) = subst (λ v. P v.world (answered ends e).1) (sym is) (subst (P k.world) (sym (unchanged malformed (unjudged (strict_sends setup e strict)))) s.stays)
        by_case (RefusesOwn own is) =
            subst (λ v. P v.world (answered ends e).1) (sym is) (subst (P k.world) (sym (unchanged (unread_malformed (answered ends e).0 (MayLack e) (unread setup e) told own) (unjudged (unread_sends setup e (answered ends e).0 own)))) s.stays)
        by_case (GivesMessageUp p) = absurd (no_pull on.after p)

    -- one that pulls, by the answer to it
    module _ (side : Side) (id : ℕ) (a : Answer) (real : answered ends e ≡ (a, with_end ends side (pulls (end_at ends side) id).1)) where
      abbrev u : World
      u = caught_up ps k side

      abbrev c : CaughtUp setup P side k.world k ends (end_at ends side).kept
      c = caught laws setup made P holds k ends s side

      abbrev x : Ends
      x = with_end ends side c.next

      pulls_on : (settles (end_at ends side) id ≡ false → answered (with_end ends side (caught laws setup made P holds k ends s side).next) e ≡ answered ends e)
          → ((v : KeepingWorld) → Answers (plain_setup setup) k e a v → memory.Pulls (plain_setup setup) k side e (is_settled k.world side id) a v)
          → ((v : World) → Step (plain_setup setup) (caught_up (plain_setup setup) k side) e a v ⊎ GivesUpBy setup (caught_up (plain_setup setup) k side) e a v → WorldStep setup (caught_up (plain_setup setup) k side) e a v)
          → ((v : KeepingWorld) → PullsOn setup k e a v → (settled (caught_up (plain_setup setup) k side) side id ≡ None) × GivesUpBy setup (caught_up (plain_setup setup) k side) e a v.world)
          → KeepsNone (with_end ends side (caught laws setup made P holds k ends s side).next) e → (is_send e ≡ true → ⊥) → GoesOn setup P (answered ends e).1
      pulls_on next_is answers steps gives none unsent = standing_so (by_settled (is_settled k.world side id) refl)
        where
          a_is : (answered ends e).0 ≡ a
          a_is = ap (λ (z : Answer × Ends). z.0) real

          happens : HappensAnywhere setup k e a on.after
          happens = subst (λ z. HappensAnywhere setup k e z on.after) a_is on.happens

          told_so : is_out_of_memory a ≡ false
          told_so = ap is_out_of_memory (sym a_is) ∙ told

          settles_is : settles (end_at ends side) id ≡ is_settled k.world side id
          settles_is = sym (ap (λ z. settles z id) (at_end ends side) ∙ (laws.runs.steps.does (end_at ends side)).settles id) ∙ laws.kept.settles ps k (plain_ends ends) side id s.stands

          unsettled_so : settled (caught_up (plain_setup setup) k side) side id ≡ None → is_settled k.world side id ≡ false
          unsettled_so none_told = unsettled_before laws.runs.steps laws.runs.moves setup made k ends s.stands side id none_told

          pulled : (b : Bool) → is_settled k.world side id ≡ b → StepWithMemory (plain_setup setup) k e a on.after → memory.Pulls (plain_setup setup) k side e b a on.after
          pulled b is step = subst (λ t. memory.Pulls ps k side e t a on.after) is (answers on.after (subst (λ t. StepOf t ps k e a on.after) told_so step))

          by_settled : (b : Bool) → is_settled k.world side id ≡ b → P on.after.world (answered ends e).1
          by_settled true is = by_case happens
            where
              left_so : P k.world (answered ends e).1
              left_so =
                  subst (P k.world)
                  (ap (λ (z : Pull × EndpointHistory). with_end ends side z.1) (sym (pulls_settled (end_at ends side) id ((before laws setup made P holds k ends s).closed side) (settles_is ∙ is))) ∙ sym (ap (λ (z : Answer × Ends). z.1) real))
                  (holds.settled k.world ends side id s.stays (settles_is ∙ is))

              by_case : HappensAnywhere setup k e a on.after → P on.after.world (answered ends e).1
              by_case (AsPlainly unrefused h) = subst (λ v. P v.world (answered ends e).1) (sym (pulled true is h.step).1) left_so
              by_case (LacksMemory lacks h) = absurd (differ (is_out_of_memory a) lacks told_so)
              by_case (RefusesMalformed strict malformed same_world) = absurd (unsent (strict_sends setup e strict))
              by_case (RefusesOwn unread same_world) = absurd (unsent (unread_sends setup e a unread))
              by_case (GivesMessageUp p) = absurd (differ (is_settled k.world side id) is (unsettled_so (gives on.after p).0))
          by_settled false is = by_case happens
            where
              next_so : answered (with_end ends side (caught laws setup made P holds k ends s side).next) e ≡ answered ends e
              next_so = next_is (settles_is ∙ is)

              goes_so : WorldStep setup (caught_up (plain_setup setup) k side) e a on.after.world → P on.after.world (answered ends e).1
              goes_so step =
                  subst (λ (z : Answer × Ends). P on.after.world z.1) next_so
                  (holds.goes u on.after.world x e (stays_then laws setup made P holds k ends s side) (behind_then laws setup made P holds k ends s side)
                  (subst (λ (z : Answer × Ends). StandsBehind setup on.after.world z.1) (sym next_so) then_behind)
                  (subst (λ z. WorldStep setup u e z on.after.world) (sym (ap (λ (z : Answer × Ends). z.0) next_so ∙ a_is)) step) none
                  (ap (λ (z : Answer × Ends). is_connection_fault z.0) next_so ∙ calm))

              by_case : HappensAnywhere setup k e a on.after → P on.after.world (answered ends e).1
              by_case (AsPlainly unrefused h) = goes_so (steps on.after.world (inl (pulled false is h.step).0))
              by_case (LacksMemory lacks h) = absurd (differ (is_out_of_memory a) lacks told_so)
              by_case (RefusesMalformed strict malformed same_world) = absurd (unsent (strict_sends setup e strict))
              by_case (RefusesOwn unread same_world) = absurd (unsent (unread_sends setup e a unread))
              by_case (GivesMessageUp p) = goes_so (steps on.after.world (inr (gives on.after p).1))

  -- a send
  sends_on : (e : Event) (sendable : IsSendableBy true e) (told : is_out_of_memory (answered ends e).0 ≡ false)
      → ((v : KeepingWorld) → Answers (plain_setup setup) k e (answered ends e).0 v → WorldStep setup k.world e (answered ends e).0 v.world) → KeepsNone ends e → judges ends e ≡ false
      → ((v : KeepingWorld) → PullsOn setup k e (answered ends e).0 v → ⊥) → GoesOn setup P (answered ends e).1
  sends_on e sendable told from none unjudged no_pull = goes e sendable told (λ v step. from v (subst (λ b. StepOf b ps k e (answered ends e).0 v) told step)) none (λ strict. unjudged) no_pull

  -- one that neither sends nor pulls
  quietly_on : (e : Event) (sendable : IsSendableBy true e) (told : is_out_of_memory (answered ends e).0 ≡ false) → ((v : World) → KeepsParts k.world v → WorldStep setup k.world e (answered ends e).0 v) → KeepsNone ends e
      → (is_send e ≡ true → ⊥) → ((v : KeepingWorld) → PullsOn setup k e (answered ends e).0 v → ⊥) → is_quiet e ≡ true → GoesOn setup P (answered ends e).1
  quietly_on e sendable told from none unsent no_pull is =
      goes e sendable told (λ v step. from v.world (laws.parts.quiet ps k v e (answered ends e).0 (sound_so laws setup made P holds k ends s) is step)) none (λ strict. absurd (unsent strict)) no_pull

  answered_step : (e : Event) → IsSendableBy true e → is_out_of_memory (answered ends e).0 ≡ false → GoesOn setup P (answered ends e).1
  answered_step (event.Head side id head) sendable told = sends_on (event.Head side id head) sendable told (λ v step. step.0) tt refl (λ v p. absurd p)
  answered_step (event.Fields side id fields) sendable told = sends_on (event.Fields side id fields) sendable told (λ v step. step.0) tt refl (λ v p. absurd p)
  answered_step (event.Body side id bytes) sendable told = sends_on (event.Body side id bytes) sendable told (λ v step. step.0) tt refl (λ v p. absurd p)
  answered_step (event.Trailer side id trailer) sendable told = sends_on (event.Trailer side id trailer) sendable told (λ v step. step.0) tt refl (λ v p. absurd p)
  answered_step (event.TrailerFields side id fields) sendable told = sends_on (event.TrailerFields side id fields) sendable told (λ v step. step.0) tt refl (λ v p. absurd p)
  answered_step (event.Finish side id) sendable told = sends_on (event.Finish side id) sendable told (λ v step. step.0) tt refl (λ v p. absurd p)
  answered_step (event.OpenRequest side) sendable told = quietly_on (event.OpenRequest side) sendable told (λ v parts. parts) tt (λ strict. absurd (cc)) (λ v p. absurd p) refl
  answered_step (event.Reset side id) sendable told = quietly_on (event.Reset side id) sendable told (λ v parts. parts) tt (λ strict. absurd (cc)) (λ v p. absurd p) refl
  answered_step (event.Cancel side id) sendable told = quietly_on (event.Cancel side id) sendable told (λ v parts. parts) tt (λ strict. absurd (cc)) (λ v p. absurd p) refl
  answered_step (event.Goaway side id) sendable told = quietly_on (event.Goaway side id) sendable told (λ v parts. parts) tt (λ strict. absurd (cc)) (λ v p. absurd p) refl
  answered_step (event.Deliver writer id count) sendable told = quietly_on (event.Deliver writer id count) sendable told (λ v parts. parts) tt (λ strict. absurd (cc)) (λ v p. absurd p) refl
  answered_step (event.DeliverEnd writer id) sendable told = quietly_on (event.DeliverEnd writer id) sendable told (λ v parts. parts) tt (λ strict. absurd (cc)) (λ v p. absurd p) refl
  answered_step (event.DeliverReset writer id) sendable told = quietly_on (event.DeliverReset writer id) sendable told (λ v parts. parts) tt (λ strict. absurd (cc)) (λ v p. absurd p) refl
  answered_step (event.Show side) sendable told = quietly_on (event.Show side) sendable told (λ v parts. parts) tt (λ strict. absurd (cc)) (λ v p. absurd p) refl
  answered_step (event.Pull side id) sendable told =
      let c = caught laws setup made P holds k ends s side in
      pulls_on (event.Pull side id) sendable told side id (answer.Pulled (pulls (end_at ends side) id).0) (pulled_is ends side (pulls (end_at ends side) id))
      (λ unsettled. pull_next ends side c.next id ((before laws setup made P holds k ends s).closed side) (open_then laws setup made P holds k ends s side) c.none c.reads unsettled)
      (λ v step. step) (λ v step. step) (λ v m. (m.unsettled, record { why = m.why; told = m.told; unsettled = m.unsettled; gives = m.given_up })) (keeps_none laws setup made P holds k ends s side) (λ strict. absurd (cc))
  answered_step (event.PullFields side id) sendable told =
      let c = caught laws setup made P holds k ends s side in
      let e = end_at ends side in
      pulls_on (event.PullFields side id) sendable told side id (answer.Listed (listed_pull (fields_behind e.kept e id) (pulls e id).0)) (listed_is ends side id (pulls e id))
      (λ unsettled. list_next ends side c.next id ((before laws setup made P holds k ends s).closed side) (open_then laws setup made P holds k ends s side) c.none c.reads unsettled)
      (λ v step. step) (λ v step. step) (λ v m. (m.unsettled, record { why = m.why; told = m.told; unsettled = m.unsettled; gives = m.given_up })) (keeps_none laws setup made P holds k ends s side) (λ strict. absurd (cc))

  -- **One event.**
  pub goes_on : (new : Ends) (e : Event) (a : Answer) → IsSendableBy true e → EndsStep ends e a new → GoesOn setup P new
  goes_on new e a sendable step = by_memory (is_out_of_memory a) refl step
    where
      by_memory : (b : Bool) → is_out_of_memory a ≡ b → AnswerOf b ends e a new → GoesOn setup P new
      by_memory true told lacks = refused_step new e a sendable told step
      by_memory false told is = subst (GoesOn setup P) (sym is.1) (answered_step e sendable (ap is_out_of_memory (sym is.0) ∙ told))
