-- Up to a fault of the connection the answers of any two ends are those of a run, and no send finds such a fault.
use Rattle.std.proofs.Common.{◌≡◌, ℕ, Bool, true, false, List, [], ◌∷◌, zero, suc, refl, ap, sym, ◌∙◌, subst}
use Rattle.std.specs.Prelude.{◌||◌, drop, take}
use Rattle.std.specs.List.{AllByRecursion, list_any}
use Rattle.h3_connection.specs.declared.event.Fault.TheVariants as fault
use Rattle.h3_connection.specs.declared.event.Pull.TheVariants as pull
use Rattle.h3_connection.specs.declared.event.Refusal.TheVariants as refusal
use Rattle.h3_connection.specs.declared.lists.ListPull.TheVariants as list
use Rattle.h3_world.specs.Ends.{Ends, answered, new_ends}
use Rattle.h3_world.specs.Headline.{is_connection_fault, is_out_of_memory}
use Rattle.h3_world.specs.Run.{Run}
use Rattle.h3_world.specs.Sendable.{IsSendable, IsSendableBy}
use Rattle.h3_world.specs.Setup.{IsMadeSetup, JudgesPlainly, Setup}
use Rattle.h3_world.specs.World.{empty_world}
use Rattle.h3_world.specs.declared.event.Answer.{Answer}
use Rattle.h3_world.specs.declared.event.Answer.TheVariants as answer
use Rattle.h3_world.specs.declared.event.Event.{Event}
use Rattle.h3_world.specs.declared.event.Event.TheVariants as event
use Rattle.h3_memory.specs.Kept.{KeepingWorld, nothing_kept}
use Rattle.h3_memory.specs.Keeping.{StandsKeeping}
use Rattle.h3_memory.specs.Refused.{AnswerOf, EndsRun, EndsStep}
use Rattle.h3_memory.specs.Theorem.{RunsWithMemory}
use Rattle.h3_strict.specs.PlainEnds.{Alike, Judges, RefusesMalformed as RefusedSo, StepsPlainly, is_malformed_refusal, judges, plain_ends, plain_setup}
use Rattle.h3_faithful.specs.Steps.{HappensAnywhere, RunsUntilFault, StandsAnywhere, is_send, is_without_fault}
use Rattle.h3_faithful.proofs.Accounts.{MemoryMoves}
use Rattle.h3_faithful.proofs.AnyPull.{StepLaws, plain_step}
use Rattle.h3_faithful.proofs.AnyStep.{any_step}
use Rattle.h3_faithful.proofs.PlainMemory.{QuietSides}
use Rattle.h3_faithful.proofs.Quiet.{QuietLaws, new_quiet, quiet_step, refuses_plainly}

-- The laws that are cited of a whole run.
pub record RunLaws : Type 0 where
  pub steps : StepLaws
  pub moves : MemoryMoves
  pub quiet : QuietLaws
  pub new_plain : (setup : Setup) → plain_ends (new_ends setup) ≡ new_ends (plain_setup setup)
  pub runs : (setup : Setup) (events : List Event) (answers : List Answer) (ends : Ends) → IsMadeSetup setup → JudgesPlainly setup → AllByRecursion (IsSendable setup) events → EndsRun (new_ends setup) events answers ends → RunsWithMemory setup events answers ends

-- A front of a run: the world and the ends it leads to, and the rest of it.
pub record RanTo (setup : Setup) (k : KeepingWorld) (n : ℕ) (events : List Event) (answers : List Answer) (last : Ends) : Type 0 where
  pub world : KeepingWorld
  pub run : Run (HappensAnywhere setup) k (take n events) (take n answers) world
  pub ends : Ends
  pub stands : StandsKeeping (plain_setup setup) world (plain_ends ends)
  pub quiet : QuietSides setup ends
  pub sendable : AllByRecursion (IsSendableBy true) (drop n events)
  pub rest : EndsRun ends (drop n events) (drop n answers) last

-- two that are none
pub neither : (x y : Bool) → (x || y) ≡ false → (x ≡ false) × (y ≡ false)
neither true y h = absurd (cc)
neither false y h = (refl, h)

-- what is told of memory is no fault of the connection
pub memory_faultless : (a : Answer) → is_out_of_memory a ≡ true → is_connection_fault a ≡ false
memory_faultless (answer.Refused refusal.OutOfMemory) h = refl
memory_faultless (answer.Refused refusal.Kept) h = refl
memory_faultless (answer.Pulled (pull.Fault fault.Memory)) h = refl
memory_faultless (answer.Listed (list.Fault fault.Memory)) h = refl
memory_faultless a h = absurd (cc)

-- nor is a malformed send
pub malformed_faultless : (a : Answer) → is_malformed_refusal a ≡ true → is_connection_fault a ≡ false
malformed_faultless (answer.Refused (refusal.Malformed why)) h = refl
malformed_faultless a h = absurd (cc)

-- a send judges nothing
pub send_judges : (ends : Ends) (e : Event) → is_send e ≡ true → judges ends e ≡ false
send_judges ends (event.Head side id head) h = refl
send_judges ends (event.Fields side id fields) h = refl
send_judges ends (event.Body side id bytes) h = refl
send_judges ends (event.Trailer side id trailer) h = refl
send_judges ends (event.TrailerFields side id fields) h = refl
send_judges ends (event.Finish side id) h = refl
send_judges ends e h = absurd (cc)

module _ (laws : RunLaws) (setup : Setup) (made : IsMadeSetup setup) where
  abbrev ps : Setup
  ps = plain_setup setup

  ran : (n : ℕ) (k : KeepingWorld) (ends : Ends) (events : List Event) (answers : List Answer) (last : Ends) → StandsKeeping ps k (plain_ends ends) → QuietSides setup ends → AllByRecursion (IsSendableBy true) events
      → EndsRun ends events answers last → is_without_fault n answers → RanTo setup k n events answers last
  ran zero k ends events answers last stands quiet sendable run none = record { world = k; run = refl; ends = ends; stands = stands; quiet = quiet; sendable = sendable; rest = run }
  ran (suc n) k ends [] [] last stands quiet sendable run none = record { world = k; run = refl; ends = ends; stands = stands; quiet = quiet; sendable = sendable; rest = run }
  ran (suc n) k ends (e ∷ events) (a ∷ answers) last stands quiet sendable run none =
      let faultless = neither (is_connection_fault a) (list_any is_connection_fault (take n answers)) none in
      let on = any_step laws.steps laws.moves setup made k ends stands run.0 e a quiet sendable.0 (refuses_plainly laws.quiet setup ends e quiet) run.1 faultless.0 in
      let r = ran n on.after run.0 events answers last on.stands (quiet_step laws.quiet setup ends run.0 e a quiet run.1) sendable.1 run.2 faultless.1 in
      record { world = r.world; run = (on.after, on.happens, r.run); ends = r.ends; stands = r.stands; quiet = r.quiet; sendable = r.sendable; rest = r.rest }
  ran (suc n) k ends [] (a ∷ answers) last stands quiet sendable run none = absurd run
  ran (suc n) k ends (e ∷ events) [] last stands quiet sendable run none = absurd run

  -- all of it, where there is no fault
  record RanAll (k : KeepingWorld) (events : List Event) (answers : List Answer) (last : Ends) : Type 0 where
    world : KeepingWorld
    run : Run (HappensAnywhere setup) k events answers world
    stands : StandsKeeping (plain_setup setup) world (plain_ends last)

  ran_all : (k : KeepingWorld) (ends : Ends) (events : List Event) (answers : List Answer) (last : Ends) → StandsKeeping ps k (plain_ends ends) → QuietSides setup ends → AllByRecursion (IsSendableBy true) events
      → EndsRun ends events answers last → list_any is_connection_fault answers ≡ false → RanAll k events answers last
  ran_all k ends [] [] last stands quiet sendable run none = record { world = k; run = refl; stands = subst (λ x. StandsKeeping ps k (plain_ends x)) (sym run) stands }
  ran_all k ends (e ∷ events) (a ∷ answers) last stands quiet sendable run none =
      let faultless = neither (is_connection_fault a) (list_any is_connection_fault answers) none in
      let on = any_step laws.steps laws.moves setup made k ends stands run.0 e a quiet sendable.0 (refuses_plainly laws.quiet setup ends e quiet) run.1 faultless.0 in
      let r = ran_all on.after run.0 events answers last on.stands (quiet_step laws.quiet setup ends run.0 e a quiet run.1) sendable.1 run.2 faultless.1 in
      record { world = r.world; run = (on.after, on.happens, r.run); stands = r.stands }
  ran_all k ends [] (a ∷ answers) last stands quiet sendable run none = absurd run
  ran_all k ends (e ∷ events) [] last stands quiet sendable run none = absurd run

  -- An event that judges nothing finds no fault.
  unjudged_faultless : (k : KeepingWorld) (ends new : Ends) (e : Event) (a : Answer) → StandsKeeping ps k (plain_ends ends) → IsSendableBy true e → EndsStep ends e a new
      → (judges ends e ≡ true → is_connection_fault (answered ends e).0 ≡ false) → is_connection_fault a ≡ false
  unjudged_faultless k ends new e a stands sendable step unless = by_memory (is_out_of_memory a) refl step
    where
      answered_so : is_out_of_memory (answered ends e).0 ≡ false → StepsPlainly ends e → is_connection_fault (answered ends e).0 ≡ false
      answered_so told (RefusedSo malformed same) = malformed_faultless (answered ends e).0 malformed
      answered_so told (Judges judged few) = unless judged
      answered_so told (Alike unrefused same) =
          let plain : EndsStep (plain_ends ends) e (answered ends e).0 (plain_ends (answered ends e).1) =
          subst (λ b. AnswerOf b (plain_ends ends) e (answered ends e).0 (plain_ends (answered ends e).1)) (sym told) (sym (ap (λ z. z.0) same), sym (ap (λ z. z.1) same)) in
          (plain_step laws.steps laws.moves setup made k ends stands e (answered ends e).0 (plain_ends (answered ends e).1) sendable plain).happens.no_connection_fault

      by_memory : (b : Bool) → is_out_of_memory a ≡ b → AnswerOf b ends e a new → is_connection_fault a ≡ false
      by_memory true told lacks = memory_faultless a told
      by_memory false told is = ap is_connection_fault is.0 ∙ answered_so (ap is_out_of_memory (sym is.0) ∙ told) (laws.steps.plainly ends e)

  -- so no send does
  send_faultless : (k : KeepingWorld) (ends new : Ends) (e : Event) (a : Answer) → StandsKeeping ps k (plain_ends ends) → IsSendableBy true e → EndsStep ends e a new → is_send e ≡ true → is_connection_fault a ≡ false
  send_faultless k ends new e a stands sendable step sends =
      unjudged_faultless k ends new e a stands sendable step (λ judged. absurd (let never : true ≡ false = sym judged ∙ send_judges ends e sends in cc))

  abbrev pub first : KeepingWorld
  first = nothing_kept (empty_world ps)

  -- two new ends stand in the empty world
  pub new_stand : StandsKeeping ps first (plain_ends (new_ends setup))
  new_stand =
      let r = laws.runs ps [] [] (new_ends ps) (laws.steps.made setup made) (laws.steps.judges setup) tt refl in
      subst (StandsKeeping ps first) (sym (laws.new_plain setup)) (subst (λ k. StandsKeeping ps k (new_ends ps)) r.run r.stands)

  -- **Any two ends.**
  pub runs_until_fault : (events : List Event) (answers : List Answer) (ends : Ends) → AllByRecursion (IsSendableBy true) events → EndsRun (new_ends setup) events answers ends → RunsUntilFault setup events answers
  runs_until_fault events answers ends sendable run =
      record {
        runs = λ n none. let r = front n none in record { world = r.world; run = r.run };
        sends = λ n e a later others none at_e at_a sends. let r = front n none in
            let may = subst (AllByRecursion (IsSendableBy true)) at_e r.sendable in
            let rest = subst (λ es. EndsRun r.ends es (a ∷ others) ends) at_e (subst (λ given. EndsRun r.ends (drop n events) given ends) at_a r.rest) in
            send_faultless r.world r.ends rest.0 e a r.stands may.0 rest.1 sends;
      }
    where
      front : (n : ℕ) → is_without_fault n answers → RanTo setup first n events answers ends
      front n none = ran n first (new_ends setup) events answers ends new_stand (new_quiet laws.quiet setup) sendable run none

  -- **And where they stand at the end.**
  pub stands_at_the_end : (events : List Event) (answers : List Answer) (ends : Ends) → AllByRecursion (IsSendableBy true) events → EndsRun (new_ends setup) events answers ends → list_any is_connection_fault answers ≡ false
      → StandsAnywhere setup events answers ends
  stands_at_the_end events answers ends sendable run none =
      let r = ran_all first (new_ends setup) events answers ends new_stand (new_quiet laws.quiet setup) sendable run none in
      record { runs = record { world = r.world; run = r.run }; stands = r.stands }
