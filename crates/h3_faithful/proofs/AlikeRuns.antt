-- A run of two ends that judge alike finds no fault of the connection, whichever allocations fail.
use Rattle.std.proofs.Common.{◌≡◌, Bool, true, false, List, [], ◌∷◌, refl, sym, ap, ◌∙◌}
use Rattle.std.specs.Prelude.{◌||◌}
use Rattle.std.specs.List.{AllByRecursion, list_any}
use Rattle.h3_proto.specs.declared.stream.Side.{Side}
use Rattle.h3_proto.specs.declared.stream.Side.TheVariants.{Client, Server}
use Rattle.h3_world.specs.Ends.{Ends, new_ends}
use Rattle.h3_world.specs.Headline.{is_connection_fault, is_out_of_memory}
use Rattle.h3_world.specs.Sendable.{IsSendableBy}
use Rattle.h3_world.specs.Setup.{IsMadeSetup, Setup, announced_at}
use Rattle.h3_world.specs.World.{World}
use Rattle.h3_world.specs.declared.event.Answer.{Answer}
use Rattle.h3_world.specs.declared.event.Event.{Event}
use Rattle.h3_memory.specs.Kept.{KeepingWorld}
use Rattle.h3_memory.specs.Refused.{AnswerOf, EndsRun, EndsStep}
use Rattle.h3_strict.specs.HoldsBehind.{HoldsBehind}
use Rattle.h3_strict.specs.Tunnels.{StandsSo}
use Rattle.h3_faithful.proofs.AlikeFaultless.{AlikeLaws, Standing, faultless}
use Rattle.h3_faithful.proofs.AlikeSteps.{goes_on}
use Rattle.h3_faithful.proofs.Quiet.{new_quiet}
use Rattle.h3_faithful.proofs.Runs.{first, memory_faultless, new_stand}

neither : (x y : Bool) → x ≡ false → y ≡ false → (x || y) ≡ false
neither true y h k = cc
neither false y h k = k

-- both sides ask for strict messages, or neither does
abbrev JudgeAlike : Setup → Type 0
JudgeAlike setup = setup.client.choices.strict_messages ≡ setup.server.choices.strict_messages

-- both sides ask for what the client asks for
both_ask : (setup : Setup) (b : Bool) → JudgeAlike setup → setup.client.choices.strict_messages ≡ b → (side : Side) → (announced_at setup side).choices.strict_messages ≡ b
both_ask setup b alike is Client = is
both_ask setup b alike is Server = sym alike ∙ is

module _ (laws : AlikeLaws) (setup : Setup) (made : IsMadeSetup setup) (P : World → Ends → Type 0) (holds : HoldsBehind setup P) where
  step_calm : (k : KeepingWorld) (ends new : Ends) (e : Event) (a : Answer) → Standing setup P k ends → IsSendableBy true e → EndsStep ends e a new → is_connection_fault a ≡ false
  step_calm k ends new e a s sendable step = by_memory (is_out_of_memory a) refl step
    where
      by_memory : (b : Bool) → is_out_of_memory a ≡ b → AnswerOf b ends e a new → is_connection_fault a ≡ false
      by_memory true told lacks = memory_faultless a told
      by_memory false told is = ap is_connection_fault is.0 ∙ faultless laws setup made P holds k ends s e sendable

  from : (events : List Event) (answers : List Answer) (k : KeepingWorld) (ends last : Ends) → Standing setup P k ends → AllByRecursion (IsSendableBy true) events → EndsRun ends events answers last → list_any is_connection_fault answers ≡ false
  from [] [] k ends last s sendable run = refl
  from (e ∷ events) (a ∷ answers) k ends last s sendable run =
      let on = goes_on laws setup made P holds k ends s run.0 e a sendable.0 run.1 in
      neither (is_connection_fault a) (list_any is_connection_fault answers) (step_calm k ends run.0 e a s sendable.0 run.1) (from events answers on.after run.0 last on.standing sendable.1 run.2)
  from [] (a ∷ answers) k ends last s sendable run = absurd run
  from (e ∷ events) [] k ends last s sendable run = absurd run

  from_new : (events : List Event) (answers : List Answer) (last : Ends) → AllByRecursion (IsSendableBy true) events → EndsRun (new_ends setup) events answers last → list_any is_connection_fault answers ≡ false
  from_new events answers last sendable run =
      from events answers (first laws.runs setup made) (new_ends setup) last
      (record { stands = new_stand laws.runs setup made; stays = holds.first; bounded = laws.bounds.made setup; quiet = new_quiet laws.runs.quiet setup }) sendable run

-- **No fault of the connection.**
pub no_fault_alike : AlikeLaws → (setup : Setup) (events : List Event) (answers : List Answer) (ends : Ends) → IsMadeSetup setup → AllByRecursion (IsSendableBy true) events → EndsRun (new_ends setup) events answers ends → JudgeAlike setup
    → list_any is_connection_fault answers ≡ false
no_fault_alike laws setup events answers ends made sendable run alike = by_choice setup.client.choices.strict_messages refl
  where
    by_choice : (b : Bool) → setup.client.choices.strict_messages ≡ b → list_any is_connection_fault answers ≡ false
    by_choice b is = from_new laws setup made (StandsSo b setup) (laws.kept.holds setup b made (both_ask setup b alike is)) events answers ends sendable run
