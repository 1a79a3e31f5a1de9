-- No part changes where memory was refused, nor by an event that neither sends nor pulls.
use Rattle.std.proofs.Common.{◌≡◌, Bool, true, false, List, [], ◌∷◌, refl, sym, subst, Option, Some, None}
use Rattle.std.specs.Prelude.{◌||◌, not, is_some}
use Rattle.h3_proto.specs.declared.stream.Side.{Side}
use Rattle.h3_connection.specs.OwnIds.{other}
use Rattle.h3_connection.specs.Refusals.{first_of}
use Rattle.h3_connection.specs.declared.event.Fault.TheVariants as fault
use Rattle.h3_connection.specs.declared.event.Pull.TheVariants as pull
use Rattle.h3_connection.specs.declared.event.Refusal.{Refusal}
use Rattle.h3_connection.specs.declared.event.Refusal.TheVariants as refusal
use Rattle.h3_connection.specs.declared.event.StreamFault.TheVariants.{Canceled}
use Rattle.h3_connection.specs.declared.lists.ListPull.TheVariants as list
use Rattle.h3_world.specs.Delivering.{delivery, end_delivery, reset_delivery}
use Rattle.h3_world.specs.Headline.{is_out_of_memory}
use Rattle.h3_world.specs.Order.{is_over}
use Rattle.h3_world.specs.Refusals.{cancel_refusal, goaway_refusal, is_critical, open_refusal, reset_refusal}
use Rattle.h3_world.specs.Sending.{cut_off, given_up, opened, with_goaway}
use Rattle.h3_world.specs.Step.{Does}
use Rattle.h3_world.specs.Streams.{flow, is_open}
use Rattle.h3_world.specs.World.{World}
use Rattle.h3_world.specs.declared.event.Answer.{Answer}
use Rattle.h3_world.specs.declared.event.Answer.TheVariants as answer
use Rattle.h3_world.specs.declared.event.Event.{Event}
use Rattle.h3_world.specs.declared.event.Event.TheVariants as event
use Rattle.h3_world.specs.Setup.{Setup}
use Rattle.h3_headline.specs.Contents.{KeepsParts}
use Rattle.h3_headline.specs.FlowLaws.{open_there}
use Rattle.h3_headline.specs.KeepsPartsLaws.{keeps_delivery, keeps_end, keeps_flows, keeps_given_up, keeps_reset, keeps_same, keeps_with_party}
use Rattle.h3_headline.specs.OpeningLaws.{flow_opened}
use Rattle.h3_memory.specs.Kept.{KeepingWorld, caught_up}
use Rattle.h3_memory.specs.MemoryStep.{Answers, LacksMemory, StepOf, StepWithMemory, read_behind}
use Rattle.h3_memory.specs.QuietEvents.{is_quiet}
use Rattle.h3_memory.specs.SoundKeeping.{IsSoundKeeping}
use Rattle.h3_memory.proofs.EventsKept.{read_or_not}
use Rattle.h3_memory.proofs.KeptLaws.{KeptLaws}
use Rattle.h3_memory.proofs.MemoryAnswers.{LacksIt, lacks_it}
use Rattle.h3_memory.proofs.MemoryAnswers.LacksIt.{HandsNoList, HandsNothing, KeepsIt, LacksRoom}
use Rattle.h3_memory.proofs.MemoryMoves.{caught_keeps, does_keep, no_list, no_room, nothing_out, read_keeps, reset_keeps, stored}
use Rattle.h3_memory.proofs.PartsKept.{keeps_then}

pub lacks_parts : (q : KeptLaws) (setup : Setup) (k new : KeepingWorld) (e : Event) (a : Answer) → IsSoundKeeping setup k → is_out_of_memory a ≡ true → StepWithMemory setup k e a new → KeepsParts k.world new.world
lacks_parts q setup k new e a h told step = by_answer (lacks_it a told) (subst (λ b. StepOf b setup k e a new) told step)
  where
    by_answer : LacksIt a → LacksMemory setup k e a new → KeepsParts k.world new.world
    by_answer (LacksRoom is) step = no_room setup k new e (subst (λ x. LacksMemory setup k e x new) is step)
    by_answer (KeepsIt is) step = stored q setup k new e h (subst (λ x. LacksMemory setup k e x new) is step)
    by_answer (HandsNothing is) step = nothing_out q setup k new e h (subst (λ x. LacksMemory setup k e x new) is step)
    by_answer (HandsNoList is) step = no_list q setup k new e h (subst (λ x. LacksMemory setup k e x new) is step)

-- an event that changes the world so, unless it is refused
world_keeps : (o : Option Refusal) (w goal v : World) (success a : Answer) → (o ≡ None → KeepsParts w goal) → Does o w success goal a v → KeepsParts w v
world_keeps (Some r) w goal v success a h step = subst (KeepsParts w) (sym step.1) (keeps_same w)
world_keeps None w goal v success a h step = subst (KeepsParts w) (sym step.1) (h refl)

not_refused : (critical there : Bool) (rules : List (Bool × Refusal)) → first_of ((critical, refusal.Critical) ∷ (not there, refusal.NotOpen) ∷ rules) ≡ None → there ≡ true
not_refused true there rules e = absurd (cc)
not_refused false true rules e = refl
not_refused false false rules e = absurd (cc)

-- a delivery, whatever is answered
delivers : (q : KeptLaws) (setup : Setup) (k new : KeepingWorld) (reader : Side) (x : Answer × World) (a : Answer) → IsSoundKeeping setup k → KeepsParts (caught_up setup k reader) x.1 → (a, new) ≡ read_behind k reader x → KeepsParts k.world new.world
delivers q setup k new reader x a h keeps step = read_keeps k new reader x.1 (keeps_then k.world (caught_up setup k reader) x.1 (caught_keeps q setup k reader h) keeps) (read_or_not k reader a new x step)

answers_parts : (q : KeptLaws) (setup : Setup) (k new : KeepingWorld) (e : Event) (a : Answer) → IsSoundKeeping setup k → is_quiet e ≡ true → Answers setup k e a new → KeepsParts k.world new.world
answers_parts q setup k new (event.OpenRequest s) a h is step = world_keeps (open_refusal setup k.world s) k.world (opened k.world) new.world _ a (λ none. keeps_flows k.world (opened k.world) (flow_opened k.world)) step.0
answers_parts q setup k new (event.Reset s i) a h is step = does_keep k.world (cut_off k.world s i) new.world a (reset_refusal (caught_up setup k (other s)) s i) (reset_keeps q setup k s i h) step.0
answers_parts q setup k new (event.Cancel s i) a h is step =
    world_keeps (cancel_refusal k.world s i) k.world (given_up k.world s i Canceled) new.world answer.Done a
    (λ none. keeps_given_up k.world s i Canceled
    (open_there k.world s i (not_refused (is_critical i) (is_open k.world s i) ((is_over (flow k.world (other s) i) || is_some (flow k.world (other s) i).fault, refusal.Ended) ∷ []) none))) step.0
answers_parts q setup k new (event.Goaway s i) a h is step = world_keeps (goaway_refusal k.world s i) k.world (with_goaway k.world s i) new.world answer.Done a (λ none. keeps_with_party k.world s _) step.0
answers_parts q setup k new (event.Deliver s i count) a h is step =
    let u = caught_up setup k (other s) in delivers q setup k new (other s) (delivery setup u s i count) a h (keeps_delivery setup u s i count) step
answers_parts q setup k new (event.DeliverEnd s i) a h is step =
    let u = caught_up setup k (other s) in delivers q setup k new (other s) (end_delivery setup u s i) a h (keeps_end setup u s i) step
answers_parts q setup k new (event.DeliverReset s i) a h is step =
    let u = caught_up setup k (other s) in delivers q setup k new (other s) (reset_delivery u s i) a h (keeps_reset u s i) step
answers_parts q setup k new (event.Show s) a h is step = subst (KeepsParts k.world) (sym step.0.1) (keeps_same k.world)
answers_parts q setup k new e a h is step = absurd (cc)

pub quiet_parts : (q : KeptLaws) (setup : Setup) (k new : KeepingWorld) (e : Event) (a : Answer) → IsSoundKeeping setup k → is_quiet e ≡ true → StepWithMemory setup k e a new → KeepsParts k.world new.world
quiet_parts q setup k new e a h is step = by_memory (is_out_of_memory a) refl
  where
    by_memory : (b : Bool) → is_out_of_memory a ≡ b → KeepsParts k.world new.world
    by_memory true told = lacks_parts q setup k new e a h told step
    by_memory false told = answers_parts q setup k new e a h is (subst (λ b. StepOf b setup k e a new) told step)
