-- **Each step leaves a world sound, and what is kept readable.**
use Rattle.std.proofs.Common.{◌≡◌, Bool, true, false, refl, sym, subst}
use Rattle.h3_header.specs.Head.{head_fields}
use Rattle.h3_connection.specs.declared.event.Refusal.TheVariants as refusal
use Rattle.h3_connection.specs.declared.event.Fault.TheVariants as fault
use Rattle.h3_connection.specs.declared.event.Pull.TheVariants as pull
use Rattle.h3_connection.specs.declared.lists.ListPull.TheVariants as list
use Rattle.h3_world.specs.Setup.{Setup}
use Rattle.h3_world.specs.declared.event.Event.{Event}
use Rattle.h3_world.specs.declared.event.Event.TheVariants as event
use Rattle.h3_world.specs.declared.event.Answer.{Answer}
use Rattle.h3_world.specs.declared.event.Answer.TheVariants as answer
use Rattle.h3_world.specs.Headline.{is_out_of_memory}
use Rattle.h3_world.specs.Refusals.{fields_refusal, head_refusal, trailer_fields_refusal, trailer_refusal}
use Rattle.h3_world.specs.Sendable.{IsSendable}
use Rattle.h3_world.specs.Step.{IsExact}
use Rattle.h3_headline.specs.Cited.{WorldLaws}
use Rattle.h3_memory.specs.Kept.{KeepingWorld, is_settled}
use Rattle.h3_memory.specs.MemoryStep.{Answers, LacksMemory, StepOf, StepWithMemory, UnlessMemory, reader_world}
use Rattle.h3_memory.specs.SoundKeeping.{IsSoundKeeping}
use Rattle.h3_memory.specs.Writing.{LeavesKept}
use Rattle.h3_memory.proofs.EventsKept.{step_kept, bytes_kept, ends_kept, resets_kept, pull_kept}
use Rattle.h3_memory.proofs.KeptLaws.{KeptLaws}
use Rattle.h3_memory.proofs.MemoryAnswers.{LacksIt, lacks_it}
use Rattle.h3_memory.proofs.MemoryAnswers.LacksIt.{LacksRoom, KeepsIt, HandsNothing, HandsNoList}
use Rattle.h3_memory.proofs.Cuts.{list_left, section_left}
use Rattle.h3_memory.proofs.MemoryKept.{section_cut, hands_nothing, bytes_stored, end_stored, reset_stored}
use Rattle.h3_memory.proofs.PullsLeave.{listed_leaves, pull_leaves}
use Rattle.h3_memory.proofs.ResetEvent.{reset_kept}
use Rattle.h3_memory.proofs.SendsLeave.{open_leaves, head_leaves, fields_leaves, body_leaves, trailer_leaves, trailer_fields_leaves, finish_leaves, cancel_leaves, goaway_leaves}
use Rattle.h3_memory.proofs.Written.{unchanged}

answers_kept : (q : KeptLaws) (laws : WorldLaws) (setup : Setup) (k new : KeepingWorld) (e : Event) (a : Answer) → IsSendable setup e → IsSoundKeeping setup k → Answers setup k e a new → IsExact (reader_world setup k e) e a → IsSoundKeeping setup new
answers_kept q laws setup k new (event.OpenRequest side) a sendable h step exact =
    step_kept laws setup k new (event.OpenRequest side) a sendable h step.0 exact (open_leaves setup k.world new.world side a step.0) step.1
answers_kept q laws setup k new (event.Head side id head) a sendable h step exact =
    step_kept laws setup k new (event.Head side id head) a sendable h step.0 exact (head_leaves setup k.world new.world side id head a step.0) step.1
answers_kept q laws setup k new (event.Body side id bytes) a sendable h step exact =
    step_kept laws setup k new (event.Body side id bytes) a sendable h step.0 exact (body_leaves setup k.world new.world side id bytes a step.0) step.1
answers_kept q laws setup k new (event.Trailer side id trailer) a sendable h step exact =
    step_kept laws setup k new (event.Trailer side id trailer) a sendable h step.0 exact (trailer_leaves setup k.world new.world side id trailer a step.0) step.1
answers_kept q laws setup k new (event.Fields side id fields) a sendable h step exact =
    step_kept laws setup k new (event.Fields side id fields) a sendable h step.0 exact (fields_leaves setup k.world new.world side id fields a step.0) step.1
answers_kept q laws setup k new (event.TrailerFields side id fields) a sendable h step exact =
    step_kept laws setup k new (event.TrailerFields side id fields) a sendable h step.0 exact (trailer_fields_leaves setup k.world new.world side id fields a step.0) step.1
answers_kept q laws setup k new (event.Finish side id) a sendable h step exact =
    step_kept laws setup k new (event.Finish side id) a sendable h step.0 exact (finish_leaves setup k.world new.world side id a step.0) step.1
answers_kept q laws setup k new (event.Cancel side id) a sendable h step exact =
    step_kept laws setup k new (event.Cancel side id) a sendable h step.0 exact (cancel_leaves setup k.world new.world side id a step.0) step.1
answers_kept q laws setup k new (event.Goaway side id) a sendable h step exact =
    step_kept laws setup k new (event.Goaway side id) a sendable h step.0 exact (goaway_leaves setup k.world new.world side id a step.0) step.1
answers_kept q laws setup k new (event.Show side) a sendable h step exact =
    step_kept laws setup k new (event.Show side) a sendable h step.0 exact (subst (LeavesKept setup k.world) (sym step.0.1) (unchanged setup k.world)) step.1
answers_kept q laws setup k new (event.Reset side id) a sendable h step exact = reset_kept q laws setup k new side id a sendable h step.0 step.1
answers_kept q laws setup k new (event.Deliver writer id count) a sendable h step exact = bytes_kept q laws setup k new writer id count a sendable h step
answers_kept q laws setup k new (event.DeliverEnd writer id) a sendable h step exact = ends_kept q laws setup k new writer id a sendable h step
answers_kept q laws setup k new (event.DeliverReset writer id) a sendable h step exact = resets_kept q laws setup k new writer id a sendable h step
answers_kept q laws setup k new (event.Pull side id) a sendable h step exact =
    pull_kept q laws setup k new side (event.Pull side id) a (is_settled k.world side id) (λ w v. pull_leaves setup w v side id a) sendable h step exact
answers_kept q laws setup k new (event.PullFields side id) a sendable h step exact =
    pull_kept q laws setup k new side (event.PullFields side id) a (is_settled k.world side id) (λ w v. listed_leaves setup w v side id a) sendable h step exact

-- nothing has changed
same_kept : (setup : Setup) (k new : KeepingWorld) → IsSoundKeeping setup k → new ≡ k → IsSoundKeeping setup new
same_kept setup k new h e = subst (IsSoundKeeping setup) (sym e) h

no_room : (q : KeptLaws) (setup : Setup) (k new : KeepingWorld) (e : Event) → IsSoundKeeping setup k → LacksMemory setup k e (answer.Refused refusal.OutOfMemory) new → IsSoundKeeping setup new
no_room q setup k new (event.OpenRequest side) h step = same_kept setup k new h step.1
no_room q setup k new (event.Head side id head) h step = section_cut q setup k new side id (head_fields head) h (section_left k new side id (head_fields head) (head_refusal setup k.world side id head) step)
no_room q setup k new (event.Fields side id fields) h step = section_cut q setup k new side id fields h (list_left k new side id fields (fields_refusal setup k.world side id fields) step)
no_room q setup k new (event.Body side id bytes) h step = same_kept setup k new h step
no_room q setup k new (event.Trailer side id trailer) h step = section_cut q setup k new side id (head_fields trailer) h (section_left k new side id (head_fields trailer) (trailer_refusal setup k.world side id trailer) step)
no_room q setup k new (event.TrailerFields side id fields) h step = section_cut q setup k new side id fields h (list_left k new side id fields (trailer_fields_refusal setup k.world side id fields) step)
no_room q setup k new (event.Finish side id) h step = absurd step
no_room q setup k new (event.Reset side id) h step = absurd step
no_room q setup k new (event.Cancel side id) h step = same_kept setup k new h step.1
no_room q setup k new (event.Goaway side id) h step = same_kept setup k new h step.1
no_room q setup k new (event.Deliver writer id count) h step = same_kept setup k new h step
no_room q setup k new (event.DeliverEnd writer id) h step = same_kept setup k new h step.1
no_room q setup k new (event.DeliverReset writer id) h step = same_kept setup k new h step.1
no_room q setup k new (event.Pull side id) h step = absurd step
no_room q setup k new (event.PullFields side id) h step = absurd step
no_room q setup k new (event.Show side) h step = absurd step

stored : (q : KeptLaws) (setup : Setup) (k new : KeepingWorld) (e : Event) → IsSoundKeeping setup k → LacksMemory setup k e (answer.Refused refusal.Kept) new → IsSoundKeeping setup new
stored q setup k new (event.Deliver writer id count) h step = bytes_stored q setup k new writer id count h step.0 step.1
stored q setup k new (event.DeliverEnd writer id) h step = end_stored q setup k new writer id h step.0 step.1
stored q setup k new (event.DeliverReset writer id) h step = reset_stored q setup k new writer id h step.0 step.1
stored q setup k new (event.OpenRequest side) h step = absurd step
stored q setup k new (event.Head side id head) h step = absurd step
stored q setup k new (event.Fields side id fields) h step = absurd step
stored q setup k new (event.Body side id bytes) h step = absurd step
stored q setup k new (event.Trailer side id trailer) h step = absurd step
stored q setup k new (event.TrailerFields side id fields) h step = absurd step
stored q setup k new (event.Finish side id) h step = absurd step
stored q setup k new (event.Reset side id) h step = absurd step
stored q setup k new (event.Cancel side id) h step = absurd step
stored q setup k new (event.Goaway side id) h step = absurd step
stored q setup k new (event.Pull side id) h step = absurd step
stored q setup k new (event.PullFields side id) h step = absurd step
stored q setup k new (event.Show side) h step = absurd step

nothing_out : (q : KeptLaws) (setup : Setup) (k new : KeepingWorld) (e : Event) → IsSoundKeeping setup k → LacksMemory setup k e (answer.Pulled (pull.Fault fault.Memory)) new → IsSoundKeeping setup new
nothing_out q setup k new (event.Pull side id) h step = hands_nothing q setup k new side id h step
nothing_out q setup k new (event.OpenRequest side) h step = absurd step
nothing_out q setup k new (event.Head side id head) h step = absurd step
nothing_out q setup k new (event.Fields side id fields) h step = absurd step
nothing_out q setup k new (event.Body side id bytes) h step = absurd step
nothing_out q setup k new (event.Trailer side id trailer) h step = absurd step
nothing_out q setup k new (event.TrailerFields side id fields) h step = absurd step
nothing_out q setup k new (event.Finish side id) h step = absurd step
nothing_out q setup k new (event.Reset side id) h step = absurd step
nothing_out q setup k new (event.Cancel side id) h step = absurd step
nothing_out q setup k new (event.Goaway side id) h step = absurd step
nothing_out q setup k new (event.Deliver writer id count) h step = absurd step
nothing_out q setup k new (event.DeliverEnd writer id) h step = absurd step
nothing_out q setup k new (event.DeliverReset writer id) h step = absurd step
nothing_out q setup k new (event.PullFields side id) h step = absurd step
nothing_out q setup k new (event.Show side) h step = absurd step

no_list : (q : KeptLaws) (setup : Setup) (k new : KeepingWorld) (e : Event) → IsSoundKeeping setup k → LacksMemory setup k e (answer.Listed (list.Fault fault.Memory)) new → IsSoundKeeping setup new
no_list q setup k new (event.PullFields side id) h step = hands_nothing q setup k new side id h step
no_list q setup k new (event.Pull side id) h step = absurd step
no_list q setup k new (event.OpenRequest side) h step = absurd step
no_list q setup k new (event.Head side id head) h step = absurd step
no_list q setup k new (event.Fields side id fields) h step = absurd step
no_list q setup k new (event.Body side id bytes) h step = absurd step
no_list q setup k new (event.Trailer side id trailer) h step = absurd step
no_list q setup k new (event.TrailerFields side id fields) h step = absurd step
no_list q setup k new (event.Finish side id) h step = absurd step
no_list q setup k new (event.Reset side id) h step = absurd step
no_list q setup k new (event.Cancel side id) h step = absurd step
no_list q setup k new (event.Goaway side id) h step = absurd step
no_list q setup k new (event.Deliver writer id count) h step = absurd step
no_list q setup k new (event.DeliverEnd writer id) h step = absurd step
no_list q setup k new (event.DeliverReset writer id) h step = absurd step
no_list q setup k new (event.Show side) h step = absurd step

pub step_keeps : (q : KeptLaws) (laws : WorldLaws) (setup : Setup) (k new : KeepingWorld) (e : Event) (a : Answer) → IsSendable setup e → IsSoundKeeping setup k → StepWithMemory setup k e a new
    → UnlessMemory (is_out_of_memory a) (IsExact (reader_world setup k e) e a) → IsSoundKeeping setup new
step_keeps q laws setup k new e a sendable h step exact = by_memory (is_out_of_memory a) refl step exact
  where
    lacks : LacksIt a → LacksMemory setup k e a new → IsSoundKeeping setup new
    lacks (LacksRoom is) step = no_room q setup k new e h (subst (λ x. LacksMemory setup k e x new) is step)
    lacks (KeepsIt is) step = stored q setup k new e h (subst (λ x. LacksMemory setup k e x new) is step)
    lacks (HandsNothing is) step = nothing_out q setup k new e h (subst (λ x. LacksMemory setup k e x new) is step)
    lacks (HandsNoList is) step = no_list q setup k new e h (subst (λ x. LacksMemory setup k e x new) is step)

    by_memory : (b : Bool) → is_out_of_memory a ≡ b → StepOf b setup k e a new → UnlessMemory b (IsExact (reader_world setup k e) e a) → IsSoundKeeping setup new
    by_memory true e_memory step exact = lacks (lacks_it a e_memory) step
    by_memory false e_memory step exact = answers_kept q laws setup k new e a sendable h step exact
