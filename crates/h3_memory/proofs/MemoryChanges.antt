-- What holds of each change of a world holds of each step, also where memory is refused.
use Rattle.std.proofs.Common.{◌≡◌, ◌⊎◌, inl, inr, ℕ, Bool, true, false, List, [], ◌∷◌, ◌++◌, refl, sym, ap, ◌∙◌, subst, Option, Some, None}
use Rattle.h3_header.specs.Head.{head_fields}
use Rattle.h3_field.specs.Field.{Field}
use Rattle.h3_proto.specs.declared.stream.Side.{Side}
use Rattle.h3_proto.specs.declared.stream.Side.TheVariants.{Client, Server}
use Rattle.h3_connection.specs.OwnIds.{other}
use Rattle.h3_connection.specs.declared.event.Refusal.{Refusal}
use Rattle.h3_connection.specs.declared.event.Refusal.TheVariants as refusal
use Rattle.h3_connection.specs.declared.event.Fault.TheVariants as fault
use Rattle.h3_connection.specs.declared.event.Pull.TheVariants as pull
use Rattle.h3_connection.specs.declared.lists.ListPull.TheVariants as list
use Rattle.h3_world.specs.Setup.{Setup}
use Rattle.h3_world.specs.declared.event.Event.{Event}
use Rattle.h3_world.specs.declared.event.Event.TheVariants as event
use Rattle.h3_world.specs.declared.event.Answer.{Answer}
use Rattle.h3_world.specs.declared.event.Answer.TheVariants as answer
use Rattle.h3_world.specs.Delivering.{delivery, end_delivery, reset_delivery}
use Rattle.h3_world.specs.Headline.{is_out_of_memory}
use Rattle.h3_world.specs.Refusals.{fields_refusal, head_refusal, trailer_fields_refusal, trailer_refusal, reset_refusal}
use Rattle.h3_world.specs.Sending.{cut_off}
use Rattle.h3_world.specs.Step.{Does}
use Rattle.h3_world.specs.World.{World}
use Rattle.h3_headline.specs.ChangeLaws as change
use Rattle.h3_headline.specs.Changes.{Allows, Stepwise}
use Rattle.h3_headline.specs.FlowLaws.{open_there}
use Rattle.h3_memory.specs.Kept.{Delivery, Bytes, End, Reset, KeepingWorld, kept_at, with_kept, caught_up, is_settled, noticed_all}
use Rattle.h3_memory.specs.MemoryStep.{Answers, HandsNothingOut, Keeps, LacksMemory, Pulls, StepOf, StepWithMemory, read_behind}
use Rattle.h3_memory.specs.SoundKeeping.{IsSoundKeeping}
use Rattle.h3_memory.proofs.Cuts.{Left, left_holds, list_left, section_left}
use Rattle.h3_memory.proofs.EventsKept.{kept_readable, read_or_not}
use Rattle.h3_memory.proofs.KeptLaws.{KeptLaws}
use Rattle.h3_memory.proofs.MemoryAnswers.{LacksIt, lacks_it}
use Rattle.h3_memory.proofs.MemoryAnswers.LacksIt.{LacksRoom, KeepsIt, HandsNothing, HandsNoList}
use Rattle.h3_memory.proofs.MemoryKept.{TakesMore, takes_bytes, takes_end, takes_reset}
use Rattle.h3_memory.proofs.PartsChange as parts
use Rattle.h3_memory.proofs.ResetEvent.{resets_at}

module _ (R : World → World → Type 0) (c : Stepwise R) where
  pub caught_stays : (q : KeptLaws) (setup : Setup) (k : KeepingWorld) (side : Side) → IsSoundKeeping setup k → R k.world (caught_up setup k side)
  caught_stays q setup k side h = parts.all_stay R c q setup k.world (other side) (kept_at k side) h.sound (kept_readable setup k side h)

  kept_world : (k : KeepingWorld) (side : Side) (v : World) (ds : List Delivery) → (with_kept k side v ds).world ≡ v
  kept_world k Client v ds = refl
  kept_world k Server v ds = refl

  read_stays : (k new : KeepingWorld) (reader : Side) (v : World) → R k.world v → (new ≡ k) ⊎ (new ≡ with_kept k reader v []) → R k.world new.world
  read_stays k new reader v keeps (inl e) = subst (λ x. R k.world x.world) (sym e) (c.same k.world)
  read_stays k new reader v keeps (inr e) = subst (R k.world) (sym (ap (λ x. x.world) e ∙ kept_world k reader v [])) keeps

  does_stay : (w after v : World) (given : Answer) (o : Option Refusal) → (o ≡ None → given ≡ answer.Done → R w after) → Does o w answer.Done after given v → R w v
  does_stay w after v given (Some r) keeps d = subst (R w) (sym d.1) (c.same w)
  does_stay w after v given None keeps d = subst (R w) (sym d.1) (keeps refl d.0)

  pull_stays : (q : KeptLaws) (setup : Setup) (k new : KeepingWorld) (side : Side) (e : Event) (a : Answer) (settled : Bool) → ((w : World) → Allows R w e a) → IsSoundKeeping setup k → Pulls setup k side e settled a new → R k.world new.world
  pull_stays q setup k new side e a true allowed h step = change.event_stays R c setup k.world new.world e a (allowed k.world) step.0
  pull_stays q setup k new side e a false allowed h step =
      let u = caught_up setup k side in
      c.joined k.world u new.world (caught_stays q setup k side h) (change.event_stays R c setup u new.world e a (allowed u) step.0)

  -- a delivery, whatever is answered
  delivers_on : (q : KeptLaws) (setup : Setup) (k new : KeepingWorld) (reader : Side) (x : Answer × World) (a : Answer) → IsSoundKeeping setup k → R (caught_up setup k reader) x.1 → (a, new) ≡ read_behind k reader x → R k.world new.world
  delivers_on q setup k new reader x a h stays step = read_stays k new reader x.1 (c.joined k.world (caught_up setup k reader) x.1 (caught_stays q setup k reader h) stays) (read_or_not k reader a new x step)

  answers_stay : (q : KeptLaws) (setup : Setup) (k new : KeepingWorld) (e : Event) (a : Answer) → Allows R k.world e a → IsSoundKeeping setup k → Answers setup k e a new → R k.world new.world
  answers_stay q setup k new (event.OpenRequest side) a allowed h step = change.event_stays R c setup k.world new.world (event.OpenRequest side) a allowed step.0
  answers_stay q setup k new (event.Head side i head) a allowed h step = change.event_stays R c setup k.world new.world (event.Head side i head) a allowed step.0
  answers_stay q setup k new (event.Fields side i fields) a allowed h step = change.event_stays R c setup k.world new.world (event.Fields side i fields) a allowed step.0
  answers_stay q setup k new (event.Body side i bytes) a allowed h step = change.event_stays R c setup k.world new.world (event.Body side i bytes) a allowed step.0
  answers_stay q setup k new (event.Trailer side i trailer) a allowed h step = change.event_stays R c setup k.world new.world (event.Trailer side i trailer) a allowed step.0
  answers_stay q setup k new (event.TrailerFields side i fields) a allowed h step = change.event_stays R c setup k.world new.world (event.TrailerFields side i fields) a allowed step.0
  answers_stay q setup k new (event.Finish side i) a allowed h step = change.event_stays R c setup k.world new.world (event.Finish side i) a allowed step.0
  answers_stay q setup k new (event.Cancel side i) a allowed h step = change.event_stays R c setup k.world new.world (event.Cancel side i) a allowed step.0
  answers_stay q setup k new (event.Goaway side i) a allowed h step = change.event_stays R c setup k.world new.world (event.Goaway side i) a allowed step.0
  answers_stay q setup k new (event.Show side) a allowed h step = change.event_stays R c setup k.world new.world (event.Show side) a allowed step.0
  answers_stay q setup k new (event.Reset side i) a allowed h step =
      does_stay k.world (cut_off k.world side i) new.world a (reset_refusal (caught_up setup k (other side)) side i) (λ none done. allowed (open_there k.world side i (resets_at q setup k side i h none).opened) done) step.0
  answers_stay q setup k new (event.Deliver side i count) a allowed h step =
      delivers_on q setup k new (other side) (delivery setup (caught_up setup k (other side)) side i count) a h (change.stays_delivery R c setup (caught_up setup k (other side)) side i count) step
  answers_stay q setup k new (event.DeliverEnd side i) a allowed h step =
      delivers_on q setup k new (other side) (end_delivery setup (caught_up setup k (other side)) side i) a h (change.stays_end R c setup (caught_up setup k (other side)) side i) step
  answers_stay q setup k new (event.DeliverReset side i) a allowed h step =
      delivers_on q setup k new (other side) (reset_delivery (caught_up setup k (other side)) side i) a h (change.stays_reset R c (caught_up setup k (other side)) side i) step
  answers_stay q setup k new (event.Pull side i) a allowed h step = pull_stays q setup k new side (event.Pull side i) a (is_settled k.world side i) (λ w. tt) h step
  answers_stay q setup k new (event.PullFields side i) a allowed h step = pull_stays q setup k new side (event.PullFields side i) a (is_settled k.world side i) (λ w. tt) h step

  -- Where memory was refused.
  nothing_stays : (k new : KeepingWorld) → new ≡ k → R k.world new.world
  nothing_stays k new e = subst (λ x. R k.world x.world) (sym e) (c.same k.world)

  cut_stays : (k new : KeepingWorld) (side : Side) (i : ℕ) (fields : List Field) → Left k side i fields new → R k.world new.world
  cut_stays k new side i fields left = left_holds (R k.world) k new side i fields (λ front. parts.insertions_stay R c k.world side i front) (c.same k.world) left

  no_room : (setup : Setup) (k new : KeepingWorld) (e : Event) → LacksMemory setup k e (answer.Refused refusal.OutOfMemory) new → R k.world new.world
  no_room setup k new (event.OpenRequest side) step = nothing_stays k new step.1
  no_room setup k new (event.Head side i head) step = cut_stays k new side i (head_fields head) (section_left k new side i (head_fields head) (head_refusal setup k.world side i head) step)
  no_room setup k new (event.Fields side i fields) step = cut_stays k new side i fields (list_left k new side i fields (fields_refusal setup k.world side i fields) step)
  no_room setup k new (event.Body side i bytes) step = nothing_stays k new step
  no_room setup k new (event.Trailer side i trailer) step = cut_stays k new side i (head_fields trailer) (section_left k new side i (head_fields trailer) (trailer_refusal setup k.world side i trailer) step)
  no_room setup k new (event.TrailerFields side i fields) step = cut_stays k new side i fields (list_left k new side i fields (trailer_fields_refusal setup k.world side i fields) step)
  no_room setup k new (event.Finish side i) step = absurd step
  no_room setup k new (event.Reset side i) step = absurd step
  no_room setup k new (event.Cancel side i) step = nothing_stays k new step.1
  no_room setup k new (event.Goaway side i) step = nothing_stays k new step.1
  no_room setup k new (event.Deliver side i count) step = nothing_stays k new step
  no_room setup k new (event.DeliverEnd side i) step = nothing_stays k new step.1
  no_room setup k new (event.DeliverReset side i) step = nothing_stays k new step.1
  no_room setup k new (event.Pull side i) step = absurd step
  no_room setup k new (event.PullFields side i) step = absurd step
  no_room setup k new (event.Show side) step = absurd step

  -- what is left of a memory answer
  left_stays : (k new : KeepingWorld) (reader : Side) (v : World) (left : List Delivery) → R k.world v → new ≡ with_kept k reader v left → R k.world new.world
  left_stays k new reader v left keeps is = subst (R k.world) (sym (ap (λ x. x.world) is ∙ kept_world k reader v left)) keeps

  -- what was handed over is kept
  stores_stays : (q : KeptLaws) (setup : Setup) (k new : KeepingWorld) (writer : Side) (d : Delivery) → IsSoundKeeping setup k → TakesMore setup k writer d → Keeps setup k writer d new → R k.world new.world
  stores_stays q setup k new writer d h t keeps =
      let left = kept_at new (other writer) in
      left_stays k new (other writer) (noticed_all keeps.mid writer left) left (parts.noticed_stays R c q setup writer k.world keeps.mid (kept_at k (other writer) ++ d ∷ []) left h.sound t.may keeps.read) keeps.same

  stored : (q : KeptLaws) (setup : Setup) (k new : KeepingWorld) (e : Event) → IsSoundKeeping setup k → LacksMemory setup k e (answer.Refused refusal.Kept) new → R k.world new.world
  stored q setup k new (event.Deliver side i count) h step = stores_stays q setup k new side (Bytes i count) h (takes_bytes q setup k side i count h step.0) step.1
  stored q setup k new (event.DeliverEnd side i) h step = stores_stays q setup k new side (End i) h (takes_end q setup k side i h step.0) step.1
  stored q setup k new (event.DeliverReset side i) h step = stores_stays q setup k new side (Reset i) h (takes_reset q setup k side i h step.0) step.1
  stored q setup k new (event.OpenRequest side) h step = absurd step
  stored q setup k new (event.Head side id head) h step = absurd step
  stored q setup k new (event.Fields side id fields) h step = absurd step
  stored q setup k new (event.Body side id bytes) h step = absurd step
  stored q setup k new (event.Trailer side id trailer) h step = absurd step
  stored q setup k new (event.TrailerFields side id fields) h step = absurd step
  stored q setup k new (event.Finish side id) h step = absurd step
  stored q setup k new (event.Reset side id) h step = absurd step
  stored q setup k new (event.Cancel side id) h step = absurd step
  stored q setup k new (event.Goaway side id) h step = absurd step
  stored q setup k new (event.Pull side id) h step = absurd step
  stored q setup k new (event.PullFields side id) h step = absurd step
  stored q setup k new (event.Show side) h step = absurd step

  -- and where nothing was handed out
  none_out : (q : KeptLaws) (setup : Setup) (k new : KeepingWorld) (side : Side) (id : ℕ) → IsSoundKeeping setup k → HandsNothingOut setup k side id new → R k.world new.world
  none_out q setup k new side id h step =
      let left = kept_at new side in
      left_stays k new side (noticed_all step.mid (other side) left) left (parts.noticed_stays R c q setup (other side) k.world step.mid (kept_at k side) left h.sound (kept_readable setup k side h) step.read) step.same

  nothing_out : (q : KeptLaws) (setup : Setup) (k new : KeepingWorld) (e : Event) → IsSoundKeeping setup k → LacksMemory setup k e (answer.Pulled (pull.Fault fault.Memory)) new → R k.world new.world
  nothing_out q setup k new (event.Pull side id) h step = none_out q setup k new side id h step
  nothing_out q setup k new (event.OpenRequest side) h step = absurd step
  nothing_out q setup k new (event.Head side id head) h step = absurd step
  nothing_out q setup k new (event.Fields side id fields) h step = absurd step
  nothing_out q setup k new (event.Body side id bytes) h step = absurd step
  nothing_out q setup k new (event.Trailer side id trailer) h step = absurd step
  nothing_out q setup k new (event.TrailerFields side id fields) h step = absurd step
  nothing_out q setup k new (event.Finish side id) h step = absurd step
  nothing_out q setup k new (event.Reset side id) h step = absurd step
  nothing_out q setup k new (event.Cancel side id) h step = absurd step
  nothing_out q setup k new (event.Goaway side id) h step = absurd step
  nothing_out q setup k new (event.Deliver writer id count) h step = absurd step
  nothing_out q setup k new (event.DeliverEnd writer id) h step = absurd step
  nothing_out q setup k new (event.DeliverReset writer id) h step = absurd step
  nothing_out q setup k new (event.PullFields side id) h step = absurd step
  nothing_out q setup k new (event.Show side) h step = absurd step

  no_list : (q : KeptLaws) (setup : Setup) (k new : KeepingWorld) (e : Event) → IsSoundKeeping setup k → LacksMemory setup k e (answer.Listed (list.Fault fault.Memory)) new → R k.world new.world
  no_list q setup k new (event.PullFields side id) h step = none_out q setup k new side id h step
  no_list q setup k new (event.OpenRequest side) h step = absurd step
  no_list q setup k new (event.Head side id head) h step = absurd step
  no_list q setup k new (event.Fields side id fields) h step = absurd step
  no_list q setup k new (event.Body side id bytes) h step = absurd step
  no_list q setup k new (event.Trailer side id trailer) h step = absurd step
  no_list q setup k new (event.TrailerFields side id fields) h step = absurd step
  no_list q setup k new (event.Finish side id) h step = absurd step
  no_list q setup k new (event.Reset side id) h step = absurd step
  no_list q setup k new (event.Cancel side id) h step = absurd step
  no_list q setup k new (event.Goaway side id) h step = absurd step
  no_list q setup k new (event.Deliver writer id count) h step = absurd step
  no_list q setup k new (event.DeliverEnd writer id) h step = absurd step
  no_list q setup k new (event.DeliverReset writer id) h step = absurd step
  no_list q setup k new (event.Pull side id) h step = absurd step
  no_list q setup k new (event.Show side) h step = absurd step

  -- **Each step.**
  pub step_stays : (q : KeptLaws) (setup : Setup) (k new : KeepingWorld) (e : Event) (a : Answer) → Allows R k.world e a → IsSoundKeeping setup k → StepWithMemory setup k e a new → R k.world new.world
  step_stays q setup k new e a allowed h step = by_memory (is_out_of_memory a) refl step
    where
      lacks : LacksIt a → LacksMemory setup k e a new → R k.world new.world
      lacks (LacksRoom is) step = no_room setup k new e (subst (λ x. LacksMemory setup k e x new) is step)
      lacks (KeepsIt is) step = stored q setup k new e h (subst (λ x. LacksMemory setup k e x new) is step)
      lacks (HandsNothing is) step = nothing_out q setup k new e h (subst (λ x. LacksMemory setup k e x new) is step)
      lacks (HandsNoList is) step = no_list q setup k new e h (subst (λ x. LacksMemory setup k e x new) is step)

      by_memory : (b : Bool) → is_out_of_memory a ≡ b → StepOf b setup k e a new → R k.world new.world
      by_memory true told step = lacks (lacks_it a told) step
      by_memory false told step = answers_stay q setup k new e a allowed h step
