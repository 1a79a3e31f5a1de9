-- What each step changes of each flow, also where memory is refused.
use Rattle.std.proofs.Common.{◌≡◌, ◌⊎◌, inl, inr, ℕ, ◌&&◌, Bool, true, false, List, [], ◌∷◌, ◌++◌, refl, sym, ap, ◌∙◌, subst, if◌then◌else◌, Option, Some, None}
use Rattle.h3_header.specs.Head.{head_fields}
use Rattle.h3_field.specs.Field.{Field}
use Rattle.h3_proto.specs.declared.stream.Side.{Side}
use Rattle.h3_proto.specs.declared.stream.Side.TheVariants.{Client, Server}
use Rattle.h3_connection.specs.OwnIds.{other}
use Rattle.h3_connection.specs.declared.event.Refusal.{Refusal}
use Rattle.h3_connection.specs.declared.event.Refusal.TheVariants as refusal
use Rattle.h3_connection.specs.declared.event.Fault.TheVariants as fault
use Rattle.h3_connection.specs.declared.event.Pull.TheVariants as pull
use Rattle.h3_connection.specs.declared.lists.ListPull.TheVariants as list
use Rattle.h3_world.specs.Setup.{Setup}
use Rattle.h3_world.specs.declared.event.Event.{Event}
use Rattle.h3_world.specs.declared.event.Event.TheVariants as event
use Rattle.h3_world.specs.declared.event.Answer.{Answer}
use Rattle.h3_world.specs.declared.event.Answer.TheVariants as answer
use Rattle.h3_world.specs.Delivering.{delivery, end_delivery, reset_delivery}
use Rattle.h3_world.specs.Headline.{is_out_of_memory}
use Rattle.h3_world.specs.Refusals.{fields_refusal, head_refusal, trailer_fields_refusal, trailer_refusal, reset_refusal}
use Rattle.h3_world.specs.Sending.{cut_off}
use Rattle.h3_world.specs.Step.{Does}
use Rattle.h3_world.specs.Streams.{flow}
use Rattle.h3_world.specs.World.{World}
use Rattle.h3_headline.specs.ContentLaws.{moves_then, stays}
use Rattle.h3_headline.specs.Contents.{Moves, KeepsParts, reader_of, MovesBy}
use Rattle.h3_headline.specs.FlowLaws.{open_there}
use Rattle.h3_headline.specs.KeepsPartsLaws.{keeps_same, keeps_with_flow, keeps_delivery, keeps_end, keeps_reset}
use Rattle.h3_headline.specs.Messages.{MessageContent, contents_of, ended_in, finished_in, is_done, is_end_of, is_on, pulled_in, sent_in}
use Rattle.h3_headline.specs.MovedLaws.{moved}
use Rattle.h3_memory.specs.Kept.{Delivery, Bytes, End, Reset, KeepingWorld, kept_at, with_kept, caught_up, is_settled, noticed_all}
use Rattle.h3_memory.specs.MemoryStep.{Answers, HandsNothingOut, Keeps, LacksMemory, Pulls, StepOf, StepWithMemory, read_behind}
use Rattle.h3_memory.specs.SoundKeeping.{IsSoundKeeping}
use Rattle.h3_memory.proofs.Cuts.{Left, left_holds, list_left, section_left}
use Rattle.h3_memory.proofs.EventsKept.{kept_readable, catches_up, read_or_not}
use Rattle.h3_memory.proofs.KeptLaws.{KeptLaws}
use Rattle.h3_memory.proofs.MemoryAnswers.{LacksIt, lacks_it}
use Rattle.h3_memory.proofs.MemoryAnswers.LacksIt.{LacksRoom, KeepsIt, HandsNothing, HandsNoList}
use Rattle.h3_memory.proofs.MemoryKept.{TakesMore, takes_bytes, takes_end, takes_reset}
use Rattle.h3_memory.proofs.PartsKept.{keeps_then, all_keep, part_noticed, insertions_keep}
use Rattle.h3_memory.proofs.ResetEvent.{resets_at}

-- what an event changes of a flow, by the worlds in which all that is kept counts as not delivered
abbrev pub MovesSo : Setup → KeepingWorld → Event → Side → ℕ → Answer → KeepingWorld → Type 0
MovesSo setup k e writer id a new = MovesBy setup k.world e writer id a new.world

differ : false ≡ true → ⊥
differ h = cc

quiet : (setup : Setup) (w v : World) (writer : Side) (id : ℕ) → KeepsParts w v → Moves (reader_of setup writer) (flow w writer id) (flow v writer id) [] false [] false
quiet setup w v writer id keeps = stays (reader_of setup writer) (flow w writer id) (flow v writer id) false (keeps writer id) (λ e. absurd (differ e))

-- where the side has caught up before
behind : (setup : Setup) (w u v : World) (e : Event) (writer : Side) (id : ℕ) (a : Answer) → KeepsParts w u → MovesBy setup u e writer id a v → MovesBy setup w e writer id a v
behind setup w u v e writer id a keeps moves =
    moves_then (reader_of setup writer) (flow w writer id) (flow u writer id) (flow v writer id) [] (sent_in writer id e a) false (finished_in writer id e a) [] (pulled_in (other writer) id e a) false (ended_in (other writer) id e a)
    (quiet setup w u writer id keeps) moves

pub caught_keeps : (q : KeptLaws) (setup : Setup) (k : KeepingWorld) (side : Side) → IsSoundKeeping setup k → KeepsParts k.world (caught_up setup k side)
caught_keeps q setup k side h = all_keep q setup k.world (other side) (kept_at k side) h.sound (kept_readable setup k side h)

kept_world : (k : KeepingWorld) (side : Side) (v : World) (ds : List Delivery) → (with_kept k side v ds).world ≡ v
kept_world k Client v ds = refl
kept_world k Server v ds = refl

pub read_keeps : (k new : KeepingWorld) (reader : Side) (v : World) → KeepsParts k.world v → (new ≡ k) ⊎ (new ≡ with_kept k reader v []) → KeepsParts k.world new.world
read_keeps k new reader v keeps (inl e) = subst (λ x. KeepsParts k.world x.world) (sym e) (keeps_same k.world)
read_keeps k new reader v keeps (inr e) = subst (KeepsParts k.world) (sym (ap (λ x. x.world) e ∙ kept_world k reader v [])) keeps

pub reset_keeps : (q : KeptLaws) (setup : Setup) (k : KeepingWorld) (side : Side) (id : ℕ) → IsSoundKeeping setup k → reset_refusal (caught_up setup k (other side)) side id ≡ None → KeepsParts k.world (cut_off k.world side id)
reset_keeps q setup k side id h e =
    keeps_with_flow k.world side id (record (flow k.world side id) { is_reset = true }) (open_there k.world side id (resets_at q setup k side id h e).opened) (record { sent = refl; parts_out = refl; body_out = refl })

pub does_keep : (w after v : World) (given : Answer) (o : Option Refusal) → (o ≡ None → KeepsParts w after) → Does o w answer.Done after given v → KeepsParts w v
does_keep w after v given (Some r) keeps d = subst (KeepsParts w) (sym d.1) (keeps_same w)
does_keep w after v given None keeps d = subst (KeepsParts w) (sym d.1) (keeps refl)

pull_moves : (q : KeptLaws) (setup : Setup) (k new : KeepingWorld) (side : Side) (e : Event) (a : Answer) (settled : Bool) (writer : Side) (id : ℕ) → IsSoundKeeping setup k → Pulls setup k side e settled a new → MovesSo setup k e writer id a new
pull_moves q setup k new side e a true writer id h step = moved setup k.world new.world e a writer id h.sound step.0
pull_moves q setup k new side e a false writer id h step =
    let u = caught_up setup k side in
    behind setup k.world u new.world e writer id a (caught_keeps q setup k side h) (moved setup u new.world e a writer id (catches_up q setup k side h).sound step.0)

-- a delivery, whatever is answered
delivers_quietly : (q : KeptLaws) (setup : Setup) (k new : KeepingWorld) (reader : Side) (x : Answer × World) (a : Answer) (writer : Side) (id : ℕ) → IsSoundKeeping setup k → KeepsParts (caught_up setup k reader) x.1 → (a, new) ≡ read_behind k reader x
    → Moves (reader_of setup writer) (flow k.world writer id) (flow new.world writer id) [] false [] false
delivers_quietly q setup k new reader x a writer id h keeps step =
    quiet setup k.world new.world writer id (read_keeps k new reader x.1 (keeps_then k.world (caught_up setup k reader) x.1 (caught_keeps q setup k reader h) keeps) (read_or_not k reader a new x step))

answers_move : (q : KeptLaws) (setup : Setup) (k new : KeepingWorld) (e : Event) (a : Answer) (writer : Side) (id : ℕ) → IsSoundKeeping setup k → Answers setup k e a new → MovesSo setup k e writer id a new
answers_move q setup k new (event.OpenRequest side) a writer id h step = moved setup k.world new.world (event.OpenRequest side) a writer id h.sound step.0
answers_move q setup k new (event.Head side i head) a writer id h step = moved setup k.world new.world (event.Head side i head) a writer id h.sound step.0
answers_move q setup k new (event.Fields side i fields) a writer id h step = moved setup k.world new.world (event.Fields side i fields) a writer id h.sound step.0
answers_move q setup k new (event.Body side i bytes) a writer id h step = moved setup k.world new.world (event.Body side i bytes) a writer id h.sound step.0
answers_move q setup k new (event.Trailer side i trailer) a writer id h step = moved setup k.world new.world (event.Trailer side i trailer) a writer id h.sound step.0
answers_move q setup k new (event.TrailerFields side i fields) a writer id h step = moved setup k.world new.world (event.TrailerFields side i fields) a writer id h.sound step.0
answers_move q setup k new (event.Finish side i) a writer id h step = moved setup k.world new.world (event.Finish side i) a writer id h.sound step.0
answers_move q setup k new (event.Cancel side i) a writer id h step = moved setup k.world new.world (event.Cancel side i) a writer id h.sound step.0
answers_move q setup k new (event.Goaway side i) a writer id h step = moved setup k.world new.world (event.Goaway side i) a writer id h.sound step.0
answers_move q setup k new (event.Show side) a writer id h step = moved setup k.world new.world (event.Show side) a writer id h.sound step.0
answers_move q setup k new (event.Reset side i) a writer id h step =
    quiet setup k.world new.world writer id (does_keep k.world (cut_off k.world side i) new.world a (reset_refusal (caught_up setup k (other side)) side i) (reset_keeps q setup k side i h) step.0)
answers_move q setup k new (event.Deliver side i count) a writer id h step =
    delivers_quietly q setup k new (other side) (delivery setup (caught_up setup k (other side)) side i count) a writer id h (keeps_delivery setup (caught_up setup k (other side)) side i count) step
answers_move q setup k new (event.DeliverEnd side i) a writer id h step =
    delivers_quietly q setup k new (other side) (end_delivery setup (caught_up setup k (other side)) side i) a writer id h (keeps_end setup (caught_up setup k (other side)) side i) step
answers_move q setup k new (event.DeliverReset side i) a writer id h step =
    delivers_quietly q setup k new (other side) (reset_delivery (caught_up setup k (other side)) side i) a writer id h (keeps_reset (caught_up setup k (other side)) side i) step
answers_move q setup k new (event.Pull side i) a writer id h step = pull_moves q setup k new side (event.Pull side i) a (is_settled k.world side i) writer id h step
answers_move q setup k new (event.PullFields side i) a writer id h step = pull_moves q setup k new side (event.PullFields side i) a (is_settled k.world side i) writer id h step

-- Where memory was refused, no message moves.
same_keeps : (k new : KeepingWorld) → new ≡ k → KeepsParts k.world new.world
same_keeps k new e = subst (λ x. KeepsParts k.world x.world) (sym e) (keeps_same k.world)

cut_keeps : (k new : KeepingWorld) (side : Side) (i : ℕ) (fields : List Field) → Left k side i fields new → KeepsParts k.world new.world
cut_keeps k new side i fields left = left_holds (KeepsParts k.world) k new side i fields (λ front. insertions_keep k.world side i front) (keeps_same k.world) left

pub no_room : (setup : Setup) (k new : KeepingWorld) (e : Event) → LacksMemory setup k e (answer.Refused refusal.OutOfMemory) new → KeepsParts k.world new.world
no_room setup k new (event.OpenRequest side) step = same_keeps k new step.1
no_room setup k new (event.Head side i head) step = cut_keeps k new side i (head_fields head) (section_left k new side i (head_fields head) (head_refusal setup k.world side i head) step)
no_room setup k new (event.Fields side i fields) step = cut_keeps k new side i fields (list_left k new side i fields (fields_refusal setup k.world side i fields) step)
no_room setup k new (event.Body side i bytes) step = same_keeps k new step
no_room setup k new (event.Trailer side i trailer) step = cut_keeps k new side i (head_fields trailer) (section_left k new side i (head_fields trailer) (trailer_refusal setup k.world side i trailer) step)
no_room setup k new (event.TrailerFields side i fields) step = cut_keeps k new side i fields (list_left k new side i fields (trailer_fields_refusal setup k.world side i fields) step)
no_room setup k new (event.Finish side i) step = absurd step
no_room setup k new (event.Reset side i) step = absurd step
no_room setup k new (event.Cancel side i) step = same_keeps k new step.1
no_room setup k new (event.Goaway side i) step = same_keeps k new step.1
no_room setup k new (event.Deliver side i count) step = same_keeps k new step
no_room setup k new (event.DeliverEnd side i) step = same_keeps k new step.1
no_room setup k new (event.DeliverReset side i) step = same_keeps k new step.1
no_room setup k new (event.Pull side i) step = absurd step
no_room setup k new (event.PullFields side i) step = absurd step
no_room setup k new (event.Show side) step = absurd step

-- what is left of a memory answer
left_keeps : (k new : KeepingWorld) (reader : Side) (v : World) (left : List Delivery) → KeepsParts k.world v → new ≡ with_kept k reader v left → KeepsParts k.world new.world
left_keeps k new reader v left keeps is = subst (KeepsParts k.world) (sym (ap (λ x. x.world) is ∙ kept_world k reader v left)) keeps

-- what was handed over is kept
stores_keeps : (q : KeptLaws) (setup : Setup) (k new : KeepingWorld) (writer : Side) (d : Delivery) → IsSoundKeeping setup k → TakesMore setup k writer d → Keeps setup k writer d new → KeepsParts k.world new.world
stores_keeps q setup k new writer d h t keeps =
    let left = kept_at new (other writer) in
    left_keeps k new (other writer) (noticed_all keeps.mid writer left) left (part_noticed q setup writer k.world keeps.mid (kept_at k (other writer) ++ d ∷ []) left h.sound t.may keeps.read) keeps.same

pub stored : (q : KeptLaws) (setup : Setup) (k new : KeepingWorld) (e : Event) → IsSoundKeeping setup k → LacksMemory setup k e (answer.Refused refusal.Kept) new → KeepsParts k.world new.world
stored q setup k new (event.Deliver side i count) h step = stores_keeps q setup k new side (Bytes i count) h (takes_bytes q setup k side i count h step.0) step.1
stored q setup k new (event.DeliverEnd side i) h step = stores_keeps q setup k new side (End i) h (takes_end q setup k side i h step.0) step.1
stored q setup k new (event.DeliverReset side i) h step = stores_keeps q setup k new side (Reset i) h (takes_reset q setup k side i h step.0) step.1
stored q setup k new (event.OpenRequest side) h step = absurd step
stored q setup k new (event.Head side id head) h step = absurd step
stored q setup k new (event.Fields side id fields) h step = absurd step
stored q setup k new (event.Body side id bytes) h step = absurd step
stored q setup k new (event.Trailer side id trailer) h step = absurd step
stored q setup k new (event.TrailerFields side id fields) h step = absurd step
stored q setup k new (event.Finish side id) h step = absurd step
stored q setup k new (event.Reset side id) h step = absurd step
stored q setup k new (event.Cancel side id) h step = absurd step
stored q setup k new (event.Goaway side id) h step = absurd step
stored q setup k new (event.Pull side id) h step = absurd step
stored q setup k new (event.PullFields side id) h step = absurd step
stored q setup k new (event.Show side) h step = absurd step

-- and where nothing was handed out
none_out : (q : KeptLaws) (setup : Setup) (k new : KeepingWorld) (side : Side) (id : ℕ) → IsSoundKeeping setup k → HandsNothingOut setup k side id new → KeepsParts k.world new.world
none_out q setup k new side id h step =
    let left = kept_at new side in
    left_keeps k new side (noticed_all step.mid (other side) left) left (part_noticed q setup (other side) k.world step.mid (kept_at k side) left h.sound (kept_readable setup k side h) step.read) step.same

pub nothing_out : (q : KeptLaws) (setup : Setup) (k new : KeepingWorld) (e : Event) → IsSoundKeeping setup k → LacksMemory setup k e (answer.Pulled (pull.Fault fault.Memory)) new → KeepsParts k.world new.world
nothing_out q setup k new (event.Pull side id) h step = none_out q setup k new side id h step
nothing_out q setup k new (event.OpenRequest side) h step = absurd step
nothing_out q setup k new (event.Head side id head) h step = absurd step
nothing_out q setup k new (event.Fields side id fields) h step = absurd step
nothing_out q setup k new (event.Body side id bytes) h step = absurd step
nothing_out q setup k new (event.Trailer side id trailer) h step = absurd step
nothing_out q setup k new (event.TrailerFields side id fields) h step = absurd step
nothing_out q setup k new (event.Finish side id) h step = absurd step
nothing_out q setup k new (event.Reset side id) h step = absurd step
nothing_out q setup k new (event.Cancel side id) h step = absurd step
nothing_out q setup k new (event.Goaway side id) h step = absurd step
nothing_out q setup k new (event.Deliver writer id count) h step = absurd step
nothing_out q setup k new (event.DeliverEnd writer id) h step = absurd step
nothing_out q setup k new (event.DeliverReset writer id) h step = absurd step
nothing_out q setup k new (event.PullFields side id) h step = absurd step
nothing_out q setup k new (event.Show side) h step = absurd step

pub no_list : (q : KeptLaws) (setup : Setup) (k new : KeepingWorld) (e : Event) → IsSoundKeeping setup k → LacksMemory setup k e (answer.Listed (list.Fault fault.Memory)) new → KeepsParts k.world new.world
no_list q setup k new (event.PullFields side id) h step = none_out q setup k new side id h step
no_list q setup k new (event.OpenRequest side) h step = absurd step
no_list q setup k new (event.Head side id head) h step = absurd step
no_list q setup k new (event.Fields side id fields) h step = absurd step
no_list q setup k new (event.Body side id bytes) h step = absurd step
no_list q setup k new (event.Trailer side id trailer) h step = absurd step
no_list q setup k new (event.TrailerFields side id fields) h step = absurd step
no_list q setup k new (event.Finish side id) h step = absurd step
no_list q setup k new (event.Reset side id) h step = absurd step
no_list q setup k new (event.Cancel side id) h step = absurd step
no_list q setup k new (event.Goaway side id) h step = absurd step
no_list q setup k new (event.Deliver writer id count) h step = absurd step
no_list q setup k new (event.DeliverEnd writer id) h step = absurd step
no_list q setup k new (event.DeliverReset writer id) h step = absurd step
no_list q setup k new (event.Pull side id) h step = absurd step
no_list q setup k new (event.Show side) h step = absurd step

-- Such an answer sends nothing, finishes nothing and hands out nothing.
record SaysNothing (e : Event) (a : Answer) (writer : Side) (id : ℕ) : Type 0 where
  sends : sent_in writer id e a ≡ []
  finishes : finished_in writer id e a ≡ false
  hands : pulled_in (other writer) id e a ≡ []
  ends : ended_in (other writer) id e a ≡ false

record TellsNothing (a : Answer) : Type 0 where
  sends : (on : Bool) (l : List MessageContent) → ◌≡◌ {A = List MessageContent} (if is_done a && on then l else []) []
  done : is_done a ≡ false
  hands : contents_of a ≡ []
  ends : is_end_of a ≡ false

none_there : (a : Answer) → TellsNothing a → (b : Bool) → ◌≡◌ {A = List MessageContent} (if b then contents_of a else []) []
none_there a t true = t.hands
none_there a t false = refl

no_end : (a : Answer) → TellsNothing a → (b : Bool) → (b && is_end_of a) ≡ false
no_end a t true = t.ends
no_end a t false = refl

says_nothing : (e : Event) (a : Answer) → TellsNothing a → (writer : Side) (id : ℕ) → SaysNothing e a writer id
says_nothing (event.OpenRequest side) a t writer id = record { sends = refl; finishes = refl; hands = refl; ends = refl }
says_nothing (event.Reset side i) a t writer id = record { sends = refl; finishes = refl; hands = refl; ends = refl }
says_nothing (event.Cancel side i) a t writer id = record { sends = refl; finishes = refl; hands = refl; ends = refl }
says_nothing (event.Goaway side i) a t writer id = record { sends = refl; finishes = refl; hands = refl; ends = refl }
says_nothing (event.Deliver side i count) a t writer id = record { sends = refl; finishes = refl; hands = refl; ends = refl }
says_nothing (event.DeliverEnd side i) a t writer id = record { sends = refl; finishes = refl; hands = refl; ends = refl }
says_nothing (event.DeliverReset side i) a t writer id = record { sends = refl; finishes = refl; hands = refl; ends = refl }
says_nothing (event.Show side) a t writer id = record { sends = refl; finishes = refl; hands = refl; ends = refl }
says_nothing (event.Head side i head) a t writer id = record { sends = t.sends _ _; finishes = refl; hands = refl; ends = refl }
says_nothing (event.Fields side i fields) a t writer id = record { sends = t.sends _ _; finishes = refl; hands = refl; ends = refl }
says_nothing (event.Body side i bytes) a t writer id = record { sends = t.sends _ _; finishes = refl; hands = refl; ends = refl }
says_nothing (event.Trailer side i trailer) a t writer id = record { sends = t.sends _ _; finishes = refl; hands = refl; ends = refl }
says_nothing (event.TrailerFields side i fields) a t writer id = record { sends = t.sends _ _; finishes = refl; hands = refl; ends = refl }
says_nothing (event.Finish side i) a t writer id = record { sends = refl; finishes = ap (λ b. b && is_on writer id side i) t.done; hands = refl; ends = refl }
says_nothing (event.Pull side i) a t writer id = record { sends = refl; finishes = refl; hands = none_there a t (is_on (other writer) id side i); ends = no_end a t (is_on (other writer) id side i) }
says_nothing (event.PullFields side i) a t writer id = record { sends = refl; finishes = refl; hands = none_there a t (is_on (other writer) id side i); ends = no_end a t (is_on (other writer) id side i) }

refused_nothing : (r : Refusal) → TellsNothing (answer.Refused r)
refused_nothing r = record { sends = λ on l. refl; done = refl; hands = refl; ends = refl }

fault_nothing : TellsNothing (answer.Pulled (pull.Fault fault.Memory))
fault_nothing = record { sends = λ on l. refl; done = refl; hands = refl; ends = refl }

list_nothing : TellsNothing (answer.Listed (list.Fault fault.Memory))
list_nothing = record { sends = λ on l. refl; done = refl; hands = refl; ends = refl }

quietly : (setup : Setup) (w v : World) (e : Event) (a : Answer) (writer : Side) (id : ℕ) → SaysNothing e a writer id → KeepsParts w v → MovesBy setup w e writer id a v
quietly setup w v e a writer id says keeps =
    subst (λ l. Moves (reader_of setup writer) (flow w writer id) (flow v writer id) l (finished_in writer id e a) (pulled_in (other writer) id e a) (ended_in (other writer) id e a)) (sym says.sends)
    (subst (λ b. Moves (reader_of setup writer) (flow w writer id) (flow v writer id) [] b (pulled_in (other writer) id e a) (ended_in (other writer) id e a)) (sym says.finishes)
    (subst (λ l. Moves (reader_of setup writer) (flow w writer id) (flow v writer id) [] false l (ended_in (other writer) id e a)) (sym says.hands)
    (subst (λ b. Moves (reader_of setup writer) (flow w writer id) (flow v writer id) [] false [] b) (sym says.ends) (quiet setup w v writer id keeps))))

-- **What each step changes of each flow.**
pub step_moves : (q : KeptLaws) (setup : Setup) (k new : KeepingWorld) (e : Event) (a : Answer) (writer : Side) (id : ℕ) → IsSoundKeeping setup k → StepWithMemory setup k e a new → MovesSo setup k e writer id a new
step_moves q setup k new e a writer id h step = by_memory (is_out_of_memory a) refl step
  where
    lacks : LacksIt a → LacksMemory setup k e a new → MovesSo setup k e writer id a new
    lacks (LacksRoom is) step =
        subst (λ x. MovesSo setup k e writer id x new) (sym is)
        (quietly setup k.world new.world e (answer.Refused refusal.OutOfMemory) writer id (says_nothing e (answer.Refused refusal.OutOfMemory) (refused_nothing refusal.OutOfMemory) writer id) (no_room setup k new e (subst (λ x. LacksMemory setup k e x new) is step)))
    lacks (KeepsIt is) step =
        subst (λ x. MovesSo setup k e writer id x new) (sym is)
        (quietly setup k.world new.world e (answer.Refused refusal.Kept) writer id (says_nothing e (answer.Refused refusal.Kept) (refused_nothing refusal.Kept) writer id) (stored q setup k new e h (subst (λ x. LacksMemory setup k e x new) is step)))
    lacks (HandsNothing is) step =
        subst (λ x. MovesSo setup k e writer id x new) (sym is)
        (quietly setup k.world new.world e (answer.Pulled (pull.Fault fault.Memory)) writer id (says_nothing e (answer.Pulled (pull.Fault fault.Memory)) fault_nothing writer id) (nothing_out q setup k new e h (subst (λ x. LacksMemory setup k e x new) is step)))
    lacks (HandsNoList is) step =
        subst (λ x. MovesSo setup k e writer id x new) (sym is)
        (quietly setup k.world new.world e (answer.Listed (list.Fault fault.Memory)) writer id (says_nothing e (answer.Listed (list.Fault fault.Memory)) list_nothing writer id) (no_list q setup k new e h (subst (λ x. LacksMemory setup k e x new) is step)))

    by_memory : (b : Bool) → is_out_of_memory a ≡ b → StepOf b setup k e a new → MovesSo setup k e writer id a new
    by_memory true e_memory step = lacks (lacks_it a e_memory) step
    by_memory false e_memory step = answers_move q setup k new e a writer id h step
