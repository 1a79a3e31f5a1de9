-- What may come of one event, where memory may be refused.
use Rattle.std.specs.Prelude.{◌≡◌, ◌≢◌, ℕ, ◌≤◌, ◌<◌, Bool, true, false, List, [], ◌∷◌, ◌++◌, length, take, Option, Some, None}
use Rattle.h3_field.specs.Field.{Field}
use Rattle.h3_header.specs.Head.{head_fields}
use Rattle.h3_proto.specs.StreamIds.{is_request_stream}
use Rattle.h3_proto.specs.declared.stream.Side.{Side}
use Rattle.h3_connection.specs.OwnIds.{other}
use Rattle.h3_connection.specs.declared.event.Refusal.{Refusal}
use Rattle.h3_connection.specs.declared.event.Refusal.TheVariants as refusal
use Rattle.h3_connection.specs.declared.event.Fault.TheVariants as fault
use Rattle.h3_connection.specs.declared.event.Pull.TheVariants as pull
use Rattle.h3_connection.specs.declared.lists.ListPull.TheVariants as list
use Rattle.h3_world.specs.Setup.{Setup}
use Rattle.h3_world.specs.declared.event.Event.{Event}
use Rattle.h3_world.specs.declared.event.Event.TheVariants as event
use Rattle.h3_world.specs.declared.event.Answer.{Answer}
use Rattle.h3_world.specs.declared.event.Answer.TheVariants as answer
use Rattle.h3_world.specs.Delivering.{delivery, end_delivery, reset_delivery}
use Rattle.h3_world.specs.Headline.{is_out_of_memory, is_connection_fault, ComesOut}
use Rattle.h3_memory.specs.Kept.{Delivery, Bytes, End, Reset, KeepingWorld, kept_at, with_world, with_kept, stream_of, caught_up, noticed_all, ReadsPart, is_settled}
use Rattle.h3_world.specs.Refused.{with_insertions}
use Rattle.h3_world.specs.Refusals.{open_refusal, head_refusal, fields_refusal, trailer_refusal, trailer_fields_refusal, reset_refusal, cancel_refusal, goaway_refusal}
use Rattle.h3_world.specs.Sending.{cut_off}
use Rattle.h3_world.specs.Step.{Step, Does, IsExact, IsWithinLimits}
use Rattle.h3_world.specs.World.{World}

-- Where no memory is refused.

-- What is delivered is read behind all that its receiver keeps. Of a delivery that is not taken nothing is read.
abbrev pub read_behind : KeepingWorld → Side → Answer × World → Answer × KeepingWorld
read_behind k reader (answer.Delivered count, w) = (answer.Delivered count, with_kept k reader w [])
read_behind k reader (answer.Done, w) = (answer.Done, with_kept k reader w [])
read_behind k reader (given, w) = (given, k)

-- What a delivery is answered where all that its receiver keeps has been read.
abbrev pub offered : Setup → KeepingWorld → Side → Delivery → Answer × World
offered setup k writer (Bytes id count) = delivery setup (caught_up setup k (other writer)) writer id count
offered setup k writer (End id) = end_delivery setup (caught_up setup k (other writer)) writer id
offered setup k writer (Reset id) = reset_delivery (caught_up setup k (other writer)) writer id

-- A pull, with lists or without, reads all that its side keeps, unless its answer is settled.
abbrev pub Pulls : Setup → KeepingWorld → Side → Event → Bool → Answer → KeepingWorld → Type 0
Pulls setup k side e true given new = Step setup k.world e given new.world × (new ≡ k)
Pulls setup k side e false given new = Step setup (caught_up setup k side) e given new.world × (new ≡ with_kept k side new.world [])

abbrev pub Answers : Setup → KeepingWorld → Event → Answer → KeepingWorld → Type 0
Answers setup k (event.Deliver writer id count) given new = (given, new) ≡ read_behind k (other writer) (offered setup k writer (Bytes id count))
Answers setup k (event.DeliverEnd writer id) given new = (given, new) ≡ read_behind k (other writer) (offered setup k writer (End id))
Answers setup k (event.DeliverReset writer id) given new = (given, new) ≡ read_behind k (other writer) (offered setup k writer (Reset id))
Answers setup k (event.Pull side id) given new = Pulls setup k side (event.Pull side id) (is_settled k.world side id) given new
Answers setup k (event.PullFields side id) given new = Pulls setup k side (event.PullFields side id) (is_settled k.world side id) given new
-- what the other side keeps was handed over
Answers setup k (event.Reset side id) given new =
    Does (reset_refusal (caught_up setup k (other side)) side id) k.world answer.Done (cut_off k.world side id) given new.world × (new ≡ with_world k new.world)
Answers setup k e given new = Step setup k.world e given new.world × (new ≡ with_world k new.world)

-- Where memory was refused.

-- Nothing was sent, but the insertions for a front of the fields were made.
pub record CutsOff (k : KeepingWorld) (side : Side) (id : ℕ) (fields : List Field) (new : KeepingWorld) : Type 0 where
  pub front : ℕ
  pub within : front ≤ length fields
  pub inserted : new ≡ with_world k (with_insertions k.world side id (take front fields))

-- A section that would have been sent was cut off. Of one that is too large nothing was inserted: its size alone is judged by a list that has to be made.
abbrev pub CutsSection : Option Refusal → KeepingWorld → Side → ℕ → List Field → KeepingWorld → Type 0
CutsSection None k side id fields new = CutsOff k side id fields new
CutsSection (Some (refusal.TooLarge size)) k side id fields new = new ≡ k
CutsSection (Some r) k side id fields new = ⊥

-- The same of a list. It is at hand, so all else is judged before memory is told of; but for a list of more than 24,576 fields, which takes memory to be
-- judged.
abbrev pub CutsList : Option Refusal → KeepingWorld → Side → ℕ → List Field → KeepingWorld → Type 0
CutsList None k side id fields new = CutsOff k side id fields new
CutsList (Some (refusal.TooLarge size)) k side id fields new = new ≡ k
CutsList (Some (refusal.Malformed why)) k side id fields new = (24576 < length fields) × (new ≡ k)
CutsList (Some refusal.WrongSide) k side id fields new = (24576 < length fields) × (new ≡ k)
CutsList (Some refusal.PseudoInTrailer) k side id fields new = (24576 < length fields) × (new ≡ k)
CutsList (Some r) k side id fields new = ⊥

-- What was handed over is kept behind what was kept, and a part of all that is read; some is left.
pub record Keeps (setup : Setup) (k : KeepingWorld) (writer : Side) (d : Delivery) (new : KeepingWorld) : Type 0 where
  pub mid : World
  pub read : ReadsPart setup writer k.world (kept_at k (other writer) ++ d ∷ []) mid (kept_at new (other writer))
  pub same : new ≡ with_kept k (other writer) (noticed_all mid writer (kept_at new (other writer))) (kept_at new (other writer))
  pub some : kept_at new (other writer) ≢ []
  -- bytes, the end and the reset of a request stream are kept only behind what is kept
  pub behind : is_request_stream (stream_of d) ≡ true → kept_at k (other writer) ≢ []

-- Nothing was handed out, and a part of what is kept was read.
pub record HandsNothingOut (setup : Setup) (k : KeepingWorld) (side : Side) (id : ℕ) (new : KeepingWorld) : Type 0 where
  pub unsettled : is_settled k.world side id ≡ false
  pub mid : World
  pub read : ReadsPart setup (other side) k.world (kept_at k side) mid (kept_at new side)
  pub same : new ≡ with_kept k side (noticed_all mid (other side) (kept_at new side)) (kept_at new side)

-- Want of memory is told last. That of a copy, which a body and bytes take before they are judged, is told first.
abbrev pub LacksMemory : Setup → KeepingWorld → Event → Answer → KeepingWorld → Type 0
LacksMemory setup k (event.OpenRequest side) (answer.Refused refusal.OutOfMemory) new = (open_refusal setup k.world side ≡ None) × (new ≡ k)
LacksMemory setup k (event.Head side id head) (answer.Refused refusal.OutOfMemory) new =
    CutsSection (head_refusal setup k.world side id head) k side id (head_fields head) new
LacksMemory setup k (event.Fields side id fields) (answer.Refused refusal.OutOfMemory) new =
    CutsList (fields_refusal setup k.world side id fields) k side id fields new
LacksMemory setup k (event.Body side id bytes) (answer.Refused refusal.OutOfMemory) new = new ≡ k
LacksMemory setup k (event.Trailer side id trailer) (answer.Refused refusal.OutOfMemory) new =
    CutsSection (trailer_refusal setup k.world side id trailer) k side id (head_fields trailer) new
LacksMemory setup k (event.TrailerFields side id fields) (answer.Refused refusal.OutOfMemory) new =
    CutsList (trailer_fields_refusal setup k.world side id fields) k side id fields new
LacksMemory setup k (event.Cancel side id) (answer.Refused refusal.OutOfMemory) new = (cancel_refusal k.world side id ≡ None) × (new ≡ k)
LacksMemory setup k (event.Goaway side id) (answer.Refused refusal.OutOfMemory) new = (goaway_refusal k.world side id ≡ None) × (new ≡ k)
LacksMemory setup k (event.Deliver writer id count) (answer.Refused refusal.OutOfMemory) new = new ≡ k
LacksMemory setup k (event.DeliverEnd writer id) (answer.Refused refusal.OutOfMemory) new = ((offered setup k writer (End id)).0 ≡ answer.Done) × (new ≡ k)
LacksMemory setup k (event.DeliverReset writer id) (answer.Refused refusal.OutOfMemory) new = ((offered setup k writer (Reset id)).0 ≡ answer.Done) × (new ≡ k)
LacksMemory setup k (event.Deliver writer id count) (answer.Refused refusal.Kept) new =
    ((offered setup k writer (Bytes id count)).0 ≡ answer.Delivered count) × Keeps setup k writer (Bytes id count) new
LacksMemory setup k (event.DeliverEnd writer id) (answer.Refused refusal.Kept) new = ((offered setup k writer (End id)).0 ≡ answer.Done) × Keeps setup k writer (End id) new
LacksMemory setup k (event.DeliverReset writer id) (answer.Refused refusal.Kept) new = ((offered setup k writer (Reset id)).0 ≡ answer.Done) × Keeps setup k writer (Reset id) new
LacksMemory setup k (event.Pull side id) (answer.Pulled (pull.Fault fault.Memory)) new = HandsNothingOut setup k side id new
LacksMemory setup k (event.PullFields side id) (answer.Listed (list.Fault fault.Memory)) new = HandsNothingOut setup k side id new
LacksMemory setup k e given new = ⊥

abbrev pub StepOf : Bool → Setup → KeepingWorld → Event → Answer → KeepingWorld → Type 0
StepOf true = LacksMemory
StepOf false = Answers

-- What may come of an event: as in `Step`, which it is where nothing is kept and no memory is refused.
abbrev pub StepWithMemory : Setup → KeepingWorld → Event → Answer → KeepingWorld → Type 0
StepWithMemory setup k e given new = StepOf (is_out_of_memory given) setup k e given new

-- Where a pull stands that is not refused memory: behind all that its side keeps.
abbrev pub reader_world : Setup → KeepingWorld → Event → World
reader_world setup k (event.Pull side id) = caught_up setup k side
reader_world setup k (event.PullFields side id) = caught_up setup k side
reader_world setup k e = k.world

abbrev pub UnlessMemory : Bool → Type 0 → Type 0
UnlessMemory true said = Unit {0}
UnlessMemory false said = said

-- one step, with all that is said of it
pub record HappensWithMemory (setup : Setup) (k : KeepingWorld) (e : Event) (a : Answer) (new : KeepingWorld) : Type 0 where
  pub step : StepWithMemory setup k e a new
  pub exact : UnlessMemory (is_out_of_memory a) (IsExact (reader_world setup k e) e a)
  pub comes_out : UnlessMemory (is_out_of_memory a) (ComesOut setup (reader_world setup k e) e a)
  pub no_connection_fault : is_connection_fault a ≡ false
  pub within_limits : IsWithinLimits setup new.world
