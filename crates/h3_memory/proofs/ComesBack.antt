-- Once memory is back: what is taken or pulled leaves nothing kept at its side, and a call that was refused is judged as before.
use Rattle.std.proofs.Common.{◌≡◌, ℕ, Bool, true, false, List, [], refl, sym, ap, ◌∙◌, subst, None}
use Rattle.std.specs.Prelude.{is_none, slice_get}
use Rattle.std.specs.List.{AllByRecursion}
use Rattle.h3_field.specs.Field.{Field}
use Rattle.h3_header.specs.Head.{Head as Fields, head_fields}
use Rattle.h3_proto.specs.declared.stream.Side.{Side}
use Rattle.h3_proto.specs.declared.stream.Side.TheVariants.{Client, Server}
use Rattle.h3_connection.specs.OwnIds.{other}
use Rattle.h3_connection.specs.declared.event.Pull.{Pull}
use Rattle.h3_connection.specs.declared.event.Refusal.TheVariants as refusal
use Rattle.h3_connection.specs.declared.lists.ListPull.{ListPull}
use Rattle.h3_connection.specs.Lists.{pull_of}
use Rattle.h3_world.specs.Setup.{Setup}
use Rattle.h3_world.specs.declared.event.Event.{Event}
use Rattle.h3_world.specs.declared.event.Event.TheVariants as event
use Rattle.h3_world.specs.declared.event.Answer.{Answer}
use Rattle.h3_world.specs.declared.event.Answer.TheVariants as answer
use Rattle.h3_world.specs.Delivering.{delivery, end_delivery, reset_delivery}
use Rattle.h3_world.specs.Headline.{ComesOut, IsDelivered, PullComesOut, is_out_of_memory}
use Rattle.h3_world.specs.Order.{next_part}
use Rattle.h3_world.specs.Pauses.{pause_of}
use Rattle.h3_world.specs.Pulling.{settled}
use Rattle.h3_world.specs.Refusals.{fields_refusal, head_refusal, trailer_fields_refusal, trailer_refusal}
use Rattle.h3_world.specs.Refused.{with_insertions}
use Rattle.h3_world.specs.Sendable.{IsSendable}
use Rattle.h3_world.specs.Streams.{flow}
use Rattle.h3_world.specs.World.{World, empty_world}
use Rattle.h3_headline.specs.Exactly.{IsAllOf, IsExactly, reader_at}
use Rattle.h3_headline.specs.Messages.{pulled, sent}
use Rattle.h3_memory.specs.Kept.{KeepingWorld, kept_at, with_kept, caught_up, is_settled, nothing_kept}
use Rattle.h3_memory.specs.MemoryStep.{HappensWithMemory, Pulls, StepOf, StepWithMemory, UnlessMemory, read_behind}
use Rattle.h3_memory.proofs.Cuts.{left_holds, list_left, section_left}
use Rattle.h3_memory.proofs.EventsKept.{kept_readable}
use Rattle.h3_memory.proofs.KeptLaws.{KeptLaws}
use Rattle.h3_memory.proofs.MemoryRuns.{FromNothing, begins_sound, left_none_at, run_moves}
use Rattle.h3_memory.proofs.PartsKept.{all_keep}

none_kept : (k : KeepingWorld) (side : Side) (w : World) → kept_at (with_kept k side w []) side ≡ []
none_kept k Client w = refl
none_kept k Server w = refl

pulls_all : (setup : Setup) (k new : KeepingWorld) (side : Side) (e : Event) (a : Answer) (told : Bool) → told ≡ false → Pulls setup k side e told a new → kept_at new side ≡ []
pulls_all setup k new side e a true is step = absurd (cc)
pulls_all setup k new side e a false is step = ap (λ x. kept_at x side) step.1 ∙ none_kept k side new.world

-- **A pull that is answered and not settled has read all,** with lists or without.
pub pull_catches_up : (setup : Setup) (k new : KeepingWorld) (side : Side) (id : ℕ) (a : Answer) → is_out_of_memory a ≡ false → is_settled k.world side id ≡ false → StepWithMemory setup k (event.Pull side id) a new → kept_at new side ≡ []
pull_catches_up setup k new side id a goes unsettled step =
    pulls_all setup k new side (event.Pull side id) a (is_settled k.world side id) unsettled (subst (λ b. StepOf b setup k (event.Pull side id) a new) goes step)

pub listed_catches_up : (setup : Setup) (k new : KeepingWorld) (side : Side) (id : ℕ) (a : Answer) → is_out_of_memory a ≡ false → is_settled k.world side id ≡ false → StepWithMemory setup k (event.PullFields side id) a new → kept_at new side ≡ []
listed_catches_up setup k new side id a goes unsettled step =
    pulls_all setup k new side (event.PullFields side id) a (is_settled k.world side id) unsettled (subst (λ b. StepOf b setup k (event.PullFields side id) a new) goes step)

-- Of what is taken all was read.
bytes_taken : (k new : KeepingWorld) (reader : Side) (n : ℕ) (x : Answer × World) → (answer.Delivered n, new) ≡ read_behind k reader x → kept_at new reader ≡ []
bytes_taken k new reader n (answer.Delivered m, w) e = ap (λ p. kept_at p.1 reader) e ∙ none_kept k reader w
bytes_taken k new reader n (answer.Done, w) e = ap (λ p. kept_at p.1 reader) e ∙ none_kept k reader w
bytes_taken k new reader n (answer.Opened m, w) e = let d : answer.Delivered n ≡ answer.Opened m = ap (λ x. x.0) e in absurd (cc)
bytes_taken k new reader n (answer.Short m, w) e = let d : answer.Delivered n ≡ answer.Short m = ap (λ x. x.0) e in absurd (cc)
bytes_taken k new reader n (answer.NoStream, w) e = let d : answer.Delivered n ≡ answer.NoStream = ap (λ x. x.0) e in absurd (cc)
bytes_taken k new reader n (answer.Early, w) e = let d : answer.Delivered n ≡ answer.Early = ap (λ x. x.0) e in absurd (cc)
bytes_taken k new reader n (answer.Shown limits sizes m, w) e = let d : answer.Delivered n ≡ answer.Shown limits sizes m = ap (λ x. x.0) e in absurd (cc)
bytes_taken k new reader n (answer.Refused r, w) e = let d : answer.Delivered n ≡ answer.Refused r = ap (λ x. x.0) e in absurd (cc)
bytes_taken k new reader n (answer.Pulled p, w) e = let d : answer.Delivered n ≡ answer.Pulled p = ap (λ x. x.0) e in absurd (cc)
bytes_taken k new reader n (answer.Listed l, w) e = let d : answer.Delivered n ≡ answer.Listed l = ap (λ x. x.0) e in absurd (cc)

told_taken : (k new : KeepingWorld) (reader : Side) (x : Answer × World) → (answer.Done, new) ≡ read_behind k reader x → kept_at new reader ≡ []
told_taken k new reader (answer.Delivered m, w) e = ap (λ p. kept_at p.1 reader) e ∙ none_kept k reader w
told_taken k new reader (answer.Done, w) e = ap (λ p. kept_at p.1 reader) e ∙ none_kept k reader w
told_taken k new reader (answer.Opened m, w) e = let d : answer.Done ≡ answer.Opened m = ap (λ x. x.0) e in absurd (cc)
told_taken k new reader (answer.Short m, w) e = let d : answer.Done ≡ answer.Short m = ap (λ x. x.0) e in absurd (cc)
told_taken k new reader (answer.NoStream, w) e = let d : answer.Done ≡ answer.NoStream = ap (λ x. x.0) e in absurd (cc)
told_taken k new reader (answer.Early, w) e = let d : answer.Done ≡ answer.Early = ap (λ x. x.0) e in absurd (cc)
told_taken k new reader (answer.Shown limits sizes m, w) e = let d : answer.Done ≡ answer.Shown limits sizes m = ap (λ x. x.0) e in absurd (cc)
told_taken k new reader (answer.Refused r, w) e = let d : answer.Done ≡ answer.Refused r = ap (λ x. x.0) e in absurd (cc)
told_taken k new reader (answer.Pulled p, w) e = let d : answer.Done ≡ answer.Pulled p = ap (λ x. x.0) e in absurd (cc)
told_taken k new reader (answer.Listed l, w) e = let d : answer.Done ≡ answer.Listed l = ap (λ x. x.0) e in absurd (cc)

pub bytes_catch_up : (setup : Setup) (k new : KeepingWorld) (writer : Side) (id count n : ℕ) → StepWithMemory setup k (event.Deliver writer id count) (answer.Delivered n) new → kept_at new (other writer) ≡ []
bytes_catch_up setup k new writer id count n step = bytes_taken k new (other writer) n (delivery setup (caught_up setup k (other writer)) writer id count) step

pub end_catches_up : (setup : Setup) (k new : KeepingWorld) (writer : Side) (id : ℕ) → StepWithMemory setup k (event.DeliverEnd writer id) answer.Done new → kept_at new (other writer) ≡ []
end_catches_up setup k new writer id step = told_taken k new (other writer) (end_delivery setup (caught_up setup k (other writer)) writer id) step

pub reset_catches_up : (setup : Setup) (k new : KeepingWorld) (writer : Side) (id : ℕ) → StepWithMemory setup k (event.DeliverReset writer id) answer.Done new → kept_at new (other writer) ≡ []
reset_catches_up setup k new writer id step = told_taken k new (other writer) (reset_delivery (caught_up setup k (other writer)) writer id) step

-- with nothing kept at either side
pub nothing_left : (k : KeepingWorld) → kept_at k Client ≡ [] → kept_at k Server ≡ [] → k ≡ nothing_kept k.world
nothing_left k client server = ap (λ l. record k { at_client = l }) client ∙ ap (λ l. record (nothing_kept k.world) { at_server = l }) server

-- **With everything handed over and pulled, everything sent came out.**
out_of_it : (q : KeptLaws) (setup : Setup) (before : List Event) (given : List Answer) (k : KeepingWorld) (side : Side) (id : ℕ) (p : Pull) → AllByRecursion (IsSendable setup) before → FromNothing setup before given k
    → PullComesOut setup (caught_up setup k side) side id p → IsDelivered setup (caught_up setup k side) (other side) id → settled (caught_up setup k side) side id ≡ None → is_none (pause_of p) ≡ false
    → IsAllOf (IsExactly (reader_at setup side)) (pulled side id before given) (sent (other side) id before given)
out_of_it q setup before given k side id p sendable run out delivered unsettled pauses =
    let u = caught_up setup k side in
    let sound = (run_moves q q.worlds setup (nothing_kept (empty_world setup)) k before given side id sendable (begins_sound q.worlds setup) run).sound in
    let keeps = all_keep q setup k.world (other side) (kept_at k side) sound.sound (kept_readable setup k side sound) in
    let same = keeps (other side) id in
    let none : next_part (flow u (other side) id) ≡ None = out delivered unsettled pauses in
    left_none_at q q.worlds setup before given k side id sendable run (sym (ap (λ n. slice_get (flow u (other side) id).sent n) same.parts_out ∙ ap (λ l. slice_get l (flow k.world (other side) id).parts_out) same.sent) ∙ none)

pub everything_out : (q : KeptLaws) (setup : Setup) (before : List Event) (given : List Answer) (k new : KeepingWorld) (side : Side) (id : ℕ) (p : Pull) → AllByRecursion (IsSendable setup) before → FromNothing setup before given k
    → HappensWithMemory setup k (event.Pull side id) (answer.Pulled p) new → is_out_of_memory (answer.Pulled p) ≡ false → IsDelivered setup (caught_up setup k side) (other side) id → settled (caught_up setup k side) side id ≡ None → is_none (pause_of p) ≡ false
    → IsAllOf (IsExactly (reader_at setup side)) (pulled side id before given) (sent (other side) id before given)
everything_out q setup before given k new side id p sendable run happens goes delivered unsettled pauses =
    let out = subst (λ b. UnlessMemory b (ComesOut setup (caught_up setup k side) (event.Pull side id) (answer.Pulled p))) goes happens.comes_out in
    out_of_it q setup before given k side id p sendable run out delivered unsettled pauses

pub everything_listed : (q : KeptLaws) (setup : Setup) (before : List Event) (given : List Answer) (k new : KeepingWorld) (side : Side) (id : ℕ) (l : ListPull) → AllByRecursion (IsSendable setup) before → FromNothing setup before given k
    → HappensWithMemory setup k (event.PullFields side id) (answer.Listed l) new → is_out_of_memory (answer.Listed l) ≡ false → IsDelivered setup (caught_up setup k side) (other side) id → settled (caught_up setup k side) side id ≡ None
    → is_none (pause_of (pull_of l)) ≡ false → IsAllOf (IsExactly (reader_at setup side)) (pulled side id before given) (sent (other side) id before given)
everything_listed q setup before given k new side id l sendable run happens goes delivered unsettled pauses =
    let out = subst (λ b. UnlessMemory b (ComesOut setup (caught_up setup k side) (event.PullFields side id) (answer.Listed l))) goes happens.comes_out in
    out_of_it q setup before given k side id (pull_of l) sendable run out delivered unsettled pauses

-- A header section or a trailer that was refused memory is judged as before.
head_same : (setup : Setup) (w : World) (side : Side) (id : ℕ) (fields : List Field) (head : Fields) → head_refusal setup (with_insertions w side id fields) side id head ≡ head_refusal setup w side id head
head_same setup w Client id fields head = refl
head_same setup w Server id fields head = refl

fields_same : (setup : Setup) (w : World) (side : Side) (id : ℕ) (fields : List Field) (list : List Field) → fields_refusal setup (with_insertions w side id fields) side id list ≡ fields_refusal setup w side id list
fields_same setup w Client id fields list = refl
fields_same setup w Server id fields list = refl

trailer_same : (setup : Setup) (w : World) (side : Side) (id : ℕ) (fields : List Field) (trailer : Fields) → trailer_refusal setup (with_insertions w side id fields) side id trailer ≡ trailer_refusal setup w side id trailer
trailer_same setup w Client id fields trailer = refl
trailer_same setup w Server id fields trailer = refl

trailer_fields_same : (setup : Setup) (w : World) (side : Side) (id : ℕ) (fields : List Field) (list : List Field) → trailer_fields_refusal setup (with_insertions w side id fields) side id list ≡ trailer_fields_refusal setup w side id list
trailer_fields_same setup w Client id fields list = refl
trailer_fields_same setup w Server id fields list = refl

pub head_again : (setup : Setup) (k new : KeepingWorld) (side : Side) (id : ℕ) (head : Fields) → StepWithMemory setup k (event.Head side id head) (answer.Refused refusal.OutOfMemory) new
    → head_refusal setup new.world side id head ≡ head_refusal setup k.world side id head
head_again setup k new side id head step =
    left_holds (λ w. head_refusal setup w side id head ≡ head_refusal setup k.world side id head) k new side id (head_fields head) (λ front. head_same setup k.world side id front head) refl
    (section_left k new side id (head_fields head) (head_refusal setup k.world side id head) step)

pub fields_again : (setup : Setup) (k new : KeepingWorld) (side : Side) (id : ℕ) (list : List Field) → StepWithMemory setup k (event.Fields side id list) (answer.Refused refusal.OutOfMemory) new
    → fields_refusal setup new.world side id list ≡ fields_refusal setup k.world side id list
fields_again setup k new side id list step =
    left_holds (λ w. fields_refusal setup w side id list ≡ fields_refusal setup k.world side id list) k new side id list (λ front. fields_same setup k.world side id front list) refl
    (list_left k new side id list (fields_refusal setup k.world side id list) step)

pub trailer_again : (setup : Setup) (k new : KeepingWorld) (side : Side) (id : ℕ) (trailer : Fields) → StepWithMemory setup k (event.Trailer side id trailer) (answer.Refused refusal.OutOfMemory) new
    → trailer_refusal setup new.world side id trailer ≡ trailer_refusal setup k.world side id trailer
trailer_again setup k new side id trailer step =
    left_holds (λ w. trailer_refusal setup w side id trailer ≡ trailer_refusal setup k.world side id trailer) k new side id (head_fields trailer) (λ front. trailer_same setup k.world side id front trailer) refl
    (section_left k new side id (head_fields trailer) (trailer_refusal setup k.world side id trailer) step)

pub trailer_fields_again : (setup : Setup) (k new : KeepingWorld) (side : Side) (id : ℕ) (list : List Field) → StepWithMemory setup k (event.TrailerFields side id list) (answer.Refused refusal.OutOfMemory) new
    → trailer_fields_refusal setup new.world side id list ≡ trailer_fields_refusal setup k.world side id list
trailer_fields_again setup k new side id list step =
    left_holds (λ w. trailer_fields_refusal setup w side id list ≡ trailer_fields_refusal setup k.world side id list) k new side id list (λ front. trailer_fields_same setup k.world side id front list) refl
    (list_left k new side id list (trailer_fields_refusal setup k.world side id list) step)
