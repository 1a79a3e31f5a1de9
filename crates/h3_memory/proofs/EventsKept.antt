-- An event without refused memory leaves a world sound, and what is kept readable.
use Rattle.std.proofs.Common.{◌≡◌, ◌⊎◌, inl, inr, ℕ, Bool, true, false, not, ◌&&◌, ◌||◌, List, [], refl, sym, ap, subst, if◌then◌else◌}
use Rattle.std.specs.Prelude.{◌==◌, nat_lt}
use Rattle.h3_proto.specs.declared.stream.Side.{Side}
use Rattle.h3_proto.specs.declared.stream.Side.TheVariants.{Client, Server}
use Rattle.h3_connection.specs.OwnIds.{other, is_own}
use Rattle.h3_connection.specs.declared.event.Refusal.TheVariants as refusal
use Rattle.h3_world.specs.Setup.{Setup}
use Rattle.h3_world.specs.declared.event.Event.{Event}
use Rattle.h3_world.specs.declared.event.Event.TheVariants as event
use Rattle.h3_world.specs.declared.event.Answer.{Answer}
use Rattle.h3_world.specs.declared.event.Answer.TheVariants as answer
use Rattle.h3_world.specs.Delivering.{delivery, end_delivery, reset_delivery, delivered, delivered_end, delivered_reset, is_closed, may_end}
use Rattle.h3_world.specs.Order.{is_finished}
use Rattle.h3_world.specs.Sendable.{IsSendable}
use Rattle.h3_world.specs.Sound.{IsSoundWorld}
use Rattle.h3_world.specs.Step.{Step, IsExact}
use Rattle.h3_world.specs.Streams.{flow, is_open, has_outgoing, waiting}
use Rattle.h3_world.specs.World.{World}
use Rattle.h3_headline.specs.Cited.{WorldLaws}
use Rattle.h3_headline.specs.FlowLaws.{open_there, other-other}
use Rattle.h3_memory.specs.Kept.{Delivery, Bytes, End, Reset, KeepingWorld, kept_at, with_world, with_kept, caught_up}
use Rattle.h3_memory.specs.MemoryStep.{Pulls, offered, read_behind}
use Rattle.h3_memory.specs.SoundKeeping.{CanBeRead, IsSoundKeeping}
use Rattle.h3_memory.specs.Writing.{WritesOn, LeavesKept}
use Rattle.h3_memory.proofs.Growing.{may_on}
use Rattle.h3_memory.proofs.KeptLaws.{KeptLaws}
use Rattle.h3_memory.proofs.ReadAll.{ReadsAll, all_read}
use Rattle.h3_memory.proofs.ReadsLeave.{bytes_read, end_reads, reset_reads, second_of}
use Rattle.h3_memory.proofs.Written.{unchanged_on, on_then, leaves_at}

-- what a side keeps can be read
pub kept_readable : (setup : Setup) (k : KeepingWorld) (side : Side) → IsSoundKeeping setup k → CanBeRead setup k.world (other side) (kept_at k side)
kept_readable setup k Client h = h.client
kept_readable setup k Server h = h.server

-- In another world, with the same kept.
pub with_world_sound : (setup : Setup) (k : KeepingWorld) (v : World) → IsSoundKeeping setup k → IsSoundWorld setup v → LeavesKept setup k.world v → IsSoundKeeping setup (with_world k v)
with_world_sound setup k v h sound leaves =
    record { sound = sound; client = may_on setup k.world v Server k.at_client leaves.server h.client; server = may_on setup k.world v Client k.at_server leaves.client h.server }

-- And with this kept at a side.
pub with_kept_sound : (setup : Setup) (k : KeepingWorld) (reader : Side) (v : World) (ds : List Delivery) → IsSoundKeeping setup k → IsSoundWorld setup v → CanBeRead setup v (other reader) ds → WritesOn setup k.world v reader
    → IsSoundKeeping setup (with_kept k reader v ds)
with_kept_sound setup k Client v ds h sound may on = record { sound = sound; client = may; server = may_on setup k.world v Client k.at_server on h.server }
with_kept_sound setup k Server v ds h sound may on = record { sound = sound; client = may_on setup k.world v Server k.at_client on h.client; server = may }

-- Once a side has read all that it keeps.
pub catches_up : (laws : KeptLaws) (setup : Setup) (k : KeepingWorld) (side : Side) → IsSoundKeeping setup k → ReadsAll setup k.world (caught_up setup k side) (other side) (kept_at k side)
catches_up laws setup k side h = all_read laws setup k.world (other side) (kept_at k side) h.sound (kept_readable setup k side h)

-- the other side's writer, behind that
pub caught_on : (laws : KeptLaws) (setup : Setup) (k : KeepingWorld) (side : Side) → IsSoundKeeping setup k → WritesOn setup k.world (caught_up setup k side) side
caught_on laws setup k side h = subst (WritesOn setup k.world (caught_up setup k side)) (other-other side) (catches_up laws setup k side h).there

-- A sender's call.
pub step_kept : (laws : WorldLaws) (setup : Setup) (k new : KeepingWorld) (e : Event) (a : Answer) → IsSendable setup e → IsSoundKeeping setup k → Step setup k.world e a new.world → IsExact k.world e a
    → LeavesKept setup k.world new.world → new ≡ with_world k new.world → IsSoundKeeping setup new
step_kept laws setup k new e a sendable h step exact leaves is =
    subst (IsSoundKeeping setup) (sym is) (with_world_sound setup k new.world h (laws.both setup k.world new.world e a sendable step exact h.sound).1 leaves)

-- What is delivered, whatever is answered.
abbrev On : Setup → World → Side → Answer × World → Type 0
On setup w side x = WritesOn setup w x.1 side

delivery_on : (setup : Setup) (w : World) (writer : Side) (id count : ℕ) → On setup w (other writer) (delivery setup w writer id count)
delivery_on setup w writer id count = by_tests (has_outgoing w writer id) refl (nat_lt (waiting setup w writer id) count) (is_closed w writer id)
  where
    by_tests : (a : Bool) → has_outgoing w writer id ≡ a → (b c : Bool)
        → On setup w (other writer) (if not a then (answer.NoStream, w) else (if b then (answer.Short (waiting setup w writer id), w) else (if c then (answer.Refused refusal.AfterEnd, w) else (answer.Delivered count, delivered setup w writer id count))))
    by_tests false e b c = unchanged_on setup w (other writer)
    by_tests true e true c = unchanged_on setup w (other writer)
    by_tests true e false true = unchanged_on setup w (other writer)
    by_tests true e false false = (bytes_read setup w writer id count e).there

ending : (own finished waits : Bool) → (not own && finished && waits) ≡ true → own ≡ false
ending true finished waits e = cc
ending false finished waits e = refl

end_on : (setup : Setup) (w : World) (writer : Side) (id : ℕ) → On setup w (other writer) (end_delivery setup w writer id)
end_on setup w writer id = by_tests (has_outgoing w writer id) refl (may_end setup w writer id) refl (is_closed w writer id)
  where
    by_tests : (a : Bool) → has_outgoing w writer id ≡ a → (b : Bool) → may_end setup w writer id ≡ b → (c : Bool)
        → On setup w (other writer) (if not a then (answer.NoStream, w) else (if not b then (answer.Early, w) else (if c then (answer.Refused refusal.AfterEnd, w) else (answer.Done, delivered_end w writer id))))
    by_tests false e b f c = unchanged_on setup w (other writer)
    by_tests true e false f c = unchanged_on setup w (other writer)
    by_tests true e true f true = unchanged_on setup w (other writer)
    by_tests true e true f false =
        let off = ending (is_own writer id) (is_finished (flow w writer id)) (waiting setup w writer id == 0) f in
        (end_reads setup w writer id (open_there w writer id (second_of (is_own writer id) (is_open w writer id) off e)) off).there

reset_on : (setup : Setup) (w : World) (writer : Side) (id : ℕ) → On setup w (other writer) (reset_delivery w writer id)
reset_on setup w writer id = by_tests (has_outgoing w writer id) refl (is_own writer id) refl (flow w writer id).is_reset (is_closed w writer id)
  where
    by_tests : (a : Bool) → has_outgoing w writer id ≡ a → (o : Bool) → is_own writer id ≡ o → (b c : Bool)
        → On setup w (other writer) (if not a then (answer.NoStream, w) else (if o || not b then (answer.Early, w) else (if c then (answer.Refused refusal.AfterEnd, w) else (answer.Done, delivered_reset w writer id))))
    by_tests false e o f b c = unchanged_on setup w (other writer)
    by_tests true e true f b c = unchanged_on setup w (other writer)
    by_tests true e false f false c = unchanged_on setup w (other writer)
    by_tests true e false f true true = unchanged_on setup w (other writer)
    by_tests true e false f true false = (reset_reads setup w writer id (open_there w writer id (second_of (is_own writer id) (is_open w writer id) f e)) f).there

-- Of what is taken all is read, and of what is not nothing.
pub read_or_not : (k : KeepingWorld) (reader : Side) (given : Answer) (new : KeepingWorld) (x : Answer × World) → (given, new) ≡ read_behind k reader x → (new ≡ k) ⊎ (new ≡ with_kept k reader x.1 [])
read_or_not k reader given new (answer.Delivered n, w) e = inr (ap (λ p. p.1) e)
read_or_not k reader given new (answer.Done, w) e = inr (ap (λ p. p.1) e)
read_or_not k reader given new (answer.Opened n, w) e = inl (ap (λ p. p.1) e)
read_or_not k reader given new (answer.Short n, w) e = inl (ap (λ p. p.1) e)
read_or_not k reader given new (answer.NoStream, w) e = inl (ap (λ p. p.1) e)
read_or_not k reader given new (answer.Early, w) e = inl (ap (λ p. p.1) e)
read_or_not k reader given new (answer.Shown limits sizes n, w) e = inl (ap (λ p. p.1) e)
read_or_not k reader given new (answer.Refused r, w) e = inl (ap (λ p. p.1) e)
read_or_not k reader given new (answer.Pulled p, w) e = inl (ap (λ p. p.1) e)
read_or_not k reader given new (answer.Listed l, w) e = inl (ap (λ p. p.1) e)

delivered_kept : (setup : Setup) (k new : KeepingWorld) (reader : Side) (v : World) → IsSoundKeeping setup k → IsSoundWorld setup v → WritesOn setup k.world v reader → (new ≡ k) ⊎ (new ≡ with_kept k reader v []) → IsSoundKeeping setup new
delivered_kept setup k new reader v h sound on (inl e) = subst (IsSoundKeeping setup) (sym e) h
delivered_kept setup k new reader v h sound on (inr e) = subst (IsSoundKeeping setup) (sym e) (with_kept_sound setup k reader v [] h sound tt on)

-- by the writer of what is delivered
behind_on : (q : KeptLaws) (setup : Setup) (k : KeepingWorld) (writer : Side) (v : World) → IsSoundKeeping setup k → WritesOn setup (caught_up setup k (other writer)) v (other writer) → WritesOn setup k.world v (other writer)
behind_on q setup k writer v h on = on_then setup k.world (caught_up setup k (other writer)) v (other writer) (caught_on q setup k (other writer) h) on

pub bytes_kept : (q : KeptLaws) (laws : WorldLaws) (setup : Setup) (k new : KeepingWorld) (writer : Side) (id count : ℕ) (a : Answer) → IsSendable setup (event.Deliver writer id count) → IsSoundKeeping setup k
    → (a, new) ≡ read_behind k (other writer) (offered setup k writer (Bytes id count)) → IsSoundKeeping setup new
bytes_kept q laws setup k new writer id count a sendable h step =
    let u = caught_up setup k (other writer) in
    let x = delivery setup u writer id count in
    delivered_kept setup k new (other writer) x.1 h (laws.both setup u x.1 (event.Deliver writer id count) x.0 sendable refl tt (catches_up q setup k (other writer) h).sound).1
    (behind_on q setup k writer x.1 h (delivery_on setup u writer id count)) (read_or_not k (other writer) a new x step)

pub ends_kept : (q : KeptLaws) (laws : WorldLaws) (setup : Setup) (k new : KeepingWorld) (writer : Side) (id : ℕ) (a : Answer) → IsSendable setup (event.DeliverEnd writer id) → IsSoundKeeping setup k
    → (a, new) ≡ read_behind k (other writer) (offered setup k writer (End id)) → IsSoundKeeping setup new
ends_kept q laws setup k new writer id a sendable h step =
    let u = caught_up setup k (other writer) in
    let x = end_delivery setup u writer id in
    delivered_kept setup k new (other writer) x.1 h (laws.both setup u x.1 (event.DeliverEnd writer id) x.0 sendable refl tt (catches_up q setup k (other writer) h).sound).1
    (behind_on q setup k writer x.1 h (end_on setup u writer id)) (read_or_not k (other writer) a new x step)

pub resets_kept : (q : KeptLaws) (laws : WorldLaws) (setup : Setup) (k new : KeepingWorld) (writer : Side) (id : ℕ) (a : Answer) → IsSendable setup (event.DeliverReset writer id) → IsSoundKeeping setup k
    → (a, new) ≡ read_behind k (other writer) (offered setup k writer (Reset id)) → IsSoundKeeping setup new
resets_kept q laws setup k new writer id a sendable h step =
    let u = caught_up setup k (other writer) in
    let x = reset_delivery u writer id in
    delivered_kept setup k new (other writer) x.1 h (laws.both setup u x.1 (event.DeliverReset writer id) x.0 sendable refl tt (catches_up q setup k (other writer) h).sound).1
    (behind_on q setup k writer x.1 h (reset_on setup u writer id)) (read_or_not k (other writer) a new x step)

-- A pull, with lists or without.
pub pull_kept : (q : KeptLaws) (laws : WorldLaws) (setup : Setup) (k new : KeepingWorld) (side : Side) (e : Event) (a : Answer) (settled : Bool) → ((w v : World) → Step setup w e a v → LeavesKept setup w v) → IsSendable setup e
    → IsSoundKeeping setup k → Pulls setup k side e settled a new → IsExact (caught_up setup k side) e a → IsSoundKeeping setup new
pull_kept q laws setup k new side e a true leaves sendable h step exact = subst (IsSoundKeeping setup) (sym step.1) h
pull_kept q laws setup k new side e a false leaves sendable h step exact =
    let u = caught_up setup k side in
    subst (IsSoundKeeping setup) (sym step.1)
    (with_kept_sound setup k side new.world [] h (laws.both setup u new.world e a sendable step.0 exact (catches_up q setup k side h).sound).1 tt
    (on_then setup k.world u new.world side (caught_on q setup k side h) (leaves_at setup u new.world side (leaves u new.world step.0))))
