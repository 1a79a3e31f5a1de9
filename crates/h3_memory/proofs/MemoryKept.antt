-- An event after which memory was refused leaves a world sound, and what is kept readable.
use Rattle.std.proofs.Common.{◌≡◌, inl, inr, ℕ, ◌+◌, ◌-◌, ◌≤◌, Bool, true, false, not, ◌&&◌, ◌||◌, List, [], ◌∷◌, ◌++◌, length, take, refl, sym, ap, ◌∙◌, subst, arith, append-nil, if◌then◌else◌}
use Rattle.std.specs.Prelude.{◌==◌}
use Rattle.std.proofs.lemmas.Grind.{common_steps}
use Rattle.h3_field.specs.Field.{Field}
use Rattle.h3_proto.specs.declared.stream.Side.{Side}
use Rattle.h3_connection.specs.OwnIds.{other, is_own}
use Rattle.h3_connection.specs.Sections.{own_instructions}
use Rattle.h3_world.specs.Setup.{Setup}
use Rattle.h3_world.specs.declared.event.Answer.TheVariants as answer
use Rattle.h3_world.specs.Delivering.{is_closed, may_end}
use Rattle.h3_world.specs.Flow.{Flow, flow_bytes}
use Rattle.h3_world.specs.Order.{is_finished}
use Rattle.h3_world.specs.Refused.{having_inserted_for, with_insertions}
use Rattle.h3_world.specs.Sound.{IsSoundWorld}
use Rattle.h3_world.specs.Streams.{flow, with_flow, is_open, has_outgoing, waiting}
use Rattle.h3_world.specs.World.{World, party}
use Rattle.h3_headline.specs.DeliverLaws.{waiting_is}
use Rattle.h3_headline.specs.FlowLaws.{open_there, other-other}
use Rattle.h3_memory.specs.Kept.{Delivery, Bytes, End, Reset, KeepingWorld, kept_at, with_kept, stream_of, caught_up, noticed, noticed_all, ReadsPart}
use Rattle.h3_memory.specs.Keeping.{MayAllBeRead, came_of, text_of}
use Rattle.h3_memory.specs.MemoryStep.{HandsNothingOut, Keeps, offered}
use Rattle.h3_memory.specs.SoundKeeping.{CanBeRead, IsSoundKeeping}
use Rattle.h3_memory.specs.Writing.{WritesOn, LeavesKept}
use Rattle.h3_memory.proofs.Cuts.{Left}
use Rattle.h3_memory.proofs.EventsKept.{kept_readable, with_world_sound, with_kept_sound, catches_up}
use Rattle.h3_memory.proofs.Growing.{may_grow, may_on}
use Rattle.h3_memory.proofs.KeptLaws.{KeptLaws}
use Rattle.h3_memory.proofs.Offered.{bytes_go_over, end_goes_over, reset_goes_over, message_within, bytes_there, may_append, closed_before}
use Rattle.h3_memory.proofs.OwnReads.{came_after, closed_after}
use Rattle.h3_memory.proofs.ReadAll.{ReadsAll, closed_behind, part_read}
use Rattle.h3_memory.proofs.Reading.{finished_goes, message_came, open_outgoing}
use Rattle.h3_memory.proofs.ReadsLeave.{rest_of, second_of}
use Rattle.h3_memory.proofs.SameSent.{same_finished, same_text}
use Rattle.h3_memory.proofs.Written.{unchanged, on_then, leaves_at, leaves_then, message_text}
use Rattle.h3_memory.proofs.WorldsWritten.{party_leaves, flow_leaves}

-- A section was cut off.
insertions_leave : (setup : Setup) (w : World) (side : Side) (id : ℕ) (fields : List Field) → LeavesKept setup w (with_insertions w side id fields)
insertions_leave setup w side id fields =
    let p = party w side in
    party_leaves setup w side (having_inserted_for p id fields)
    (record { goaways = []; goaways_are = sym (append-nil p.own.goaways); instructions = own_instructions p.encoder id fields; instructions_are = refl; replies = []; replies_are = sym (append-nil p.own.replies) })
    (record { control = refl; encoder = refl; decoder = refl })

pub section_cut : (q : KeptLaws) (setup : Setup) (k new : KeepingWorld) (side : Side) (id : ℕ) (fields : List Field) → IsSoundKeeping setup k → Left k side id fields new → IsSoundKeeping setup new
section_cut q setup k new side id fields h (inl cut) =
    let front = take cut.front fields in
    subst (IsSoundKeeping setup) (sym cut.inserted)
    (with_world_sound setup k (with_insertions k.world side id front) h (q.insertions setup k.world side id front h.sound) (insertions_leave setup k.world side id front))
section_cut q setup k new side id fields h (inr is) = subst (IsSoundKeeping setup) (sym is) h

-- A receiver has got something on an open stream whose end has not come.
seen_sound : (q : KeptLaws) (setup : Setup) (w : World) (writer : Side) (id : ℕ) → IsSoundWorld setup w → is_open w writer id ≡ true → (flow w writer id).delivered ≤ length (flow_bytes (flow w writer id)) → (flow w writer id).ended ≡ false
    → IsSoundWorld setup (with_flow w writer id (record (flow w writer id) { seen = true }))
seen_sound q setup w writer id h opened fits goes_on =
    subst (λ n. IsSoundWorld setup (with_flow w writer id (record (flow w writer id) { delivered = n; seen = true }))) (nothing (flow w writer id).delivered)
    (q.bytes setup w writer id 0 h opened (omega (arith, fits)) goes_on)
  where
    nothing : (n : ℕ) → n + 0 ≡ n
    nothing n = omega arith

-- What is handed over, of which the first is noticed.
pub record Notices (setup : Setup) (w v : World) : Type 0 where
  pub sound : IsSoundWorld setup v
  pub leaves : LeavesKept setup w v

not_closed : (own ended came : Bool) → own ≡ false → (not own && (ended || came)) ≡ false → ended ≡ false
not_closed true ended came off e = absurd (cc)
not_closed false true came off e = absurd (cc)
not_closed false false came off e = refl

pub notices : (q : KeptLaws) (setup : Setup) (w : World) (writer : Side) (id : ℕ) → IsSoundWorld setup w → has_outgoing w writer id ≡ true → is_closed w writer id ≡ false → Notices setup w (noticed w writer id)
notices q setup w writer id h there goes = by_own (is_own writer id) refl
  where
    f : Flow
    f = flow w writer id

    g : Flow
    g = record f { seen = true }

    by_own : (b : Bool) → is_own writer id ≡ b → Notices setup w (if b then w else with_flow w writer id g)
    by_own true own = record { sound = h; leaves = unchanged setup w }
    by_own false off =
        let opened = second_of (is_own writer id) (is_open w writer id) off there in
        record {
          sound = seen_sound q setup w writer id h opened (message_within setup w writer id h there off) (not_closed (is_own writer id) f.ended f.reset_came off goes);
          leaves = flow_leaves setup w writer id g (open_there w writer id opened)
              (record { piece = []; bytes = sym (append-nil (flow_bytes f)); finished = λ e. (e, refl); reset = λ e. e })
              (record { delivered = refl; ended = refl; reset_came = refl }) (inl refl);
        }

-- So is each of which something is left.
pub first_goes : (setup : Setup) (w : World) (writer : Side) (came : ℕ → ℕ) (shut : ℕ → Bool) (d : Delivery) (ds : List Delivery) → MayAllBeRead setup w writer came shut (d ∷ ds) → (has_outgoing w writer (stream_of d) ≡ true) × (shut (stream_of d) ≡ false)
first_goes setup w writer came shut (Bytes id count) ds may = (may.0, may.1)
first_goes setup w writer came shut (End id) ds may = (open_outgoing w writer id may.0, may.1)
first_goes setup w writer came shut (Reset id) ds may = (open_outgoing w writer id may.0, may.1)

pub notice_all : (q : KeptLaws) (setup : Setup) (w : World) (writer : Side) (came : ℕ → ℕ) (shut : ℕ → Bool) (ds : List Delivery) → IsSoundWorld setup w → ((i : ℕ) → shut i ≡ false → is_closed w writer i ≡ false) → MayAllBeRead setup w writer came shut ds
    → Notices setup w (noticed_all w writer ds)
notice_all q setup w writer came shut [] h before may = record { sound = h; leaves = unchanged setup w }
notice_all q setup w writer came shut (d ∷ ds) h before may =
    let id = stream_of d in
    let v = noticed w writer id in
    let go = first_goes setup w writer came shut d ds may in
    let n = notices q setup w writer id h go.0 (before id go.1) in
    let on = leaves_at setup w v writer n.leaves in
    let rest = notice_all q setup v writer (came_after came d) (closed_after shut d) ds n.sound (λ i e. on.closed i ∙ before i (closed_before shut (d ∷ []) i e))
    (may_grow setup w v writer (came_after came d) (came_after came d) (closed_after shut d) (closed_after shut d) ds on.writes (λ i. refl) (λ i. refl) (rest_of setup w writer came shut d ds may)) in
    record { sound = rest.sound; leaves = leaves_then setup w v (noticed_all v writer ds) n.leaves rest.leaves }

-- A part of what is kept is read, and each stream of what is left is noticed.
pub part_kept : (q : KeptLaws) (setup : Setup) (k new : KeepingWorld) (reader : Side) (mid : World) (ds : List Delivery) → IsSoundKeeping setup k → CanBeRead setup k.world (other reader) ds
    → ReadsPart setup (other reader) k.world ds mid (kept_at new reader) → new ≡ with_kept k reader (noticed_all mid (other reader) (kept_at new reader)) (kept_at new reader) → IsSoundKeeping setup new
part_kept q setup k new reader mid ds h may read is =
    let left = kept_at new reader in
    let v = noticed_all mid (other reader) left in
    let some = part_read q setup (other reader) read h.sound may in
    let all = notice_all q setup mid (other reader) (came_of mid (other reader)) (is_closed mid (other reader)) left some.sound (λ i e. e) some.may in
    let there = subst (WritesOn setup k.world mid) (other-other reader) some.there in
    subst (IsSoundKeeping setup) (sym is)
    (with_kept_sound setup k reader v left h all.sound (may_on setup mid v (other reader) left (leaves_at setup mid v (other reader) all.leaves) some.may)
    (on_then setup k.world mid v reader there (leaves_at setup mid v reader all.leaves)))

pub hands_nothing : (q : KeptLaws) (setup : Setup) (k new : KeepingWorld) (side : Side) (id : ℕ) → IsSoundKeeping setup k → HandsNothingOut setup k side id new → IsSoundKeeping setup new
hands_nothing q setup k new side id h n = part_kept q setup k new side n.mid (kept_at k side) h (kept_readable setup k side h) n.read n.same

-- It can be read behind all that is kept.
pub record TakesMore (setup : Setup) (k : KeepingWorld) (writer : Side) (d : Delivery) : Type 0 where
  pub outgoing : has_outgoing k.world writer (stream_of d) ≡ true
  pub goes_on : is_closed k.world writer (stream_of d) ≡ false
  pub may : CanBeRead setup k.world writer (kept_at k (other writer) ++ d ∷ [])

kept_more : (q : KeptLaws) (setup : Setup) (k new : KeepingWorld) (writer : Side) (d : Delivery) → IsSoundKeeping setup k → TakesMore setup k writer d → Keeps setup k writer d new → IsSoundKeeping setup new
kept_more q setup k new writer d h t keeps =
    let ds = kept_at k (other writer) ++ d ∷ [] in
    let left = kept_at new (other writer) in
    part_kept q setup k new (other writer) keeps.mid ds h (subst (λ s. CanBeRead setup k.world s ds) (sym (other-other writer)) t.may) (subst (λ s. ReadsPart setup s k.world ds keeps.mid left) (sym (other-other writer)) keeps.read)
    (subst (λ s. new ≡ with_kept k (other writer) (noticed_all keeps.mid s left) left) (sym (other-other writer)) keeps.same)

-- by what the receiver has once it has caught up
record Caught (setup : Setup) (k : KeepingWorld) (writer : Side) : Type 0 where
  all : ReadsAll setup k.world (caught_up setup k (other writer)) writer (kept_at k (other writer))
  may : CanBeRead setup k.world writer (kept_at k (other writer))

caught : (q : KeptLaws) (setup : Setup) (k : KeepingWorld) (writer : Side) → IsSoundKeeping setup k → Caught setup k writer
caught q setup k writer h =
    record {
      all = subst (λ s. ReadsAll setup k.world (caught_up setup k (other writer)) s (kept_at k (other writer))) (other-other writer) (catches_up q setup k (other writer) h);
      may = subst (λ s. CanBeRead setup k.world s (kept_at k (other writer))) (other-other writer) (kept_readable setup k (other writer) h);
    }

outgoing_before : (w u : World) (writer : Side) (id : ℕ) → is_open u writer id ≡ is_open w writer id → has_outgoing u writer id ≡ true → has_outgoing w writer id ≡ true
outgoing_before w u writer id same h = ap (λ b. is_own writer id || b) (sym same) ∙ h

pub takes_bytes : (q : KeptLaws) (setup : Setup) (k : KeepingWorld) (writer : Side) (id count : ℕ) → IsSoundKeeping setup k → (offered setup k writer (Bytes id count)).0 ≡ answer.Delivered count → TakesMore setup k writer (Bytes id count)
takes_bytes q setup k writer id count h given =
    let w = k.world in
    let u = caught_up setup k (other writer) in
    let ds = kept_at k (other writer) in
    let c = caught q setup k writer h in
    let goes = bytes_go_over setup u writer id count given in
    let outgoing = outgoing_before w u writer id (c.all.same.opens id) goes.outgoing in
    let closed : closed_behind (is_closed w writer) ds id ≡ false = sym (c.all.closed id) ∙ goes.goes_on in
    record {
      outgoing = outgoing;
      goes_on = closed_before (is_closed w writer) ds id closed;
      may = may_append setup w writer (came_of w writer) (is_closed w writer) ds (Bytes id count) c.may
          (outgoing, closed, omega (arith, bytes_there setup u writer id count c.all.sound goes.outgoing goes.waits, ap length (same_text setup w u writer c.all.same id), c.all.came id), tt);
    }

-- all of it was handed over
record Whole (setup : Setup) (w : World) (writer : Side) (id : ℕ) : Type 0 where
  off : is_own writer id ≡ false
  finished : is_finished (flow w writer id) ≡ true
  none : waiting setup w writer id ≡ 0

is_whole : (setup : Setup) (w : World) (writer : Side) (id : ℕ) → may_end setup w writer id ≡ true → Whole setup w writer id
is_whole setup w writer id e = by_tests (is_own writer id) refl (is_finished (flow w writer id)) refl (waiting setup w writer id == 0) refl e
  where
    none : (n : ℕ) → (n == 0) ≡ true → n ≡ 0
    none n e = grind (arith, common_steps, e)

    by_tests : (a : Bool) → is_own writer id ≡ a → (b : Bool) → is_finished (flow w writer id) ≡ b → (c : Bool) → (waiting setup w writer id == 0) ≡ c → (not a && b && c) ≡ true → Whole setup w writer id
    by_tests true x b y c z k = absurd (cc)
    by_tests false x false y c z k = absurd (cc)
    by_tests false x true y false z k = absurd (cc)
    by_tests false x true y true z k = record { off = x; finished = y; none = none (waiting setup w writer id) z }

whole_came : (setup : Setup) (w : World) (writer : Side) (id : ℕ) → IsSoundWorld setup w → has_outgoing w writer id ≡ true → Whole setup w writer id → came_of w writer id ≡ length (text_of setup w writer id)
whole_came setup w writer id h there e =
    let f = flow w writer id in
    let none : length (flow_bytes f) - f.delivered ≡ 0 = sym (ap (λ r. if r then 0 else length (flow_bytes f) - f.delivered) (finished_goes f e.finished)) ∙ sym (waiting_is setup w writer id e.off) ∙ e.none in
    omega (arith, none, message_within setup w writer id h there e.off, message_came w writer id e.off, ap length (message_text setup w writer id e.off))

pub takes_end : (q : KeptLaws) (setup : Setup) (k : KeepingWorld) (writer : Side) (id : ℕ) → IsSoundKeeping setup k → (offered setup k writer (End id)).0 ≡ answer.Done → TakesMore setup k writer (End id)
takes_end q setup k writer id h given =
    let w = k.world in
    let u = caught_up setup k (other writer) in
    let ds = kept_at k (other writer) in
    let c = caught q setup k writer h in
    let goes = end_goes_over setup u writer id given in
    let outgoing = outgoing_before w u writer id (c.all.same.opens id) goes.outgoing in
    let closed : closed_behind (is_closed w writer) ds id ≡ false = sym (c.all.closed id) ∙ goes.goes_on in
    let whole = is_whole setup u writer id goes.ends in
    record {
      outgoing = outgoing;
      goes_on = closed_before (is_closed w writer) ds id closed;
      may = may_append setup w writer (came_of w writer) (is_closed w writer) ds (End id) c.may (
        second_of (is_own writer id) (is_open w writer id) whole.off outgoing,
        closed,
        sym (same_finished (flow w writer id) (flow u writer id) (c.all.same.flows id)) ∙ whole.finished,
        sym (c.all.came id) ∙ whole_came setup u writer id c.all.sound goes.outgoing whole ∙ ap length (same_text setup w u writer c.all.same id),
        tt,
      );
    }

pub takes_reset : (q : KeptLaws) (setup : Setup) (k : KeepingWorld) (writer : Side) (id : ℕ) → IsSoundKeeping setup k → (offered setup k writer (Reset id)).0 ≡ answer.Done → TakesMore setup k writer (Reset id)
takes_reset q setup k writer id h given =
    let w = k.world in
    let u = caught_up setup k (other writer) in
    let ds = kept_at k (other writer) in
    let c = caught q setup k writer h in
    let goes = reset_goes_over u writer id given in
    let outgoing = outgoing_before w u writer id (c.all.same.opens id) goes.outgoing in
    let closed : closed_behind (is_closed w writer) ds id ≡ false = sym (c.all.closed id) ∙ goes.goes_on in
    record {
      outgoing = outgoing;
      goes_on = closed_before (is_closed w writer) ds id closed;
      may = may_append setup w writer (came_of w writer) (is_closed w writer) ds (Reset id) c.may
          (second_of (is_own writer id) (is_open w writer id) goes.off outgoing, closed, sym (c.all.same.flows id).reset ∙ goes.reset, tt);
    }

-- **What was handed over is kept.**
pub bytes_stored : (q : KeptLaws) (setup : Setup) (k new : KeepingWorld) (writer : Side) (id count : ℕ) → IsSoundKeeping setup k → (offered setup k writer (Bytes id count)).0 ≡ answer.Delivered count → Keeps setup k writer (Bytes id count) new → IsSoundKeeping setup new
bytes_stored q setup k new writer id count h given keeps = kept_more q setup k new writer (Bytes id count) h (takes_bytes q setup k writer id count h given) keeps

pub end_stored : (q : KeptLaws) (setup : Setup) (k new : KeepingWorld) (writer : Side) (id : ℕ) → IsSoundKeeping setup k → (offered setup k writer (End id)).0 ≡ answer.Done → Keeps setup k writer (End id) new → IsSoundKeeping setup new
end_stored q setup k new writer id h given keeps = kept_more q setup k new writer (End id) h (takes_end q setup k writer id h given) keeps

pub reset_stored : (q : KeptLaws) (setup : Setup) (k new : KeepingWorld) (writer : Side) (id : ℕ) → IsSoundKeeping setup k → (offered setup k writer (Reset id)).0 ≡ answer.Done → Keeps setup k writer (Reset id) new → IsSoundKeeping setup new
reset_stored q setup k new writer id h given keeps = kept_more q setup k new writer (Reset id) h (takes_reset q setup k writer id h given) keeps
