-- A delivery is read: the rest of what is kept stays readable, and so does what the writer keeps of the other side.
use Rattle.std.proofs.Common.{◌≡◌, inl, ℕ, ◌+◌, Bool, true, false, not, ◌&&◌, ◌||◌, List, ◌∷◌, refl, sym, ap, ◌∙◌, arith, if◌then◌else◌}
use Rattle.std.specs.Prelude.{◌==◌, is_some}
use Rattle.std.proofs.lemmas.Grind.{common_steps}
use Rattle.h3_proto.specs.declared.stream.Side.{Side}
use Rattle.h3_proto.specs.declared.stream.Side.TheVariants.{Client, Server}
use Rattle.h3_connection.specs.OwnIds.{other, is_own, control_id, encoder_id, decoder_id}
use Rattle.h3_connection.specs.declared.event.StreamFault.{StreamFault}
use Rattle.h3_connection.specs.declared.event.StreamFault.TheVariants as stream_fault
use Rattle.h3_world.specs.Setup.{Setup}
use Rattle.h3_world.specs.Delivering.{delivered, delivered_own, delivered_message, delivered_end, delivered_reset, is_closed, reset_code}
use Rattle.h3_world.specs.Flow.{Flow}
use Rattle.h3_world.specs.Pulling.{own_delivered}
use Rattle.h3_world.specs.Sending.{given_up}
use Rattle.h3_world.specs.Streams.{flow, with_flow, is_open, has_outgoing}
use Rattle.h3_world.specs.World.{World, Party}
use Rattle.h3_headline.specs.FlowLaws.{same_number, set_length, flow-with_flow, party-with_flow, open_there}
use Rattle.h3_headline.specs.OwnEventLaws.{own_closed}
use Rattle.h3_headline.specs.Steps.{IsThere}
use Rattle.h3_memory.specs.Kept.{Delivery, Bytes, End, Reset, read_delivery}
use Rattle.h3_memory.specs.Keeping.{MayAllBeRead, came_of, with_count, with_closed}
use Rattle.h3_memory.specs.Writing.{LeavesKept}
use Rattle.h3_memory.proofs.Growing.{may_grow}
use Rattle.h3_memory.proofs.SendsLeave.{given_leaves}
use Rattle.h3_memory.proofs.SameSent.{same_then, same_with_flow, same_given_up, same_writes}
use Rattle.h3_memory.proofs.Written.{on_then, leaves_at}
use Rattle.h3_memory.proofs.WorldsWritten.{each_flow, other_on}
use Rattle.h3_memory.proofs.OwnReads.{ReadsOne, came_after, closed_after, own_reads}

turned : (a b : ℕ) → (a == b) ≡ (b == a)
turned a b = by_tests (a == b) refl (b == a) refl
  where
    by_tests : (x : Bool) → (a == b) ≡ x → (y : Bool) → (b == a) ≡ y → x ≡ y
    by_tests true e true f = refl
    by_tests false e false f = refl
    by_tests true e false f = absurd (grind (arith, common_steps, e, f))
    by_tests false e true f = absurd (grind (arith, common_steps, e, f))

-- an own stream is no other one
off_own : (writer : Side) (id i : ℕ) → is_own writer id ≡ false → is_own writer i ≡ true → (i == id) ≡ false
off_own writer id i off own = by_test (i == id) refl
  where
    differ : (b : Bool) → b ≡ false → b ≡ true → ⊥
    differ true e f = cc
    differ false e f = cc

    by_test : (b : Bool) → (i == id) ≡ b → b ≡ false
    by_test true e = absurd (differ (is_own writer id) off (ap (is_own writer) (sym (same_number i id e)) ∙ own))
    by_test false e = refl

-- where the delivered bytes of one flow are more
flow_came : (w : World) (writer : Side) (id count : ℕ) (g : Flow) → IsThere w id → is_own writer id ≡ false → g.delivered ≡ (flow w writer id).delivered + count
    → (i : ℕ) → came_of (with_flow w writer id g) writer i ≡ with_count (came_of w writer) id count i
flow_came w writer id count g there off more i = by_own (is_own writer i) refl
  where
    v : World
    v = with_flow w writer id g

    same_own : own_delivered v writer i ≡ own_delivered w writer i
    same_own = ap (λ (p : Party). if i == control_id writer then p.own.control_taken else (if i == encoder_id writer then p.own.encoder_taken else (if i == decoder_id writer then p.own.decoder_taken else 0))) (party-with_flow w writer writer id g)

    delivered_at : (b : Bool) → (id == i) ≡ b → (if b then g else flow w writer i).delivered ≡ (if b then (flow w writer i).delivered + count else (flow w writer i).delivered)
    delivered_at true e = more ∙ ap (λ n. (flow w writer n).delivered + count) (same_number id i e)
    delivered_at false e = refl

    by_own : (b : Bool) → is_own writer i ≡ b
        → (if b then own_delivered v writer i else (flow v writer i).delivered) ≡ (if i == id then (if b then own_delivered w writer i else (flow w writer i).delivered) + count else (if b then own_delivered w writer i else (flow w writer i).delivered))
    by_own true own = same_own ∙ sym (ap (λ t. if t then own_delivered w writer i + count else own_delivered w writer i) (off_own writer id i off own))
    by_own false other_one =
        ap (λ (f : Flow). f.delivered) (flow-with_flow w writer id i g there) ∙ delivered_at (id == i) refl
        ∙ ap (λ t. if t then (flow w writer i).delivered + count else (flow w writer i).delivered) (turned id i)

-- where a stream was closed
flow_closed : (w : World) (writer : Side) (id : ℕ) (g : Flow) → IsThere w id → is_own writer id ≡ false → (g.ended || g.reset_came) ≡ true → (i : ℕ) → is_closed (with_flow w writer id g) writer i ≡ with_closed (is_closed w writer) id i
flow_closed w writer id g there off shut i =
    ap (λ (f : Flow). not (is_own writer i) && (f.ended || f.reset_came)) (flow-with_flow w writer id i g there) ∙ by_id (id == i) refl ∙ ap (λ t. if t then true else is_closed w writer i) (turned id i)
  where
    by_id : (b : Bool) → (id == i) ≡ b → (not (is_own writer i) && ((if b then g else flow w writer i).ended || (if b then g else flow w writer i).reset_came)) ≡ (if b then true else is_closed w writer i)
    by_id true e = ap (λ n. not (is_own writer n) && (g.ended || g.reset_came)) (sym (same_number id i e)) ∙ ap (λ o. not o && (g.ended || g.reset_came)) off ∙ shut
    by_id false e = refl

-- or not
flow_open : (w : World) (writer : Side) (id : ℕ) (g : Flow) → IsThere w id → g.ended ≡ (flow w writer id).ended → g.reset_came ≡ (flow w writer id).reset_came → (i : ℕ) → is_closed (with_flow w writer id g) writer i ≡ is_closed w writer i
flow_open w writer id g there ended came i =
    each_flow (λ f h. (not (is_own writer i) && (h.ended || h.reset_came)) ≡ (not (is_own writer i) && (f.ended || f.reset_came))) (λ f. refl) w writer id g there
    (ap (λ e. not (is_own writer i) && (e || g.reset_came)) ended ∙ ap (λ r. not (is_own writer i) && ((flow w writer id).ended || r)) came) i

message_reads : (setup : Setup) (w : World) (writer : Side) (id count : ℕ) → IsThere w id → is_own writer id ≡ false → ReadsOne setup w (delivered_message w writer id count) writer (Bytes id count)
message_reads setup w writer id count there off =
    let f = flow w writer id in
    let g : Flow = record f { delivered = f.delivered + count; seen = true } in
    record {
      same = same_with_flow w writer id g there (record { sent = refl; reset = refl });
      came = flow_came w writer id count g there off refl;
      closed = flow_open w writer id g there refl refl;
      there = other_on setup w writer id g there (inl refl);
    }

no_more_came : (w : World) (writer : Side) (id : ℕ) (g : Flow) → IsThere w id → is_own writer id ≡ false → g.delivered ≡ (flow w writer id).delivered → (i : ℕ) → came_of (with_flow w writer id g) writer i ≡ came_of w writer i
no_more_came w writer id g there off same i = flow_came w writer id 0 g there off (same ∙ nothing (flow w writer id).delivered) i ∙ by_test (i == id)
  where
    nothing : (n : ℕ) → n ≡ n + 0
    nothing n = omega arith

    by_test : (b : Bool) → (if b then came_of w writer i + 0 else came_of w writer i) ≡ came_of w writer i
    by_test true = sym (nothing (came_of w writer i))
    by_test false = refl

pub end_reads : (setup : Setup) (w : World) (writer : Side) (id : ℕ) → IsThere w id → is_own writer id ≡ false → ReadsOne setup w (delivered_end w writer id) writer (End id)
end_reads setup w writer id there off =
    let f = flow w writer id in
    let g : Flow = record f { seen = true; ended = true } in
    record {
      same = same_with_flow w writer id g there (record { sent = refl; reset = refl });
      came = no_more_came w writer id g there off refl;
      closed = flow_closed w writer id g there off refl;
      there = other_on setup w writer id g there (inl refl);
    }

or_true : (b : Bool) → (b || true) ≡ true
or_true true = refl
or_true false = refl

mark_reads : (setup : Setup) (w : World) (writer : Side) (id : ℕ) → IsThere w id → is_own writer id ≡ false
    → ReadsOne setup w (with_flow w writer id (record (flow w writer id) { seen = true; reset_came = true })) writer (Reset id)
mark_reads setup w writer id there off =
    let f = flow w writer id in
    let g : Flow = record f { seen = true; reset_came = true } in
    record {
      same = same_with_flow w writer id g there (record { sent = refl; reset = refl });
      came = no_more_came w writer id g there off refl;
      closed = flow_closed w writer id g there off (or_true f.ended);
      there = other_on setup w writer id g there (inl refl);
    }

pub still_there : (w : World) (s : Side) (id i : ℕ) (g : Flow) → IsThere w i → IsThere (with_flow w s id g) i
still_there w Client id i g h = record { request = h.request; place = omega (arith, h.place, set_length w.exchanges (Rattle.h3_proto.specs.StreamIds.index_of id) (record (Rattle.h3_world.specs.Streams.exchange w id) { request = g })) }
still_there w Server id i g h = record { request = h.request; place = omega (arith, h.place, set_length w.exchanges (Rattle.h3_proto.specs.StreamIds.index_of id) (record (Rattle.h3_world.specs.Streams.exchange w id) { response = g })) }

pub reset_reads : (setup : Setup) (w : World) (writer : Side) (id : ℕ) → IsThere w id → is_own writer id ≡ false → ReadsOne setup w (delivered_reset w writer id) writer (Reset id)
reset_reads setup w writer id there off = by_fault (is_some (flow w writer id).fault)
  where
    u : World
    u = with_flow w writer id (record (flow w writer id) { seen = true; reset_came = true })

    first : ReadsOne setup w u writer (Reset id)
    first = mark_reads setup w writer id there off

    fault : StreamFault
    fault = stream_fault.Reset reset_code

    there_still : IsThere u id
    there_still = still_there w writer id id (record (flow w writer id) { seen = true; reset_came = true }) there

    leaves : LeavesKept setup u (given_up u (other writer) id fault)
    leaves = given_leaves setup u (other writer) id fault there_still

    by_fault : (b : Bool) → ReadsOne setup w (if b then u else given_up u (other writer) id fault) writer (Reset id)
    by_fault true = first
    by_fault false =
        let v = given_up u (other writer) id fault in
        let here = leaves_at setup u v writer leaves in
        record {
          same = same_then w u v writer first.same (same_given_up u writer id fault there_still);
          came = λ i. here.came i ∙ first.came i;
          closed = λ i. here.closed i ∙ first.closed i;
          there = on_then setup w u v (other writer) first.there (leaves_at setup u v (other writer) leaves);
        }

-- an open stream is no own one
pub open_apart : (w : World) (writer : Side) (id : ℕ) → is_open w writer id ≡ true → is_own writer id ≡ false
open_apart w writer id opened = by_test (is_own writer id) refl
  where
    differ : (b : Bool) → b ≡ false → b ≡ true → ⊥
    differ true e f = cc
    differ false e f = cc

    by_test : (b : Bool) → is_own writer id ≡ b → b ≡ false
    by_test true own = absurd (differ (is_open w writer id) (own_closed w writer id own) opened)
    by_test false off = refl

pub second_of : (a b : Bool) → a ≡ false → (a || b) ≡ true → b ≡ true
second_of true b e h = absurd (cc)
second_of false b e h = h

pub bytes_read : (setup : Setup) (w : World) (writer : Side) (id count : ℕ) → has_outgoing w writer id ≡ true → ReadsOne setup w (delivered setup w writer id count) writer (Bytes id count)
bytes_read setup w writer id count there = by_own (is_own writer id) refl
  where
    by_own : (b : Bool) → is_own writer id ≡ b → ReadsOne setup w (if b then delivered_own setup w writer id count else delivered_message w writer id count) writer (Bytes id count)
    by_own true own = own_reads setup w writer id count own
    by_own false off = message_reads setup w writer id count (open_there w writer id (second_of (is_own writer id) (is_open w writer id) off there)) off

-- **The first of what is kept is read.**
pub one_read : (setup : Setup) (w : World) (writer : Side) (came : ℕ → ℕ) (closed : ℕ → Bool) (d : Delivery) (ds : List Delivery) → MayAllBeRead setup w writer came closed (d ∷ ds) → ReadsOne setup w (read_delivery setup w writer d) writer d
one_read setup w writer came closed (Bytes id count) ds may = bytes_read setup w writer id count may.0
one_read setup w writer came closed (End id) ds may = end_reads setup w writer id (open_there w writer id may.0) (open_apart w writer id may.0)
one_read setup w writer came closed (Reset id) ds may = reset_reads setup w writer id (open_there w writer id may.0) (open_apart w writer id may.0)

pub rest_of : (setup : Setup) (w : World) (writer : Side) (came : ℕ → ℕ) (closed : ℕ → Bool) (d : Delivery) (ds : List Delivery) → MayAllBeRead setup w writer came closed (d ∷ ds) → MayAllBeRead setup w writer (came_after came d) (closed_after closed d) ds
rest_of setup w writer came closed (Bytes id count) ds may = may.3
rest_of setup w writer came closed (End id) ds may = may.4
rest_of setup w writer came closed (Reset id) ds may = may.3

-- **And the rest may be read behind it.**
pub rest_readable : (setup : Setup) (w v : World) (writer : Side) (d : Delivery) (ds : List Delivery) → ReadsOne setup w v writer d → MayAllBeRead setup w writer (came_of w writer) (is_closed w writer) (d ∷ ds)
    → MayAllBeRead setup v writer (came_of v writer) (is_closed v writer) ds
rest_readable setup w v writer d ds one may =
    may_grow setup w v writer (came_after (came_of w writer) d) (came_of v writer) (closed_after (is_closed w writer) d) (is_closed v writer) ds (same_writes setup w v writer one.same) one.came one.closed
    (rest_of setup w writer (came_of w writer) (is_closed w writer) d ds may)
