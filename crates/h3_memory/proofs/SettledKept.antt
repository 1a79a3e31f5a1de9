-- A pull whose answer is settled stays so where a side has caught up.
use Rattle.std.proofs.Common.{◌≡◌, ◌⊎◌, inl, inr, ℕ, ◌+◌, Bool, true, false, not, ◌||◌, List, [], ◌∷◌, ◌++◌, refl, sym, ap, ◌∙◌, subst, if◌then◌else◌, Option, Some, None}
use Rattle.std.specs.Prelude.{◌%◌, ◌==◌, is_some}
use Rattle.h3_field.specs.Instruction.DecoderInstruction.{CancelStream}
use Rattle.h3_proto.specs.StreamIds.{is_request_stream}
use Rattle.h3_proto.specs.declared.stream.Side.{Side}
use Rattle.h3_connection.specs.OwnIds.{other, is_own, control_id}
use Rattle.h3_connection.specs.declared.event.Item.TheVariants as item
use Rattle.h3_connection.specs.declared.event.Pull.TheVariants as pull
use Rattle.h3_connection.specs.declared.event.StreamFault.{StreamFault}
use Rattle.h3_connection.specs.declared.event.StreamFault.TheVariants as stream_fault
use Rattle.h3_world.specs.Setup.{Setup}
use Rattle.h3_world.specs.Delivering.{delivered, delivered_own, delivered_message, delivered_reset, is_closed, reset_code}
use Rattle.h3_world.specs.Flow.{Flow}
use Rattle.h3_world.specs.Order.{is_over}
use Rattle.h3_world.specs.Pulling.{fault_or, pull_unidirectional, pull_unopened, settled}
use Rattle.h3_world.specs.Sending.{given_up}
use Rattle.h3_world.specs.Sound.{IsSoundWorld}
use Rattle.h3_world.specs.Streams.{flow, with_flow, is_open, has_outgoing}
use Rattle.h3_world.specs.World.{World, Party, party, with_party}
use Rattle.h3_headline.specs.FlowLaws.{flow-with_party, open_there, other-other, there-with_party}
use Rattle.h3_headline.specs.OwnWorldLaws.{streams_after}
use Rattle.h3_headline.specs.Steps.{IsThere}
use Rattle.h3_memory.specs.Kept.{Delivery, Bytes, End, Reset, KeepingWorld, kept_at, caught_up, is_settled, read_delivery, read_deliveries}
use Rattle.h3_memory.specs.Keeping.{came_of}
use Rattle.h3_memory.specs.SoundKeeping.{CanBeRead, IsSoundKeeping}
use Rattle.h3_memory.proofs.EventsKept.{kept_readable}
use Rattle.h3_memory.proofs.KeptLaws.{KeptLaws}
use Rattle.h3_memory.proofs.Reading.{read_sound}
use Rattle.h3_memory.proofs.ReadsLeave.{one_read, rest_readable, still_there, second_of}
use Rattle.h3_memory.proofs.WorldsWritten.{each_flow}

-- A flow that was given up stays so, and as much of it was handed out.
record StaysGiven (f g : Flow) : Type 0 where
  given : is_some f.fault ≡ true → is_some g.fault ≡ true
  sent : g.sent ≡ f.sent
  parts_out : g.parts_out ≡ f.parts_out

itself : (f : Flow) → StaysGiven f f
itself f = record { given = λ e. e; sent = refl; parts_out = refl }

stays_then : (f g h : Flow) → StaysGiven f g → StaysGiven g h → StaysGiven f h
stays_then f g h first later = record { given = λ e. later.given (first.given e); sent = later.sent ∙ first.sent; parts_out = later.parts_out ∙ first.parts_out }

abbrev AllStay : World → World → Side → Type 0
AllStay w v writer = (i : ℕ) → StaysGiven (flow w writer i) (flow v writer i)

bytes_stay : (setup : Setup) (w : World) (writer : Side) (id count : ℕ) → has_outgoing w writer id ≡ true → AllStay w (delivered setup w writer id count) writer
bytes_stay setup w writer id count there = by_own (is_own writer id) refl
  where
    by_own : (b : Bool) → is_own writer id ≡ b → AllStay w (if b then delivered_own setup w writer id count else delivered_message w writer id count) writer
    by_own true own = λ i. subst (StaysGiven (flow w writer i)) (sym ((streams_after setup w writer id count).flows writer i)) (itself (flow w writer i))
    by_own false off = each_flow StaysGiven itself w writer id (record (flow w writer id) { delivered = (flow w writer id).delivered + count; seen = true }) (open_there w writer id (second_of (is_own writer id) (is_open w writer id) off there)) (record { given = λ e. e; sent = refl; parts_out = refl })

given_stays : (w : World) (writer : Side) (id : ℕ) (fault : StreamFault) → IsThere w id → AllStay w (given_up w (other writer) id fault) writer
given_stays w writer id fault there =
    subst (λ s. AllStay w (with_flow u s id (record (flow w s id) { fault = Some fault; waits_for = 0 })) writer) (sym (other-other writer))
    (λ i. stays_then (flow w writer i) (flow u writer i) (flow (with_flow u writer id g) writer i) (subst (StaysGiven (flow w writer i)) (sym (same i)) (itself (flow w writer i)))
    (each_flow StaysGiven itself u writer id g (there-with_party w (other writer) p id there) (subst (λ f. StaysGiven f g) (sym (same id)) (record { given = λ e. refl; sent = refl; parts_out = refl })) i))
  where
    p : Party
    p = record (party w (other writer)) { own = record (party w (other writer)).own { replies = (party w (other writer)).own.replies ++ CancelStream id ∷ [] } }

    u : World
    u = with_party w (other writer) p

    g : Flow
    g = record (flow w writer id) { fault = Some fault; waits_for = 0 }

    same : (i : ℕ) → flow u writer i ≡ flow w writer i
    same i = flow-with_party w (other writer) writer p i

reset_stays : (w : World) (writer : Side) (id : ℕ) → IsThere w id → AllStay w (delivered_reset w writer id) writer
reset_stays w writer id there = by_fault (is_some (flow w writer id).fault)
  where
    g : Flow
    g = record (flow w writer id) { seen = true; reset_came = true }

    u : World
    u = with_flow w writer id g

    marked : AllStay w u writer
    marked = each_flow StaysGiven itself w writer id g there (record { given = λ e. e; sent = refl; parts_out = refl })

    by_fault : (b : Bool) → AllStay w (if b then u else given_up u (other writer) id (stream_fault.Reset reset_code)) writer
    by_fault true = marked
    by_fault false = λ i. stays_then (flow w writer i) (flow u writer i) (flow (given_up u (other writer) id (stream_fault.Reset reset_code)) writer i) (marked i) (given_stays u writer id (stream_fault.Reset reset_code) (still_there w writer id id g there) i)

one_stays : (setup : Setup) (w : World) (writer : Side) (d : Delivery) (ds : List Delivery) → CanBeRead setup w writer (d ∷ ds) → AllStay w (read_delivery setup w writer d) writer
one_stays setup w writer (Bytes id count) ds may = bytes_stay setup w writer id count may.0
one_stays setup w writer (End id) ds may = each_flow StaysGiven itself w writer id (record (flow w writer id) { seen = true; ended = true }) (open_there w writer id may.0) (record { given = λ e. e; sent = refl; parts_out = refl })
one_stays setup w writer (Reset id) ds may = reset_stays w writer id (open_there w writer id may.0)

all_stay : (q : KeptLaws) (setup : Setup) (w : World) (writer : Side) (ds : List Delivery) → IsSoundWorld setup w → CanBeRead setup w writer ds → AllStay w (read_deliveries setup w writer ds) writer
all_stay q setup w writer [] h may = λ i. itself (flow w writer i)
all_stay q setup w writer (d ∷ ds) h may = λ i.
    let u = read_delivery setup w writer d in
    let one = one_read setup w writer (came_of w writer) (is_closed w writer) d ds may in
    stays_then (flow w writer i) (flow u writer i) (flow (read_deliveries setup u writer ds) writer i) (one_stays setup w writer d ds may i)
    (all_stay q setup u writer ds (read_sound q setup w writer d ds h may) (rest_readable setup w u writer d ds one may) i)

-- what is not settled was neither given up nor handed out whole
record LooksOn (f : Flow) : Type 0 where
  goes : f.fault ≡ None
  more : is_over f ≡ false

unsettled : (w : World) (side : Side) (id : ℕ) → settled w side id ≡ None → LooksOn (flow w (other side) id)
unsettled w side id e = by_tests (id % 4 == control_id (other side)) (is_request_stream id) (is_open w side id) (flow w (other side) id).fault refl (is_over (flow w (other side) id)) refl e
  where
    by_tests : (a b c : Bool) (o : Option StreamFault) → (flow w (other side) id).fault ≡ o → (d : Bool) → is_over (flow w (other side) id) ≡ d
        → (if a then Some (pull_unidirectional w (other side) id) else (if not b then Some pull.NoMessages else (if not c then Some (pull_unopened side) else fault_or o (if d then Some (pull.Item item.End) else None)))) ≡ None → LooksOn (flow w (other side) id)
    by_tests true b c o x d y k = absurd (cc)
    by_tests false false c o x d y k = absurd (cc)
    by_tests false true false o x d y k = absurd (cc)
    by_tests false true true (Some fault) x d y k = absurd (cc)
    by_tests false true true None x true y k = absurd (cc)
    by_tests false true true None x false y k = record { goes = x; more = y }

either : (a b : Bool) → (a || b) ≡ true → (a ≡ true) ⊎ (b ≡ true)
either true b e = inl refl
either false b e = inr e

differ : (b : Bool) → b ≡ true → b ≡ false → ⊥
differ true e f = cc
differ false e f = cc

-- **So it is told the same.**
pub settled_stays : (q : KeptLaws) (setup : Setup) (k : KeepingWorld) (side : Side) (id : ℕ) → IsSoundKeeping setup k → is_settled k.world side id ≡ true → settled (caught_up setup k side) side id ≡ None → ⊥
settled_stays q setup k side id h is unsettled_is = by_either (either (is_some f.fault) (is_over f) is)
  where
    u : World
    u = caught_up setup k side

    f : Flow
    f = flow k.world (other side) id

    g : Flow
    g = flow u (other side) id

    looks : LooksOn g
    looks = unsettled u side id unsettled_is

    may : CanBeRead setup k.world (other side) (kept_at k side)
    may = kept_readable setup k side h

    stays : StaysGiven f g
    stays = all_stay q setup k.world (other side) (kept_at k side) h.sound may id

    same_over : is_over g ≡ is_over f
    same_over = ap (λ n. is_over (record g { parts_out = n })) stays.parts_out ∙ ap (λ l. is_over (record f { sent = l })) stays.sent

    by_either : (is_some f.fault ≡ true) ⊎ (is_over f ≡ true) → ⊥
    by_either (inl e) = differ (is_some g.fault) (stays.given e) (ap is_some looks.goes)
    by_either (inr e) = differ (is_over g) (same_over ∙ e) looks.more

-- and in the world itself
pub settled_here : (w : World) (side : Side) (id : ℕ) → is_settled w side id ≡ true → settled w side id ≡ None → ⊥
settled_here w side id is unsettled_is = by_either (either (is_some f.fault) (is_over f) is)
  where
    f : Flow
    f = flow w (other side) id

    looks : LooksOn f
    looks = unsettled w side id unsettled_is

    by_either : (is_some f.fault ≡ true) ⊎ (is_over f ≡ true) → ⊥
    by_either (inl e) = differ (is_some f.fault) e (ap is_some looks.goes)
    by_either (inr e) = differ (is_over f) e looks.more
