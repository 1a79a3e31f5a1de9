-- What is read, and what a side inserts, changes no message: no part is sent, and none is handed out.
use Rattle.std.proofs.Common.{◌≡◌, ℕ, ◌+◌, Bool, true, false, List, [], ◌∷◌, refl, ◌∙◌, if◌then◌else◌}
use Rattle.std.specs.Prelude.{is_some}
use Rattle.h3_field.specs.Field.{Field}
use Rattle.h3_proto.specs.declared.stream.Side.{Side}
use Rattle.h3_connection.specs.OwnIds.{other, is_own}
use Rattle.h3_connection.specs.declared.event.StreamFault.TheVariants as stream_fault
use Rattle.h3_world.specs.Setup.{Setup}
use Rattle.h3_world.specs.Delivering.{delivered, delivered_own, delivered_message, delivered_reset, is_closed, reset_code}
use Rattle.h3_world.specs.Flow.{Flow}
use Rattle.h3_world.specs.Refused.{having_inserted_for, held_back, with_insertions, with_replies_held}
use Rattle.h3_world.specs.Sending.{given_up}
use Rattle.h3_world.specs.Sound.{IsSoundWorld}
use Rattle.h3_world.specs.Streams.{flow, with_flow, is_open, has_outgoing}
use Rattle.h3_world.specs.World.{World, party}
use Rattle.h3_headline.specs.Contents.{KeepsParts}
use Rattle.h3_headline.specs.FlowLaws.{open_there}
use Rattle.h3_headline.specs.KeepsPartsLaws.{keeps_same, keeps_flows, keeps_with_party, keeps_with_flow, keeps_given_up}
use Rattle.h3_headline.specs.OwnWorldLaws.{streams_after}
use Rattle.h3_headline.specs.Steps.{IsThere}
use Rattle.h3_memory.specs.Kept.{Delivery, Bytes, End, Reset, ReadsPart, noticed, noticed_all, read_delivery, read_deliveries, stream_of}
use Rattle.h3_memory.specs.Kept.ReadsPart.{Stops, Reads, Cuts, HoldsBack}
use Rattle.h3_memory.specs.Keeping.{MayAllBeRead, came_of}
use Rattle.h3_memory.specs.SoundKeeping.{CanBeRead}
use Rattle.h3_memory.proofs.Growing.{may_grow}
use Rattle.h3_memory.proofs.KeptLaws.{KeptLaws}
use Rattle.h3_memory.proofs.MemoryKept.{first_goes, notices}
use Rattle.h3_memory.proofs.Offered.{closed_before}
use Rattle.h3_memory.proofs.OwnReads.{came_after, closed_after}
use Rattle.h3_memory.proofs.ReadAll.{held_readable, part_read, two_readable}
use Rattle.h3_memory.proofs.Reading.{read_sound}
use Rattle.h3_memory.proofs.ReadsLeave.{one_read, rest_of, rest_readable, still_there, second_of}
use Rattle.h3_memory.proofs.Written.{leaves_at}

pub keeps_then : (w mid new : World) → KeepsParts w mid → KeepsParts mid new → KeepsParts w new
keeps_then w mid new first later writer id =
    let a = first writer id in
    let b = later writer id in
    record { sent = b.sent ∙ a.sent; parts_out = b.parts_out ∙ a.parts_out; body_out = b.body_out ∙ a.body_out }

bytes_keep : (setup : Setup) (w : World) (writer : Side) (id count : ℕ) → has_outgoing w writer id ≡ true → KeepsParts w (delivered setup w writer id count)
bytes_keep setup w writer id count there = by_own (is_own writer id) refl
  where
    by_own : (b : Bool) → is_own writer id ≡ b → KeepsParts w (if b then delivered_own setup w writer id count else delivered_message w writer id count)
    by_own true own = keeps_flows w (delivered_own setup w writer id count) (λ s i. (streams_after setup w writer id count).flows s i)
    by_own false off =
        keeps_with_flow w writer id (record (flow w writer id) { delivered = (flow w writer id).delivered + count; seen = true }) (open_there w writer id (second_of (is_own writer id) (is_open w writer id) off there))
        (record { sent = refl; parts_out = refl; body_out = refl })

reset_keeps : (w : World) (writer : Side) (id : ℕ) → IsThere w id → KeepsParts w (delivered_reset w writer id)
reset_keeps w writer id there = by_fault (is_some (flow w writer id).fault)
  where
    g : Flow
    g = record (flow w writer id) { seen = true; reset_came = true }

    u : World
    u = with_flow w writer id g

    marked : KeepsParts w u
    marked = keeps_with_flow w writer id g there (record { sent = refl; parts_out = refl; body_out = refl })

    by_fault : (b : Bool) → KeepsParts w (if b then u else given_up u (other writer) id (stream_fault.Reset reset_code))
    by_fault true = marked
    by_fault false = keeps_then w u (given_up u (other writer) id (stream_fault.Reset reset_code)) marked (keeps_given_up u (other writer) id (stream_fault.Reset reset_code) (still_there w writer id id g there))

one_keeps : (setup : Setup) (w : World) (writer : Side) (d : Delivery) (ds : List Delivery) → CanBeRead setup w writer (d ∷ ds) → KeepsParts w (read_delivery setup w writer d)
one_keeps setup w writer (Bytes id count) ds may = bytes_keep setup w writer id count may.0
one_keeps setup w writer (End id) ds may =
    keeps_with_flow w writer id (record (flow w writer id) { seen = true; ended = true }) (open_there w writer id may.0) (record { sent = refl; parts_out = refl; body_out = refl })
one_keeps setup w writer (Reset id) ds may = reset_keeps w writer id (open_there w writer id may.0)

-- **All that is kept is read.**
pub all_keep : (q : KeptLaws) (setup : Setup) (w : World) (writer : Side) (ds : List Delivery) → IsSoundWorld setup w → CanBeRead setup w writer ds → KeepsParts w (read_deliveries setup w writer ds)
all_keep q setup w writer [] h may = keeps_same w
all_keep q setup w writer (d ∷ ds) h may =
    let u = read_delivery setup w writer d in
    let one = one_read setup w writer (came_of w writer) (is_closed w writer) d ds may in
    keeps_then w u (read_deliveries setup u writer ds) (one_keeps setup w writer d ds may) (all_keep q setup u writer ds (read_sound q setup w writer d ds h may) (rest_readable setup w u writer d ds one may))

-- **A part of it is read.**
pub part_keeps : (q : KeptLaws) (setup : Setup) (writer : Side) {w v : World} {ds left : List Delivery} → ReadsPart setup writer w ds v left → IsSoundWorld setup w → CanBeRead setup w writer ds → KeepsParts w v
part_keeps q setup writer {w = w} Stops h may = keeps_same w
part_keeps q setup writer {w = w} {v = v} (Reads d {ds = ds} rest) h may =
    let u = read_delivery setup w writer d in
    let one = one_read setup w writer (came_of w writer) (is_closed w writer) d ds may in
    keeps_then w u v (one_keeps setup w writer d ds may) (part_keeps q setup writer rest (read_sound q setup w writer d ds h may) (rest_readable setup w u writer d ds one may))
part_keeps q setup writer {w = w} (Cuts id first second {ds = ds} rest) h may = part_keeps q setup writer rest h (two_readable setup w writer id first second ds may)
part_keeps q setup writer {w = w} {v = v} (HoldsBack count {ds = ds} unknown rest) h may =
    keeps_then w (held_back w writer) v (keeps_with_party w writer (with_replies_held (party w writer)))
    (part_keeps q setup writer rest (q.held setup w writer unknown h) (held_readable setup w writer count ds h may))

-- Something came on an open stream.
pub notice_keeps : (w : World) (writer : Side) (id : ℕ) → has_outgoing w writer id ≡ true → KeepsParts w (noticed w writer id)
notice_keeps w writer id there = by_own (is_own writer id) refl
  where
    g : Flow
    g = record (flow w writer id) { seen = true }

    by_own : (b : Bool) → is_own writer id ≡ b → KeepsParts w (if b then w else with_flow w writer id g)
    by_own true own = keeps_same w
    by_own false off = keeps_with_flow w writer id g (open_there w writer id (second_of (is_own writer id) (is_open w writer id) off there)) (record { sent = refl; parts_out = refl; body_out = refl })

-- So is each of which something is left.
pub notice_all_keeps : (q : KeptLaws) (setup : Setup) (w : World) (writer : Side) (came : ℕ → ℕ) (shut : ℕ → Bool) (ds : List Delivery) → IsSoundWorld setup w → ((i : ℕ) → shut i ≡ false → is_closed w writer i ≡ false) → MayAllBeRead setup w writer came shut ds
    → KeepsParts w (noticed_all w writer ds)
notice_all_keeps q setup w writer came shut [] h before may = keeps_same w
notice_all_keeps q setup w writer came shut (d ∷ ds) h before may =
    let id = stream_of d in
    let v = noticed w writer id in
    let go = first_goes setup w writer came shut d ds may in
    let n = notices q setup w writer id h go.0 (before id go.1) in
    let on = leaves_at setup w v writer n.leaves in
    keeps_then w v (noticed_all v writer ds) (notice_keeps w writer id go.0)
    (notice_all_keeps q setup v writer (came_after came d) (closed_after shut d) ds n.sound (λ i e. on.closed i ∙ before i (closed_before shut (d ∷ []) i e))
    (may_grow setup w v writer (came_after came d) (came_after came d) (closed_after shut d) (closed_after shut d) ds on.writes (λ i. refl) (λ i. refl) (rest_of setup w writer came shut d ds may)))

-- **A part is read, and what is left is noticed.**
pub part_noticed : (q : KeptLaws) (setup : Setup) (writer : Side) (w mid : World) (ds left : List Delivery) → IsSoundWorld setup w → CanBeRead setup w writer ds → ReadsPart setup writer w ds mid left → KeepsParts w (noticed_all mid writer left)
part_noticed q setup writer w mid ds left h may read =
    let some = part_read q setup writer read h may in
    keeps_then w mid (noticed_all mid writer left) (part_keeps q setup writer read h may) (notice_all_keeps q setup mid writer (came_of mid writer) (is_closed mid writer) left some.sound (λ i e. e) some.may)

-- A section was cut off.
pub insertions_keep : (w : World) (side : Side) (id : ℕ) (fields : List Field) → KeepsParts w (with_insertions w side id fields)
insertions_keep w side id fields = keeps_with_party w side (having_inserted_for (party w side) id fields)
