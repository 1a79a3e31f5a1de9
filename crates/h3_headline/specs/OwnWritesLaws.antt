-- After a delivery on an own stream, what both sides wrote is still what writers take, and the sections that were sent are as before.
use Rattle.std.proofs.Common.{◌+◌, List, [], ◌∷◌, ◌++◌, ℕ, zero, suc, ◌-◌, ◌≤◌, nat_lt, Bool, true, false, if◌then◌else◌, length, arith, ◌*◌, ◌^◌, ◌<◌, ◌≡◌, refl, min, not, ◌&&◌, take, drop, sym, subst}
use Rattle.std.specs.List.{AllByRecursion}
use Rattle.std.specs.Prelude.{◌/◌, ◌%◌, ◌==◌}
use Rattle.h3_field.specs.Integer.{groups, ones, prefixed}
use Rattle.h3_field.specs.Instruction.EncoderInstruction.{SetCapacity}
use Rattle.h3_qpack.specs.Encodings.{IsWrittenInstruction}
use Rattle.h3_proto.specs.declared.stream.Side.{Side}
use Rattle.h3_connection.specs.Endpoint.{Own, first_decoder}
use Rattle.h3_connection.specs.OwnIds.{control_id, encoder_id, decoder_id, other}
use Rattle.h3_connection.specs.Sending.{own_advanced}
use Rattle.h3_qpack.specs.WholeInstructions.{insertions_in, whole_in}
use Rattle.h3_field.specs.Instruction.DecoderInstruction.{Increment}
use Rattle.h3_field.specs.InstructionAnswer.{IsReply}
use Rattle.h3_connection.specs.Control.{increment}
use Rattle.h3_field.specs.Instruction.{DecoderInstruction, encoder_bytes}
use Rattle.h3_qpack.specs.EncoderHistory.{using_table}
use Rattle.h3_connection.specs.declared.setup.Limits.{Limits}
use Rattle.h3_world.specs.Delivering.{having_learned, delivered_own}
use Rattle.h3_world.specs.Setup.{Setup, has_table, IsMadeSetup, announced_at}
use Rattle.h3_world.specs.World.{Party, World, party}
use Rattle.h3_world.specs.Sound.{IsSoundWorld}
use Rattle.h3_headline.specs.AcceptedLaws.{counts_all}
use Rattle.h3_headline.specs.AnnouncedLaws.{announces_at}
use Rattle.h3_headline.specs.Cited.{StreamLaws}
use Rattle.h3_headline.specs.EncoderStreamLaws.{least_right}
use Rattle.h3_headline.specs.OwnOverLaws.{reads_all}
use Rattle.h3_headline.specs.OwnStreams.{SameStreams, advanced_by, further_own, insertions_of, listened, read_of}
use Rattle.h3_headline.specs.OwnWorldLaws.{reader_after, writer_after}
use Rattle.h3_headline.specs.Standing.{AreReadable, IsReadable, IsWritable, are_settings_there}

all_join : {X : Type 0} (P : X → Type 0) (xs ys : List X) → AllByRecursion P xs → AllByRecursion P ys → AllByRecursion P (xs ++ ys)
all_join P [] ys h k = k
all_join P (x ∷ xs) ys h k = (h.0, all_join P xs ys h.1 k)

-- an integer is no longer than its groups
length-groups : (most n : ℕ) → length (groups most n) ≤ most
length-groups zero n = omega arith
length-groups (suc most) n = by_test (nat_lt n 128) (length-groups most (n / 128))
  where
    by_test : (b : Bool) → length (groups most (n / 128)) ≤ most → length (if b then n ∷ [] else (128 + n % 128) ∷ groups most (n / 128)) ≤ suc most
    by_test true h = omega arith
    by_test false h = omega (arith, h)

length-prefixed : (size flags n : ℕ) → length (prefixed size flags n) ≤ 10
length-prefixed size flags n = by_test (nat_lt n (ones size))
  where
    by_test : (b : Bool) → length (if b then (flags * 2 ^ size + n) ∷ [] else (flags * 2 ^ size + ones size) ∷ groups 9 (n - ones size)) ≤ 10
    by_test true = omega arith
    by_test false = omega (arith, length-groups 9 (n - ones size))

capacity_written : (capacity : ℕ) → capacity < 2 ^ 30 → IsWrittenInstruction (SetCapacity capacity)
capacity_written capacity h = (omega (arith, h), tt, omega (arith, length-prefixed 5 1 capacity))

-- a side whose stream got further
further_writable : (side : Side) (own : Own) (id count : ℕ) → IsWritable side own → IsWritable side (own_advanced own side id count)
further_writable side own id count h = by_test (id == control_id side) (id == encoder_id side) (id == decoder_id side)
  where
    by_test : (a b c : Bool)
        → IsWritable side (if a then record own { control_taken = own.control_taken + count } else (
        if b then record own { encoder_taken = own.encoder_taken + count } else (
        if c then record own { decoder_taken = own.decoder_taken + count } else own)))
    by_test true b c = record { goaways = h.goaways; instructions = h.instructions; replies = h.replies; updates = h.updates }
    by_test false true c = record { goaways = h.goaways; instructions = h.instructions; replies = h.replies; updates = h.updates }
    by_test false false true = record { goaways = h.goaways; instructions = h.instructions; replies = h.replies; updates = h.updates }
    by_test false false false = h

further_insertions : (side : Side) (own : Own) (id count : ℕ) → insertions_of (own_advanced own side id count) ≡ insertions_in ((own_advanced own side id count).encoder_taken - 1) own.instructions
further_insertions side own id count = by_test (id == control_id side) (id == encoder_id side) (id == decoder_id side)
  where
    by_test : (a b c : Bool) → insertions_of (advanced_by own count a b c) ≡ insertions_in ((advanced_by own count a b c).encoder_taken - 1) own.instructions
    by_test true b c = refl
    by_test false true c = refl
    by_test false false true = refl
    by_test false false false = refl

-- a side that learns limits and says an increment
increment_is_reply : (n : ℕ) → n < 2 ^ 62 → AllByRecursion IsReply (increment n)
increment_is_reply n h = by_test (n == 0)
  where
    by_test : (b : Bool) → AllByRecursion IsReply (if b then [] else Increment n ∷ [])
    by_test true = tt
    by_test false = (h, tt)

pub saying_writable : (side : Side) (own : Own) (more : List DecoderInstruction) → IsWritable side own → AllByRecursion IsReply more → IsWritable side (record own { replies = own.replies ++ more })
saying_writable side own more h k = record { goaways = h.goaways; instructions = h.instructions; replies = all_join IsReply own.replies more h.replies k; updates = h.updates }

learned_writable : (side : Side) (limits : Limits) (p : Party) (learns : Bool) → limits.table < 2 ^ 30 → IsWritable side p.own → IsWritable side (if learns then having_learned p limits else p).own
learned_writable side limits p false low h = h
learned_writable side limits p true low h = by_table (has_table p.encoder.most_capacity limits)
  where
    by_table : (b : Bool)
        → IsWritable side (if b then record { own = record p.own { instructions = p.own.instructions ++ SetCapacity (min p.encoder.most_capacity limits.table) ∷ [] }; encoder = using_table p.encoder limits.table limits.blocked } else p).own
    by_table true = record { goaways = h.goaways; instructions = all_join IsWrittenInstruction p.own.instructions (SetCapacity (min p.encoder.most_capacity limits.table) ∷ []) h.instructions (capacity_written (min p.encoder.most_capacity limits.table) (omega (arith, low, least_right p.encoder.most_capacity limits.table)), tt); replies = h.replies; updates = h.updates }
    by_table false = h

listened_writable : (side : Side) (knew knows : Bool) (limits : Limits) (p : Party) (more : ℕ) (is : List DecoderInstruction) → limits.table < 2 ^ 30 → more < 2 ^ 62 → IsWritable side p.own → IsWritable side (listened knew knows limits p more is).own
listened_writable side knew knows limits p more is low small h =
    saying_writable side (if not knew && knows then having_learned p limits else p).own (increment more) (learned_writable side limits p (not knew && knows) low h) (increment_is_reply more small)

-- **Both sides after the delivery.**
pub reader_writable : (laws : StreamLaws) (setup : Setup) (w : World) (side : Side) (id count : ℕ) → IsMadeSetup setup → IsSoundWorld setup w → IsWritable side (party w side).own
    → IsWritable side (party (delivered_own setup w (other side) id count) side).own
reader_writable laws setup w side id count made sound h =
    let own = (party w (other side)).own in
    let further = further_own w side id count in
    let n = further.encoder_taken - 1 in
    let after = reads_all laws setup w side n made sound in
    let c = counts_all (first_decoder (announced_at setup side)) after.decoder (take (whole_in encoder_bytes n own.instructions) own.instructions) after.reads in
    let sum = c.sum in
    let bound = c.bound (omega arith) in
    let all : insertions_of further ≡ insertions_in n own.instructions = further_insertions (other side) own id count in
    let small : insertions_of further - insertions_of own < 2 ^ 62 = omega (arith, sum, bound, all) in
    let limits = (announced_at setup (other side)).limits in
    let made_limits = announces_at setup (other side) made in
    subst (λ (p : Party). IsWritable side p.own) (sym (reader_after setup w side id count))
    (listened_writable side (are_settings_there setup (other side) own.control_taken) (are_settings_there setup (other side) further.control_taken) limits (party w side) (insertions_of further - insertions_of own)
    (drop (length (read_of setup (other side) own)) (read_of setup (other side) further)) made_limits.low small h)

pub writer_writable : (setup : Setup) (w : World) (side : Side) (id count : ℕ) → IsWritable (other side) (party w (other side)).own → IsWritable (other side) (party (delivered_own setup w (other side) id count) (other side)).own
writer_writable setup w side id count h =
    subst (λ (p : Party). IsWritable (other side) p.own) (sym (writer_after setup w side id count)) (further_writable (other side) (party w (other side)).own id count h)

-- what was sent on request streams
pub readable_same : (setup : Setup) (w v : World) (side : Side) → SameStreams w v → AreReadable setup w side → AreReadable setup v side
readable_same setup w v side same h id = subst (λ f. AllByRecursion (IsReadable setup (other side)) f.sent) (sym (same.flows side id)) (h id)
