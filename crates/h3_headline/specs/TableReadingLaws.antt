-- The table that a side's decoder holds, and what its encoder reads, in a sound world.
use Rattle.std.proofs.Common.{◌≡◌, ℕ, suc, ◌-◌, ◌≤◌, nat_le, Bool, true, false, List, [], ◌∷◌, length, refl, sym, ap, ◌∙◌, subst, arith, Some}
use Rattle.std.specs.Prelude.{take, drop, if◌then◌else◌}
use Rattle.std.proofs.lemmas.List.{take-append-drop}
use Rattle.h3_field.specs.Field.{Field, section_size}
use Rattle.h3_field.specs.Instruction.{encoder_bytes}
use Rattle.h3_qpack.specs.DecoderState.{decoder_after_all}
use Rattle.h3_qpack.specs.EncoderHistory.{EncoderHistory}
use Rattle.h3_qpack.specs.Instructions.{AreAccepted}
use Rattle.h3_table.specs.Table.{table, evictions}
use Rattle.h3_qpack.specs.WholeInstructions.{whole_in}
use Rattle.h3_proto.specs.declared.stream.Side.{Side}
use Rattle.h3_connection.specs.Endpoint.{first_decoder}
use Rattle.h3_connection.specs.OwnIds.{other}
use Rattle.h3_world.specs.Came.{insertions_came, instructions_came}
use Rattle.h3_world.specs.Following.{replies_left}
use Rattle.h3_world.specs.Setup.{IsMadeSetup, Setup, announced_at}
use Rattle.h3_world.specs.Sound.{IsSoundWorld}
use Rattle.h3_world.specs.World.{World, party}
use Rattle.h3_headline.specs.AcceptedLaws.{accepted_front, replies_accepted}
use Rattle.h3_headline.specs.Cited.{StreamLaws}
use Rattle.h3_headline.specs.EncoderStreamLaws.{instructions_read}
use Rattle.h3_headline.specs.FlowLaws.{other-other}
use Rattle.h3_headline.specs.OwnOverLaws.{party_sound}
use Rattle.h3_headline.specs.SessionDecoderLaws.{decoder_is_at}
use Rattle.h3_headline.specs.TableReading.{HasReadTable}
use Rattle.h3_headline.specs.UnitLaws.{whole_within}

table_short : (capacity : ℕ) (fs : List Field) → length (table capacity fs) ≤ length fs
table_short capacity [] = omega arith
table_short capacity (f ∷ fs) = by_test (table_short capacity fs) (nat_le (section_size (f ∷ fs)) capacity)
  where
    by_test : length (table capacity fs) ≤ length fs → (b : Bool) → length (if b then f ∷ fs else table capacity fs) ≤ length (f ∷ fs)
    by_test short true = omega arith
    by_test short false = omega (arith, short)

-- the table is what is left of the insertions
table_end : (capacity : ℕ) (fs : List Field) → drop (evictions capacity fs) fs ≡ table capacity fs
table_end capacity [] = refl
table_end capacity (f ∷ fs) = by_test (table_end capacity fs) (nat_le (section_size (f ∷ fs)) capacity)
  where
    none : (n : ℕ) → n - n ≡ 0
    none n = omega arith

    one_more : (n k : ℕ) → k ≤ n → suc n - k ≡ suc (n - k)
    one_more n k h = omega (arith, h)

    by_test : drop (evictions capacity fs) fs ≡ table capacity fs → (b : Bool) → drop (length (f ∷ fs) - length (if b then f ∷ fs else table capacity fs)) (f ∷ fs) ≡ (if b then f ∷ fs else table capacity fs)
    by_test later true = ap (λ n. drop n (f ∷ fs)) (none (length (f ∷ fs)))
    by_test later false = ap (λ n. drop n (f ∷ fs)) (one_more (length fs) (length (table capacity fs)) (table_short capacity fs)) ∙ later

pub table_read : (laws : StreamLaws) (setup : Setup) (w : World) (side : Side) → IsMadeSetup setup → IsSoundWorld setup w → HasReadTable setup w side
table_read laws setup w side made h =
    let writer = other side in
    let sound = party_sound setup w writer h in
    let k = whole_in encoder_bytes ((party w writer).own.encoder_taken - 1) (party w writer).own.instructions in
    let r = instructions_read laws setup w writer k made sound (whole_within encoder_bytes ((party w writer).own.encoder_taken - 1) (party w writer).own.instructions) in
    let at = decoder_is_at laws setup w writer r.decoder made sound r.reads in
    let s = sound.session.session in
    let follows = sound.session.follows in
    record {
      decoder = r.decoder;
      reads = subst (λ x. decoder_after_all (Some (first_decoder (announced_at setup x))) (instructions_came (party w writer)) ≡ Some r.decoder) (other-other side) r.reads;
      entries =
          at.entries ∙ table_end s.encoder.capacity (take s.received s.encoder.inserted)
          ∙ ap (λ n. table s.encoder.capacity (take n s.encoder.inserted)) follows.received
          ∙ ap (λ (e : EncoderHistory). table e.capacity (take (insertions_came (party w writer)) e.inserted)) follows.encoder;
    }

pub replies_taken : (laws : StreamLaws) (setup : Setup) (w : World) (side : Side) (n : ℕ) → IsSoundWorld setup w → AreAccepted (party w side).encoder (take n (replies_left setup w side))
replies_taken laws setup w side n h =
    let left = replies_left setup w side in
    accepted_front (party w side).encoder (take n left) (drop n left)
    (subst (AreAccepted (party w side).encoder) (sym (take-append-drop n left)) (replies_accepted laws setup w side (party_sound setup w side h).session))
