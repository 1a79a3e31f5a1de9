-- What a side wrote, and what its encoder goes by, stay sound.
use Rattle.std.proofs.Common.{◌≡◌, inl, ℕ, ◌+◌, ◌-◌, ◌≤◌, Bool, true, false, List, [], ◌∷◌, ◌++◌, length, min, sym, ap, ◌∙◌, subst, arith, length-append, if◌then◌else◌}
use Rattle.std.specs.Prelude.{flat_map, ◌==◌}
use Rattle.std.proofs.lemmas.Grind.{common_steps, flat_map-append}
use Rattle.h3_coding.specs.Encodings.{encoding}
use Rattle.h3_field.specs.Field.{Field}
use Rattle.h3_field.specs.Instruction.{encoder_bytes, DecoderInstruction, decoder_bytes}
use Rattle.h3_field.specs.Instruction.EncoderInstruction.{SetCapacity}
use Rattle.h3_qpack.specs.EncoderHistory.{encoder_after_all}
use Rattle.h3_proto.specs.declared.stream.Side.{Side}
use Rattle.h3_connection.specs.Endpoint.{goaway_encoding}
use Rattle.h3_connection.specs.OwnIds.{control_id, encoder_id, decoder_id}
use Rattle.h3_connection.specs.Sections.{own_instructions}
use Rattle.h3_connection.specs.declared.setup.Limits.{Limits}
use Rattle.h3_world.specs.Setup.{Setup, announced_at, has_table}
use Rattle.h3_world.specs.World.{Party}
use Rattle.h3_world.specs.OwnStreams.{settings_bytes, control_stream, encoder_stream, decoder_stream}
use Rattle.h3_world.specs.Sending.{having_encoded}
use Rattle.h3_world.specs.Delivering.{further, having_learned}
use Rattle.h3_world.specs.Following.{limits_for}
use Rattle.h3_world.specs.Sound.{IsSoundWriter}
use Rattle.h3_world.proofs.QpackLaws.{QpackLaws}
use Rattle.h3_world.proofs.Capacity.{all_read_same, capacity_sent, capacity_read}
use Rattle.h3_world.proofs.HandedOut.{writing}
use Rattle.h3_world.proofs.Listened.{tabled, listens}

pub bytes_longer : {X : Type 0} (bytes_of : X → List ℕ) (front : List ℕ) (xs more : List X) → length (front ++ flat_map bytes_of xs) ≤ length (front ++ flat_map bytes_of (xs ++ more))
bytes_longer bytes_of front xs more =
    omega (
      arith,
      length-append front (flat_map bytes_of xs),
      length-append front (flat_map bytes_of (xs ++ more)),
      ap length (flat_map-append bytes_of xs more),
      length-append (flat_map bytes_of xs) (flat_map bytes_of more),
    )

pub writer_as : (setup : Setup) (side : Side) (p q : Party) (knew knows : Bool) → q ≡ p → knows ≡ knew → IsSoundWriter setup side p knew → IsSoundWriter setup side q knows
writer_as setup side p q knew knows same k h = subst (λ x. IsSoundWriter setup side x knows) (sym same) (subst (λ b. IsSoundWriter setup side p b) (sym k) h)

-- its decoder writes more
pub writer_replies : (setup : Setup) (side : Side) (p : Party) (knows : Bool) (more : List DecoderInstruction) → IsSoundWriter setup side p knows → IsSoundWriter setup side (writing p more) knows
writer_replies setup side p knows more h =
    record {
      control = h.control;
      encoder = h.encoder;
      decoder = omega (arith, h.decoder, bytes_longer decoder_bytes (encoding 3) p.own.replies more);
      unknown = h.unknown;
      limit = h.limit;
      capacity = h.capacity;
    }

-- its encoder writes a section
pub writer_encoded : QpackLaws → (setup : Setup) (side : Side) (p : Party) (knows : Bool) (id : ℕ) (fields : List Field) → IsSoundWriter setup side p knows
    → IsSoundWriter setup side (having_encoded p id fields) knows
writer_encoded laws setup side p knows id fields h =
    record {
      control = h.control;
      encoder = omega (arith, h.encoder, bytes_longer encoder_bytes (encoding 2) p.own.instructions (own_instructions p.encoder id fields));
      decoder = h.decoder;
      unknown = λ e.
          let u = h.unknown e in
          (u.0, laws.still_empty p.encoder id fields u.0 u.1, ap (λ is. is ++ own_instructions p.encoder id fields) u.2 ∙ laws.inserts_none p.encoder id fields u.0 u.1);
      limit = h.limit;
      capacity = capacity_sent laws (limits_for setup side).table p.encoder id fields h.capacity;
    }

-- one more GOAWAY
abbrev pub announcing : Party → ℕ → Party
announcing p id = record p { own = record p.own { goaways = p.own.goaways ++ id ∷ [] } }

pub writer_goaway : (setup : Setup) (side : Side) (p : Party) (knows : Bool) (id : ℕ) → IsSoundWriter setup side p knows → IsSoundWriter setup side (announcing p id) knows
writer_goaway setup side p knows id h =
    record {
      control = omega (arith, h.control, bytes_longer goaway_encoding (settings_bytes (announced_at setup side)) p.own.goaways (id ∷ []));
      encoder = h.encoder;
      decoder = h.decoder;
      unknown = h.unknown;
      limit = h.limit;
      capacity = h.capacity;
    }

-- how many bytes wait on an own stream
abbrev pub own_waits : Setup → Side → Party → ℕ → ℕ
own_waits setup side p id =
    if id == control_id side then length (control_stream (announced_at setup side) p) - p.own.control_taken else (
    if id == encoder_id side then length (encoder_stream p) - p.own.encoder_taken else (
    if id == decoder_id side then length (decoder_stream p) - p.own.decoder_taken else 0))

-- more of an own stream is delivered
pub writer_further : (setup : Setup) (side : Side) (p : Party) (knew knows : Bool) (id count : ℕ) → count ≤ own_waits setup side p id → knows ≡ knew → IsSoundWriter setup side p knew
    → IsSoundWriter setup side (further p side id count) knows
writer_further setup side p knew knows id count fits same old = by_test (id == control_id side) (id == encoder_id side) (id == decoder_id side) fits
  where
    h : IsSoundWriter setup side p knows
    h = subst (λ b. IsSoundWriter setup side p b) (sym same) old

    by_test : (a b c : Bool)
        → count ≤ (if a then length (control_stream (announced_at setup side) p) - p.own.control_taken else (
        if b then length (encoder_stream p) - p.own.encoder_taken else (
        if c then length (decoder_stream p) - p.own.decoder_taken else 0)))
        → IsSoundWriter setup side (record p {
          own =
              if a then record p.own { control_taken = p.own.control_taken + count } else (
              if b then record p.own { encoder_taken = p.own.encoder_taken + count } else (
              if c then record p.own { decoder_taken = p.own.decoder_taken + count } else p.own));
        }) knows
    by_test true b c k = record { control = omega (arith, k, h.control); encoder = h.encoder; decoder = h.decoder; unknown = h.unknown; limit = h.limit; capacity = h.capacity }
    by_test false true c k = record { control = h.control; encoder = omega (arith, k, h.encoder); decoder = h.decoder; unknown = h.unknown; limit = h.limit; capacity = h.capacity }
    by_test false false true k = record { control = h.control; encoder = h.encoder; decoder = omega (arith, k, h.decoder); unknown = h.unknown; limit = h.limit; capacity = h.capacity }
    by_test false false false k = record { control = h.control; encoder = h.encoder; decoder = h.decoder; unknown = h.unknown; limit = h.limit; capacity = h.capacity }

-- its encoder reads, and its decoder writes more, where it learns nothing
pub writer_listens : (setup : Setup) (side : Side) (p : Party) (knew knows : Bool) (is more : List DecoderInstruction) → (knows ≡ false → knew ≡ false) → IsSoundWriter setup side p knew
    → IsSoundWriter setup side (listens p is more) knows
writer_listens setup side p knew knows is more before h =
    let same = all_read_same p.encoder is in
    record {
      control = h.control;
      encoder = h.encoder;
      decoder = omega (arith, h.decoder, bytes_longer decoder_bytes (encoding 3) p.own.replies more);
      unknown = λ e.
          let u = h.unknown (before e) in
          ((same.limit ∙ u.0.0, same.capacity ∙ u.0.1), same.inserted ∙ u.1, u.2);
      limit = omega (arith, h.limit, same.limit);
      capacity = capacity_read (limits_for setup side).table p.encoder (encoder_after_all p.encoder is) same h.capacity;
    }

pub no_way : true ≡ false → ⊥
no_way h = grind (arith, common_steps, h)

-- it learns the limits of its peer
pub writer_learned : (setup : Setup) (side : Side) (p : Party) (limits : Limits) → limits ≡ limits_for setup side → IsSoundWriter setup side p false → IsSoundWriter setup side (having_learned p limits) true
writer_learned setup side p limits same h = by_test (has_table p.encoder.most_capacity limits)
  where
    by_test : (b : Bool) → IsSoundWriter setup side (if b then tabled p limits else p) true
    by_test false = record { control = h.control; encoder = h.encoder; decoder = h.decoder; unknown = λ e. absurd (no_way e); limit = h.limit; capacity = h.capacity }
    by_test true =
        record {
          control = h.control;
          encoder = omega (arith, h.encoder, bytes_longer encoder_bytes (encoding 2) p.own.instructions (SetCapacity (min p.encoder.most_capacity limits.table) ∷ []));
          decoder = h.decoder;
          unknown = λ e. absurd (no_way e);
          limit = omega (arith, ap (λ l. l.blocked) same);
          capacity = inl (ap (λ l. l.table) same, ap (λ l. min p.encoder.most_capacity l.table) same);
        }
