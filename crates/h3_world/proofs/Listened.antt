-- A delivery on an own stream of a side: the sessions of both directions are kept.
use Rattle.std.proofs.Common.{◌≡◌, ℕ, ◌+◌, ◌-◌, ◌≤◌, Bool, true, false, not, ◌&&◌, List, [], ◌∷◌, ◌++◌, length, min, refl, sym, ap, ◌∙◌, subst, arith, nat_le, if◌then◌else◌}
use Rattle.std.specs.Prelude.{drop, ◌==◌}
use Rattle.h3_field.specs.Instruction.{DecoderInstruction}
use Rattle.h3_field.specs.Instruction.EncoderInstruction.{SetCapacity}
use Rattle.h3_qpack.specs.WholeInstructions.{insertions_in, decoder_instructions_in}
use Rattle.h3_proto.specs.declared.stream.Side.{Side}
use Rattle.h3_proto.specs.declared.stream.Side.TheVariants.{Client, Server}
use Rattle.h3_connection.specs.declared.setup.Limits.{Limits}
use Rattle.h3_connection.specs.OwnIds.{other}
use Rattle.h3_world.specs.Setup.{Setup, announced_at, has_table}
use Rattle.h3_qpack.specs.EncoderHistory.{encoder_after_all}
use Rattle.h3_world.specs.World.{World, Party, party, with_party}
use Rattle.h3_world.specs.OwnStreams.{decoder_stream, settings_bytes}
use Rattle.h3_world.specs.Came.{settings_came, insertions_came, replies_read}
use Rattle.h3_connection.specs.OwnIds.{control_id, encoder_id, decoder_id}
use Rattle.h3_world.specs.Streams.{flow}
use Rattle.h3_world.specs.Delivering.{further, having_learned, having_listened, delivered_own}
use Rattle.h3_connection.specs.Control.{increment}
use Rattle.h3_world.specs.Following.{HasSession}
use Rattle.h3_world.proofs.Flows.{party-with_party, flow-with_party, other-other}
use Rattle.h3_world.proofs.SameSession.{knows_of, read_of, left_of}
use Rattle.h3_world.specs.Following.{sections_left}
use Rattle.h3_world.proofs.HandedOut.{writing, left_grows}
use Rattle.h3_world.proofs.OwnDelivered.{CameFurther, left_shrinks}
use Rattle.h3_world.proofs.ExactPauses.{insertions_more}
use Rattle.h3_world.proofs.Grown.{SessionsAreSound}
use Rattle.h3_world.proofs.InsertionsCame.{insertions_kept}
use Rattle.h3_world.proofs.RepliesRead.{limited, replies_kept}

-- nothing but what came changes
pub record IsFurther (p q : Party) : Type 0 where
  pub encoder : q.encoder ≡ p.encoder
  pub written : q.own.instructions ≡ p.own.instructions
  pub came : p.own.encoder_taken ≤ q.own.encoder_taken
  pub decodes : CameFurther p q

pub further_is : (p : Party) (side : Side) (id count : ℕ) → IsFurther p (further p side id count)
further_is p side id count = by_test (id == control_id side) (id == encoder_id side) (id == decoder_id side)
  where
    by_test : (a b c : Bool) → IsFurther p (record p {
      own =
          if a then record p.own { control_taken = p.own.control_taken + count } else (
          if b then record p.own { encoder_taken = p.own.encoder_taken + count } else (
          if c then record p.own { decoder_taken = p.own.decoder_taken + count } else p.own));
    })
    by_test true b c = record { encoder = refl; written = refl; came = omega arith; decodes = record { same = refl; control = omega arith; decoder = omega arith } }
    by_test false true c = record { encoder = refl; written = refl; came = omega arith; decodes = record { same = refl; control = omega arith; decoder = omega arith } }
    by_test false false true = record { encoder = refl; written = refl; came = omega arith; decodes = record { same = refl; control = omega arith; decoder = omega arith } }
    by_test false false false = record { encoder = refl; written = refl; came = omega arith; decodes = record { same = refl; control = omega arith; decoder = omega arith } }

-- a party that learns limits keeps what its decoder wrote, and what came of it
pub record IsLearned (p q : Party) : Type 0 where
  pub control : q.own.control_taken ≡ p.own.control_taken
  pub decoder : q.own.decoder_taken ≡ p.own.decoder_taken
  pub written : q.own.replies ≡ p.own.replies
  pub encoder_came : q.own.encoder_taken ≡ p.own.encoder_taken

-- the side whose encoder learns limits that it may use
abbrev pub tabled : Party → Limits → Party
tabled p limits = record { own = record p.own { instructions = p.own.instructions ++ SetCapacity (min p.encoder.most_capacity limits.table) ∷ [] }; encoder = limited p.encoder limits }

pub learned_is : (p : Party) (limits : Limits) (learns : Bool) → IsLearned p (if learns then having_learned p limits else p)
learned_is p limits false = record { control = refl; decoder = refl; written = refl; encoder_came = refl }
learned_is p limits true = by_test (has_table p.encoder.most_capacity limits)
  where
    by_test : (b : Bool) → IsLearned p (if b then tabled p limits else p)
    by_test true = record { control = refl; decoder = refl; written = refl; encoder_came = refl }
    by_test false = record { control = refl; decoder = refl; written = refl; encoder_came = refl }

-- the parties after the delivery
abbrev pub between_of : World → Side → ℕ → ℕ → World
between_of w writer id count = with_party w writer (further (party w writer) writer id count)

party-with_first : (w : World) (side : Side) (p : Party) → party (with_party w (other side) p) side ≡ party w side
party-with_first w Client p = refl
party-with_first w Server p = refl

pub writer_after : (setup : Setup) (w : World) (writer : Side) (id count : ℕ) → party (delivered_own setup w writer id count) writer ≡ further (party w writer) writer id count
writer_after setup w writer id count =
    let new = between_of w writer id count in
    party-with_first new writer (having_listened setup w new writer) ∙ party-with_party w writer (further (party w writer) writer id count)

pub reader_after : (setup : Setup) (w : World) (writer : Side) (id count : ℕ) → party (delivered_own setup w writer id count) (other writer) ≡ having_listened setup w (between_of w writer id count) writer
reader_after setup w writer id count =
    let new = between_of w writer id count in
    party-with_party new (other writer) (having_listened setup w new writer)

pub flow_after : (setup : Setup) (w : World) (writer side : Side) (id count i : ℕ) → flow (delivered_own setup w writer id count) side i ≡ flow w side i
flow_after setup w writer side id count i =
    let new = between_of w writer id count in
    flow-with_party new (other writer) side (having_listened setup w new writer) i ∙ flow-with_party w writer side (further (party w writer) writer id count) i

-- what is left to be read, by how much came
abbrev pub left_by : Setup → Side → ℕ → ℕ → List DecoderInstruction → List DecoderInstruction
left_by setup s control came is = drop (length (if nat_le (length (settings_bytes (announced_at setup s))) control then decoder_instructions_in (came - 1) is else [])) is

left_learned : (setup : Setup) (s : Side) (p q : Party) (more : List DecoderInstruction) → IsLearned p q → left_of setup s (writing q more) ≡ left_of setup s (writing p more)
left_learned setup s p q more l =
    ap (λ c. left_by setup s c q.own.decoder_taken (q.own.replies ++ more)) l.control
    ∙ ap (λ d. left_by setup s p.own.control_taken d (q.own.replies ++ more)) l.decoder
    ∙ ap (λ is. left_by setup s p.own.control_taken p.own.decoder_taken (is ++ more)) l.written

-- The writer's own direction: the reader's decoder counts the insertions.
pub written_direction_kept : SessionsAreSound → (setup : Setup) (w : World) (writer : Side) (id count : ℕ) → (party w (other writer)).own.decoder_taken ≤ length (decoder_stream (party w (other writer)))
    → HasSession setup w writer → HasSession setup (delivered_own setup w writer id count) writer
written_direction_kept law setup w writer id count came h =
    let new = between_of w writer id count in
    let final = delivered_own setup w writer id count in
    let p = party w (other writer) in
    let own = party w writer in
    let f = further_is own writer id count in
    let pf = further own writer id count in
    let at_writer = writer_after setup w writer id count in
    let at_reader = reader_after setup w writer id count in
    let learns = not (settings_came setup w writer) && settings_came setup new writer in
    let q = if learns then having_learned p (announced_at setup writer).limits else p in
    let l = learned_is p (announced_at setup writer).limits learns in
    let more : List DecoderInstruction = increment (insertions_came (party new writer) - insertions_came own) in
    let same : insertions_came (party final writer) ≡ insertions_in (pf.own.encoder_taken - 1) own.own.instructions =
    ap insertions_came at_writer ∙ ap (insertions_in (pf.own.encoder_taken - 1)) f.written in
    insertions_kept law setup w final writer h (record {
      encoder = ap (λ x. x.encoder) at_writer ∙ f.encoder;
      instructions = ap (λ x. x.own.instructions) at_writer ∙ f.written;
      knows = ap (knows_of setup (other writer)) at_reader ∙ ap (λ n. nat_le (length (settings_bytes (announced_at setup (other writer)))) n) l.control;
      received = omega (arith, same, insertions_more (own.own.encoder_taken - 1) (pf.own.encoder_taken - 1) own.own.instructions (omega (arith, f.came)));
      replies =
          ap (left_of setup (other writer)) at_reader ∙ left_learned setup (other writer) p q more l ∙ left_grows setup (other writer) p more came
          ∙ ap (λ x. left_of setup (other writer) p ++ increment (insertions_came x - insertions_came own)) (party-with_party w writer pf ∙ sym at_writer);
      faults = λ i. ap (λ g. g.fault) (flow_after setup w writer writer id count i);
      sections = λ i. ap sections_left (flow_after setup w writer writer id count i);
    })

-- the reader, from one that may have learned limits
abbrev pub listens : Party → List DecoderInstruction → List DecoderInstruction → Party
listens q is more = record { own = record q.own { replies = q.own.replies ++ more }; encoder = encoder_after_all q.encoder is }

-- a party as far as another
pub further_as : (p q r : Party) → r ≡ q → CameFurther p q → CameFurther p r
further_as p q r e f = subst (λ x. CameFurther p x) (sym e) f

-- The reader's own direction where it learns no settings: its encoder reads what it may.
pub read_direction_kept : (setup : Setup) (w : World) (writer : Side) (id count : ℕ) → settings_came setup (between_of w writer id count) writer ≡ settings_came setup w writer
    → HasSession setup w (other writer) → HasSession setup (delivered_own setup w writer id count) (other writer)
read_direction_kept setup w writer id count knows h =
    let new = between_of w writer id count in
    let final = delivered_own setup w writer id count in
    let p = party w (other writer) in
    let own = party w writer in
    let pf = further own writer id count in
    let at_writer = writer_after setup w writer id count in
    let at_reader = reader_after setup w writer id count in
    let is = drop (length (replies_read setup w writer)) (replies_read setup new writer) in
    let more : List DecoderInstruction = increment (insertions_came (party new writer) - insertions_came own) in
    let limits = (announced_at setup writer).limits in
    let learns : (not (settings_came setup w writer) && settings_came setup new writer) ≡ false =
    ap (λ b. not (settings_came setup w writer) && b) knows ∙ never (settings_came setup w writer) in
    let at_reader_plain : party final (other writer) ≡ listens p is more =
    at_reader ∙ ap (λ b. listens (if b then having_learned p limits else p) is more) learns in
    let came : CameFurther own (party final writer) = further_as own pf (party final writer) at_writer (further_is own writer id count).decodes in
    let as_final : read_of setup writer (party new writer) ≡ read_of setup writer (party final writer) =
    ap (read_of setup writer) (party-with_party w writer pf ∙ sym at_writer) in
    replies_kept setup w final (other writer) is h (record {
      encoder = ap (λ x. x.encoder) at_reader_plain;
      replies = subst (λ s. left_of setup s (party w s) ≡ is ++ left_of setup s (party final s)) (sym (other-other writer))
          (left_shrinks setup writer own (party final writer) came
          ∙ ap (λ r. drop (length (read_of setup writer own)) r ++ left_of setup writer (party final writer)) (sym as_final));
      instructions = ap (λ x. x.own.instructions) at_reader_plain;
      knows = subst (λ s. knows_of setup s (party final s) ≡ knows_of setup s (party w s)) (sym (other-other writer))
          (ap (knows_of setup writer) (at_writer ∙ sym (party-with_party w writer pf)) ∙ knows);
      received = ap insertions_came at_reader_plain;
      faults = λ i. ap (λ g. g.fault) (flow_after setup w writer (other writer) id count i);
      sections = λ i. ap sections_left (flow_after setup w writer (other writer) id count i);
    })
  where
    never : (b : Bool) → (not b && b) ≡ false
    never true = refl
    never false = refl
