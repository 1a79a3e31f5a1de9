-- The settings come: the session of the direction of the side that learns them is kept.
use Rattle.std.proofs.Common.{◌≡◌, ℕ, ◌-◌, ◌≤◌, min, Bool, true, false, not, ◌&&◌, List, [], ◌∷◌, ◌++◌, length, refl, sym, ap, ◌∙◌, subst, if◌then◌else◌}
use Rattle.std.specs.Prelude.{drop}
use Rattle.h3_field.specs.Instruction.{DecoderInstruction}
use Rattle.h3_field.specs.Instruction.EncoderInstruction.{SetCapacity}
use Rattle.h3_qpack.specs.EncoderHistory.{encoder_after_all}
use Rattle.h3_proto.specs.declared.stream.Side.{Side}
use Rattle.h3_connection.specs.Control.{increment}
use Rattle.h3_connection.specs.OwnIds.{other}
use Rattle.h3_connection.specs.declared.setup.Limits.{Limits}
use Rattle.h3_world.specs.Setup.{Setup, announced_at, has_table}
use Rattle.h3_world.specs.World.{World, Party, party}
use Rattle.h3_world.specs.OwnStreams.{encoder_stream}
use Rattle.h3_world.specs.Came.{settings_came, insertions_came, replies_read}
use Rattle.h3_world.specs.Delivering.{further, having_learned, delivered_own}
use Rattle.h3_world.specs.Following.{HasSession, sections_left, opening, limits_for}
use Rattle.h3_world.proofs.Flows.{party-with_party, other-other}
use Rattle.h3_world.proofs.Wholes.{insertions_same}
use Rattle.h3_world.proofs.SameSession.{knows_of, read_of, left_of}
use Rattle.h3_world.proofs.OwnDelivered.{CameFurther, left_shrinks}
use Rattle.h3_world.proofs.RepliesRead.{limited, learned_kept}
use Rattle.h3_world.proofs.Listened.{between_of, writer_after, reader_after, flow_after, further_is, further_as, listens, tabled}

-- what learning limits does to a side, by whether they may be used
learned_encoder : (p : Party) (limits : Limits) → (having_learned p limits).encoder ≡ (if has_table p.encoder.most_capacity limits then limited p.encoder limits else p.encoder)
learned_encoder p limits = by_test (has_table p.encoder.most_capacity limits)
  where
    by_test : (b : Bool) → (if b then tabled p limits else p).encoder ≡ (if b then limited p.encoder limits else p.encoder)
    by_test true = refl
    by_test false = refl

learned_instructions : (p : Party) (limits : Limits) → p.own.instructions ≡ [] → (having_learned p limits).own.instructions ≡ opening p.encoder.most_capacity limits
learned_instructions p limits nothing = by_test (has_table p.encoder.most_capacity limits)
  where
    by_test : (b : Bool) → (if b then tabled p limits else p).own.instructions ≡ (if b then SetCapacity (min p.encoder.most_capacity limits.table) ∷ [] else [])
    by_test true = ap (λ is. is ++ SetCapacity (min p.encoder.most_capacity limits.table) ∷ []) nothing
    by_test false = nothing

learned_came : (p : Party) (limits : Limits) → p.own.encoder_taken ≤ length (encoder_stream p) → insertions_came (having_learned p limits) ≡ insertions_came p
learned_came p limits came = by_test (has_table p.encoder.most_capacity limits)
  where
    by_test : (b : Bool) → insertions_came (if b then tabled p limits else p) ≡ insertions_came p
    by_test true = insertions_same p (SetCapacity (min p.encoder.most_capacity limits.table) ∷ []) came
    by_test false = refl

-- The side that learns has used no table and sent no instruction.
pub record LearnsNow (setup : Setup) (w : World) (writer : Side) (id count : ℕ) : Type 0 where
  pub unknown : settings_came setup w writer ≡ false
  pub knows : settings_came setup (between_of w writer id count) writer ≡ true
  pub no_limit : (party w (other writer)).encoder.limit ≡ 0
  pub empty : (party w (other writer)).encoder.inserted ≡ []
  pub nothing : (party w (other writer)).own.instructions ≡ []
  pub came : (party w (other writer)).own.encoder_taken ≤ length (encoder_stream (party w (other writer)))

pub learning_direction_kept : (setup : Setup) (w : World) (writer : Side) (id count : ℕ) → LearnsNow setup w writer id count → HasSession setup w (other writer)
    → HasSession setup (delivered_own setup w writer id count) (other writer)
learning_direction_kept setup w writer id count l h =
    let new = between_of w writer id count in
    let final = delivered_own setup w writer id count in
    let p = party w (other writer) in
    let own = party w writer in
    let pf = further own writer id count in
    let at_writer = writer_after setup w writer id count in
    let at_reader = reader_after setup w writer id count in
    let is = drop (length (replies_read setup w writer)) (replies_read setup new writer) in
    let more : List DecoderInstruction = increment (insertions_came (party new writer) - insertions_came own) in
    let limits = (announced_at setup writer).limits in
    let q = having_learned p limits in
    let learns : (not (settings_came setup w writer) && settings_came setup new writer) ≡ true =
    ap (λ b. not b && settings_came setup new writer) l.unknown ∙ l.knows in
    let at_learned : party final (other writer) ≡ listens q is more =
    at_reader ∙ ap (λ b. listens (if b then q else p) is more) learns in
    let came : CameFurther own (party final writer) = further_as own pf (party final writer) at_writer (further_is own writer id count).decodes in
    let as_final : read_of setup writer (party new writer) ≡ read_of setup writer (party final writer) =
    ap (read_of setup writer) (party-with_party w writer pf ∙ sym at_writer) in
    let same_limits : limits ≡ limits_for setup (other writer) = ap (λ s. (announced_at setup s).limits) (sym (other-other writer)) in
    learned_kept setup w final (other writer) is h (record {
      no_limit = l.no_limit;
      empty = l.empty;
      nothing = l.nothing;
      encoder =
          ap (λ x. x.encoder) at_learned ∙ ap (λ x. encoder_after_all x is) (learned_encoder p limits)
          ∙ ap (λ m. encoder_after_all (if has_table p.encoder.most_capacity m then limited p.encoder m else p.encoder) is) same_limits;
      replies = subst (λ s. left_of setup s (party w s) ≡ is ++ left_of setup s (party final s)) (sym (other-other writer))
          (left_shrinks setup writer own (party final writer) came
          ∙ ap (λ r. drop (length (read_of setup writer own)) r ++ left_of setup writer (party final writer)) (sym as_final));
      instructions = ap (λ x. x.own.instructions) at_learned ∙ learned_instructions p limits l.nothing ∙ ap (opening p.encoder.most_capacity) same_limits;
      knew = subst (λ s. settings_came setup w s ≡ false) (sym (other-other writer)) l.unknown;
      knows = subst (λ s. knows_of setup s (party final s) ≡ true) (sym (other-other writer))
          (ap (knows_of setup writer) (at_writer ∙ sym (party-with_party w writer pf)) ∙ l.knows);
      received = ap insertions_came at_learned ∙ learned_came p limits l.came;
      faults = λ i. ap (λ g. g.fault) (flow_after setup w writer (other writer) id count i);
      sections = λ i. ap sections_left (flow_after setup w writer (other writer) id count i);
    })
