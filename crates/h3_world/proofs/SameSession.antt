-- The session of a direction where nothing that it sees changes.
use Rattle.std.proofs.Common.{◌≡◌, ℕ, ◌-◌, Bool, List, [], ◌++◌, sym, ap, refl, ◌∙◌}
use Rattle.std.specs.Prelude.{if◌then◌else◌, is_some, drop, length, nat_le}
use Rattle.h3_field.specs.Instruction.{DecoderInstruction}
use Rattle.h3_qpack.specs.WholeInstructions.{decoder_instructions_in}
use Rattle.h3_proto.specs.declared.stream.Side.{Side}
use Rattle.h3_connection.specs.OwnIds.{other}
use Rattle.h3_world.specs.Setup.{Setup, announced_at}
use Rattle.h3_world.specs.OwnStreams.{settings_bytes}
use Rattle.h3_world.specs.World.{World, Party, party}
use Rattle.h3_world.specs.Came.{settings_came, insertions_came}
use Rattle.h3_world.specs.Streams.{flow}
use Rattle.h3_world.specs.Following.{opening, limits_for, HasSession}
use Rattle.h3_world.proofs.Grown.{goes_on}
use Rattle.h3_world.specs.Following.{sections_left, replies_left}

pub record SeesSame (setup : Setup) (old new : World) (side : Side) : Type 0 where
  pub encoder : (party new side).encoder ≡ (party old side).encoder
  pub instructions : (party new side).own.instructions ≡ (party old side).own.instructions
  pub knows : settings_came setup new (other side) ≡ settings_came setup old (other side)
  pub received : insertions_came (party new side) ≡ insertions_came (party old side)
  pub replies : replies_left setup new side ≡ replies_left setup old side
  pub faults : (i : ℕ) → (flow new side i).fault ≡ (flow old side i).fault
  pub sections : (i : ℕ) → sections_left (flow new side i) ≡ sections_left (flow old side i)

pub same_kept : (setup : Setup) (old new : World) (side : Side) → HasSession setup old side → SeesSame setup old new side → HasSession setup new side
same_kept setup old new side h same =
    goes_on setup old new side h [] h.session tt refl (record {
      encoder = h.follows.encoder ∙ sym same.encoder;
      instructions = same.instructions ∙ h.follows.instructions ∙ ap (λ k. (if k then opening h.session.encoder.most_capacity (limits_for setup side) else []) ++ h.session.instructions) (sym same.knows);
      received = h.follows.received ∙ sym same.received;
      decoder_instructions = h.follows.decoder_instructions ∙ sym same.replies;
      canceled = λ i. h.follows.canceled i ∙ ap is_some (sym (same.faults i));
      sections = λ i none. h.follows.sections i (sym (same.faults i) ∙ none) ∙ sym (same.sections i);
    })

-- what a party says of settings and replies
abbrev pub knows_of : Setup → Side → Party → Bool
knows_of setup s p = nat_le (length (settings_bytes (announced_at setup s))) p.own.control_taken

abbrev pub read_of : Setup → Side → Party → List DecoderInstruction
read_of setup s p = if knows_of setup s p then decoder_instructions_in (p.own.decoder_taken - 1) p.own.replies else []

abbrev pub left_of : Setup → Side → Party → List DecoderInstruction
left_of setup s p = drop (length (read_of setup s p)) p.own.replies

-- Both parties as they were, and flows that differ in nothing that counts here: a body, an end, a reset, a pause, a delivery of own bytes.
pub flows_kept : (setup : Setup) (old new : World) (side : Side) → party new side ≡ party old side → party new (other side) ≡ party old (other side)
    → ((i : ℕ) → (flow new side i).fault ≡ (flow old side i).fault) → ((i : ℕ) → sections_left (flow new side i) ≡ sections_left (flow old side i)) → HasSession setup old side → HasSession setup new side
flows_kept setup old new side own others faults sections h =
    same_kept setup old new side h (record {
      encoder = ap (λ p. p.encoder) own;
      instructions = ap (λ p. p.own.instructions) own;
      knows = ap (knows_of setup (other side)) others;
      received = ap insertions_came own;
      replies = ap (left_of setup (other side)) others;
      faults = faults;
      sections = sections;
    })
