-- The session of a direction when bytes of the encoder stream come.
use Rattle.std.proofs.Common.{◌≡◌, ℕ, zero, suc, ◌-◌, ◌≤◌, Bool, true, false, List, [], ◌∷◌, ◌++◌, length, min, take, refl, sym, ap, ◌∙◌, arith, append-nil}
use Rattle.std.specs.Prelude.{◌==◌, if◌then◌else◌, is_some}
use Rattle.std.specs.List.{count_by}
use Rattle.std.proofs.lemmas.Grind.{common_steps}
use Rattle.std.proofs.lemmas.List.Sums.{sum_by-cons}
use Rattle.h3_field.specs.Instruction.{EncoderInstruction, encoder_bytes}
use Rattle.h3_field.specs.Instruction.EncoderInstruction.{SetCapacity}
use Rattle.h3_field.specs.Instruction.DecoderInstruction.{Increment}
use Rattle.h3_qpack.specs.WholeInstructions.{whole_in, is_insertion}
use Rattle.h3_qpack.specs.Session.{inserted}
use Rattle.h3_qpack.specs.Schedule.SessionEvent.{InsertionsRead}
use Rattle.h3_proto.specs.declared.stream.Side.{Side}
use Rattle.h3_connection.specs.OwnIds.{other}
use Rattle.h3_world.specs.World.{World, party}
use Rattle.h3_world.specs.Came.{settings_came, insertions_came}
use Rattle.h3_world.specs.Streams.{flow}
use Rattle.h3_connection.specs.Control.{increment}
use Rattle.h3_connection.specs.declared.setup.Limits.{Limits}
use Rattle.h3_world.specs.Setup.{Setup, has_table}
use Rattle.h3_world.specs.Following.{opening, limits_for, HasSession}
use Rattle.h3_world.proofs.Grown.{SessionsAreSound, session_is_sound, goes_on, steps_on}
use Rattle.h3_world.specs.Following.{sections_left, replies_left}

count_most : (test : EncoderInstruction → Bool) (n : ℕ) (is : List EncoderInstruction) → count_by test (take n is) ≤ count_by test is
count_most test zero is = omega arith
count_most test (suc n) [] = omega arith
count_most test (suc n) (i ∷ is) =
    omega (arith, count_most test n is, sum_by-cons (λ i. if test i then 1 else 0) i (take n is), sum_by-cons (λ i. if test i then 1 else 0) i is)

count_length : (test : EncoderInstruction → Bool) (is : List EncoderInstruction) → count_by test is ≤ length is
count_length test [] = omega arith
count_length test (i ∷ is) = grind (arith, common_steps, sum_by-cons (λ i. if test i then 1 else 0) i is, count_length test is)

pub behind_opening : (most : ℕ) (limits : Limits) (b : Bool) (is : List EncoderInstruction) → count_by is_insertion ((if b then opening most limits else []) ++ is) ≡ count_by is_insertion is
behind_opening most limits false is = refl
behind_opening most limits true is = set (has_table most limits)
  where
    set : (b : Bool) → count_by is_insertion ((if b then SetCapacity (min most limits.table) ∷ [] else []) ++ is) ≡ count_by is_insertion is
    set false = refl
    set true = omega (arith, sum_by-cons (λ i. if is_insertion i then 1 else 0) (SetCapacity (min most limits.table)) is)

-- no more insertions came than were made
pub insertions_made : SessionsAreSound → (setup : Setup) (old new : World) (side : Side) (h : HasSession setup old side) → (party new side).own.instructions ≡ (party old side).own.instructions
    → insertions_came (party new side) ≤ length h.session.encoder.inserted
insertions_made law setup old new side h same =
    let s = h.session in
    let p = party new side in
    let is : p.own.instructions ≡ (if settings_came setup old (other side) then opening s.encoder.most_capacity (limits_for setup side) else []) ++ s.instructions = same ∙ h.follows.instructions in
    let most = count_most is_insertion (whole_in encoder_bytes (p.own.encoder_taken - 1) p.own.instructions) p.own.instructions in
    let all : count_by is_insertion p.own.instructions ≡ count_by is_insertion s.instructions =
    ap (count_by is_insertion) is ∙ behind_opening s.encoder.most_capacity (limits_for setup side) (settings_came setup old (other side)) s.instructions in
    omega (arith, most, all, count_length is_insertion s.instructions, (session_is_sound law setup old side h).read.one_each)

above_none : (n : ℕ) → (suc n == 0) ≡ false
above_none n = grind (arith, common_steps)

one_increment : (n : ℕ) → Increment (suc n) ∷ [] ≡ increment (suc n)
one_increment n = sym (ap (λ b. if b then [] else Increment (suc n) ∷ []) (above_none n))

-- What a delivery on the encoder stream changes of what the session sees.
pub record BringsInsertions (setup : Setup) (old new : World) (side : Side) : Type 0 where
  pub encoder : (party new side).encoder ≡ (party old side).encoder
  pub instructions : (party new side).own.instructions ≡ (party old side).own.instructions
  pub knows : settings_came setup new (other side) ≡ settings_came setup old (other side)
  pub received : insertions_came (party old side) ≤ insertions_came (party new side)
  pub replies : replies_left setup new side ≡ replies_left setup old side ++ increment (insertions_came (party new side) - insertions_came (party old side))
  pub faults : (i : ℕ) → (flow new side i).fault ≡ (flow old side i).fault
  pub sections : (i : ℕ) → sections_left (flow new side i) ≡ sections_left (flow old side i)

pub insertions_kept : SessionsAreSound → (setup : Setup) (old new : World) (side : Side) → HasSession setup old side → BringsInsertions setup old new side → HasSession setup new side
insertions_kept law setup old new side h b = more (insertions_came (party new side) - insertions_came (party old side)) refl
  where
    more : (n : ℕ) → insertions_came (party new side) - insertions_came (party old side) ≡ n → HasSession setup new side
    more zero e = goes_on setup old new side h [] h.session tt refl (record {
      encoder = h.follows.encoder ∙ sym b.encoder;
      instructions = b.instructions ∙ h.follows.instructions ∙ ap (λ k. (if k then opening h.session.encoder.most_capacity (limits_for setup side) else []) ++ h.session.instructions) (sym b.knows);
      received = h.follows.received ∙ omega (arith, e, b.received);
      decoder_instructions = h.follows.decoder_instructions ∙ sym (append-nil (replies_left setup old side)) ∙ ap (λ n. replies_left setup old side ++ increment n) (sym e) ∙ sym b.replies;
      canceled = λ i. h.follows.canceled i ∙ ap is_some (sym (b.faults i));
      sections = λ i none. h.follows.sections i (sym (b.faults i) ∙ none) ∙ sym (b.sections i);
    })
    more (suc n) e = steps_on setup old new side h (InsertionsRead (suc n)) (inserted h.session (suc n)) tt
        (omega arith, omega (arith, e, h.follows.received, insertions_made law setup old new side h b.instructions), refl) (record {
          encoder = h.follows.encoder ∙ sym b.encoder;
          instructions = b.instructions ∙ h.follows.instructions ∙ ap (λ k. (if k then opening h.session.encoder.most_capacity (limits_for setup side) else []) ++ h.session.instructions) (sym b.knows);
          received = omega (arith, e, b.received, h.follows.received);
          decoder_instructions = ap (λ l. l ++ Increment (suc n) ∷ []) h.follows.decoder_instructions ∙ ap (λ l. replies_left setup old side ++ l) (one_increment n) ∙ ap (λ n. replies_left setup old side ++ increment n) (sym e) ∙ sym b.replies;
          canceled = λ i. h.follows.canceled i ∙ ap is_some (sym (b.faults i));
          sections = λ i none. h.follows.sections i (sym (b.faults i) ∙ none) ∙ sym (b.sections i);
        })
