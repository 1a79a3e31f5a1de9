-- Every session is sound.
use Rattle.std.proofs.Common.{ℕ, Bool, true, false, if◌then◌else◌, List, [], ◌∷◌, refl, sym, subst, arith}
use Rattle.std.proofs.Common.{◌≡◌, ◌<◌, ◌≤◌, ap, length, min, Option}
use Rattle.std.proofs.lemmas.Grind.{common_steps}
use Rattle.std.specs.List.{AllByRecursion}
use Rattle.h3_field.specs.Field.{Field}
use Rattle.h3_field.specs.Instruction.{EncoderInstruction, DecoderInstruction}
use Rattle.h3_field.specs.Instruction.DecoderInstruction.{Acknowledge}
use Rattle.h3_qpack.specs.TableHistory.{IsReadAs}
use Rattle.h3_table.specs.Table.{evictions}
use Rattle.h3_qpack.specs.declared.encoder_choices.EncoderChoices.{EncoderChoices}
use Rattle.h3_qpack.specs.EncoderHistory.{EncoderHistory, referenced_entries, encoder_after, writing_on, was_canceled}
use Rattle.h3_qpack.specs.SectionEncoding.{encoded_section, instructions_for}
use Rattle.h3_qpack.specs.Session.{Session, IsSound}
use Rattle.h3_qpack.specs.Schedule.{SessionEvent, SessionStep, SessionRun, beginning, with_table, choosing, keeping_canceled}
use Rattle.h3_table.specs.Cancellations.{none_canceled}
use Rattle.h3_qpack.proofs.Cancellations.{untracked_by}
use Rattle.h3_qpack.specs.Schedule.SessionEvent.{UseTable, Choose, KeepCanceled, Encode, CutOff, InsertionsRead, Decode, Cancel, DecoderInstructionRead}
use Rattle.h3_qpack.proofs.Sessions.{section_written, insertions_kept, insertions_read, section_decoded, stream_abandoned, reply_read, nothing_told}

nothing_evicted : (capacity : ℕ) (inserted : List Field) → inserted ≡ [] → evictions capacity inserted ≡ 0
nothing_evicted capacity inserted e = ap (evictions capacity) e

moved : (a b : ℕ) (names : List ℕ) → b ≤ a → AllByRecursion (λ number. a < number) names → AllByRecursion (λ number. b < number) names
moved a b [] le h = tt
moved a b (x ∷ xs) le h = (omega (arith, le, h.0), moved a b xs le h.1)

nothing_read : (announced capacity : ℕ) (instructions : List EncoderInstruction) (inserted : List Field) → inserted ≡ [] → length instructions ≡ length inserted → IsReadAs announced capacity instructions inserted
nothing_read announced capacity [] inserted none one_each = rw none (record { one_each = refl; tables = λ k le. let zero_is : k ≡ 0 = omega (arith, le) in rw zero_is refl })
nothing_read announced capacity (i ∷ is) inserted none one_each = absurd (omega (arith, one_each, ap length none))

least_right : (a b : ℕ) → min a b ≤ b
least_right a b = grind (arith, common_steps)

-- a table comes into use
table_used : (s : Session) (announced limit : ℕ) → s.encoder.inserted ≡ [] → s.encoder.limit ≡ 0 → IsSound s → IsSound (with_table s announced limit)
table_used s announced limit none zero_limit h =
    let capacity = min s.encoder.most_capacity announced in
    let evicted = nothing_evicted capacity s.encoder.inserted none in
    record {
      received = h.received;
      accounted = h.accounted;
      evictions_known = omega (arith, evicted);
      references_present = moved (evictions s.encoder.capacity s.encoder.inserted) _ (referenced_entries s.encoder) (omega (arith, evicted)) h.references_present;
      tracked = h.tracked;
      acknowledged = h.acknowledged;
      told = h.told;
      written = h.written;
      cancels = h.cancels;
      untracked = h.untracked;
      within_limit = omega (arith, h.within_limit, zero_limit);
      read = nothing_read announced capacity s.instructions s.encoder.inserted none h.read.one_each;
      within_announced = least_right s.encoder.most_capacity announced;
      small = h.small;
    }

-- what an encoder chooses plays no part in what is sound
now_choosing : (s : Session) (choices : EncoderChoices) → IsSound s → IsSound (choosing s choices)
now_choosing s choices h =
    record {
      received = h.received;
      accounted = h.accounted;
      evictions_known = h.evictions_known;
      references_present = h.references_present;
      tracked = h.tracked;
      acknowledged = h.acknowledged;
      told = h.told;
      written = h.written;
      cancels = h.cancels;
      untracked = h.untracked;
      within_limit = h.within_limit;
      read = h.read;
      within_announced = h.within_announced;
      small = h.small;
    }

-- and so does how many canceled streams are kept
now_keeping : (s : Session) (most : Option ℕ) → IsSound s → IsSound (keeping_canceled s most)
now_keeping s most h =
    record {
      received = h.received;
      accounted = h.accounted;
      evictions_known = h.evictions_known;
      references_present = h.references_present;
      tracked = h.tracked;
      acknowledged = h.acknowledged;
      told = h.told;
      written = h.written;
      cancels = h.cancels;
      untracked = λ stream canceled. untracked_by (none_canceled most) s.encoder.tracked stream (λ kept. absurd (cc)) canceled;
      within_limit = h.within_limit;
      read = h.read;
      within_announced = h.within_announced;
      small = h.small;
    }

pub step_is_sound : (s : Session) (event : SessionEvent) (new : Session) → IsSound s → SessionStep s event new → IsSound new
step_is_sound s (UseTable announced limit) new h e = subst IsSound (sym e.2) (table_used s announced limit e.0 e.1 h)
step_is_sound s (Choose choices) new h e = subst IsSound (sym e) (now_choosing s choices h)
step_is_sound s (KeepCanceled most) new h e = subst IsSound (sym e) (now_keeping s most h)
step_is_sound s (Encode stream fields) new h e = subst IsSound (sym e) (section_written s stream fields h)
step_is_sound s (CutOff stream fields) new h e = subst IsSound (sym e) (insertions_kept s stream fields h)
step_is_sound s (InsertionsRead count) new h e = subst IsSound (sym e.2) (insertions_read s count e.0 e.1 h)
step_is_sound s (Decode section) new h e = subst IsSound (sym e.3) (section_decoded s section e.0 e.1 e.2 h)
step_is_sound s (Cancel stream) new h e = subst IsSound (sym e.1) (stream_abandoned s stream h)
step_is_sound s (DecoderInstructionRead instruction rest) new h e = subst IsSound (sym e.1) (reply_read s instruction rest e.0 h)

run_is_sound : (s : Session) (events : List SessionEvent) (new : Session) → IsSound s → SessionRun s events new → IsSound new
run_is_sound s [] new h r = subst IsSound (sym r) h
run_is_sound s (event ∷ events) new h r = run_is_sound r.0 events new (step_is_sound s event r.0 h r.1) r.2

pub beginning_is_sound : (counts : Bool) (most announced limit : ℕ) → IsSound (beginning counts most announced limit)
beginning_is_sound counts most announced limit =
    record {
      received = omega arith;
      accounted = refl;
      evictions_known = omega arith;
      references_present = tt;
      tracked = λ stream alive. refl;
      acknowledged = λ stream. omega arith;
      told = tt;
      written = tt;
      cancels = tt;
      untracked = λ stream canceled. refl;
      within_limit = omega arith;
      read = nothing_read announced (min most announced) [] [] refl refl;
      within_announced = least_right most announced;
      small = omega arith;
    }

pub every_run_is_sound : (counts : Bool) (most announced limit : ℕ) (events : List SessionEvent) (s : Session) → SessionRun (beginning counts most announced limit) events s → IsSound s
every_run_is_sound counts most announced limit events s r = run_is_sound (beginning counts most announced limit) events s (beginning_is_sound counts most announced limit) r

-- An acknowledgment that is read tells of no insertion that no increment told of.
pub nothing_new : (counts : Bool) (most announced limit : ℕ) (events : List SessionEvent) (s : Session) (stream : ℕ) (rest : List DecoderInstruction) → SessionRun (beginning counts most announced limit) events s
    → s.decoder_instructions ≡ Acknowledge stream ∷ rest → (encoder_after s.encoder (Acknowledge stream)).known_received ≡ s.encoder.known_received
nothing_new counts most announced limit events s stream rest run is = nothing_told s stream rest is (every_run_is_sound counts most announced limit events s run)

-- What a section is written by does not look at whether acknowledgments count.
pub same_bytes : (s : EncoderHistory) (counts : Bool) (stream : ℕ) (fields : List Field) → encoded_section (writing_on (record s { counts_acknowledgments = counts }) stream) fields ≡ encoded_section (writing_on s stream) fields
same_bytes s counts stream fields = by_test (was_canceled s stream)
  where
    by_test : (b : Bool) → encoded_section (if b then record s { announced = 0; capacity = 0; limit = 0; choices = record s.choices { economical = false }; counts_acknowledgments = counts } else record s { counts_acknowledgments = counts }) fields
        ≡ encoded_section (if b then record s { announced = 0; capacity = 0; limit = 0; choices = record s.choices { economical = false } } else s) fields
    by_test true = refl
    by_test false = refl

pub same_instructions : (s : EncoderHistory) (counts : Bool) (stream : ℕ) (fields : List Field) → instructions_for (writing_on (record s { counts_acknowledgments = counts }) stream) fields ≡ instructions_for (writing_on s stream) fields
same_instructions s counts stream fields = by_test (was_canceled s stream)
  where
    by_test : (b : Bool) → instructions_for (if b then record s { announced = 0; capacity = 0; limit = 0; choices = record s.choices { economical = false }; counts_acknowledgments = counts } else record s { counts_acknowledgments = counts }) fields
        ≡ instructions_for (if b then record s { announced = 0; capacity = 0; limit = 0; choices = record s.choices { economical = false } } else s) fields
    by_test true = refl
    by_test false = refl
