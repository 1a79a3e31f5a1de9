-- Every section under way is what a writer took.
use Rattle.std.proofs.Common.{◌≡◌, Bool, ℕ, ◌^◌, ◌<◌, ◌≤◌, List, [], ◌∷◌, length, refl, sym, ap, subst, arith, length-append, Some, flat_map}
use Rattle.std.specs.List.{AllByRecursion}
use Rattle.h3_field.specs.Field.{Field, section_size}
use Rattle.h3_field.specs.Instruction.{DecoderInstruction}
use Rattle.h3_field.specs.Instruction.DecoderInstruction.{Acknowledge, CancelStream, Increment}
use Rattle.h3_field.specs.Line.{line_bytes}
use Rattle.h3_field.specs.Prefix.{prefix_bytes}
use Rattle.h3_field.specs.ReadBack.{IsFieldOfBytes}
use Rattle.h3_qpack.specs.EncoderHistory.{EncoderHistory, encoder_after, writing_on}
use Rattle.h3_qpack.specs.Encodings.{IsWritten}
use Rattle.h3_qpack.specs.Schedule.{SessionEvent, SessionStep, SessionRun, beginning}
use Rattle.h3_qpack.specs.Schedule.SessionEvent.{UseTable, Choose, KeepCanceled, Encode, CutOff, InsertionsRead, Decode, Cancel, DecoderInstructionRead}
use Rattle.h3_qpack.specs.SectionEncoding.{draft_of, encoded_section, required_insert_count}
use Rattle.h3_qpack.specs.Session.{Session, UndecodedSection, oldest, count_of, IsSound, IsWrittenOver}
use Rattle.h3_qpack.proofs.Canceled.{on_announced}
use Rattle.h3_qpack.proofs.Decoding.{section_counted, count_holds, oldest_holds}
use Rattle.h3_table.specs.ReleasingLaws.{All-join}
use Rattle.h3_qpack.proofs.Encodings.{section_longer}
use Rattle.h3_qpack.proofs.Schedules.{beginning_is_sound, every_run_is_sound, step_is_sound}
use Rattle.h3_qpack.proofs.Sessions.{kept_written, without_written}
use Rattle.h3_qpack.proofs.Writable.{lines_written}

-- a section that names entries was written for this announced capacity
abbrev HasAnnounced : ℕ → UndecodedSection → Type 0
HasAnnounced announced b = 0 < count_of b → b.encoder.announced ≡ announced

-- over no insertions, none names any
none_named : (announced : ℕ) (inserted : List Field) (sections : List UndecodedSection) → inserted ≡ [] → AllByRecursion (IsWrittenOver inserted) sections → AllByRecursion (HasAnnounced announced) sections
none_named announced inserted [] none h = tt
none_named announced inserted (b ∷ bs) none h = (first, none_named announced inserted bs none h.1)
  where
    first : HasAnnounced announced b
    first above =
        let d = draft_of b.encoder b.fields in
        let made : count_of b ≤ length d.inserted = count_holds (λ n. n ≤ length d.inserted) d.references above (section_counted b.encoder b.fields).made in
        absurd (omega (arith, above, made, ap length h.0.begins, length-append d.inserted h.0.more, ap length none))

same_announced : (s : EncoderHistory) (i : DecoderInstruction) → (encoder_after s i).announced ≡ s.announced
same_announced s (Acknowledge stream) = refl
same_announced s (CancelStream stream) = refl
same_announced s (Increment count) = refl

abbrev HaveAnnounced : Session → Type 0
HaveAnnounced s = AllByRecursion (HasAnnounced s.encoder.announced) s.sections

step_announced : (s : Session) (event : SessionEvent) (new : Session) → IsSound s → HaveAnnounced s → SessionStep s event new → HaveAnnounced new
step_announced s (UseTable announced limit) new sound h e = subst HaveAnnounced (sym e.2) (none_named announced s.encoder.inserted s.sections e.0 sound.written)
step_announced s (Choose choices) new sound h e = subst HaveAnnounced (sym e) h
step_announced s (KeepCanceled most) new sound h e = subst HaveAnnounced (sym e) h
step_announced s (Encode stream fields) new sound h e =
    let one : UndecodedSection = record { stream = stream; fields = fields; encoder = writing_on s.encoder stream } in
    subst HaveAnnounced (sym e) (All-join (HasAnnounced s.encoder.announced) s.sections (one ∷ []) h (on_announced s.encoder stream fields, tt))
step_announced s (CutOff stream fields) new sound h e = subst HaveAnnounced (sym e) h
step_announced s (InsertionsRead count) new sound h e = subst HaveAnnounced (sym e.2) h
step_announced s (Decode section) new sound h e = subst HaveAnnounced (sym e.3) (without_written (HasAnnounced s.encoder.announced) section.stream s.sections h)
step_announced s (Cancel stream) new sound h e = subst HaveAnnounced (sym e.1) (kept_written (HasAnnounced s.encoder.announced) _ s.sections h)
step_announced s (DecoderInstructionRead instruction rest) new sound h e =
    subst HaveAnnounced (sym e.1) (subst (λ c. AllByRecursion (HasAnnounced c) s.sections) (sym (same_announced s.encoder instruction)) h)

run_announced : (s : Session) (events : List SessionEvent) (new : Session) → IsSound s → HaveAnnounced s → SessionRun s events new → HaveAnnounced new
run_announced s [] new sound h r = subst HaveAnnounced (sym r) h
run_announced s (event ∷ events) new sound h r = run_announced r.0 events new (step_is_sound s event r.0 sound r.1) (step_announced s event r.0 sound h r.1) r.2

-- The oldest section of a stream, if its fields are of bytes and its encoding is not longer than memory holds.
pub section_is_written : (counts : Bool) (most announced limit : ℕ) (events : List SessionEvent) (s : Session) (b : UndecodedSection) → SessionRun (beginning counts most announced limit) events s → oldest b.stream s.sections ≡ Some b
    → AllByRecursion IsFieldOfBytes b.fields → section_size b.fields < 2 ^ 62 → length (encoded_section b.encoder b.fields) < 2 ^ 63 → IsWritten s b
section_is_written counts most announced limit events s b run is bytes size held =
    let sound = every_run_is_sound counts most announced limit events s run in
    let all = run_announced (beginning counts most announced limit) events s (beginning_is_sound counts most announced limit) tt run in
    let over = oldest_holds (IsWrittenOver s.encoder.inserted) b.stream s.sections b sound.written is in
    let d = draft_of b.encoder b.fields in
    let few : length b.encoder.inserted < 2 ^ 62 =
    omega (arith, section_longer b.encoder b.fields, ap length over.begins, length-append d.inserted over.more, sound.small) in
    record {
      lines = lines_written b.encoder b.fields few bytes size
          (omega (arith, held, length-append (prefix_bytes b.encoder.announced (required_insert_count d) (length b.encoder.inserted)) (flat_map line_bytes d.lines)));
      base = few;
      announced = oldest_holds (HasAnnounced s.encoder.announced) b.stream s.sections b all is;
    }
