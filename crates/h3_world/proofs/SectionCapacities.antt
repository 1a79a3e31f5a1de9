-- A section that names entries was written for the announced capacity that its encoder goes by.
use Rattle.std.proofs.Common.{◌≡◌, ℕ, ◌<◌, Bool, true, false, not, List, [], ◌∷◌, ◌++◌, length, refl, sym, ap, subst, arith, length-append, max, fold, if◌then◌else◌}
use Rattle.std.specs.Prelude.{filter, ◌==◌}
use Rattle.std.specs.List.{AllByRecursion}
use Rattle.h3_field.specs.Field.{Field}
use Rattle.h3_field.specs.Instruction.{DecoderInstruction}
use Rattle.h3_field.specs.Instruction.DecoderInstruction.{Acknowledge, CancelStream, Increment}
use Rattle.h3_qpack.specs.EncoderHistory.{EncoderHistory, encoder_after, was_canceled, writing_on}
use Rattle.h3_qpack.specs.SectionEncoding.{draft_of}
use Rattle.h3_qpack.specs.Session.{Session, UndecodedSection, IsSound, IsWrittenOver, count_of, without_oldest}
use Rattle.h3_qpack.specs.Schedule.{SessionEvent, SessionStep, SessionRun, beginning}
use Rattle.h3_qpack.specs.Schedule.SessionEvent.{UseTable, Choose, KeepCanceled, Encode, CutOff, InsertionsRead, Decode, Cancel, DecoderInstructionRead}
use Rattle.h3_world.proofs.Grown.{SessionsAreSound, run_joined}
use Rattle.h3_world.proofs.Inserted.{needs_made}
use Rattle.h3_world.proofs.SoundFlows.{all_weaker}

-- on a stream whose cancellation was read no entry is named
abbrev pub CanceledNameNone : Type 0
CanceledNameNone = (s : EncoderHistory) (stream : ℕ) (fields : List Field) → was_canceled s stream ≡ true → (draft_of (writing_on s stream) fields).references ≡ []

abbrev pub HasItsAnnounced : ℕ → UndecodedSection → Type 0
HasItsAnnounced announced b = 0 < count_of b → b.encoder.announced ≡ announced

abbrev pub AllHave : Session → Type 0
AllHave s = AllByRecursion (HasItsAnnounced s.encoder.announced) s.sections

all_and : {X : Type 0} (P : X → Type 0) (xs : List X) (x : X) → AllByRecursion P xs → P x → AllByRecursion P (xs ++ x ∷ [])
all_and P [] x all new = (new, tt)
all_and P (y ∷ ys) x all new = (all.0, all_and P ys x all.1 new)

without : (announced stream : ℕ) (bs : List UndecodedSection) → AllByRecursion (HasItsAnnounced announced) bs → AllByRecursion (HasItsAnnounced announced) (without_oldest stream bs)
without announced stream [] all = tt
without announced stream (b ∷ bs) all = by_test (b.stream == stream) (without announced stream bs all.1)
  where
    by_test : (t : Bool) → AllByRecursion (HasItsAnnounced announced) (without_oldest stream bs) → AllByRecursion (HasItsAnnounced announced) (if t then bs else b ∷ without_oldest stream bs)
    by_test true later = all.1
    by_test false later = (all.0, later)

filtered : (announced stream : ℕ) (bs : List UndecodedSection) → AllByRecursion (HasItsAnnounced announced) bs → AllByRecursion (HasItsAnnounced announced) (filter (λ b. not (b.stream == stream)) bs)
filtered announced stream [] all = tt
filtered announced stream (b ∷ bs) all = by_test (not (b.stream == stream)) (filtered announced stream bs all.1)
  where
    by_test : (t : Bool) → AllByRecursion (HasItsAnnounced announced) (filter (λ b. not (b.stream == stream)) bs)
        → AllByRecursion (HasItsAnnounced announced) (if t then b ∷ filter (λ b. not (b.stream == stream)) bs else filter (λ b. not (b.stream == stream)) bs)
    by_test true later = (all.0, later)
    by_test false later = later

-- nothing that was written over no insertion names an entry
names_none : (announced : ℕ) (inserted : List Field) (b : UndecodedSection) → inserted ≡ [] → IsWrittenOver inserted b → HasItsAnnounced announced b
names_none announced inserted b none w = λ some.
    absurd (omega (arith, some, needs_made b.encoder b.fields, ap length w.begins, length-append (draft_of b.encoder b.fields).inserted w.more, ap length none))

new_section : CanceledNameNone → (s : EncoderHistory) (stream : ℕ) (fields : List Field) → HasItsAnnounced s.announced (record { stream = stream; fields = fields; encoder = writing_on s stream })
new_section canceled s stream fields = by_test (was_canceled s stream) refl
  where
    by_test : (t : Bool) → was_canceled s stream ≡ t → HasItsAnnounced s.announced (record { stream = stream; fields = fields; encoder = writing_on s stream })
    by_test true e = λ some. absurd (omega (arith, some, ap (λ names. fold max 0 names) (canceled s stream fields e)))
    by_test false e = λ some. ap (λ t. (if t then record s { announced = 0; capacity = 0; limit = 0; choices = record s.choices { economical = false } } else s).announced) e

read_announced : (s : EncoderHistory) (i : DecoderInstruction) → (encoder_after s i).announced ≡ s.announced
read_announced s (Acknowledge stream) = refl
read_announced s (CancelStream stream) = refl
read_announced s (Increment count) = refl

step_has : CanceledNameNone → (s : Session) (event : SessionEvent) (new : Session) → IsSound s → SessionStep s event new → AllHave s → AllHave new
step_has canceled s (UseTable announced limit) new sound e all =
    subst AllHave (sym e.2) (all_weaker (IsWrittenOver s.encoder.inserted) (HasItsAnnounced announced) (λ b w. names_none announced s.encoder.inserted b e.0 w) s.sections sound.written)
step_has canceled s (Choose choices) new sound e all = subst AllHave (sym e) all
step_has canceled s (KeepCanceled most) new sound e all = subst AllHave (sym e) all
step_has canceled s (Encode stream fields) new sound e all =
    subst AllHave (sym e) (all_and (HasItsAnnounced s.encoder.announced) s.sections _ all (new_section canceled s.encoder stream fields))
step_has canceled s (CutOff stream fields) new sound e all = subst AllHave (sym e) all
step_has canceled s (InsertionsRead count) new sound e all = subst AllHave (sym e.2) all
step_has canceled s (Decode section) new sound e all = subst AllHave (sym e.3) (without s.encoder.announced section.stream s.sections all)
step_has canceled s (Cancel stream) new sound e all = subst AllHave (sym e.1) (filtered s.encoder.announced stream s.sections all)
step_has canceled s (DecoderInstructionRead instruction rest) new sound e all =
    subst AllHave (sym e.1) (subst (λ c. AllByRecursion (HasItsAnnounced c) s.sections) (sym (read_announced s.encoder instruction)) all)

-- over every schedule, from one that was gone through
run_has : SessionsAreSound → CanceledNameNone → (counts : Bool) (most : ℕ) (before : List SessionEvent) (s : Session) (events : List SessionEvent) (new : Session) → SessionRun (beginning counts most 0 0) before s → SessionRun s events new → AllHave s → AllHave new
run_has law canceled counts most before s [] new first run all = subst AllHave (sym run) all
run_has law canceled counts most before s (event ∷ events) new first run all =
    run_has law canceled counts most (before ++ event ∷ []) run.0 events new (run_joined (beginning counts most 0 0) before (event ∷ []) s run.0 first (run.0, run.1, refl)) run.2 (step_has canceled s event run.0 (law counts most before s first) run.1 all)

pub sections_have_announced : SessionsAreSound → CanceledNameNone → (counts : Bool) (most : ℕ) (events : List SessionEvent) (s : Session) → SessionRun (beginning counts most 0 0) events s → AllHave s
sections_have_announced law canceled counts most events s run = run_has law canceled counts most [] (beginning counts most 0 0) events s refl run tt
