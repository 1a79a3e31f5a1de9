-- An encoder that chooses nothing more guards secrets as before, in each section that it writes.
use Rattle.std.proofs.Common.{◌≡◌, ℕ, Bool, true, false, not, List, [], ◌∷◌, ◌++◌, refl, sym, ◌∙◌, subst, if◌then◌else◌}
use Rattle.std.specs.Prelude.{filter, ◌==◌}
use Rattle.std.specs.List.{AllByRecursion}
use Rattle.h3_field.specs.Instruction.{DecoderInstruction}
use Rattle.h3_field.specs.Instruction.DecoderInstruction.{Acknowledge, CancelStream, Increment}
use Rattle.h3_qpack.specs.EncoderHistory.{EncoderHistory, encoder_after, was_canceled, writing_on}
use Rattle.h3_qpack.specs.Session.{Session, UndecodedSection, without_oldest}
use Rattle.h3_qpack.specs.Schedule.{SessionEvent, SessionStep, SessionRun}
use Rattle.h3_qpack.specs.Schedule.SessionEvent.{UseTable, Choose, KeepCanceled, Encode, CutOff, InsertionsRead, Decode, Cancel, DecoderInstructionRead}
use Rattle.h3_world.specs.Following.{Guards}

-- The encoder chooses nothing more.
abbrev pub ChoosesNothing : SessionEvent → Type 0
ChoosesNothing (Choose choices) = ⊥
ChoosesNothing _ = Unit {0}

and_one : {X : Type 0} (P : X → Type 0) (xs : List X) (x : X) → AllByRecursion P xs → P x → AllByRecursion P (xs ++ x ∷ [])
and_one P [] x all new = (new, tt)
and_one P (y ∷ ys) x all new = (all.0, and_one P ys x all.1 new)

module _ (P : UndecodedSection → Type 0) (stream : ℕ) where
  but_oldest : (bs : List UndecodedSection) → AllByRecursion P bs → AllByRecursion P (without_oldest stream bs)
  but_oldest [] all = tt
  but_oldest (b ∷ bs) all = by_test (b.stream == stream) (but_oldest bs all.1)
    where
      by_test : (t : Bool) → AllByRecursion P (without_oldest stream bs) → AllByRecursion P (if t then bs else b ∷ without_oldest stream bs)
      by_test true later = all.1
      by_test false later = (all.0, later)

  of_others : (bs : List UndecodedSection) → AllByRecursion P bs → AllByRecursion P (filter (λ b. not (b.stream == stream)) bs)
  of_others [] all = tt
  of_others (b ∷ bs) all = by_test (not (b.stream == stream)) (of_others bs all.1)
    where
      by_test : (t : Bool) → AllByRecursion P (filter (λ b. not (b.stream == stream)) bs)
          → AllByRecursion P (if t then b ∷ filter (λ b. not (b.stream == stream)) bs else filter (λ b. not (b.stream == stream)) bs)
      by_test true later = (all.0, later)
      by_test false later = later

-- on each stream
written_so : (s : EncoderHistory) (stream : ℕ) → (writing_on s stream).choices.guards_secrets ≡ s.choices.guards_secrets
written_so s stream = by_test (was_canceled s stream)
  where
    by_test : (b : Bool) → (if b then record s { announced = 0; capacity = 0; limit = 0; choices = record s.choices { economical = false } } else s).choices.guards_secrets ≡ s.choices.guards_secrets
    by_test true = refl
    by_test false = refl

read_so : (s : EncoderHistory) (i : DecoderInstruction) → (encoder_after s i).choices.guards_secrets ≡ s.choices.guards_secrets
read_so s (Acknowledge stream) = refl
read_so s (CancelStream stream) = refl
read_so s (Increment count) = refl

module _ (guards : Bool) where
  abbrev IsSo : UndecodedSection → Type 0
  IsSo b = b.encoder.choices.guards_secrets ≡ guards

  step_guards : (s : Session) (event : SessionEvent) (new : Session) → ChoosesNothing event → SessionStep s event new → Guards guards s → Guards guards new
  step_guards s (UseTable announced limit) new none e h = subst (Guards guards) (sym e.2) h
  step_guards s (Choose choices) new none e h = absurd none
  step_guards s (KeepCanceled most) new none e h = subst (Guards guards) (sym e) h
  step_guards s (Encode stream fields) new none e h =
      subst (Guards guards) (sym e) (h.0, and_one IsSo s.sections (record { stream = stream; fields = fields; encoder = writing_on s.encoder stream }) h.1 (written_so s.encoder stream ∙ h.0))
  step_guards s (CutOff stream fields) new none e h = subst (Guards guards) (sym e) h
  step_guards s (InsertionsRead count) new none e h = subst (Guards guards) (sym e.2) h
  step_guards s (Decode section) new none e h = subst (Guards guards) (sym e.3) (h.0, but_oldest IsSo section.stream s.sections h.1)
  step_guards s (Cancel stream) new none e h = subst (Guards guards) (sym e.1) (h.0, of_others IsSo stream s.sections h.1)
  step_guards s (DecoderInstructionRead instruction rest) new none e h = subst (Guards guards) (sym e.1) (read_so s.encoder instruction ∙ h.0, h.1)

  pub run_guards : (s : Session) (events : List SessionEvent) (new : Session) → AllByRecursion ChoosesNothing events → SessionRun s events new → Guards guards s → Guards guards new
  run_guards s [] new none run h = subst (Guards guards) (sym run) h
  run_guards s (event ∷ events) new none run h = run_guards run.0 events new none.1 run.2 (step_guards s event run.0 none.0 run.1 h)
