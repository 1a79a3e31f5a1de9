use Rattle.std.proofs.Common.{◌≡◌, ◌≤◌, ℕ, Bool, true, false, List, [], ◌∷◌, ◌++◌, length, Some, refl, ◌∙◌, ap, append-nil, if◌then◌else◌}
use Rattle.std.specs.Prelude.{◌==◌}
use Rattle.h3_field.specs.Field.{Field}
use Rattle.h3_field.specs.Instruction.{DecoderInstruction}
use Rattle.h3_field.specs.Instruction.DecoderInstruction.{Acknowledge, CancelStream, Increment}
use Rattle.h3_table.specs.Cancellations.{counts_as_canceled}
use Rattle.h3_qpack.specs.EncoderHistory.{EncoderHistory, was_canceled, writing_on, encoder_after}
use Rattle.h3_qpack.specs.SectionEncoding.{Draft, draft_of, required_insert_count, sent_section}
use Rattle.h3_qpack.specs.Session.{Session, IsSound}
use Rattle.h3_qpack.proofs.Cancellations.{is_among, no_section, canceled_now, canceled_still, released_still, sent_still, few_kept}
use Rattle.h3_qpack.proofs.Canceled.{on_static}
use Rattle.h3_qpack.proofs.Schedules.{every_run_is_sound}
use Rattle.h3_qpack.proofs.laws.cancellations_are_kept.Goals as goal

still : (s : Session) (i : DecoderInstruction) (stream : ℕ) → IsSound s → was_canceled s.encoder stream ≡ true → was_canceled (encoder_after s.encoder i) stream ≡ true
still s (Acknowledge other) stream h e = released_still s.encoder.canceled s.encoder.tracked other stream (no_section stream s.encoder.tracked (h.untracked stream e)) e
still s (CancelStream other) stream h e = canceled_still s.encoder.canceled s.encoder.tracked other stream (no_section stream s.encoder.tracked (h.untracked stream e)) e
still s (Increment count) stream h e = e

sent_same : (s : EncoderHistory) (stream other : ℕ) (fields : List Field) (b : Bool) → was_canceled s stream ≡ b → was_canceled (sent_section s stream fields) other ≡ was_canceled s other
sent_same s stream other fields true e =
    ap (λ (d : Draft). counts_as_canceled s.canceled other (is_among other (s.tracked ++ (if required_insert_count d == 0 then [] else record { stream = stream; references = d.references } ∷ [])))) (on_static s stream fields e)
    ∙ ap (λ ts. counts_as_canceled s.canceled other (is_among other ts)) (append-nil s.tracked)
sent_same s stream other fields false e =
    let draft = draft_of (writing_on s stream) fields in
    sent_still s.canceled s.tracked draft.references stream other (required_insert_count draft == 0) e

few_after : (s : EncoderHistory) (i : DecoderInstruction) (most : ℕ) → s.canceled.most ≡ Some most → length s.canceled.kept ≤ most
    → ((encoder_after s i).canceled.most ≡ Some most) × (length (encoder_after s i).canceled.kept ≤ most)
few_after s (Acknowledge stream) most is few = (is, few)
few_after s (CancelStream stream) most is few = few_kept s.canceled stream most is few
few_after s (Increment count) most is few = (is, few)

pub returns-clause-canceled : goal.returns-clause-canceled
returns-clause-canceled c = λ s stream. canceled_now s.canceled s.tracked stream

pub returns-clause-stays : goal.returns-clause-stays
returns-clause-stays c = λ counts most announced limit events s i stream run e. still s i stream (every_run_is_sound counts most announced limit events s run) e

pub returns-clause-counted : goal.returns-clause-counted
returns-clause-counted c = λ s count other. refl

pub returns-clause-sent : goal.returns-clause-sent
returns-clause-sent c = λ s stream other fields. sent_same s stream other fields (was_canceled s stream) refl

pub returns-clause-few : goal.returns-clause-few
returns-clause-few c = λ s i most is few. few_after s i most is few
