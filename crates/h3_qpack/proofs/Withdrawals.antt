-- A section that is withdrawn as soon as it was written is one that was cut off: what was inserted for it stays.
use Rattle.std.proofs.Common.{◌≡◌, ℕ, ◌==◌, Bool, true, false, ◌||◌, if◌then◌else◌, List, [], ◌∷◌, ◌++◌, refl, ◌∙◌, ap, arith, append-nil}
use Rattle.std.specs.List.{list_any}
use Rattle.std.proofs.lemmas.Grind.{common_steps}
use Rattle.h3_field.specs.Field.{Field}
use Rattle.h3_qpack.specs.EncoderHistory.{EncoderHistory, UnacknowledgedSection, encoder_after, withdrawn, writing_on}
use Rattle.h3_table.specs.Tracking.{without_newest}
use Rattle.h3_field.specs.Instruction.{DecoderInstruction}
use Rattle.h3_field.specs.Instruction.DecoderInstruction.{Acknowledge, CancelStream, Increment}
use Rattle.h3_qpack.specs.SectionEncoding.{draft_of, marks_after, required_insert_count, having_inserted, sent_section}

last_passes : {X : Type 0} (test : X → Bool) (xs : List X) (x : X) → test x ≡ true → list_any test (xs ++ x ∷ []) ≡ true
last_passes test [] x e = rw e refl
last_passes test (y ∷ ys) x e = either (test y) (last_passes test ys x e)
  where
    either : (b : Bool) → list_any test (ys ++ x ∷ []) ≡ true → (b || list_any test (ys ++ x ∷ [])) ≡ true
    either true later = refl
    either false later = later

without_last : {X : Type 0} (test : X → Bool) (xs : List X) (x : X) → test x ≡ true → without_newest test (xs ++ x ∷ []) ≡ xs
without_last test [] x e = rw e refl
without_last test (y ∷ ys) x e =
    ap (λ b. if b then y ∷ without_newest test (ys ++ x ∷ []) else (if test y then ys ++ x ∷ [] else y ∷ (ys ++ x ∷ []))) (last_passes test ys x e)
    ∙ ap (λ l. y ∷ l) (without_last test ys x e)

same_number : (n : ℕ) → (n == n) ≡ true
same_number n = grind (arith, common_steps)

module _ (stream : ℕ) (old : List UnacknowledgedSection) (section : UnacknowledgedSection) where
  untracked : (none : Bool) → (section.stream == stream) ≡ true
      → (if none then old ++ (if none then [] else section ∷ []) else without_newest (λ t. t.stream == stream) (old ++ (if none then [] else section ∷ []))) ≡ old
  untracked true e = append-nil old
  untracked false e = without_last (λ t. t.stream == stream) old section e

pub withdrawn_as_cut_off : (s : EncoderHistory) (stream : ℕ) (fields : List Field)
    → withdrawn (sent_section s stream fields) stream (required_insert_count (draft_of (writing_on s stream) fields)) ≡ having_inserted s stream fields
withdrawn_as_cut_off s stream fields =
    let draft = draft_of (writing_on s stream) fields in
    let count = required_insert_count draft in
    let section : UnacknowledgedSection = record { stream = stream; references = draft.references } in
    let marks = marks_after (writing_on s stream) draft.lines in
    ap (λ counts. record s { inserted = draft.inserted; marks = marks; required_insert_counts = counts; tracked = (withdrawn (sent_section s stream fields) stream count).tracked })
    (without_last (λ other. other == count) s.required_insert_counts count (same_number count))
    ∙ ap (λ sections. record s { inserted = draft.inserted; marks = marks; tracked = sections }) (untracked stream s.tracked section (count == 0) (same_number stream))

pub counts_kept : (s : EncoderHistory) (i : DecoderInstruction) → (encoder_after s i).required_insert_counts ≡ s.required_insert_counts
counts_kept s (Acknowledge stream) = refl
counts_kept s (CancelStream stream) = refl
counts_kept s (Increment count) = refl
