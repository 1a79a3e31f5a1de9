-- What a section names is there, after an insertion through the encoder's view of the table.
use Rattle.std.proofs.Common.{◌≡◌, ℕ, ◌+◌, ◌≤◌, ◌∙◌, ap}
use Rattle.h3_field.specs.Field.{Field}
use Rattle.h3_table.specs.TableState.{evicted, with_entry}
use Rattle.h3_qpack.specs.EncoderState.{EncoderState, MayInsertInto}
use Rattle.h3_qpack.specs.Drafting.{IsOver, naming}
use Rattle.h3_qpack.specs.declared.section.Section.{Section}
use Rattle.h3_qpack.specs.declared.section.Choice.TheVariants as choice
use Rattle.h3_qpack.proofs.Fieldwise.{over_after}

pub inserted_over : (t : EncoderState) (section : Section) (f : Field) (after number : ℕ) (new : EncoderState) (next : Section) → IsOver t.table section
    → MayInsertInto t f section.oldest × (after ≡ evicted (with_entry t.table f)) × (evicted t.table ≤ after)
    → new ≡ record t { table = with_entry t.table f } → number ≡ t.table.inserted → next ≡ naming section (number + 1) → IsOver new.table next
inserted_over t section f after number new next over possible table is names =
    over_after t section f (choice.Insertion after 0) new next over possible table (names ∙ ap (λ n. naming section (n + 1)) is)
