-- A dynamic table as the encoder of one section uses it (RFC 9204, sections 2.1 and 3.2.4 to 3.2.6).
use Rattle.std.specs.Prelude.{◌≡◌, ◌<◌, ◌≤◌, ℕ, ◌+◌, ◌-◌, true, false, Some, None, if◌then◌else◌, ◌==◌}
use Rattle.h3_field.specs.Field.{Field}
use Rattle.h3_field.specs.StaticTable.{static_field, static_name}
use Rattle.h3_field.specs.StringLiteral.{huffman_text}
use Rattle.h3_field.specs.Instruction.EncoderInstruction.{InsertWithStaticName, InsertWithEntryName, InsertLiteral, Duplicate}
use Rattle.h3_table.specs.TableState.{TableState, evicted, with_entry}
use Rattle.h3_qpack.specs.EncoderState.{EncoderState, MayInsertInto, encoder_state_sent}
use Rattle.h3_qpack.specs.Drafting.{naming, older, named, insertion_for, IsNowhere}
use Rattle.h3_qpack.specs.declared.section.Section.{Section}
use Rattle.h3_qpack.specs.declared.encoder_view.DynamicLookupResult.{DynamicLookupResult}
use Rattle.h3_qpack.specs.declared.encoder_view.DynamicLookupResult.TheVariants as lookup
use Rattle.h3_qpack.specs.declared.encoder_view.DynamicInsertionResult.{DynamicInsertionResult}
use Rattle.h3_qpack.specs.declared.encoder_view.DynamicInsertionResult.TheVariants as insertion

-- The answer is an equal entry: of the static table, or the newest that is older than the section and may be named.
abbrev pub AnswersField : EncoderState → Section → Field → DynamicLookupResult → Type 0
AnswersField t section f (lookup.Static index) = static_field f ≡ Some index
AnswersField t section f (lookup.Relative index absolute) = (static_field f ≡ None) × (older t section f ≡ Some absolute) × (index ≡ section.base - absolute)
AnswersField t section f (lookup.PostBase index absolute) = ⊥
AnswersField t section f lookup.NotFound = IsNowhere t section f

-- The answer is an entry of the field's name: of the static table, or the newest that may be named.
abbrev pub AnswersName : EncoderState → Section → Field → DynamicLookupResult → Type 0
AnswersName t section f (lookup.Static index) = static_name f.name ≡ Some index
AnswersName t section f (lookup.Relative index absolute) = (static_name f.name ≡ None) × (named t section f ≡ Some absolute) × (absolute ≤ section.base) × (index ≡ section.base - absolute)
AnswersName t section f (lookup.PostBase index absolute) = (static_name f.name ≡ None) × (named t section f ≡ Some absolute) × (section.base < absolute) × (index ≡ absolute - section.base - 1)
AnswersName t section f lookup.NotFound = (static_name f.name ≡ None) × (named t section f ≡ None)

-- the section, which names what was found
abbrev pub section_found : Section → DynamicLookupResult → Section
section_found section (lookup.Static index) = section
section_found section (lookup.Relative index absolute) = naming section absolute
section_found section (lookup.PostBase index absolute) = naming section absolute
section_found section lookup.NotFound = section

-- The answer says how the next entry is inserted, after which so many entries are evicted, and which entry that is. Its strings are told as
-- they are written without a choice.
abbrev pub IsInsertion : TableState → ℕ → ℕ → Field → DynamicInsertionResult → Type 0
IsInsertion h base after f (insertion.Inserted postbase absolute) =
    (insertion_for false h after f ≡ InsertLiteral (huffman_text f.name) (huffman_text f.value)) × (postbase ≡ h.inserted - base) × (absolute ≡ h.inserted + 1)
IsInsertion h base after f (insertion.Duplicated relative postbase absolute) =
    (insertion_for false h after f ≡ Duplicate relative) × (postbase ≡ h.inserted - base) × (absolute ≡ h.inserted + 1)
IsInsertion h base after f (insertion.InsertedWithNameRef relative postbase absolute) =
    (insertion_for false h after f ≡ InsertWithEntryName relative (huffman_text f.value)) × (postbase ≡ h.inserted - base) × (absolute ≡ h.inserted + 1)
IsInsertion h base after f (insertion.InsertedWithStaticNameRef index postbase absolute) =
    (insertion_for false h after f ≡ InsertWithStaticName index (huffman_text f.value)) × (postbase ≡ h.inserted - base) × (absolute ≡ h.inserted + 1)
IsInsertion h base after f insertion.NotInserted = ⊥

-- The field was to be inserted, and was, and the section names its entry.
pub record IsInserted (t : EncoderState) (section : Section) (f : Field) (new : EncoderState) (next : Section) : Type 0 where
  pub may_block : section.may_block ≡ true
  pub may : MayInsertInto t f section.oldest
  pub table : new ≡ record t { table = with_entry t.table f }
  pub names : next ≡ naming section (t.table.inserted + 1)

-- The field may not be inserted, and nothing changed.
pub record IsNotInserted (t : EncoderState) (section : Section) (f : Field) (new : EncoderState) (next : Section) : Type 0 where
  pub may_not : section.may_block ≡ true → MayInsertInto t f section.oldest → ⊥
  pub table : new ≡ t
  pub same : next ≡ section

abbrev pub AnswersInsertion : EncoderState → Section → Field → EncoderState → Section → DynamicInsertionResult → Type 0
AnswersInsertion t section f new next insertion.NotInserted = IsNotInserted t section f new next
AnswersInsertion t section f new next other = IsInserted t section f new next × IsInsertion t.table section.base (evicted (with_entry t.table f)) f other

-- what is kept, once the section is tracked under its stream where it names entries
abbrev pub committed : EncoderState → ℕ → Section → EncoderState
committed t stream section = if section.newest == 0 then t else encoder_state_sent t stream section.newest section.oldest
