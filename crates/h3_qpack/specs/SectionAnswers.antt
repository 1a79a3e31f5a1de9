-- What the readers of an encoded field section answer.
use Rattle.std.specs.Prelude.{◌≡◌, ◌⊎◌, ◌<◌, ◌≤◌, ℕ, List, [], ◌∷◌, ◌++◌, length, Some, Result, Ok, Err}
use Rattle.h3_field.specs.Field.{Field}
use Rattle.h3_field.specs.Line.{FieldLine}
use Rattle.h3_field.specs.Section.{HasLine}
use Rattle.h3_field.specs.SectionAnswer.{BeginsWithString}
use Rattle.h3_field.specs.declared.decoder_error.DecoderError.{DecoderError}
use Rattle.h3_field.specs.declared.decoder_error.DecoderError.TheVariants.{InvalidInteger, InvalidString, InvalidIndex, DynamicTable, InvalidStaticIndex, UnknownPrefix, MissingRefs, BadBaseIndex, UnexpectedEnd, HeaderTooLong, BufSize, OutOfMemory}
use Rattle.h3_table.specs.TableState.{TableState}
use Rattle.h3_qpack.specs.DecoderState.{DecoderState}
use Rattle.h3_qpack.specs.Meaning.{table_for, field_at, HasPrefix, IsMissing, IsBadSection}

-- The bytes begin with a line that is of this field, and end with the rest.
pub record BeginsWith (h : TableState) (base : ℕ) (bytes : List ℕ) (f : Field) (rest : List ℕ) : Type 0 where
  pub line : FieldLine
  pub here : HasLine bytes line rest
  pub names : field_at h base line ≡ Some f
  pub less : length rest < length bytes

-- They begin with no line that is of a field.
abbrev pub BeginsWithNone : TableState → ℕ → List ℕ → Type 0
BeginsWithNone h base bytes = (rest : List ℕ) (l : FieldLine) (f : Field) → HasLine bytes l rest → field_at h base l ≡ Some f → ⊥

-- They begin with a line that has a string to be copied, or is of a field, which is kept.
abbrev pub LinesAskMemory : TableState → ℕ → List ℕ → Type 0
LinesAskMemory h base bytes = BeginsWithString bytes ⊎ ((f : Field) × (rest : List ℕ) × BeginsWith h base bytes f rest)

-- Memory may be asked for once the insertions that a section needs are known to be there, and its first line has a string or
-- is of a field.
pub record MayAskMemory (r : DecoderState) (bytes : List ℕ) : Type 0 where
  pub rest : List ℕ
  pub count : ℕ
  pub base : ℕ
  pub begins : HasPrefix r bytes rest count base
  pub received : count ≤ r.table.inserted
  pub lines : LinesAskMemory (table_for r count) base rest

-- A refusal is for want of memory or for missing insertions, each as given, or as the other reason says.
abbrev pub IsReasonWith : Type 0 → Type 0 → (ℕ → Type 0) → DecoderError → Type 0
IsReasonWith memory bad missing OutOfMemory = memory
IsReasonWith memory bad missing (MissingRefs count) = missing count
IsReasonWith memory bad missing (HeaderTooLong size) = ⊥
IsReasonWith memory bad missing (InvalidInteger e) = bad
IsReasonWith memory bad missing (InvalidString e) = bad
IsReasonWith memory bad missing (InvalidIndex e) = bad
IsReasonWith memory bad missing (DynamicTable e) = bad
IsReasonWith memory bad missing (InvalidStaticIndex e) = bad
IsReasonWith memory bad missing (UnknownPrefix e) = bad
IsReasonWith memory bad missing BadBaseIndex = bad
IsReasonWith memory bad missing UnexpectedEnd = bad
IsReasonWith memory bad missing BufSize = bad

-- the same where any refusal may be for want of memory
abbrev pub IsReasonFor : Type 0 → (ℕ → Type 0) → DecoderError → Type 0
IsReasonFor bad missing e = IsReasonWith (Unit {0}) bad missing e

abbrev pub AnswersLineAt : TableState → ℕ → List ℕ → List ℕ → Result Field DecoderError → Type 0
AnswersLineAt h base old new (Ok f) = BeginsWith h base old f new
AnswersLineAt h base old new (Err e) = IsReasonWith (BeginsWithString old) (BeginsWithNone h base old) (λ count. ⊥) e

-- The field of the line at the front is added to the fields before it, and the line is taken.
pub record HasPut (h : TableState) (base : ℕ) (old new : List ℕ) (before after : List Field) : Type 0 where
  pub field : Field
  pub begins : BeginsWith h base old field new
  pub added : after ≡ before ++ field ∷ []

-- Memory is asked for by a line that has a string or is of a field.
abbrev pub PutsLine : TableState → ℕ → List ℕ → List ℕ → List Field → List Field → Result Unit DecoderError → Type 0
PutsLine h base old new before after (Ok u) = HasPut h base old new before after
PutsLine h base old new before after (Err e) = IsReasonWith (LinesAskMemory h base old) (BeginsWithNone h base old) (λ count. ⊥) e

-- why a section is refused
abbrev pub IsRefusal : DecoderState → List ℕ → DecoderError → Type 0
IsRefusal r bytes e = IsReasonFor (IsBadSection r bytes) (IsMissing r bytes) e
