-- The fields of the lines of a section, line by line.
use Rattle.std.proofs.Common.{◌≡◌, ℕ, zero, suc, ◌<◌, ◌≤◌, List, [], ◌∷◌, ◌++◌, length, Option, Some, None, option_map, refl, ap, sym, ◌∙◌, arith, append_assoc, append-nil, inl, inr}
use Rattle.h3_field.specs.Field.{Field}
use Rattle.h3_field.specs.Line.{FieldLine}
use Rattle.h3_field.specs.LineReading.{LineForm, line}
use Rattle.h3_field.specs.Reading.{Reading, Whole, Unfinished, Bad}
use Rattle.h3_field.specs.Section.{AreLines, NoLine, NextLine}
use Rattle.h3_table.specs.TableState.{TableState}
use Rattle.h3_qpack.specs.DecoderState.{DecoderState}
use Rattle.h3_qpack.specs.Meaning.{table_for, HaveFields, MeansFields}
use Rattle.h3_qpack.specs.SectionAnswers.{BeginsWith, BeginsWithNone, LinesAskMemory, MayAskMemory, IsReasonWith}
use Rattle.h3_qpack.proofs.Hearings.{asks_memory}
use Rattle.h3_field.specs.Values.{line_of}
use Rattle.h3_field.specs.SectionAnswer.{BeginsWithString}
use Rattle.h3_field.specs.declared.decoder_error.DecoderError.{DecoderError}
use Rattle.h3_field.specs.declared.decoder_error.DecoderError.TheVariants.{OutOfMemory}
use Rattle.h3_qpack.specs.DecodedSection.{field_of, then_fields, fields_from, fields_within, fields_in}
use Rattle.h3_field.specs.ValueLaws.{line_some}
use Rattle.h3_field.specs.ShorterLaws.{line_less}
use Rattle.h3_qpack.proofs.DecodedLaws.{fields_are}

from_same : (go other : List ℕ → Option (List Field)) (h : TableState) (base : ℕ) (x : Reading LineForm) → ((form : LineForm) (rest : List ℕ) → x ≡ Whole form rest → go rest ≡ other rest)
    → fields_from go h base x ≡ fields_from other h base x
from_same go other h base (Whole form rest) each = ap (λ o. then_fields (field_of h base (line_of form)) o) (each form rest refl)
from_same go other h base Unfinished each = refl
from_same go other h base Bad each = refl

within_same : (n m : ℕ) (h : TableState) (base : ℕ) (bytes : List ℕ) → length bytes ≤ n → length bytes ≤ m → fields_within n h base bytes ≡ fields_within m h base bytes
within_same n m h base [] p q = refl
within_same zero m h base (byte ∷ bytes) p q = absurd (omega (arith, p))
within_same (suc n) zero h base (byte ∷ bytes) p q = absurd (omega (arith, q))
within_same (suc n) (suc m) h base (byte ∷ bytes) p q =
    from_same (fields_within n h base) (fields_within m h base) h base (line (byte ∷ bytes))
    (λ form rest e. let less = line_less (byte ∷ bytes) rest form e in within_same n m h base rest (omega (arith, less, p)) (omega (arith, less, q)))

pub fields_step : (h : TableState) (base byte : ℕ) (bytes : List ℕ) → fields_in h base (byte ∷ bytes) ≡ fields_from (fields_in h base) h base (line (byte ∷ bytes))
unfolding fields_in
fields_step h base byte bytes =
    within_same (length (byte ∷ bytes)) (suc (length bytes)) h base (byte ∷ bytes) (omega arith) (omega arith)
    ∙ from_same (fields_within (length bytes) h base) (λ rest. fields_within (length rest) h base rest) h base (line (byte ∷ bytes))
    (λ form rest e. let less = line_less (byte ∷ bytes) rest form e in within_same (length bytes) (length rest) h base rest (omega (arith, less)) (omega arith))

-- a line that was read, and the lines behind it
pub line_first : (h : TableState) (base : ℕ) (bytes : List ℕ) (f : Field) (rest : List ℕ) → BeginsWith h base bytes f rest → fields_in h base bytes ≡ option_map (λ fs. f ∷ fs) (fields_in h base rest)
line_first h base [] f rest b = let e : Unfinished ≡ Whole b.here.form rest = b.here.whole in absurd (cc)
line_first h base (byte ∷ bytes) f rest b =
    fields_step h base byte bytes
    ∙ ap (λ x. fields_from (fields_in h base) h base x) b.here.whole
    ∙ ap (λ o. then_fields (field_of h base o) (fields_in h base rest)) (line_some b.here.form b.line b.here.says)
    ∙ ap (λ o. then_fields o (fields_in h base rest)) b.names

first_line : (h : TableState) (base : ℕ) (bytes : List ℕ) (lines : List FieldLine) (fields : List Field) → AreLines bytes lines → HaveFields h base lines fields → 0 < length bytes → BeginsWithNone h base bytes → ⊥
first_line h base bytes lines fields (NoLine) named above none = omega (arith, above)
first_line h base bytes lines [] (NextLine b rest l ls here are) named above none = named
first_line h base bytes lines (f ∷ fs) (NextLine b rest l ls here are) named above none = none rest l f here named.0

-- a section that has fields begins with a line of one
some_ask : (h : TableState) (base : ℕ) (bytes : List ℕ) (lines : List FieldLine) (fields : List Field) → AreLines bytes lines → HaveFields h base lines fields → 0 < length fields → LinesAskMemory h base bytes
some_ask h base bytes lines [] are named some = absurd (omega (arith, some))
some_ask h base bytes lines (f ∷ fs) (NoLine) named some = absurd named
some_ask h base bytes lines (f ∷ fs) (NextLine b rest l ls here are) named some = inr (f, rest, record { line = l; here = here; names = named.0; less = line_less b rest here.form here.whole })

pub section_asks : (r : DecoderState) (bytes : List ℕ) (count : ℕ) (fields : List Field) → MeansFields r bytes count fields → 0 < length fields → MayAskMemory r bytes
section_asks r bytes count fields m some = record {
  rest = m.rest;
  count = count;
  base = m.base;
  begins = m.begins;
  received = m.received;
  lines = some_ask (table_for r count) m.base m.rest m.lines fields m.split m.named some;
}

-- what begins with no line of a field
pub no_line : (h : TableState) (base : ℕ) (bytes : List ℕ) → 0 < length bytes → BeginsWithNone h base bytes → fields_in h base bytes ≡ None
unfolding fields_in
no_line h base bytes above none = by_value (fields_within (length bytes) h base bytes) refl
  where
    by_value : (o : Option (List Field)) → fields_within (length bytes) h base bytes ≡ o → o ≡ None
    by_value None e = refl
    by_value (Some fields) e =
        let l = fields_are (length bytes) h base bytes fields e in
        absurd (first_line h base bytes l.lines fields l.split l.named above none)

-- The lines in front of the rest are of these fields.
abbrev pub AreRead : TableState → ℕ → List ℕ → List Field → List ℕ → Type 0
AreRead h base bytes fields rest = fields_in h base bytes ≡ option_map (λ more. fields ++ more) (fields_in h base rest)

mapped_nil : (o : Option (List Field)) → o ≡ option_map (λ more. [] ++ more) o
mapped_nil None = refl
mapped_nil (Some fields) = refl

pub none_read : (h : TableState) (base : ℕ) (bytes : List ℕ) → AreRead h base bytes [] bytes
none_read h base bytes = mapped_nil (fields_in h base bytes)

mapped_on : (fields : List Field) (f : Field) (o : Option (List Field)) → option_map (λ more. fields ++ more) (option_map (λ fs. f ∷ fs) o) ≡ option_map (λ more. (fields ++ f ∷ []) ++ more) o
mapped_on fields f None = refl
mapped_on fields f (Some more) = ap Some (sym (append_assoc fields (f ∷ []) more))

pub one_read : (h : TableState) (base : ℕ) (bytes : List ℕ) (fields : List Field) (f : Field) (rest new : List ℕ) → AreRead h base bytes fields rest → BeginsWith h base rest f new → AreRead h base bytes (fields ++ f ∷ []) new
one_read h base bytes fields f rest new read b =
    read ∙ ap (λ o. option_map (λ more. fields ++ more) o) (line_first h base rest f new b) ∙ mapped_on fields f (fields_in h base new)

pub all_read : (h : TableState) (base : ℕ) (bytes : List ℕ) (fields : List Field) (rest : List ℕ) → AreRead h base bytes fields rest → length rest ≤ 0 → (fields_in h base bytes ≡ Some fields) × (rest ≡ [])
unfolding fields_in
all_read h base bytes fields [] read end = (read ∙ ap Some (append-nil fields), refl)
all_read h base bytes fields (x ∷ rest) read end = absurd (omega (arith, end))

-- Where the lines that are left ask for memory, all of them do.
abbrev pub AskAlike : TableState → ℕ → List ℕ → List ℕ → Type 0
AskAlike h base bytes rest = LinesAskMemory h base rest → LinesAskMemory h base bytes

pub one_kept : (h : TableState) (base : ℕ) (bytes rest new : List ℕ) (f : Field) → AskAlike h base bytes rest → BeginsWith h base rest f new → LinesAskMemory h base bytes
one_kept h base bytes rest new f asks b = asks (inr (f, new, b))

pub line_asks : (h : TableState) (base : ℕ) (bytes rest : List ℕ) (e : DecoderError) → AskAlike h base bytes rest → IsReasonWith (BeginsWithString rest) (BeginsWithNone h base rest) (λ count. ⊥) e
    → e ≡ OutOfMemory → LinesAskMemory h base bytes
line_asks h base bytes rest e asks reason same = asks (inl (asks_memory _ _ e reason same))

pub bad_read : (h : TableState) (base : ℕ) (bytes : List ℕ) (fields : List Field) (rest : List ℕ) → AreRead h base bytes fields rest → 0 < length rest → BeginsWithNone h base rest → fields_in h base bytes ≡ None
bad_read h base bytes fields rest read above none = read ∙ ap (λ o. option_map (λ more. fields ++ more) o) (no_line h base rest above none)
