-- Lines that are not read, and those that name no static entry.
use Rattle.std.proofs.Common.{◌≡◌, ℕ, Bool, ◌<◌, ◌≤◌, List, length, Some, None, Ok, Err, refl, ap, sym, ◌∙◌}
use Rattle.h3_field.specs.Field.{Field}
use Rattle.h3_field.specs.Reading.{Reading, Whole, Unfinished, Bad}
use Rattle.h3_field.specs.StringLiteral.{Text}
use Rattle.h3_field.specs.Line.{FieldLine, huffman_line}
use Rattle.h3_field.specs.Line.FieldLine.{StaticField, StaticName}
use Rattle.h3_field.specs.StaticTableLaws.{static_none}
use Rattle.h3_field.specs.LineReading.{LineForm, SaysLine, HasString, line}
use Rattle.h3_field.specs.LineAnswer.{AnswersLine, LineTakesMemory}
use Rattle.h3_field.specs.ShapeAnswer.{Place, AtInteger, AtString, error_at}
use Rattle.h3_field.specs.declared.prefix_int.Error as integer
use Rattle.h3_field.specs.Section.{line_field}
use Rattle.h3_field.specs.SectionAnswer.{HasField, HasNoField, IsReason}
use Rattle.h3_field.specs.Errors.{decoder_parse}
use Rattle.h3_field.specs.declared.prefix_int.Error.TheVariants.{Overflow, UnexpectedEnd}
use Rattle.h3_field.specs.declared.prefix_string.Error as string
use Rattle.h3_field.specs.declared.parse_error.ParseError.{ParseError}
use Rattle.h3_field.specs.declared.parse_error.ParseError.TheVariants.{Integer, String, InvalidPrefix, InvalidBase, OutOfMemory}
use Rattle.h3_field.specs.SectionLaws.{whole_same, line_one, has_line}
use Rattle.h3_field.specs.CodingLaws.{huffman_field}

-- however its strings are coded
same_field : (k l : FieldLine) → huffman_line k ≡ l → line_field k ≡ line_field l
same_field k l e = sym (huffman_field k) ∙ ap (λ x. line_field x) e

-- the field of a line that was read
pub has_field : {L : Type 0} (place : Place) (line_of : L → FieldLine) (read : List ℕ → Reading LineForm) (old new : List ℕ) (l : L) (f : Field) → ((bytes rest : List ℕ) (form : LineForm) → read bytes ≡ Whole form rest → length rest < length bytes) → line old ≡ read old → AnswersLine line_of place (read old) old new (Ok l) → line_field (line_of l) ≡ Some f → HasField old f new
has_field place line_of read old new l f shorter e h names =
    let here = has_line place line_of (read old) old new l e h in
    record { line = here.0; here = here.1; names = same_field here.0 (line_of l) here.2 ∙ names; less = shorter old new here.1.form (sym e ∙ here.1.whole) }

-- a line that was read and names no field
pub no_field : {L : Type 0} (place : Place) (line_of : L → FieldLine) (r : Reading LineForm) (old new : List ℕ) (l : L) → line old ≡ r → AnswersLine line_of place r old new (Ok l) → line_field (line_of l) ≡ None → HasNoField old
no_field place line_of r old new l e h none rest k f here names =
    let read = has_line place line_of r old new l e h in
    let one = line_one old new rest read.0 k read.1 here in
    let same : line_field (line_of l) ≡ Some f = sym (same_field read.0 (line_of l) read.2) ∙ ap (λ x. line_field x) one.0 ∙ names in
    absurd (cc)

-- a line that was refused
not_read : (old : List ℕ) (r : Reading LineForm) → line old ≡ r → ((form : LineForm) (rest : List ℕ) → r ≡ Whole form rest → ⊥) → HasNoField old
not_read old r e none rest k f here names = none here.form rest (sym e ∙ here.whole)

not_said : (old rest : List ℕ) (form : LineForm) → line old ≡ Whole form rest → ((l : FieldLine) → SaysLine form l → ⊥) → HasNoField old
not_said old rest form e none more k f here names =
    let same = whole_same form here.form rest more (sym e ∙ here.whole) in
    none k (rw (← same.0) at here.says)

-- what is not whole, or out of range, is no want of memory
bad_at : (memory bad : Type 0) (place : Place) (e : integer.Error) → bad → IsReason memory bad (λ size. ⊥) (decoder_parse (error_at place e))
bad_at memory bad AtInteger e h = h
bad_at memory bad AtString UnexpectedEnd h = h
bad_at memory bad AtString Overflow h = h

-- a line that was refused; what it says of want of memory is given
pub refused_line : {L : Type 0} (memory : Type 0) (place : Place) (line_of : L → FieldLine) (r : Reading LineForm) (old new : List ℕ) (e : ParseError)
    → (e ≡ OutOfMemory → (form : LineForm) (rest : List ℕ) → r ≡ Whole form rest → HasString form → LineTakesMemory form → memory)
    → line old ≡ r → AnswersLine line_of place r old new (Err e) → IsReason memory (HasNoField old) (λ size. ⊥) (decoder_parse e)
refused_line memory place line_of (Whole form rest) old new (String string.TheVariants.HuffmanDecoding) asks is h = not_said old rest form is h.1
refused_line memory place line_of (Whole form rest) old new OutOfMemory asks is h = asks refl form rest refl h.0 h.1
refused_line memory place line_of (Whole form rest) old new (String string.TheVariants.OutOfMemory) asks is h = absurd h.1
refused_line memory place line_of (Whole form rest) old new (String string.TheVariants.UnexpectedEnd) asks is h = absurd h.1
refused_line memory place line_of (Whole form rest) old new (String (string.TheVariants.Integer e)) asks is h = absurd h.1
refused_line memory place line_of (Whole form rest) old new (String string.TheVariants.HuffmanEncoding) asks is h = absurd h.1
refused_line memory place line_of (Whole form rest) old new (String string.TheVariants.BufSize) asks is h = absurd h.1
refused_line memory place line_of (Whole form rest) old new (Integer e) asks is h = absurd h.1
refused_line memory place line_of (Whole form rest) old new (InvalidPrefix first) asks is h = absurd h.1
refused_line memory place line_of (Whole form rest) old new InvalidBase asks is h = absurd h.1
refused_line memory place line_of Unfinished old new e asks is h =
    let same : e ≡ error_at place UnexpectedEnd = cc in
    rw same (bad_at memory (HasNoField old) place UnexpectedEnd (not_read old Unfinished is (λ form rest x. absurd (cc))))
refused_line memory place line_of Bad old new e asks is h =
    let same : e ≡ error_at place Overflow = cc in
    rw same (bad_at memory (HasNoField old) place Overflow (not_read old Bad is (λ form rest x. absurd (cc))))

-- a line that names a static entry that there is not
pub no_static : {L : Type 0} (place : Place) (line_of : L → FieldLine) (r : Reading LineForm) (old new : List ℕ) (l : L) → line old ≡ r → AnswersLine line_of place r old new (Ok l) → (index : ℕ) → 99 ≤ index → line_of l ≡ StaticField index → HasNoField old
no_static place line_of r old new l e h index le is = no_field place line_of r old new l e h (rw is (static_none index le))

pub no_static_name : {L : Type 0} (place : Place) (line_of : L → FieldLine) (r : Reading LineForm) (old new : List ℕ) (l : L) → line old ≡ r → AnswersLine line_of place r old new (Ok l) → (index : ℕ) (value : Text) (n : Bool) → 99 ≤ index → line_of l ≡ StaticName index value n → HasNoField old
no_static_name place line_of r old new l e h index value n le is = no_field place line_of r old new l e h (rw (is, static_none index le) refl)
