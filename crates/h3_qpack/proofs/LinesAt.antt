-- A line at the front of some bytes, and the field that it is of.
use Rattle.std.proofs.Common.{◌≡◌, ℕ, ◌<◌, Bool, List, [], ◌∷◌, ◌++◌, length, Some, None, Result, Ok, Err, inl, inr, refl, sym, ap, ◌∙◌}
use Rattle.std.specs.Prelude.{OnOk, IfErr}
use Rattle.h3_field.specs.Field.{Field}
use Rattle.h3_field.specs.Reading.{Reading, Whole, Unfinished, Bad}
use Rattle.h3_field.specs.Line.{FieldLine, huffman_line}
use Rattle.h3_field.specs.Line.FieldLine.{StaticField, RelativeField, PostBaseField, StaticName, RelativeName, PostBaseName, Literal}
use Rattle.h3_field.specs.LineReading.{LineForm, SaysLine, line, named}
use Rattle.h3_field.specs.LineAnswer.{AnswersLine, short_named_line}
use Rattle.h3_field.specs.IntegerReading.{integer}
use Rattle.h3_field.specs.StringReading.{string}
use Rattle.h3_field.specs.OntoAnswer.{AnswersField, AnswersIndex, named_head}
use Rattle.h3_field.specs.OntoLaws.{named_onto}
use Rattle.h3_field.specs.ShorterLaws.{named_less}
use Rattle.h3_field.specs.declared.block.literal.NameRef as name_ref
use Rattle.h3_field.specs.ShapeAnswer.{Place, AtInteger, AtString, error_at}
use Rattle.h3_field.specs.declared.prefix_int.Error as integer
use Rattle.h3_field.specs.Errors.{decoder_parse}
use Rattle.h3_field.specs.declared.prefix_int.Error.TheVariants.{Overflow, UnexpectedEnd}
use Rattle.h3_field.specs.declared.prefix_string.Error as string_error
use Rattle.h3_field.specs.declared.parse_error.ParseError.{ParseError}
use Rattle.h3_field.specs.declared.parse_error.ParseError.TheVariants.{Integer, String, InvalidPrefix, InvalidBase, OutOfMemory}
use Rattle.h3_field.specs.SectionAnswer.{BeginsWithString}
use Rattle.h3_field.specs.SectionLaws.{has_line, line_one, whole_same}
use Rattle.h3_table.specs.TableState.{TableState}
use Rattle.h3_qpack.specs.Meaning.{field_at}
use Rattle.h3_field.specs.declared.decoder_error.DecoderError.{DecoderError}
use Rattle.h3_field.specs.declared.decoder_error.DecoderError.TheVariants as error
use Rattle.h3_qpack.specs.ReasonLaws.{reason_with_map}
use Rattle.h3_qpack.specs.SectionAnswers.{BeginsWith, BeginsWithNone, LinesAskMemory, IsReasonWith, HasPut, PutsLine}

-- how the strings of a line are coded plays no part in its field
coding_plays_no_part : (h : TableState) (base : ℕ) (l : FieldLine) → field_at h base (huffman_line l) ≡ field_at h base l
coding_plays_no_part h base (StaticField index) = refl
coding_plays_no_part h base (RelativeField index) = refl
coding_plays_no_part h base (PostBaseField index) = refl
coding_plays_no_part h base (StaticName index value n) = refl
coding_plays_no_part h base (RelativeName index value n) = refl
coding_plays_no_part h base (PostBaseName index value n) = refl
coding_plays_no_part h base (Literal name value n) = refl

-- the field of a line that was read
pub begins_with : {L : Type 0} (place : Place) (h : TableState) (base : ℕ) (line_of : L → FieldLine) (read : List ℕ → Reading LineForm) (old new : List ℕ) (l : L) (f : Field)
    → ((bytes rest : List ℕ) (form : LineForm) → read bytes ≡ Whole form rest → length rest < length bytes) → line old ≡ read old
    → AnswersLine line_of place (read old) old new (Ok l) → field_at h base (line_of l) ≡ Some f → BeginsWith h base old f new
begins_with place h base line_of read old new l f shorter e answer names =
    let told = has_line place line_of (read old) old new l e answer in
    record { line = told.0; here = told.1; names = sym (coding_plays_no_part h base told.0) ∙ ap (field_at h base) told.2 ∙ names; less = shorter old new told.1.form (sym e ∙ told.1.whole) }

-- a line that was read and is of no field
pub begins_with_none : {L : Type 0} (place : Place) (h : TableState) (base : ℕ) (line_of : L → FieldLine) (r : Reading LineForm) (old new : List ℕ) (l : L) → line old ≡ r
    → AnswersLine line_of place r old new (Ok l) → field_at h base (line_of l) ≡ None → BeginsWithNone h base old
begins_with_none place h base line_of r old new l e answer none rest k f here names =
    let told = has_line place line_of r old new l e answer in
    let one = line_one old new rest told.0 k told.1 here in
    let same : field_at h base (line_of l) ≡ Some f = ap (field_at h base) (sym told.2) ∙ coding_plays_no_part h base told.0 ∙ ap (field_at h base) one.0 ∙ names in
    absurd (cc)

not_read : (h : TableState) (base : ℕ) (old : List ℕ) (r : Reading LineForm) → line old ≡ r → ((form : LineForm) (rest : List ℕ) → r ≡ Whole form rest → ⊥) → BeginsWithNone h base old
not_read h base old r e none rest k f here names = none here.form rest (sym e ∙ here.whole)

not_said : (h : TableState) (base : ℕ) (old rest : List ℕ) (form : LineForm) → line old ≡ Whole form rest → ((l : FieldLine) → SaysLine form l → ⊥) → BeginsWithNone h base old
not_said h base old rest form e none more k f here names =
    let same = whole_same form here.form rest more (sym e ∙ here.whole) in
    none k (rw (← same.0) at here.says)

-- what is not whole, or out of range, is no want of memory
pub bad_at : (memory bad : Type 0) (place : Place) (e : integer.Error) → bad → IsReasonWith memory bad (λ count. ⊥) (decoder_parse (error_at place e))
bad_at memory bad AtInteger e h = h
bad_at memory bad AtString UnexpectedEnd h = h
bad_at memory bad AtString Overflow h = h

-- a line that was refused
pub refused_line : {L : Type 0} (place : Place) (h : TableState) (base : ℕ) (line_of : L → FieldLine) (r : Reading LineForm) (old new : List ℕ) (e : ParseError) → line old ≡ r
    → AnswersLine line_of place r old new (Err e) → IsReasonWith (BeginsWithString old) (BeginsWithNone h base old) (λ count. ⊥) (decoder_parse e)
refused_line place h base line_of (Whole form rest) old new (String string_error.TheVariants.HuffmanDecoding) is k = not_said h base old rest form is k.1
refused_line place h base line_of (Whole form rest) old new OutOfMemory is k = (form, rest, is, k.0, k.1)
refused_line place h base line_of (Whole form rest) old new (String string_error.TheVariants.OutOfMemory) is k = absurd k.1
refused_line place h base line_of (Whole form rest) old new (String string_error.TheVariants.UnexpectedEnd) is k = absurd k.1
refused_line place h base line_of (Whole form rest) old new (String (string_error.TheVariants.Integer e)) is k = absurd k.1
refused_line place h base line_of (Whole form rest) old new (String string_error.TheVariants.HuffmanEncoding) is k = absurd k.1
refused_line place h base line_of (Whole form rest) old new (String string_error.TheVariants.BufSize) is k = absurd k.1
refused_line place h base line_of (Whole form rest) old new (Integer e) is k = absurd k.1
refused_line place h base line_of (Whole form rest) old new (InvalidPrefix first) is k = absurd k.1
refused_line place h base line_of (Whole form rest) old new InvalidBase is k = absurd k.1
refused_line place h base line_of Unfinished old new e is k =
    let same : e ≡ error_at place UnexpectedEnd = cc in
    rw same (bad_at (BeginsWithString old) (BeginsWithNone h base old) place UnexpectedEnd (not_read h base old Unfinished is (λ form rest x. absurd (cc))))
refused_line place h base line_of Bad old new e is k =
    let same : e ≡ error_at place Overflow = cc in
    rw same (bad_at (BeginsWithString old) (BeginsWithNone h base old) place Overflow (not_read h base old Bad is (λ form rest x. absurd (cc))))

-- a line of a field that was to be put
pub puts : (h : TableState) (base : ℕ) (old new : List ℕ) (before after : List Field) (f : Field) (result : Result Unit DecoderError) → BeginsWith h base old f new
    → OnOk result (after ≡ before ++ f ∷ []) → IfErr result (λ e. e ≡ error.OutOfMemory) → PutsLine h base old new before after result
puts h base old new before after f (Ok u) begins added memory = record { field = f; begins = begins; added = added }
puts h base old new before after f (Err e) begins added memory = rw memory (inr (f, new, begins))

-- a line of which nothing is put
pub puts_none : (h : TableState) (base : ℕ) (old : List ℕ) (e : DecoderError) → IsReasonWith (BeginsWithString old) (BeginsWithNone h base old) (λ count. ⊥) e → IsReasonWith (LinesAskMemory h base old) (BeginsWithNone h base old) (λ count. ⊥) e
puts_none h base old e reason = reason_with_map _ _ _ _ e (λ string. inl string) (λ none. none) reason

-- a line with the name of an entry, whose value was read onto a block behind the bytes of that name
pub named_put : (h : TableState) (base : ℕ) (old mid new bytes : List ℕ) (before after : List Field) (head : name_ref.NameRef × Bool) → line old ≡ named old
    → AnswersIndex named_head (integer 4 old) old mid (Ok head) → AnswersField bytes head.1 (string 8 mid) mid new before after (Ok tt)
    → ((value : List ℕ) → field_at h base (short_named_line value head) ≡ Some (record { name = bytes; value = value; never_indexed = head.1 })) → HasPut h base old new before after
named_put h base old mid new bytes before after head is index value names =
    let told = named_onto old mid new bytes before after head index value in
    record {
      field = record { name = bytes; value = told.0; never_indexed = head.1 };
      begins = begins_with AtInteger h base (short_named_line told.0) named old new head (record { name = bytes; value = told.0; never_indexed = head.1 }) named_less is told.1 (names told.0);
      added = told.2;
    }
