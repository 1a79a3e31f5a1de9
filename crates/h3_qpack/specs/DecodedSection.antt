-- What an encoded field section is to a decoder, as a value (RFC 9204, sections 2.2.1 and 4.5).
use Rattle.std.specs.Prelude.{◌≡◌, ℕ, zero, suc, ◌+◌, ◌*◌, ◌-◌, ◌/◌, ◌%◌, ◌&&◌, Bool, true, false, List, [], ◌∷◌, length, if◌then◌else◌, ◌==◌, nat_lt, nat_le, Option, Some, None, option_map}
use Rattle.h3_field.specs.Field.{Field}
use Rattle.h3_field.specs.Line.{FieldLine}
use Rattle.h3_field.specs.Prefix.{most_entries}
use Rattle.h3_field.specs.PrefixReading.{EncodedPrefix, prefix}
use Rattle.h3_field.specs.Reading.{Reading, Whole, Unfinished, Bad}
use Rattle.h3_field.specs.LineReading.{LineForm, line}
use Rattle.h3_field.specs.declared.decoder_error.DecoderError.{DecoderError}
use Rattle.h3_table.specs.TableState.{TableState}
use Rattle.h3_qpack.specs.DecoderState.{DecoderState, count_capacity}
use Rattle.h3_qpack.specs.Meaning.{table_for, is_allowed, field_at, MeansFields, IsMissing, IsBadSection}
use Rattle.h3_qpack.specs.SectionAnswers.{IsReasonFor}
use Rattle.h3_field.specs.Values.{line_of}

pub data DecodedSection : Type 0 where
  -- its fields, and its required insert count
  Fields : (fields : List Field) (count : ℕ) → DecodedSection
  -- it needs so many insertions, and not all were read
  Missing : (count : ℕ) → DecodedSection
  BadSection : DecodedSection

abbrev pub field_of : TableState → ℕ → Option FieldLine → Option Field
field_of h base None = None
field_of h base (Some l) = field_at h base l

abbrev pub then_fields : Option Field → Option (List Field) → Option (List Field)
then_fields None rest = None
then_fields (Some f) rest = option_map (λ fs. f ∷ fs) rest

abbrev pub fields_from : (List ℕ → Option (List Field)) → TableState → ℕ → Reading LineForm → Option (List Field)
fields_from go h base (Whole form rest) = then_fields (field_of h base (line_of form)) (go rest)
fields_from go h base Unfinished = None
fields_from go h base Bad = None

abbrev pub fields_within : ℕ → TableState → ℕ → List ℕ → Option (List Field)
fields_within most h base [] = Some []
fields_within zero h base (byte ∷ bytes) = None
fields_within (suc most) h base (byte ∷ bytes) = fields_from (fields_within most h base) h base (line (byte ∷ bytes))

-- the fields of the lines, if all bytes are lines and each names what is there
unfoldable pub fields_in : TableState → ℕ → List ℕ → Option (List Field)
fields_in h base bytes = fields_within (length bytes) h base bytes

-- the count, if it has the encoded residue and lies in the window (RFC 9204, section 4.5.1.1)
abbrev pub checked_count : ℕ → ℕ → ℕ → ℕ → Option ℕ
checked_count most inserted encoded count =
    if nat_lt 0 count && (count % (2 * most) + 1 == encoded) && nat_lt inserted (count + most) && nat_le count (inserted + most) then Some count else None

-- the greatest count of the encoded residue that is not above the newest
abbrev pub near_count : ℕ → ℕ → ℕ → ℕ
near_count most newest encoded =
    let near = newest / (2 * most) * (2 * most) + (encoded - 1) in
    if nat_le near newest then near else near - 2 * most

-- the required insert count of an encoded one
abbrev pub count_of : ℕ → ℕ → ℕ → Option ℕ
count_of capacity inserted encoded =
    if encoded == 0 then Some 0 else
    checked_count (most_entries capacity) inserted encoded (near_count (most_entries capacity) (inserted + most_entries capacity) encoded)

-- the count with its base (RFC 9204, section 4.5.1.2)
abbrev pub with_base : Bool → ℕ → Option ℕ → Option (ℕ × ℕ)
with_base is_negative delta None = None
with_base true delta (Some count) = if nat_lt delta count then Some (count, count - delta - 1) else None
with_base false delta (Some count) = Some (count, count + delta)

-- at capacity 0 a prefix says nothing
abbrev pub count_and_base : ℕ → ℕ → EncodedPrefix → Option (ℕ × ℕ)
count_and_base capacity inserted p =
    if capacity == 0 then Some (0, 0) else with_base p.is_negative p.delta (count_of capacity inserted p.encoded)

abbrev pub with_fields : ℕ → Option (List Field) → DecodedSection
with_fields count None = BadSection
with_fields count (Some fields) = Fields fields count

abbrev pub decoded_at : DecoderState → List ℕ → Option (ℕ × ℕ) → DecodedSection
decoded_at r rest None = BadSection
decoded_at r rest (Some p) = if nat_lt r.table.inserted p.0 then Missing p.0 else with_fields p.0 (fields_in (table_for r p.0) p.1 rest)

abbrev pub decoded_from : DecoderState → Reading EncodedPrefix → DecodedSection
decoded_from r (Whole p rest) =
    if is_allowed r p then decoded_at r rest (count_and_base (count_capacity r) r.table.inserted p) else BadSection
decoded_from r Unfinished = BadSection
decoded_from r Bad = BadSection

unfoldable pub decode_section : DecoderState → List ℕ → DecodedSection
decode_section r bytes = decoded_from r (prefix bytes)

-- What is said of the section by such a value.
abbrev pub IsDecodedAs : DecoderState → List ℕ → DecodedSection → Type 0
IsDecodedAs r bytes (Fields fields count) = MeansFields r bytes count fields
IsDecodedAs r bytes (Missing count) = IsMissing r bytes count
IsDecodedAs r bytes BadSection = IsBadSection r bytes

-- why a section of this value is refused
abbrev pub IsRefusalOf : DecodedSection → DecoderError → Type 0
IsRefusalOf d e = IsReasonFor (d ≡ BadSection) (λ count. d ≡ Missing count) e
