-- An encoded field section is no longer than thirty times its fields.
use Rattle.std.proofs.Common.{ℕ, ◌+◌, ◌*◌, ◌-◌, ◌%◌, ◌^◌, ◌<◌, ◌≤◌, Bool, true, false, List, [], ◌∷◌, ◌++◌, length, ap, arith, length-append, fold, nat_lt, nat_le, if◌then◌else◌}
use Rattle.std.specs.Prelude.{flat_map, ◌==◌}
use Rattle.std.proofs.lemmas.Grind.{flat_map-append}
use Rattle.std.proofs.lemmas.List.Sums.{sum_by-cons}
use Rattle.h3_field.specs.Field.{Field, field_size, section_size}
use Rattle.h3_field.specs.Integer.{prefixed}
use Rattle.h3_field.specs.Line.{FieldLine, bit_n, line_bytes}
use Rattle.h3_field.specs.Line.FieldLine.{StaticField, RelativeField, PostBaseField, StaticName, RelativeName, PostBaseName, Literal}
use Rattle.h3_field.specs.Prefix.{most_entries, prefix_bytes}
use Rattle.h3_field.specs.StaticTable.{static_field, static_name}
use Rattle.h3_field.specs.StringLiteral.{coded, string_literal}
use Rattle.h3_qpack.specs.EncoderHistory.{EncoderHistory, writing_on}
use Rattle.h3_qpack.specs.SectionEncoding.{Draft, add_field, add_literal, first_draft, guarded_fields, draft_of, entry_name_line, found, found_name, is_insertable, required_insert_count, write_field, write_indexed}
use Rattle.h3_field.specs.SecretLaws.{guarded_sizes}
use Rattle.h3_qpack.specs.ShortLaws.{prefixed_short, string_short}
use Rattle.h3_connection.specs.Sections.{written_section}
use Rattle.h3_world.proofs.Inserted.{chosen, either_way, with_field}

-- the lines so far take no more than that
abbrev pub LinesWithin : ℕ → Draft → Type 0
LinesWithin most d = length (flat_map line_bytes d.lines) ≤ most

line_added : (most more : ℕ) (d : Draft) (line : FieldLine) → LinesWithin most d → length (line_bytes line) ≤ more → length (flat_map line_bytes (d.lines ++ line ∷ [])) ≤ most + more
line_added most more d line h k =
    omega (
      arith,
      h,
      k,
      ap length (flat_map-append line_bytes d.lines (line ∷ [])),
      length-append (flat_map line_bytes d.lines) (flat_map line_bytes (line ∷ [])),
      length-append (line_bytes line) [],
    )

index_and_string : (size flags index : ℕ) (shortest : Bool) (f : Field) → length (prefixed size flags index ++ string_literal 8 0 (coded shortest f.value)) ≤ 30 * field_size f
index_and_string size flags index shortest f =
    omega (arith, length-append (prefixed size flags index) (string_literal 8 0 (coded shortest f.value)), prefixed_short size flags index, string_short 8 0 (coded shortest f.value))

short_index : (size flags index : ℕ) (f : Field) → length (prefixed size flags index) ≤ 30 * field_size f
short_index size flags index f = omega (arith, prefixed_short size flags index)

entry_name_short : (base number : ℕ) (shortest : Bool) (f : Field) → length (line_bytes (entry_name_line base number (coded shortest f.value) f.never_indexed)) ≤ 30 * field_size f
entry_name_short base number shortest f =
    let n = f.never_indexed in
    either_way (λ line. length (line_bytes line) ≤ 30 * field_size f) (nat_le number base) (RelativeName (base - number) (coded shortest f.value) n) (PostBaseName (number - base - 1) (coded shortest f.value) n)
    (index_and_string 4 (4 + 2 * bit_n n) (base - number) shortest f) (index_and_string 3 (bit_n n) (number - base - 1) shortest f)

literal_short : (most : ℕ) (s : EncoderHistory) (d : Draft) (f : Field) → LinesWithin most d → LinesWithin (most + 30 * field_size f) (add_literal s d f)
literal_short most s d f h =
    chosen (LinesWithin (most + 30 * field_size f)) (static_name f.name) _ _
    (λ index e. line_added most (30 * field_size f) d (StaticName index (coded s.choices.shortest_strings f.value) f.never_indexed) h (index_and_string 4 (5 + 2 * bit_n f.never_indexed) index s.choices.shortest_strings f)) (λ none.
    chosen (LinesWithin (most + 30 * field_size f)) (found_name s d f) _ _
    (λ number e. line_added most (30 * field_size f) d (entry_name_line (length s.inserted) number (coded s.choices.shortest_strings f.value) f.never_indexed) h (entry_name_short (length s.inserted) number s.choices.shortest_strings f))
    (λ none. line_added most (30 * field_size f) d (Literal (coded s.choices.shortest_strings f.name) (coded s.choices.shortest_strings f.value) f.never_indexed) h
    (omega (
      arith,
      length-append (string_literal 4 (2 + bit_n f.never_indexed) (coded s.choices.shortest_strings f.name)) (string_literal 8 0 (coded s.choices.shortest_strings f.value)),
      string_short 4 (2 + bit_n f.never_indexed) (coded s.choices.shortest_strings f.name),
      string_short 8 0 (coded s.choices.shortest_strings f.value),
    ))))

line_of_field_short : (most : ℕ) (s : EncoderHistory) (d : Draft) (f : Field) → LinesWithin most d → LinesWithin (most + 30 * field_size f) (write_field s d f)
line_of_field_short most s d f h =
    either_way (LinesWithin (most + 30 * field_size f)) f.never_indexed (add_literal s d f) (write_indexed s d f) (literal_short most s d f h) (
    chosen (LinesWithin (most + 30 * field_size f)) (static_field f) _ _ (λ index e. line_added most (30 * field_size f) d (StaticField index) h (short_index 6 3 index f)) (λ none.
    chosen (LinesWithin (most + 30 * field_size f)) (found s d f) _ _
    (λ number e. line_added most (30 * field_size f) d (RelativeField (length s.inserted - number)) h (short_index 6 2 (length s.inserted - number) f)) (λ none.
    either_way (LinesWithin (most + 30 * field_size f)) (is_insertable s d f) _ _
    (line_added most (30 * field_size f) d (PostBaseField (length d.inserted - length s.inserted)) h (short_index 4 1 (length d.inserted - length s.inserted) f)) (literal_short most s d f h))))

field_short : (most : ℕ) (s : EncoderHistory) (d : Draft) (f : Field) → LinesWithin most d → LinesWithin (most + 30 * field_size f) (add_field s d f)
field_short most s d f h = with_field (LinesWithin (most + 30 * field_size f)) s d f (line_of_field_short most s d f h) (λ e k. k)

fields_short : (most : ℕ) (s : EncoderHistory) (d : Draft) (fields : List Field) → LinesWithin most d → LinesWithin (most + 30 * section_size fields) (fold (add_field s) d fields)
fields_short most s d [] h = omega (arith, h)
fields_short most s d (f ∷ fields) h =
    omega (arith, fields_short (most + 30 * field_size f) s (add_field s d f) fields (field_short most s d f h), sum_by-cons field_size f fields)

prefix_short : (capacity count base : ℕ) → length (prefix_bytes capacity count base) ≤ 20
prefix_short capacity count base = by_test (count == 0) (nat_lt base count)
  where
    first : List ℕ
    first = prefixed 8 0 (count % (2 * most_entries capacity) + 1)

    by_test : (a b : Bool) → length (if a then 0 ∷ 0 ∷ [] else first ++ (if b then prefixed 7 1 (count - base - 1) else prefixed 7 0 (base - count))) ≤ 20
    by_test true b = omega arith
    by_test false true = omega (arith, length-append first (prefixed 7 1 (count - base - 1)), prefixed_short 8 0 (count % (2 * most_entries capacity) + 1), prefixed_short 7 1 (count - base - 1))
    by_test false false = omega (arith, length-append first (prefixed 7 0 (base - count)), prefixed_short 8 0 (count % (2 * most_entries capacity) + 1), prefixed_short 7 0 (base - count))

-- each encoded section is short where its fields are
pub section_short : (s : EncoderHistory) (id : ℕ) (fields : List Field) → length (written_section s id fields) ≤ 20 + 30 * section_size fields
section_short s id fields =
    let e = writing_on s id in
    let d = draft_of e fields in
    let front = prefix_bytes e.announced (required_insert_count d) (length e.inserted) in
    omega (
      arith,
      length-append front (flat_map line_bytes d.lines),
      prefix_short e.announced (required_insert_count d) (length e.inserted),
      fields_short 0 e (first_draft e) (guarded_fields e fields) (omega arith),
      guarded_sizes e.choices.guards_secrets fields,
    )

pub sections_are_short : (s : EncoderHistory) (id : ℕ) (fields : List Field) → section_size fields < 2 ^ 56 → length (written_section s id fields) < 2 ^ 62
sections_are_short s id fields small = omega (arith, section_short s id fields, small)
