-- An encoded field section is no longer than four times its fields, and with the shortest strings its lines are shorter than they are.
use Rattle.std.proofs.Common.{◌≡◌, ℕ, ◌+◌, ◌*◌, ◌-◌, ◌%◌, ◌≤◌, Bool, true, false, List, [], ◌∷◌, ◌++◌, length, refl, ap, arith, length-append, fold, nat_lt, nat_le, if◌then◌else◌}
use Rattle.std.specs.Prelude.{flat_map, sum_by, ◌==◌}
use Rattle.std.proofs.lemmas.Grind.{flat_map-append}
use Rattle.std.proofs.lemmas.List.Sums.{sum_by-cons}
use Rattle.h3_field.specs.Field.{Field, field_size, section_size}
use Rattle.h3_field.specs.Integer.{prefixed}
use Rattle.h3_field.specs.Line.{FieldLine, bit_n, line_bytes}
use Rattle.h3_field.specs.Line.FieldLine.{StaticField, RelativeField, PostBaseField, StaticName, RelativeName, PostBaseName, Literal}
use Rattle.h3_field.specs.Prefix.{most_entries, prefix_bytes}
use Rattle.h3_field.specs.StaticTable.{static_field, static_name}
use Rattle.h3_field.specs.StringLiteral.{coded, string_literal}
use Rattle.h3_qpack.specs.EncoderHistory.{EncoderHistory}
use Rattle.h3_qpack.specs.SectionEncoding.{Draft, add_field, add_literal, first_draft, guarded_fields, draft_of, encoded_section, entry_name_line, found, found_name, is_insertable, required_insert_count, write_field}
use Rattle.h3_qpack.specs.SectionSizes.{most_encoded}
use Rattle.h3_field.specs.SecretLaws.{guarded_sizes}
use Rattle.h3_qpack.specs.GuardLaws.{guarded_count}
use Rattle.h3_qpack.specs.ShortLaws.{prefixed_short, string_short, shortest_short}
use Rattle.h3_qpack.proofs.Drafts.{either_way, with_field}
use Rattle.h3_qpack.proofs.Newest.{chosen}

-- Each line that is written for a field with such strings takes no more than its share.
pub record LinesFit (shortest : Bool) (share : Field → ℕ) : Type 0 where
  pub index : (size flags index : ℕ) (f : Field) → length (prefixed size flags index) ≤ share f
  pub named : (size flags index : ℕ) (f : Field) → length (prefixed size flags index ++ string_literal 8 0 (coded shortest f.value)) ≤ share f
  pub literal : (flags : ℕ) (f : Field) → length (string_literal 4 flags (coded shortest f.name) ++ string_literal 8 0 (coded shortest f.value)) ≤ share f

-- however strings are coded
abbrev great_share : Field → ℕ
great_share f = 20 + 4 * length f.name + 4 * length f.value

all_fit : (shortest : Bool) → LinesFit shortest great_share
all_fit shortest =
    record {
      index = λ size flags index f. omega (arith, prefixed_short size flags index);
      named = λ size flags index f. omega (
        arith,
        length-append (prefixed size flags index) (string_literal 8 0 (coded shortest f.value)),
        prefixed_short size flags index,
        string_short 8 0 (coded shortest f.value),
      );
      literal = λ flags f. omega (
        arith,
        length-append (string_literal 4 flags (coded shortest f.name)) (string_literal 8 0 (coded shortest f.value)),
        string_short 4 flags (coded shortest f.name),
        string_short 8 0 (coded shortest f.value),
      );
    }

-- the shortest ones
abbrev pub least_share : Field → ℕ
least_share f = 20 + length f.name + length f.value

pub shortest_fit : (shortest : Bool) → shortest ≡ true → LinesFit shortest least_share
shortest_fit shortest e =
    record {
      index = λ size flags index f. omega (arith, prefixed_short size flags index);
      named = λ size flags index f. omega (
        arith,
        length-append (prefixed size flags index) (string_literal 8 0 (coded shortest f.value)),
        prefixed_short size flags index,
        shortest_short 8 0 shortest f.value e,
      );
      literal = λ flags f. omega (
        arith,
        length-append (string_literal 4 flags (coded shortest f.name)) (string_literal 8 0 (coded shortest f.value)),
        shortest_short 4 flags shortest f.name e,
        shortest_short 8 0 shortest f.value e,
      );
    }

-- the lines so far
abbrev LinesWithin : ℕ → Draft → Type 0
LinesWithin most d = length (flat_map line_bytes d.lines) ≤ most

line_added : (most more : ℕ) (d : Draft) (line : FieldLine) → LinesWithin most d → length (line_bytes line) ≤ more → length (flat_map line_bytes (d.lines ++ line ∷ [])) ≤ most + more
line_added most more d line h k =
    omega (
      arith,
      h,
      k,
      ap length (flat_map-append line_bytes d.lines (line ∷ [])),
      length-append (flat_map line_bytes d.lines) (flat_map line_bytes (line ∷ [])),
      length-append (line_bytes line) [],
    )

entry_name_short : (shortest : Bool) (share : Field → ℕ) (base number : ℕ) (f : Field) → LinesFit shortest share → length (line_bytes (entry_name_line base number (coded shortest f.value) f.never_indexed)) ≤ share f
entry_name_short shortest share base number f fit =
    either_way (λ line. length (line_bytes line) ≤ share f) (nat_le number base) (RelativeName (base - number) (coded shortest f.value) f.never_indexed) (PostBaseName (number - base - 1) (coded shortest f.value) f.never_indexed)
    (λ e. fit.named 4 (4 + 2 * bit_n f.never_indexed) (base - number) f) (fit.named 3 (bit_n f.never_indexed) (number - base - 1) f)

literal_short : (share : Field → ℕ) (most : ℕ) (s : EncoderHistory) (d : Draft) (f : Field) → LinesFit s.choices.shortest_strings share → LinesWithin most d → LinesWithin (most + share f) (add_literal s d f)
literal_short share most s d f fit h =
    chosen (LinesWithin (most + share f)) (static_name f.name) _ _
    (λ index e. line_added most (share f) d (StaticName index (coded s.choices.shortest_strings f.value) f.never_indexed) h (fit.named 4 (5 + 2 * bit_n f.never_indexed) index f)) (λ none.
    chosen (LinesWithin (most + share f)) (found_name s d f) _ _
    (λ number e. line_added most (share f) d (entry_name_line (length s.inserted) number (coded s.choices.shortest_strings f.value) f.never_indexed) h (entry_name_short s.choices.shortest_strings share (length s.inserted) number f fit))
    (λ none. line_added most (share f) d (Literal (coded s.choices.shortest_strings f.name) (coded s.choices.shortest_strings f.value) f.never_indexed) h (fit.literal (2 + bit_n f.never_indexed) f)))

line_of_field_short : (share : Field → ℕ) (most : ℕ) (s : EncoderHistory) (d : Draft) (f : Field) → LinesFit s.choices.shortest_strings share → LinesWithin most d → LinesWithin (most + share f) (write_field s d f)
line_of_field_short share most s d f fit h =
    either_way (LinesWithin (most + share f)) f.never_indexed _ _ (λ never. literal_short share most s d f fit h) (
    chosen (LinesWithin (most + share f)) (static_field f) _ _ (λ index e. line_added most (share f) d (StaticField index) h (fit.index 6 3 index f)) (λ none.
    chosen (LinesWithin (most + share f)) (found s d f) _ _
    (λ number e. line_added most (share f) d (RelativeField (length s.inserted - number)) h (fit.index 6 2 (length s.inserted - number) f)) (λ none.
    either_way (LinesWithin (most + share f)) (is_insertable s d f) _ _
    (λ e. line_added most (share f) d (PostBaseField (length d.inserted - length s.inserted)) h (fit.index 4 1 (length d.inserted - length s.inserted) f)) (literal_short share most s d f fit h))))

field_short : (share : Field → ℕ) (most : ℕ) (s : EncoderHistory) (d : Draft) (f : Field) → LinesFit s.choices.shortest_strings share → LinesWithin most d → LinesWithin (most + share f) (add_field s d f)
field_short share most s d f fit h = with_field (LinesWithin (most + share f)) s d f (line_of_field_short share most s d f fit h) (λ e test k. k)

fields_short : (share : Field → ℕ) (most : ℕ) (s : EncoderHistory) (d : Draft) (fields : List Field) → LinesFit s.choices.shortest_strings share → LinesWithin most d → LinesWithin (most + sum_by share fields) (fold (add_field s) d fields)
fields_short share most s d [] fit h = omega (arith, h)
fields_short share most s d (f ∷ fields) fit h = omega (arith, fields_short share (most + share f) s (add_field s d f) fields fit (field_short share most s d f fit h), sum_by-cons share f fields)

-- each field leaves 108 of its share of four times its size
shares_are : (fields : List Field) → sum_by great_share fields + 108 * length fields ≡ 4 * section_size fields
shares_are [] = refl
shares_are (f ∷ fields) = omega (arith, shares_are fields, sum_by-cons great_share f fields, sum_by-cons field_size f fields)

-- and twelve of its size
least_shares_are : (fields : List Field) → sum_by least_share fields + 12 * length fields ≡ section_size fields
least_shares_are [] = refl
least_shares_are (f ∷ fields) = omega (arith, least_shares_are fields, sum_by-cons least_share f fields, sum_by-cons field_size f fields)

pub prefix_short : (capacity count base : ℕ) → length (prefix_bytes capacity count base) ≤ 20
prefix_short capacity count base = by_test (count == 0) (nat_lt base count)
  where
    first : List ℕ
    first = prefixed 8 0 (count % (2 * most_entries capacity) + 1)

    by_test : (a b : Bool) → length (if a then 0 ∷ 0 ∷ [] else first ++ (if b then prefixed 7 1 (count - base - 1) else prefixed 7 0 (base - count))) ≤ 20
    by_test true b = omega arith
    by_test false true = omega (arith, length-append first (prefixed 7 1 (count - base - 1)), prefixed_short 8 0 (count % (2 * most_entries capacity) + 1), prefixed_short 7 1 (count - base - 1))
    by_test false false = omega (arith, length-append first (prefixed 7 0 (base - count)), prefixed_short 8 0 (count % (2 * most_entries capacity) + 1), prefixed_short 7 0 (base - count))

-- the lines of a section, by the shares of its fields as they are taken
lines_short : (share : Field → ℕ) (s : EncoderHistory) (fields : List Field) → LinesFit s.choices.shortest_strings share → length (flat_map line_bytes (draft_of s fields).lines) ≤ sum_by share (guarded_fields s fields)
lines_short share s fields fit = none_before (sum_by share (guarded_fields s fields)) (draft_of s fields) (fields_short share 0 s (first_draft s) (guarded_fields s fields) fit (omega arith))
  where
    none_before : (most : ℕ) (d : Draft) → LinesWithin (0 + most) d → LinesWithin most d
    none_before most d h = omega (arith, h)

pub section_length : (s : EncoderHistory) (fields : List Field)
    → length (encoded_section s fields) ≡ length (prefix_bytes s.announced (required_insert_count (draft_of s fields)) (length s.inserted)) + length (flat_map line_bytes (draft_of s fields).lines)
section_length s fields = length-append (prefix_bytes s.announced (required_insert_count (draft_of s fields)) (length s.inserted)) (flat_map line_bytes (draft_of s fields).lines)

-- **An encoded section is no longer than four times the size of its list, and that of an empty list takes two bytes.**
pub section_short : (s : EncoderHistory) (fields : List Field) → length (encoded_section s fields) ≤ most_encoded fields
section_short s [] = omega arith
section_short s (f ∷ fields) =
    let all = f ∷ fields in
    omega (
      arith,
      section_length s all,
      prefix_short s.announced (required_insert_count (draft_of s all)) (length s.inserted),
      lines_short great_share s all (all_fit s.choices.shortest_strings),
      shares_are (guarded_fields s all),
      guarded_sizes s.choices.guards_secrets all,
      guarded_count s.choices.guards_secrets all,
      sum_by-cons field_size f fields,
    )

-- **With the shortest strings each line leaves twelve of its field's size.**
pub shortest_lines_short : (s : EncoderHistory) (fields : List Field) → s.choices.shortest_strings ≡ true → length (flat_map line_bytes (draft_of s fields).lines) + 12 * length fields ≤ section_size fields
shortest_lines_short s fields e =
    omega (
      arith,
      lines_short least_share s fields (shortest_fit s.choices.shortest_strings e),
      least_shares_are (guarded_fields s fields),
      guarded_sizes s.choices.guards_secrets fields,
      guarded_count s.choices.guards_secrets fields,
    )
