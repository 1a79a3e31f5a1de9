-- With the shortest strings an encoded field section is no longer than the size of its list.
use Rattle.std.proofs.Common.{◌≡◌, ℕ, ◌+◌, ◌*◌, ◌-◌, ◌%◌, ◌^◌, ◌<◌, ◌≤◌, Bool, true, false, List, [], ◌∷◌, ◌++◌, length, max, arith, length-append, fold, if◌then◌else◌}
use Rattle.std.specs.Prelude.{flat_map, ◌==◌}
use Rattle.std.proofs.lemmas.Bool.{le-leb, le-ltb}
use Rattle.h3_field.specs.Field.{Field, field_size, section_size}
use Rattle.h3_field.specs.Integer.{prefixed}
use Rattle.h3_field.specs.IntegerWritingLaws as integer
use Rattle.h3_field.specs.Line.{FieldLine, bit_n, line_bytes}
use Rattle.h3_field.specs.Line.FieldLine.{StaticField, RelativeField, PostBaseField, StaticName, Literal}
use Rattle.h3_field.specs.Prefix.{most_entries, prefix_bytes}
use Rattle.h3_field.specs.Secret.{guarded}
use Rattle.h3_field.specs.SecretLaws.{guarded_size}
use Rattle.h3_field.specs.StaticTable.{static_field, static_name}
use Rattle.h3_field.specs.StringLiteral.{coded, string_literal}
use Rattle.h3_table.specs.TableLaws.{length-table}
use Rattle.h3_qpack.specs.EncoderHistory.{EncoderHistory, was_canceled, writing_on}
use Rattle.h3_qpack.specs.Schedule.{SessionEvent, SessionRun, beginning}
use Rattle.h3_qpack.specs.SectionEncoding.{Draft, add_field, add_line, add_literal, first_draft, draft_of, encoded_section, entry_name_line, found, found_name, is_insertable, required_insert_count, write_field}
use Rattle.h3_qpack.specs.Session.{Session}
use Rattle.h3_qpack.specs.ShortLaws.{prefixed_short, shortest_short}
use Rattle.h3_qpack.proofs.Counts.{few_entries}
use Rattle.h3_qpack.proofs.Drafts.{IsNamed, either_way, found_name_is_named, with_field}
use Rattle.h3_qpack.proofs.Newest.{chosen}
use Rattle.h3_qpack.proofs.Schedules.{every_run_is_sound}
use Rattle.h3_qpack.proofs.ShortSections.{prefix_short, section_length, shortest_fit, shortest_lines_short}

-- the prefix and the lines of a section under way
abbrev TakesAtMost : EncoderHistory → ℕ → Draft → Type 0
TakesAtMost s most d = length (prefix_bytes s.announced (required_insert_count d) (length s.inserted)) + length (flat_map line_bytes d.lines) ≤ most

only_line : (s : EncoderHistory) (most : ℕ) (line : FieldLine) (names : List ℕ) → length (prefix_bytes s.announced (fold max 0 names) (length s.inserted)) + length (line_bytes line) ≤ most → TakesAtMost s most (add_line (first_draft s) line names)
only_line s most line names h = omega (arith, h, length-append (line_bytes line) [])

-- a table of less than 2 ^ 30 has less than 2 ^ 25 entries (RFC 9204, section 3.2.1), so an index into it takes five bytes at most
few_newer : (s : EncoderHistory) (number : ℕ) → s.capacity < 2 ^ 30 → IsNamed s s.inserted number → length s.inserted - number < 128 ^ 4
few_newer s number small named = omega (arith, small, named.there, named.made, few_entries s.capacity s.inserted, length-table s.capacity s.inserted)

-- and so does the base of a section that names an older entry
prefix_of_older : (announced count base : ℕ) → count ≤ base → base - count < 128 ^ 4 → length (prefix_bytes announced count base) ≤ 15
prefix_of_older announced count base older few = rw (le-ltb base count older) (by_test (count == 0))
  where
    first : List ℕ
    first = prefixed 8 0 (count % (2 * most_entries announced) + 1)

    by_test : (a : Bool) → length (if a then 0 ∷ 0 ∷ [] else first ++ prefixed 7 0 (base - count)) ≤ 15
    by_test true = omega arith
    by_test false = omega (
      arith,
      length-append first (prefixed 7 0 (base - count)),
      prefixed_short 8 0 (count % (2 * most_entries announced) + 1),
      integer.prefixed_short 7 0 4 (base - count) (omega arith) few,
    )

-- a line with the name of an entry
named_short : (s : EncoderHistory) (f : Field) (number : ℕ) → s.choices.shortest_strings ≡ true → s.capacity < 2 ^ 30 → IsNamed s s.inserted number
    → length (prefix_bytes s.announced (fold max 0 (number ∷ [])) (length s.inserted)) + length (line_bytes (entry_name_line (length s.inserted) number (coded s.choices.shortest_strings f.value) f.never_indexed)) ≤ field_size f
named_short s f number shortest small named =
    let apart = length s.inserted - number in
    let few = few_newer s number small named in
    let flags = 4 + 2 * bit_n f.never_indexed in
    let text = coded s.choices.shortest_strings f.value in
    rw (le-leb number (length s.inserted) named.made) (omega (
      arith,
      prefix_of_older s.announced (fold max 0 (number ∷ [])) (length s.inserted) (omega (arith, named.made)) (omega (arith, few)),
      length-append (prefixed 4 flags apart) (string_literal 8 0 text),
      integer.prefixed_short 4 flags 4 apart (omega arith) few,
      shortest_short 8 0 s.choices.shortest_strings f.value shortest,
    ))

-- a line that names no entry comes after a prefix of two bytes
literal_takes : (s : EncoderHistory) (f : Field) → s.choices.shortest_strings ≡ true → s.capacity < 2 ^ 30 → TakesAtMost s (field_size f) (add_literal s (first_draft s) f)
literal_takes s f shortest small =
    let text = coded s.choices.shortest_strings f.value in
    let fit = shortest_fit s.choices.shortest_strings shortest in
    chosen (TakesAtMost s (field_size f)) (static_name f.name) _ _
    (λ index e. only_line s (field_size f) (StaticName index text f.never_indexed) [] (omega (arith, fit.named 4 (5 + 2 * bit_n f.never_indexed) index f))) (λ none.
    chosen (TakesAtMost s (field_size f)) (found_name s (first_draft s) f) _ _
    (λ number e. only_line s (field_size f) (entry_name_line (length s.inserted) number text f.never_indexed) (number ∷ []) (named_short s f number shortest small (found_name_is_named s (first_draft s) f number e)))
    (λ none. only_line s (field_size f) (Literal (coded s.choices.shortest_strings f.name) text f.never_indexed) [] (omega (arith, fit.literal (2 + bit_n f.never_indexed) f))))

-- a line that is an index alone takes ten bytes at most, and any prefix twenty
index_takes : (s : EncoderHistory) (f : Field) (line : FieldLine) (names : List ℕ) → length (line_bytes line) ≤ 10 → TakesAtMost s (field_size f) (add_line (first_draft s) line names)
index_takes s f line names short = only_line s (field_size f) line names (omega (arith, short, prefix_short s.announced (fold max 0 names) (length s.inserted)))

line_takes : (s : EncoderHistory) (f : Field) → s.choices.shortest_strings ≡ true → s.capacity < 2 ^ 30 → TakesAtMost s (field_size f) (write_field s (first_draft s) f)
line_takes s f shortest small =
    let literal = literal_takes s f shortest small in
    let base = length s.inserted in
    either_way (TakesAtMost s (field_size f)) f.never_indexed _ _ (λ never. literal) (
    chosen (TakesAtMost s (field_size f)) (static_field f) _ _ (λ index e. index_takes s f (StaticField index) [] (prefixed_short 6 3 index)) (λ none.
    chosen (TakesAtMost s (field_size f)) (found s (first_draft s) f) _ _ (λ number e. index_takes s f (RelativeField (base - number)) (number ∷ []) (prefixed_short 6 2 (base - number))) (λ none.
    either_way (TakesAtMost s (field_size f)) (is_insertable s (first_draft s) f) _ _
    (λ e. index_takes s f (PostBaseField (base - base)) ((base + 1) ∷ []) (prefixed_short 4 1 (base - base))) literal)))

field_takes : (s : EncoderHistory) (f : Field) → s.choices.shortest_strings ≡ true → s.capacity < 2 ^ 30 → TakesAtMost s (field_size f) (add_field s (first_draft s) f)
field_takes s f shortest small = with_field (TakesAtMost s (field_size f)) s (first_draft s) f (line_takes s f shortest small) (λ e test k. k)

-- **With the shortest strings and a table of less than 2 ^ 30 a section is no longer than the size of its list, or takes two bytes if that is
-- empty,**
pub section_within_size : (s : EncoderHistory) (fields : List Field) → s.choices.shortest_strings ≡ true → s.capacity < 2 ^ 30 → length (encoded_section s fields) ≤ max 2 (section_size fields)
section_within_size s [] shortest small = omega arith
section_within_size s (f ∷ []) shortest small =
    let taken = guarded s.choices.guards_secrets f in
    omega (arith, section_length s (f ∷ []), field_takes s taken shortest small, guarded_size s.choices.guards_secrets f)
section_within_size s (f ∷ g ∷ fields) shortest small =
    let all = f ∷ g ∷ fields in
    omega (arith, section_length s all, prefix_short s.announced (required_insert_count (draft_of s all)) (length s.inserted), shortest_lines_short s all shortest)

-- **so none is in any session whose decoder announced no larger table.**
pub sections_within_sizes : (counts : Bool) (most announced limit : ℕ) (events : List SessionEvent) (s : Session) (stream : ℕ) (fields : List Field) → SessionRun (beginning counts most announced limit) events s
    → s.encoder.announced < 2 ^ 30 → s.encoder.choices.shortest_strings ≡ true → length (encoded_section (writing_on s.encoder stream) fields) ≤ max 2 (section_size fields)
sections_within_sizes counts most announced limit events s stream fields run small shortest = by_test (was_canceled s.encoder stream)
  where
    by_test : (b : Bool) → length (encoded_section (if b then record s.encoder { announced = 0; capacity = 0; limit = 0; choices = record s.encoder.choices { economical = false } } else s.encoder) fields) ≤ max 2 (section_size fields)
    by_test true = section_within_size (record s.encoder { announced = 0; capacity = 0; limit = 0; choices = record s.encoder.choices { economical = false } }) fields shortest (omega arith)
    by_test false = section_within_size s.encoder fields shortest (omega (arith, small, (every_run_is_sound counts most announced limit events s run).within_announced))
