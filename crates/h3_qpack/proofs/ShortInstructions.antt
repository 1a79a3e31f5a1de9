-- Each instruction that is written for a section of small fields is far shorter than memory, so writers take it.
use Rattle.std.proofs.Common.{ℕ, ◌-◌, ◌^◌, ◌<◌, Bool, List, [], ◌∷◌, ◌++◌, length, ap, sym, subst, arith, length-append, fold, bytes_eq}
use Rattle.std.specs.List.{AllByRecursion}
use Rattle.std.proofs.lemmas.List.Sums.{sum_by-cons}
use Rattle.h3_field.specs.Field.{Field, field_eq, field_size, section_size}
use Rattle.h3_field.specs.Instruction.{EncoderInstruction, encoder_bytes}
use Rattle.h3_field.specs.Integer.{prefixed}
use Rattle.h3_field.specs.ReadBack.{IsFieldOfBytes}
use Rattle.h3_field.specs.StaticTable.{static_field, static_name}
use Rattle.h3_field.specs.StringLiteral.{coded, string_literal}
use Rattle.h3_qpack.specs.EncoderHistory.{EncoderHistory, writing_on}
use Rattle.h3_qpack.specs.Encodings.{IsWrittenInstruction}
use Rattle.h3_qpack.specs.SectionEncoding.{Draft, add_field, add_literal, first_draft, guarded_fields, draft_of, found, found_name, insertion, instructions_for, is_insertable, remaining, write_field}
use Rattle.h3_field.specs.SecretLaws.{guarded_sizes}
use Rattle.h3_qpack.specs.ShortLaws.{prefixed_short, string_short}
use Rattle.h3_qpack.proofs.Canceled.{on_inserted}
use Rattle.h3_qpack.proofs.Drafts.{either_way, with_field}
use Rattle.h3_table.specs.ReleasingLaws.{All-join}
use Rattle.h3_qpack.proofs.Newest.{chosen}
use Rattle.h3_qpack.proofs.Writable.{draft_small, instructions_fit}

abbrev IsShort : EncoderInstruction → Type 0
IsShort i = length (encoder_bytes i) < 2 ^ 63

index_and_string : (flags index : ℕ) (shortest : Bool) (f : Field) → field_size f < 2 ^ 56 → length (prefixed 6 flags index ++ string_literal 8 0 (coded shortest f.value)) < 2 ^ 63
index_and_string flags index shortest f small =
    omega (arith, small, length-append (prefixed 6 flags index) (string_literal 8 0 (coded shortest f.value)), prefixed_short 6 flags index, string_short 8 0 (coded shortest f.value))

insertion_short : (s : EncoderHistory) (d : Draft) (f : Field) → field_size f < 2 ^ 56 → IsShort (insertion s d f)
insertion_short s d f small =
    chosen IsShort (remaining s d f (λ entry. field_eq entry f)) _ _ (λ number e. omega (arith, prefixed_short 5 0 (length d.inserted - number))) (λ none.
    chosen IsShort (static_name f.name) _ _ (λ index e. index_and_string 3 index s.choices.shortest_strings f small) (λ none.
    chosen IsShort (remaining s d f (λ entry. bytes_eq entry.name f.name)) _ _ (λ number e. index_and_string 2 (length d.inserted - number) s.choices.shortest_strings f small) (λ none.
    omega (arith, small, length-append (string_literal 6 1 (coded s.choices.shortest_strings f.name)) (string_literal 8 0 (coded s.choices.shortest_strings f.value)), string_short 6 1 (coded s.choices.shortest_strings f.name), string_short 8 0 (coded s.choices.shortest_strings f.value)))))

abbrev HasShort : Draft → Type 0
HasShort d = AllByRecursion IsShort d.instructions

-- a literal line has no instruction
literal_short : (s : EncoderHistory) (d : Draft) (f : Field) → HasShort d → HasShort (add_literal s d f)
literal_short s d f h = chosen HasShort (static_name f.name) _ _ (λ index e. h) (λ none. chosen HasShort (found_name s d f) _ _ (λ number e. h) (λ none. h))

line_of_field_short : (s : EncoderHistory) (d : Draft) (f : Field) → field_size f < 2 ^ 56 → HasShort d → HasShort (write_field s d f)
line_of_field_short s d f small h =
    either_way HasShort f.never_indexed _ _ (λ never. literal_short s d f h) (
    chosen HasShort (static_field f) _ _ (λ index e. h) (λ none.
    chosen HasShort (found s d f) _ _ (λ number e. h) (λ none.
    either_way HasShort (is_insertable s d f) _ _ (λ e. All-join IsShort d.instructions _ h (insertion_short s d f small, tt)) (literal_short s d f h))))

field_short : (s : EncoderHistory) (d : Draft) (f : Field) → field_size f < 2 ^ 56 → HasShort d → HasShort (add_field s d f)
field_short s d f small h = with_field HasShort s d f (line_of_field_short s d f small h) (λ e test k. All-join IsShort e.instructions _ k (insertion_short s e f small, tt))

fields_short : (s : EncoderHistory) (d : Draft) (fields : List Field) → section_size fields < 2 ^ 56 → HasShort d → HasShort (fold (add_field s) d fields)
fields_short s d [] small h = h
fields_short s d (f ∷ fields) small h =
    let sum = sum_by-cons field_size f fields in
    fields_short s (add_field s d f) fields (omega (arith, small, sum)) (field_short s d f (omega (arith, small, sum)) h)

pub instructions_writable : (s : EncoderHistory) (stream : ℕ) (fields : List Field) → length s.inserted < 2 ^ 62 → AllByRecursion IsFieldOfBytes fields → section_size fields < 2 ^ 56
    → AllByRecursion IsWrittenInstruction (instructions_for (writing_on s stream) fields)
instructions_writable s stream fields few bytes small =
    let by = writing_on s stream in
    instructions_fit (draft_of by fields).instructions
    (draft_small by fields (omega (arith, few, ap length (on_inserted s stream))) bytes (omega (arith, small))).instructions
    (fields_short by (first_draft by) (guarded_fields by fields) (subst (λ n. n < 2 ^ 56) (sym (guarded_sizes by.choices.guards_secrets fields)) small) tt)
