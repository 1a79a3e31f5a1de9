-- What an encoder writes is what writers take: small indexes, strings of bytes, and as many bytes as memory holds.
use Rattle.std.proofs.Common.{◌≡◌, ℕ, ◌-◌, ◌^◌, ◌<◌, Bool, true, false, List, [], ◌∷◌, length, sym, subst, arith, length-append, Some, nat_le, bytes_eq, fold, flat_map, if◌then◌else◌}
use Rattle.std.specs.List.{AllByRecursion}
use Rattle.std.proofs.lemmas.List.Quantifiers.{position-Some}
use Rattle.std.proofs.lemmas.List.Sums.{sum_by-cons}
use Rattle.h3_field.specs.Field.{Field, plain_field, field_eq, field_size, section_size}
use Rattle.h3_field.specs.ReadBack.{IsFieldOfBytes, IsLineOfBytes, IsInstructionOfBytes}
use Rattle.h3_field.specs.StaticTable.{static_table, static_field, static_name}
use Rattle.h3_field.specs.StringLiteral.{coded}
use Rattle.h3_field.specs.Line.{FieldLine, line_bytes}
use Rattle.h3_field.specs.Line.{FieldLine as line}
use Rattle.h3_field.specs.LineAnswer.{IsWritable}
use Rattle.h3_field.specs.Instruction.{EncoderInstruction, encoder_bytes}
use Rattle.h3_field.specs.InstructionAnswer.{IsSendable}
use Rattle.h3_field.specs.StaticTableLaws.{table_length}
use Rattle.h3_qpack.specs.EncoderHistory.{EncoderHistory}
use Rattle.h3_qpack.specs.SectionEncoding.{Draft, found, found_name, marks_after, is_insertable, remaining, insertion, add_line, add_inserted, add_ahead, add_literal, write_field, add_field, first_draft, guarded_fields, draft_of, entry_name_line}
use Rattle.h3_qpack.specs.Encodings.{IsWrittenLine, IsWrittenInstruction}
use Rattle.h3_field.specs.SecretLaws.{guarded_bytes, guarded_sizes}
use Rattle.h3_qpack.proofs.Newest.{chosen, newest_from-passes}
use Rattle.h3_qpack.proofs.Drafts.{MayInsert, either_way, may_insert, may_insert_ahead, with_field}
use Rattle.h3_table.specs.ReleasingLaws.{All-join}

abbrev pub IsSmallLine : FieldLine → Type 0
IsSmallLine l = IsWritable l × IsLineOfBytes l

abbrev pub IsSmallInstruction : EncoderInstruction → Type 0
IsSmallInstruction i = IsSendable i × IsInstructionOfBytes i

pub record IsSmallDraft (s : EncoderHistory) (d : Draft) : Type 0 where
  pub few : length d.inserted < 2 ^ 62
  pub base : length s.inserted < 2 ^ 62
  pub lines : AllByRecursion IsSmallLine d.lines
  pub instructions : AllByRecursion IsSmallInstruction d.instructions

-- a field that is small, and of bytes
record IsSmallField (f : Field) : Type 0 where
  bytes : IsFieldOfBytes f
  size : field_size f < 2 ^ 62

field_below : (f : Field) (index : ℕ) → static_field f ≡ Some index → index < 2 ^ 62
unfolding static_field
field_below f index h = let p = position-Some (λ entry. field_eq entry f) static_table index f h in omega (arith, p.0, table_length)

name_below : (name : List ℕ) (index : ℕ) → static_name name ≡ Some index → index < 2 ^ 62
unfolding static_name
name_below name index h = let p = position-Some (λ entry. bytes_eq entry.name name) static_table index (plain_field name []) h in omega (arith, p.0, table_length)

more_lines : (s : EncoderHistory) (d : Draft) (l : FieldLine) (names : List ℕ) → IsSmallDraft s d → IsSmallLine l → IsSmallDraft s (add_line d l names)
more_lines s d l names h k = record { few = h.few; base = h.base; lines = All-join IsSmallLine d.lines (l ∷ []) h.lines (k, tt); instructions = h.instructions }

named_line : (base number : ℕ) (shortest : Bool) (f : Field) → base < 2 ^ 62 → number < 2 ^ 62 → IsSmallField f → IsSmallLine (entry_name_line base number (coded shortest f.value) f.never_indexed)
named_line base number shortest f low high k = by_order (nat_le number base)
  where
    by_order : (b : Bool) → IsSmallLine (if b then line.RelativeName (base - number) (coded shortest f.value) f.never_indexed else line.PostBaseName (number - base - 1) (coded shortest f.value) f.never_indexed)
    by_order true = ((omega (arith, low), omega (arith, k.size)), k.bytes.1)
    by_order false = ((omega (arith, high), omega (arith, k.size)), k.bytes.1)

literal_small : (s : EncoderHistory) (d : Draft) (f : Field) → IsSmallDraft s d → IsSmallField f → IsSmallDraft s (add_literal s d f)
literal_small s d f h k =
    chosen (IsSmallDraft s) (static_name f.name) _ _ (λ index e. more_lines s d _ [] h ((name_below f.name index e, omega (arith, k.size)), k.bytes.1)) (λ none.
    chosen (IsSmallDraft s) (found_name s d f) _ _ (λ number e.
    let p = newest_from-passes _ 1 d.inserted number e in
    more_lines s d _ (number ∷ []) h (named_line (length s.inserted) number s.choices.shortest_strings f h.base (omega (arith, p.below, h.few)) k)) (λ none.
    more_lines s d _ [] h ((omega (arith, k.size), omega (arith, k.size)), k.bytes)))

insertion_small : (s : EncoderHistory) (d : Draft) (f : Field) → IsSmallDraft s d → IsSmallField f → IsSmallInstruction (insertion s d f)
insertion_small s d f h k =
    chosen IsSmallInstruction (remaining s d f (λ entry. field_eq entry f)) _ _ (λ number e. (omega (arith, h.few), tt)) (λ none.
    chosen IsSmallInstruction (static_name f.name) _ _ (λ index e. ((name_below f.name index e, omega (arith, k.size)), k.bytes.1)) (λ none.
    chosen IsSmallInstruction (remaining s d f (λ entry. bytes_eq entry.name f.name)) _ _ (λ number e. ((omega (arith, h.few), omega (arith, k.size)), k.bytes.1)) (λ none.
    ((omega (arith, k.size), omega (arith, k.size)), k.bytes))))

inserted_small : (s : EncoderHistory) (d : Draft) (f : Field) → IsSmallDraft s d → IsSmallField f → MayInsert s d f → IsSmallDraft s (add_inserted s d f)
inserted_small s d f h k m =
    record {
      few = omega (arith, m.few, length-append d.inserted (f ∷ []));
      base = h.base;
      lines = All-join IsSmallLine d.lines _ h.lines ((omega (arith, h.few), tt), tt);
      instructions = All-join IsSmallInstruction d.instructions _ h.instructions (insertion_small s d f h k, tt);
    }

ahead_small : (s : EncoderHistory) (d : Draft) (f : Field) → IsSmallDraft s d → IsSmallField f → MayInsert s d f → IsSmallDraft s (add_ahead s d f)
ahead_small s d f h k m =
    record {
      few = omega (arith, m.few, length-append d.inserted (f ∷ []));
      base = h.base;
      lines = h.lines;
      instructions = All-join IsSmallInstruction d.instructions _ h.instructions (insertion_small s d f h k, tt);
    }

line_of_field_small : (s : EncoderHistory) (d : Draft) (f : Field) → IsSmallDraft s d → IsSmallField f → IsSmallDraft s (write_field s d f)
line_of_field_small s d f h k =
    either_way (IsSmallDraft s) f.never_indexed _ _ (λ never. literal_small s d f h k) (
    chosen (IsSmallDraft s) (static_field f) _ _ (λ index e. more_lines s d _ [] h (field_below f index e, tt)) (λ none.
    chosen (IsSmallDraft s) (found s d f) _ _ (λ number e. more_lines s d _ (number ∷ []) h (omega (arith, h.base), tt)) (λ none.
    either_way (IsSmallDraft s) (is_insertable s d f) _ _ (λ e. inserted_small s d f h k (may_insert s d f e)) (literal_small s d f h k))))

field_small : (s : EncoderHistory) (d : Draft) (f : Field) → IsSmallDraft s d → IsSmallField f → IsSmallDraft s (add_field s d f)
field_small s d f h k = with_field (IsSmallDraft s) s d f (line_of_field_small s d f h k) (λ e test small. ahead_small s e f small k (may_insert_ahead s (marks_after s d.lines) e f test))

fields_small : (s : EncoderHistory) (d : Draft) (fields : List Field) → IsSmallDraft s d → AllByRecursion IsFieldOfBytes fields → section_size fields < 2 ^ 62 → IsSmallDraft s (fold (add_field s) d fields)
fields_small s d [] h bytes size = h
fields_small s d (f ∷ fields) h bytes size =
    let sum = sum_by-cons field_size f fields in
    fields_small s (add_field s d f) fields (field_small s d f h (record { bytes = bytes.0; size = omega (arith, size, sum) })) bytes.1 (omega (arith, size, sum))

pub draft_small : (s : EncoderHistory) (fields : List Field) → length s.inserted < 2 ^ 62 → AllByRecursion IsFieldOfBytes fields → section_size fields < 2 ^ 62 → IsSmallDraft s (draft_of s fields)
draft_small s fields few bytes size =
    fields_small s (first_draft s) (guarded_fields s fields) (record { few = few; base = few; lines = tt; instructions = tt }) (guarded_bytes s.choices.guards_secrets fields bytes)
    (subst (λ n. n < 2 ^ 62) (sym (guarded_sizes s.choices.guards_secrets fields)) size)

lines_held : (ls : List FieldLine) → AllByRecursion IsSmallLine ls → length (flat_map line_bytes ls) < 2 ^ 63 → AllByRecursion IsWrittenLine ls
lines_held [] h few = tt
lines_held (l ∷ ls) h few =
    let sum = length-append (line_bytes l) (flat_map line_bytes ls) in
    ((h.0.0, h.0.1, omega (arith, few, sum)), lines_held ls h.1 (omega (arith, few, sum)))

instructions_held : (is : List EncoderInstruction) → AllByRecursion IsSmallInstruction is → length (flat_map encoder_bytes is) < 2 ^ 63 → AllByRecursion IsWrittenInstruction is
instructions_held [] h few = tt
instructions_held (i ∷ is) h few =
    let sum = length-append (encoder_bytes i) (flat_map encoder_bytes is) in
    ((h.0.0, h.0.1, omega (arith, few, sum)), instructions_held is h.1 (omega (arith, few, sum)))

-- the same where each of them is short
pub instructions_fit : (is : List EncoderInstruction) → AllByRecursion IsSmallInstruction is → AllByRecursion (λ i. length (encoder_bytes i) < 2 ^ 63) is → AllByRecursion IsWrittenInstruction is
instructions_fit [] h short = tt
instructions_fit (i ∷ is) h short = ((h.0.0, h.0.1, short.0), instructions_fit is h.1 short.1)

-- the lines of a section
pub lines_written : (s : EncoderHistory) (fields : List Field) → length s.inserted < 2 ^ 62 → AllByRecursion IsFieldOfBytes fields → section_size fields < 2 ^ 62
    → length (flat_map line_bytes (draft_of s fields).lines) < 2 ^ 63 → AllByRecursion IsWrittenLine (draft_of s fields).lines
lines_written s fields few bytes size held = lines_held (draft_of s fields).lines (draft_small s fields few bytes size).lines held

-- the instructions for it
pub instructions_written : (s : EncoderHistory) (fields : List Field) → length s.inserted < 2 ^ 62 → AllByRecursion IsFieldOfBytes fields → section_size fields < 2 ^ 62
    → length (flat_map encoder_bytes (draft_of s fields).instructions) < 2 ^ 63 → AllByRecursion IsWrittenInstruction (draft_of s fields).instructions
instructions_written s fields few bytes size held = instructions_held (draft_of s fields).instructions (draft_small s fields few bytes size).instructions held
