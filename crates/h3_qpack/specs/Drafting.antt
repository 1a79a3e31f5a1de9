-- A field section under way, as an encoder keeps it: how each field is written, by what is kept (RFC 9204, section 2.1).
use Rattle.std.specs.Prelude.{◌≡◌, ◌⊎◌, ◌<◌, ◌≤◌, ℕ, ◌+◌, ◌-◌, ◌^◌, Bool, true, false, not, ◌&&◌, List, [], ◌∷◌, ◌++◌, length, min, max, fold, take, flat_map, nat_lt, if◌then◌else◌, Option, Some, None, is_none, option_map, unwrap_or, IfSome}
use Rattle.std.specs.List.{AllByRecursion}
use Rattle.h3_field.specs.Field.{Field, section_size}
use Rattle.h3_field.specs.ReadBack.{IsFieldOfBytes}
use Rattle.h3_field.specs.StaticTable.{static_field, static_name}
use Rattle.h3_field.specs.StringLiteral.{coded}
use Rattle.h3_field.specs.Line.{FieldLine, line_bytes}
use Rattle.h3_field.specs.Line.{FieldLine as line}
use Rattle.h3_field.specs.Instruction.{EncoderInstruction, encoder_bytes}
use Rattle.h3_field.specs.Instruction.EncoderInstruction.{InsertWithStaticName, InsertWithEntryName, InsertLiteral, Duplicate}
use Rattle.h3_table.specs.Table.{table}
use Rattle.h3_table.specs.TableState.{TableState, evicted, newest_in, with_entry}
use Rattle.h3_table.specs.Matches.{matches}
use Rattle.h3_qpack.specs.Marks.{with_mark}
use Rattle.h3_qpack.specs.EncoderHistory.{EncoderHistory, blocks_out, writing_on}
use Rattle.h3_qpack.specs.EncoderState.{EncoderState, encoder_state, MayInsertInto}
use Rattle.h3_qpack.specs.SectionEncoding.{Draft, lasting_capacity, draining, is_worth, marks_after, draft_of, required_insert_count, entry_name_line, encoded_section, instructions_for, sent_section}
use Rattle.h3_table.specs.declared.entries.Match.TheVariants as what
use Rattle.h3_qpack.specs.declared.section.Section.{Section}
use Rattle.h3_qpack.specs.declared.section.Choice.{Choice}
use Rattle.h3_qpack.specs.declared.section.Choice.TheVariants as choice

-- the least of the numbers, or the greatest number of 64 bits where there are none
abbrev pub oldest_of : List ℕ → ℕ
oldest_of ns = fold min (2 ^ 64 - 1) ns

-- Of the entries of an economical encoder's table, those up to this number drain.
abbrev pub draining_in : EncoderState → ℕ
draining_in t = if t.choices.economical then t.table.inserted - length (table (lasting_capacity t.table.capacity) t.table.entries) else 0

-- a section before its first field
abbrev pub begun : EncoderState → Section
begun t = record { base = t.table.inserted; may_block = nat_lt (length t.blocking_counts) t.limit; draining = draining_in t; oldest = 2 ^ 64 - 1; newest = 0 }

-- a line names this entry
abbrev pub naming : Section → ℕ → Section
naming section number = record section { oldest = min section.oldest number; newest = max section.newest number }

-- The section was begun after entries of this table, and what it names is there.
pub record IsOver (h : TableState) (section : Section) : Type 0 where
  pub base : section.base ≤ h.inserted
  pub above : evicted h < section.oldest
  pub named : 0 < section.newest → section.oldest ≤ h.inserted
  pub newest : section.newest ≤ h.inserted

-- What tracked sections name has numbers from 1, all numbers of entries are small, the entries fit, and so does the table what was
-- announced.
pub record IsSmall (t : EncoderState) : Type 0 where
  pub names : AllByRecursion (λ u. 0 < u.oldest) t.tracked
  pub few : t.table.inserted < 2 ^ 62
  pub fits : section_size t.table.entries ≤ t.table.capacity
  pub within_announced : t.table.capacity ≤ t.announced

-- the greatest number that a line may name, of those up to a number
abbrev pub most_usable : EncoderState → Section → ℕ → ℕ
most_usable t section number = if section.may_block then number else min number t.known_received

-- the newest entry equal to the field that is older than the section and may be named
abbrev pub older : EncoderState → Section → Field → Option ℕ
older t section f = newest_in t.table (matches what.Field f) (evicted t.table) (most_usable t section section.base)

-- the newest entry of the field's name that may be named
abbrev pub named : EncoderState → Section → Field → Option ℕ
named t section f = newest_in t.table (matches what.Name f) (evicted t.table) (most_usable t section t.table.inserted)

-- the same of the entries that do not drain
abbrev pub named_lasting : EncoderState → Section → Field → Option ℕ
named_lasting t section f = newest_in t.table (matches what.Name f) (max section.draining (evicted t.table)) (most_usable t section t.table.inserted)

-- The field is worth an entry, whether an entry of it drains or not.
abbrev pub is_worth_in : EncoderState → Bool → Field → Bool
is_worth_in t drains f =
    is_worth t.choices.economical drains (section_size t.table.entries) t.table.capacity (newest_in t.table (matches what.Name f) (evicted t.table) t.table.inserted) t.marks f

-- There is no equal entry that may be named.
pub record IsNowhere (t : EncoderState) (section : Section) (f : Field) : Type 0 where
  pub no_static : static_field f ≡ None
  pub no_entry : older t section f ≡ None

-- There is none but one that drains.
pub record IsUnnamed (t : EncoderState) (section : Section) (f : Field) : Type 0 where
  pub no_static : static_field f ≡ None
  pub drains : IfSome (older t section f) (λ number. number ≤ section.draining)

-- A section may be blocked on the field, which is worth an entry and may be inserted.
pub record MayInsertFor (t : EncoderState) (section : Section) (f : Field) : Type 0 where
  pub may_block : section.may_block ≡ true
  pub worth : is_worth_in t (not (is_none (older t section f))) f ≡ true
  pub may : MayInsertInto t f section.oldest

-- There is none to be named, and the field is not inserted.
pub record IsNotHeld (t : EncoderState) (section : Section) (f : Field) : Type 0 where
  pub nowhere : IsUnnamed t section f
  pub no_room : MayInsertFor t section f → ⊥

-- The field is a literal: since it is never indexed, or since it is not held.
abbrev pub IsLiteral : EncoderState → Section → Field → Type 0
IsLiteral t section f = (f.never_indexed ≡ true) ⊎ ((f.never_indexed ≡ false) × IsNotHeld t section f)

-- the newest entry that equals the field
abbrev pub equal_in : EncoderState → Field → Option ℕ
equal_in t f = newest_in t.table (matches what.Field f) (evicted t.table) t.table.inserted

-- An economical encoder whose sections may never be blocked inserts the field, which is worth an entry and which no entry equals but such
-- as drain, for later sections.
pub record MayInsertAhead (t : EncoderState) (section : Section) (f : Field) : Type 0 where
  pub economical : t.choices.economical ≡ true
  pub no_limit : t.limit ≡ 0
  pub no_entry : unwrap_or (equal_in t f) 0 ≤ section.draining
  pub worth : is_worth_in t (not (is_none (equal_in t f))) f ≡ true
  pub may : MayInsertInto t f section.oldest

-- The field is to be written like this.
abbrev pub IsChosen : EncoderState → Section → Field → Choice → Type 0
IsChosen t section f (choice.Static index) = (f.never_indexed ≡ false) × (static_field f ≡ Some index)
IsChosen t section f (choice.Entry number) = (f.never_indexed ≡ false) × (static_field f ≡ None) × (older t section f ≡ Some number) × (section.draining < number)
IsChosen t section f (choice.Insertion after searched) = (f.never_indexed ≡ false) × IsUnnamed t section f × MayInsertFor t section f
IsChosen t section f (choice.StaticName index) = IsLiteral t section f × (static_name f.name ≡ Some index)
IsChosen t section f (choice.EntryName number) = IsLiteral t section f × (static_name f.name ≡ None) × (named_lasting t section f ≡ Some number)
IsChosen t section f choice.Literal = IsLiteral t section f × (static_name f.name ≡ None) × (named_lasting t section f ≡ None)

-- What it names is there, and what it inserts may be inserted.
abbrev pub IsPossible : EncoderState → Section → Field → Choice → Type 0
IsPossible t section f (choice.Static index) = index < 99
IsPossible t section f (choice.Entry number) = (evicted t.table < number) × (number ≤ section.base)
IsPossible t section f (choice.Insertion after searched) = MayInsertInto t f section.oldest × (after ≡ evicted (with_entry t.table f)) × (evicted t.table ≤ after)
IsPossible t section f (choice.StaticName index) = index < 99
IsPossible t section f (choice.EntryName number) = (evicted t.table < number) × (number ≤ t.table.inserted)
IsPossible t section f choice.Literal = Unit {0}

-- a line that is a literal
abbrev pub is_literal : Choice → Bool
is_literal (choice.Static index) = false
is_literal (choice.Entry number) = false
is_literal (choice.Insertion after searched) = false
is_literal (choice.StaticName index) = true
is_literal (choice.EntryName number) = true
is_literal choice.Literal = true

-- the line for it
abbrev pub line_for : EncoderState → Section → Field → Choice → FieldLine
line_for t section f (choice.Static index) = line.StaticField index
line_for t section f (choice.Entry number) = line.RelativeField (section.base - number)
line_for t section f (choice.Insertion after searched) = line.PostBaseField (t.table.inserted - section.base)
line_for t section f (choice.StaticName index) = line.StaticName index (coded t.choices.shortest_strings f.value) f.never_indexed
line_for t section f (choice.EntryName number) = entry_name_line section.base number (coded t.choices.shortest_strings f.value) f.never_indexed
line_for t section f choice.Literal = line.Literal (coded t.choices.shortest_strings f.name) (coded t.choices.shortest_strings f.value) f.never_indexed

-- the section with this line
abbrev pub section_after : EncoderState → Section → Choice → Section
section_after t section (choice.Static index) = section
section_after t section (choice.Entry number) = naming section number
section_after t section (choice.Insertion after searched) = naming section (t.table.inserted + 1)
section_after t section (choice.StaticName index) = section
section_after t section (choice.EntryName number) = naming section number
section_after t section choice.Literal = section

-- how a field is inserted, after which so many entries are evicted, with the shortest strings or none but Huffman coded ones
abbrev pub insertion_for : Bool → TableState → ℕ → Field → EncoderInstruction
insertion_for shortest h after f =
    unwrap_or (option_map (λ number. Duplicate (h.inserted - number)) (newest_in h (matches what.Field f) after h.inserted)) (
    unwrap_or (option_map (λ index. InsertWithStaticName index (coded shortest f.value)) (static_name f.name)) (
    unwrap_or (option_map (λ number. InsertWithEntryName (h.inserted - number) (coded shortest f.value)) (newest_in h (matches what.Name f) after h.inserted))
    (InsertLiteral (coded shortest f.name) (coded shortest f.value))))

-- what is kept with it
abbrev pub encoder_state_with : EncoderState → Field → Choice → EncoderState
encoder_state_with t f (choice.Insertion after searched) = record t { table = with_entry t.table f }
encoder_state_with t f other = t

-- what is kept behind the field: a literal that may be indexed leaves its mark with an economical encoder whose table may have entries
abbrev pub noted : EncoderState → Field → EncoderState
noted t f = record t { marks = if t.choices.economical && nat_lt 0 t.table.capacity && not f.never_indexed then with_mark t.marks f.value else t.marks }

-- the instructions for it
abbrev pub instructions_after : EncoderState → Field → Choice → List EncoderInstruction
instructions_after t f (choice.Insertion after searched) = insertion_for t.choices.shortest_strings t.table after f ∷ []
instructions_after t f other = []

-- The field was inserted for later sections where it may be, and these are the instructions then; else nothing changed.
pub record IsPutAhead (t : EncoderState) (section : Section) (f : Field) (new : EncoderState) (instructions after : List ℕ) : Type 0 where
  pub inserted : MayInsertAhead t section f →
      (new ≡ record t { table = with_entry t.table f }) × (after ≡ instructions ++ encoder_bytes (insertion_for t.choices.shortest_strings t.table (evicted (with_entry t.table f)) f))
  pub same : (MayInsertAhead t section f → ⊥) → (new ≡ t) × (after ≡ instructions)

-- What is kept is that of a history with the draft's insertions and these marks, and the section names what the draft names.
pub record IsDraftState (s : EncoderHistory) (d : Draft) (marks : List ℕ) (t : EncoderState) (section : Section) : Type 0 where
  pub stores : t ≡ encoder_state (record s { inserted = d.inserted; marks = marks })
  pub base : section.base ≡ length s.inserted
  pub may_block : section.may_block ≡ nat_lt (blocks_out s) s.limit
  pub draining : section.draining ≡ draining s
  pub oldest : section.oldest ≡ oldest_of d.references
  pub newest : section.newest ≡ required_insert_count d

-- These bytes are the draft's lines, and those are its instructions behind what was there.
pub record IsDraftedWith (s : EncoderHistory) (d : Draft) (marks : List ℕ) (t : EncoderState) (section : Section) (lines start instruction_bytes : List ℕ) : Type 0 where
  pub state : IsDraftState s d marks t section
  pub lines_are : lines ≡ flat_map line_bytes d.lines
  pub instructions_are : instruction_bytes ≡ start ++ flat_map encoder_bytes d.instructions

-- and the marks are those behind these lines
abbrev pub IsDrafted : EncoderHistory → Draft → EncoderState → Section → List ℕ → List ℕ → List ℕ → Type 0
IsDrafted s d t section lines start instruction_bytes = IsDraftedWith s d (marks_after s d.lines) t section lines start instruction_bytes

-- The section, which is written by the other encoder, was cut off behind some of its fields: what was inserted for them stays,
-- and the instructions for that were written behind what was there.
pub record IsCutOff (s by : EncoderHistory) (fields : List Field) (t : EncoderState) (start instruction_bytes : List ℕ) : Type 0 where
  pub front : ℕ
  pub within : front ≤ length fields
  pub are_bytes : AllByRecursion IsFieldOfBytes (take front fields)
  pub stores : t ≡ encoder_state (record s { inserted = (draft_of by (take front fields)).inserted; marks = marks_after by (draft_of by (take front fields)).lines })
  pub instructions_are : instruction_bytes ≡ start ++ flat_map encoder_bytes (instructions_for by (take front fields))

-- The section was written behind what was there, and its instructions behind what was there; it is counted and tracked.
pub record IsSent (s : EncoderHistory) (stream : ℕ) (fields : List Field) (count : ℕ) (t : EncoderState) (before encoded start instruction_bytes : List ℕ) : Type 0 where
  pub stores : t ≡ encoder_state (sent_section s stream fields)
  pub count_is : count ≡ required_insert_count (draft_of (writing_on s stream) fields)
  pub are_bytes : AllByRecursion IsFieldOfBytes fields
  pub encoded_is : encoded ≡ before ++ encoded_section (writing_on s stream) fields
  pub instructions_are : instruction_bytes ≡ start ++ flat_map encoder_bytes (instructions_for (writing_on s stream) fields)
