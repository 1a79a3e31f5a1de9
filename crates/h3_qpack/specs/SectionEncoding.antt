-- How a field section is written: field by field, over the plain list of insertions.
use Rattle.std.specs.Prelude.{ℕ, ◌+◌, ◌-◌, ◌/◌, ◌^◌, Bool, not, ◌&&◌, ◌||◌, List, [], ◌∷◌, ◌++◌, length, map, fold, flat_map, max, nat_le, nat_lt, bytes_eq, Option, Some, None, option_map, unwrap_or, is_none, if◌then◌else◌, ◌==◌}
use Rattle.std.specs.List.{list_all}
use Rattle.h3_field.specs.Field.{Field, field_eq, field_size, section_size}
use Rattle.h3_field.specs.Secret.{guarded}
use Rattle.h3_field.specs.StringLiteral.{Text, coded}
use Rattle.h3_field.specs.StaticTable.{static_field, static_name}
use Rattle.h3_field.specs.Line.{FieldLine, line_bytes}
use Rattle.h3_field.specs.Line.FieldLine.{StaticField, RelativeField, PostBaseField, StaticName, RelativeName, PostBaseName, Literal}
use Rattle.h3_field.specs.Instruction.{EncoderInstruction}
use Rattle.h3_field.specs.Instruction.EncoderInstruction.{InsertWithStaticName, InsertWithEntryName, InsertLiteral, Duplicate}
use Rattle.h3_field.specs.Prefix.{prefix_bytes}
use Rattle.h3_table.specs.Table.{table, evictions, newest}
use Rattle.h3_qpack.specs.Marks.{with_mark, is_marked}
use Rattle.h3_qpack.specs.EncoderHistory.{EncoderHistory, blocks_out, referenced_entries, writing_on}

-- a section under way: what was inserted so far, the instructions for that, the lines, and the entries that they name
pub record Draft : Type 0 where
  pub inserted : List Field
  pub instructions : List EncoderInstruction
  pub lines : List FieldLine
  pub references : List ℕ

-- RFC 9204 2.1.2: limit of blocked streams, at the encoder
-- The decoder has the entry, or one more section may be blocked on it.
abbrev pub is_usable : EncoderHistory → ℕ → Bool
is_usable s number = nat_le number s.known_received || nat_lt (blocks_out s) s.limit

-- all but an eighth of a capacity
abbrev pub lasting_capacity : ℕ → ℕ
lasting_capacity capacity = capacity - capacity / 8

-- The oldest entries of an economical encoder's table drain (RFC 9204, section 2.1.1.1): of those that are older than the section, the
-- ones behind the newest that fill all but an eighth of the capacity. No line names an entry up to this number, so that they can go.
abbrev pub draining : EncoderHistory → ℕ
draining s = if s.choices.economical then evictions (lasting_capacity s.capacity) s.inserted else 0

-- Entries up to this number are gone, or drain.
abbrev pub unnamed : EncoderHistory → Draft → ℕ
unnamed s draft = max (draining s) (evictions s.capacity draft.inserted)

-- the newest entry equal to the field that is older than the section, still there and usable, whether it drains or not
abbrev pub held : EncoderHistory → Draft → Field → Option ℕ
held s draft f = newest
    (λ number entry. field_eq entry f && nat_lt (evictions s.capacity draft.inserted) number
    && nat_le number (length s.inserted) && is_usable s number)
    draft.inserted

-- the same of the entries that do not drain
abbrev pub found : EncoderHistory → Draft → Field → Option ℕ
found s draft f = newest
    (λ number entry. field_eq entry f && nat_lt (unnamed s draft) number && nat_le number (length s.inserted) && is_usable s number)
    draft.inserted

abbrev pub unless_never : Bool → List ℕ → Option (List ℕ)
unless_never never value = if never then None else Some value

-- the value of a line that is a literal, but for a never-indexed one
abbrev pub literal_value : FieldLine → Option (List ℕ)
literal_value (StaticField index) = None
literal_value (RelativeField index) = None
literal_value (PostBaseField index) = None
literal_value (StaticName index value n) = unless_never n value.bytes
literal_value (RelativeName index value n) = unless_never n value.bytes
literal_value (PostBaseName index value n) = unless_never n value.bytes
literal_value (Literal name value n) = unless_never n value.bytes

-- the marks behind a further line
abbrev pub marked : Bool → List ℕ → FieldLine → List ℕ
marked keeps marks line = unwrap_or (option_map (λ value. if keeps then with_mark marks value else marks) (literal_value line)) marks

-- Marks are kept by an economical encoder whose table may have entries.
abbrev pub keeps_marks : EncoderHistory → Bool
keeps_marks s = s.choices.economical && nat_lt 0 s.capacity

-- the marks behind the lines of a section
abbrev pub marks_after : EncoderHistory → List FieldLine → List ℕ
marks_after s lines = fold (marked (keeps_marks s)) s.marks lines

-- Worth an entry is what an encoder inserts that is not economical. Else it is a field whose entry drains, one with which nothing would
-- drain, the first of its name, and one whose value was among the last literals.
abbrev pub is_worth : (economical drains : Bool) (size capacity : ℕ) (name : Option ℕ) (marks : List ℕ) → Field → Bool
is_worth economical drains size capacity name marks f =
    not economical || drains || nat_le (size + field_size f) (lasting_capacity capacity) || is_none name || is_marked marks f.value

-- the newest entry of the field's name that is still there
abbrev pub any_of_name : EncoderHistory → Draft → Field → Option ℕ
any_of_name s draft f = newest (λ number entry. bytes_eq entry.name f.name && nat_lt (evictions s.capacity draft.inserted) number) draft.inserted

-- Worth an entry by the table as it is.
abbrev pub is_worth_to : EncoderHistory → Bool → List ℕ → Draft → Field → Bool
is_worth_to s drains marks draft f =
    is_worth s.choices.economical drains (section_size (table s.capacity draft.inserted)) s.capacity (any_of_name s draft f) marks f

-- how many insertions are evicted once the field is inserted
abbrev pub evictions_by : EncoderHistory → Draft → Field → ℕ
evictions_by s draft f = evictions s.capacity (draft.inserted ++ f ∷ [])

-- The field may be indexed, it fits, and each entry to be evicted is known to be received and named by no section that counts. Numbers of
-- entries stay below 2 ^ 62.
abbrev pub finds_room : EncoderHistory → Draft → Field → Bool
finds_room s draft f =
    not f.never_indexed
    && nat_lt (length draft.inserted + 1) (2 ^ 62)
    && nat_le (field_size f) s.capacity
    && nat_le (evictions_by s draft f) (max s.known_received (evictions s.capacity draft.inserted))
    && list_all (λ number. nat_lt (evictions_by s draft f) number) (referenced_entries s ++ draft.references)

-- One more section may be blocked, the field is worth an entry, and there is room.
abbrev pub is_insertable : EncoderHistory → Draft → Field → Bool
is_insertable s draft f =
    nat_lt (blocks_out s) s.limit && is_worth_to s (not (is_none (held s draft f))) (marks_after s draft.lines) draft f && finds_room s draft f

-- the newest entry equal to the field that is still there
abbrev pub any_equal : EncoderHistory → Draft → Field → Option ℕ
any_equal s draft f = newest (λ number entry. field_eq entry f && nat_lt (evictions s.capacity draft.inserted) number) draft.inserted

-- No entry equals the field: no static one, and none of the table but such as drain.
abbrev pub is_new : EncoderHistory → Draft → Field → Bool
is_new s draft f = is_none (static_field f) && nat_le (unwrap_or (any_equal s draft f) 0) (draining s)

-- An economical encoder whose sections may never be blocked inserts the field ahead of its use: a later section may name the entry once
-- it is known to be received (RFC 9204, section 2.1.2). The marks are those before the field.
abbrev pub is_insertable_ahead : EncoderHistory → List ℕ → Draft → Field → Bool
is_insertable_ahead s marks draft f =
    s.choices.economical && (s.limit == 0) && is_new s draft f && is_worth_to s (not (is_none (any_equal s draft f))) marks draft f && finds_room s draft f

-- the newest entry that remains after the insertion and passes
abbrev pub remaining : EncoderHistory → Draft → Field → (Field → Bool) → Option ℕ
remaining s draft f test = newest (λ number entry. nat_lt (evictions_by s draft f) number && test entry) draft.inserted

-- how the field is inserted
abbrev pub insertion : EncoderHistory → Draft → Field → EncoderInstruction
insertion s draft f =
    unwrap_or (option_map (λ number. Duplicate (length draft.inserted - number)) (remaining s draft f (λ entry. field_eq entry f))) (
    unwrap_or (option_map (λ index. InsertWithStaticName index (coded s.choices.shortest_strings f.value)) (static_name f.name)) (
    unwrap_or (option_map (λ number. InsertWithEntryName (length draft.inserted - number) (coded s.choices.shortest_strings f.value)) (remaining s draft f (λ entry. bytes_eq entry.name f.name)))
    (InsertLiteral (coded s.choices.shortest_strings f.name) (coded s.choices.shortest_strings f.value))))

-- the newest entry of the field's name that is still there, does not drain and is usable
abbrev pub found_name : EncoderHistory → Draft → Field → Option ℕ
found_name s draft f = newest
    (λ number entry. bytes_eq entry.name f.name && nat_lt (unnamed s draft) number && is_usable s number)
    draft.inserted

-- a further line, and the entry that it names
abbrev pub add_line : Draft → FieldLine → List ℕ → Draft
add_line draft line names = record draft { lines = draft.lines ++ line ∷ []; references = draft.references ++ names }

-- the line that names an entry's name, counted from the base of the section
abbrev pub entry_name_line : ℕ → ℕ → Text → Bool → FieldLine
entry_name_line base number value n =
    if nat_le number base then RelativeName (base - number) value n else PostBaseName (number - base - 1) value n

abbrev pub add_literal : EncoderHistory → Draft → Field → Draft
add_literal s draft f =
    unwrap_or (option_map (λ index. add_line draft (StaticName index (coded s.choices.shortest_strings f.value) f.never_indexed) []) (static_name f.name)) (
    unwrap_or (option_map (λ number. add_line draft (entry_name_line (length s.inserted) number (coded s.choices.shortest_strings f.value) f.never_indexed) (number ∷ [])) (found_name s draft f))
    (add_line draft (Literal (coded s.choices.shortest_strings f.name) (coded s.choices.shortest_strings f.value) f.never_indexed) []))

-- the field goes into the table, and its line names the new entry
abbrev pub add_inserted : EncoderHistory → Draft → Field → Draft
add_inserted s draft f =
    record {
      inserted = draft.inserted ++ f ∷ [];
      instructions = draft.instructions ++ insertion s draft f ∷ [];
      lines = draft.lines ++ PostBaseField (length draft.inserted - length s.inserted) ∷ [];
      references = draft.references ++ (length draft.inserted + 1) ∷ [];
    }

-- the line of a field that may be indexed: a static entry, else an older entry, else a new entry, else a literal
abbrev pub write_indexed : EncoderHistory → Draft → Field → Draft
write_indexed s draft f =
    unwrap_or (option_map (λ index. add_line draft (StaticField index) []) (static_field f)) (
    unwrap_or (option_map (λ number. add_line draft (RelativeField (length s.inserted - number)) (number ∷ [])) (found s draft f))
    (if is_insertable s draft f then add_inserted s draft f else add_literal s draft f))

-- RFC 9204 4.5.4: never-indexed fields
-- A never-indexed field is a literal (RFC 9204, section 4.5.4).
abbrev pub write_field : EncoderHistory → Draft → Field → Draft
write_field s draft f = if f.never_indexed then add_literal s draft f else write_indexed s draft f

-- the field goes into the table, and no line names the new entry
abbrev pub add_ahead : EncoderHistory → Draft → Field → Draft
add_ahead s draft f = record draft { inserted = draft.inserted ++ f ∷ []; instructions = draft.instructions ++ insertion s draft f ∷ [] }

-- what is inserted behind the line
abbrev pub insert_ahead : EncoderHistory → List ℕ → Draft → Field → Draft
insert_ahead s marks draft f = if is_insertable_ahead s marks draft f then add_ahead s draft f else draft

-- its line, and what is inserted for later sections
abbrev pub add_field : EncoderHistory → Draft → Field → Draft
add_field s draft f = insert_ahead s (marks_after s draft.lines) (write_field s draft f) f

-- the draft before the first field
abbrev pub first_draft : EncoderHistory → Draft
first_draft s = record { inserted = s.inserted; instructions = []; lines = []; references = [] }

-- behind these fields, each with its flag as it is
abbrev pub draft_as_given : EncoderHistory → List Field → Draft
draft_as_given s fields = fold (add_field s) (first_draft s) fields

-- the fields as the encoder takes them: it flags the secrets among them if it guards these
abbrev pub guarded_fields : EncoderHistory → List Field → List Field
guarded_fields s fields = map (guarded s.choices.guards_secrets) fields

-- all fields of a section
abbrev pub draft_of : EncoderHistory → List Field → Draft
draft_of s fields = draft_as_given s (guarded_fields s fields)

-- RFC 9204 2.1.2: required insert count of a section
-- the greatest number that a line names, or 0
abbrev pub required_insert_count : Draft → ℕ
required_insert_count draft = fold max 0 draft.references

-- the bytes of the section
abbrev pub encoded_section : EncoderHistory → List Field → List ℕ
encoded_section s fields =
    let draft = draft_of s fields in
    prefix_bytes s.announced (required_insert_count draft) (length s.inserted) ++ flat_map line_bytes draft.lines

-- the instructions that go out with it
abbrev pub instructions_for : EncoderHistory → List Field → List EncoderInstruction
instructions_for s fields = (draft_of s fields).instructions

-- the encoder after the insertions for some fields on a stream, whose section does not go out
abbrev pub having_inserted : EncoderHistory → ℕ → List Field → EncoderHistory
having_inserted s stream fields =
    let draft = draft_of (writing_on s stream) fields in
    record s { inserted = draft.inserted; marks = marks_after (writing_on s stream) draft.lines }

-- the encoder after the section on a stream, which is tracked where it names an entry
abbrev pub sent_section : EncoderHistory → ℕ → List Field → EncoderHistory
sent_section s stream fields =
    let draft = draft_of (writing_on s stream) fields in
    record s {
      inserted = draft.inserted;
      required_insert_counts = s.required_insert_counts ++ required_insert_count draft ∷ [];
      marks = marks_after (writing_on s stream) draft.lines;
      tracked = s.tracked ++ (if required_insert_count draft == 0 then [] else record { stream = stream; references = draft.references } ∷ []);
    }
