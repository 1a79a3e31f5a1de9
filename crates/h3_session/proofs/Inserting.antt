-- An encoder of capacity 0 inserts nothing: before the peer's settings came no field goes into a table.
use Rattle.std.proofs.Common.{arith, ◌≡◌, ◌≤◌, ℕ, ◌+◌, ◌-◌, Bool, true, false, nat_lt, nat_le, if◌then◌else◌, List, [], ◌∷◌, ◌++◌, length, fold, Option, Some, None, refl, ap, ◌∙◌}
use Rattle.std.specs.Prelude.{not, is_none, ◌&&◌, ◌^◌, ◌==◌, max, option_map, unwrap_or}
use Rattle.std.specs.List.{list_all}
use Rattle.std.proofs.lemmas.Grind.{common_steps}
use Rattle.h3_field.specs.Field.{Field, field_size}
use Rattle.h3_field.specs.Line.FieldLine.{StaticField, RelativeField, StaticName, Literal}
use Rattle.h3_field.specs.StringLiteral.{coded}
use Rattle.h3_field.specs.StaticTable.{static_field, static_name}
use Rattle.h3_qpack.specs.EncoderHistory.{EncoderHistory, blocks_out, referenced_entries, was_canceled, writing_on}
use Rattle.h3_qpack.specs.SectionEncoding.{Draft, first_draft, guarded_fields, draft_of, add_ahead, add_field, add_line, add_inserted, add_literal, any_equal, entry_name_line, evictions_by, finds_room, found, found_name, having_inserted, held, is_insertable, is_insertable_ahead, is_new, is_worth_to, marks_after, write_field, write_indexed}
use Rattle.h3_table.specs.Table.{evictions}

-- a choice whose ways all keep what was inserted
either : (kept : List Field) (o : Option ℕ) (x : ℕ → Draft) (rest : Draft) → ((n : ℕ) → (x n).inserted ≡ kept) → rest.inserted ≡ kept → (unwrap_or (option_map x o) rest).inserted ≡ kept
either kept None x rest here there = there
either kept (Some n) x rest here there = here n

literal_kept : (s : EncoderHistory) (d : Draft) (f : Field) → (add_literal s d f).inserted ≡ d.inserted
literal_kept s d f =
    either d.inserted (static_name f.name) (λ index. add_line d (StaticName index (coded s.choices.shortest_strings f.value) f.never_indexed) []) _ (λ n. refl)
    (either d.inserted (found_name s d f) (λ number. add_line d (entry_name_line (length s.inserted) number (coded s.choices.shortest_strings f.value) f.never_indexed) (number ∷ []))
    (add_line d (Literal (coded s.choices.shortest_strings f.name) (coded s.choices.shortest_strings f.value) f.never_indexed) []) (λ n. refl) refl)

too_small : (size capacity : ℕ) → capacity ≡ 0 → 32 ≤ size → nat_le size capacity ≡ false
too_small size capacity none some = grind (arith, common_steps, none, some)

second : (a b c d : Bool) → b ≡ false → (a && b && c && d) ≡ false
second a true c d h = absurd (cc)
second false false c d h = refl
second true false c d h = refl

third : (n a b c d : Bool) → b ≡ false → (n && a && b && c && d) ≡ false
third false a b c d h = refl
third true a b c d h = second a b c d h

last : (a b : Bool) → b ≡ false → (a && b) ≡ false
last a true h = absurd (cc)
last true false h = refl
last false false h = refl

no_room : (s : EncoderHistory) (d : Draft) (f : Field) → s.capacity ≡ 0 → finds_room s d f ≡ false
no_room s d f h =
    third (not f.never_indexed) (nat_lt (length d.inserted + 1) (2 ^ 62)) (nat_le (field_size f) s.capacity)
    (nat_le (evictions_by s d f) (max s.known_received (evictions s.capacity d.inserted)))
    (list_all (λ number. nat_lt (evictions_by s d f) number) (referenced_entries s ++ d.references))
    (too_small (field_size f) s.capacity h (omega arith))

not_insertable : (s : EncoderHistory) (d : Draft) (f : Field) → s.capacity ≡ 0 → is_insertable s d f ≡ false
not_insertable s d f h =
    last (nat_lt (blocks_out s) s.limit && is_worth_to s (not (is_none (held s d f))) (marks_after s d.lines) d f) (finds_room s d f) (no_room s d f h)

not_ahead : (s : EncoderHistory) (marks : List ℕ) (d : Draft) (f : Field) → s.capacity ≡ 0 → is_insertable_ahead s marks d f ≡ false
not_ahead s marks d f h =
    last (s.choices.economical && (s.limit == 0) && is_new s d f && is_worth_to s (not (is_none (any_equal s d f))) marks d f) (finds_room s d f) (no_room s d f h)

indexed_kept : (s : EncoderHistory) (d : Draft) (f : Field) → s.capacity ≡ 0 → (write_indexed s d f).inserted ≡ d.inserted
indexed_kept s d f h =
    either d.inserted (static_field f) (λ index. add_line d (StaticField index) []) _ (λ n. refl)
    (either d.inserted (found s d f) (λ number. add_line d (RelativeField (length s.inserted - number)) (number ∷ [])) (if is_insertable s d f then add_inserted s d f else add_literal s d f) (λ n. refl)
    (ap (λ b. (if b then add_inserted s d f else add_literal s d f).inserted) (not_insertable s d f h) ∙ literal_kept s d f))

either_kept : (kept : List Field) (b : Bool) (x y : Draft) → x.inserted ≡ kept → y.inserted ≡ kept → (if b then x else y).inserted ≡ kept
either_kept kept true x y here there = here
either_kept kept false x y here there = there

line_kept : (s : EncoderHistory) (d : Draft) (f : Field) → s.capacity ≡ 0 → (write_field s d f).inserted ≡ d.inserted
line_kept s d f h = either_kept d.inserted f.never_indexed (add_literal s d f) (write_indexed s d f) (literal_kept s d f) (indexed_kept s d f h)

field_kept : (s : EncoderHistory) (d : Draft) (f : Field) → s.capacity ≡ 0 → (add_field s d f).inserted ≡ d.inserted
field_kept s d f h =
    let e = write_field s d f in ap (λ b. (if b then add_ahead s e f else e).inserted) (not_ahead s (marks_after s d.lines) e f h) ∙ line_kept s d f h

fields_kept : (s : EncoderHistory) (d : Draft) (fields : List Field) → s.capacity ≡ 0 → (fold (add_field s) d fields).inserted ≡ d.inserted
fields_kept s d [] h = refl
fields_kept s d (f ∷ fields) h = fields_kept s (add_field s d f) fields h ∙ field_kept s d f h

same_inserted : (s : EncoderHistory) (b : Bool) → (if b then record s { announced = 0; capacity = 0; limit = 0; choices = record s.choices { economical = false } } else s).inserted ≡ s.inserted
same_inserted s true = refl
same_inserted s false = refl

no_capacity : (s : EncoderHistory) (b : Bool) → s.capacity ≡ 0 → (if b then record s { announced = 0; capacity = 0; limit = 0; choices = record s.choices { economical = false } } else s).capacity ≡ 0
no_capacity s true h = refl
no_capacity s false h = h

same_marks : (s : EncoderHistory) (b : Bool) → (if b then record s { announced = 0; capacity = 0; limit = 0; choices = record s.choices { economical = false } } else s).marks ≡ s.marks
same_marks s true = refl
same_marks s false = refl

-- what a section on the stream begins with
begins_with : (s : EncoderHistory) (stream : ℕ) → (writing_on s stream).inserted ≡ s.inserted
begins_with s stream = same_inserted s (was_canceled s stream)

-- no field leaves what was there
pub none_inserted : (s : EncoderHistory) (stream : ℕ) → having_inserted s stream [] ≡ s
none_inserted s stream =
    ap (λ fs. record s { inserted = fs; marks = (writing_on s stream).marks }) (begins_with s stream) ∙ ap (λ m. record s { marks = m }) (same_marks s (was_canceled s stream))

pub nothing_inserted : (s : EncoderHistory) (stream : ℕ) (fields : List Field) → s.capacity ≡ 0 → s.inserted ≡ [] → (draft_of (writing_on s stream) fields).inserted ≡ []
nothing_inserted s stream fields none empty =
    let by = writing_on s stream in
    fields_kept by (first_draft by) (guarded_fields by fields) (no_capacity s (was_canceled s stream) none)
    ∙ begins_with s stream ∙ empty
