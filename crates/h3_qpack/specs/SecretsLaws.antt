-- What an encoder inserts, names and keeps rests on no value of a never-indexed field.
use Rattle.std.proofs.Common.{◌≡◌, ℕ, ◌-◌, Bool, true, false, not, ◌&&◌, ◌==◌, List, [], ◌∷◌, ◌++◌, length, map, fold, refl, sym, ◌∙◌, ap, nat_le, nat_lt, Option, Some, None, is_none, option_map, unwrap_or, if◌then◌else◌}
use Rattle.h3_field.specs.Field.{Field}
use Rattle.h3_field.specs.StaticTable.{static_field, static_name}
use Rattle.h3_field.specs.StringLiteral.{Text, huffman_text, coded}
use Rattle.h3_field.specs.Line.{FieldLine}
use Rattle.h3_field.specs.Line.FieldLine.{StaticField, RelativeField, PostBaseField, StaticName, RelativeName, PostBaseName, Literal}
use Rattle.h3_qpack.specs.Marks.{with_mark}
use Rattle.h3_qpack.specs.EncoderHistory.{EncoderHistory, blocks_out, was_canceled, writing_on}
use Rattle.h3_qpack.specs.SectionEncoding.{Draft, held, found, found_name, any_equal, literal_value, keeps_marks, marked, marks_after, is_worth_to, finds_room, is_insertable, is_new, is_insertable_ahead, entry_name_line, add_line, add_literal, add_inserted, add_ahead, write_indexed, insert_ahead, add_field, first_draft, draft_as_given, guarded_fields, draft_of, required_insert_count, instructions_for, having_inserted, sent_section}
use Rattle.h3_qpack.specs.Secrets.{shown, without_secret, without_secrets, shown_text, line_hiding, line_without_secret, draft_hiding, hidden}

-- A line with the bit N leaves no mark.
value_seen : (empty : Text) (l : FieldLine) → literal_value (line_hiding empty l) ≡ literal_value l
value_seen empty (StaticField index) = refl
value_seen empty (RelativeField index) = refl
value_seen empty (PostBaseField index) = refl
value_seen empty (StaticName index value true) = refl
value_seen empty (StaticName index value false) = refl
value_seen empty (RelativeName index value true) = refl
value_seen empty (RelativeName index value false) = refl
value_seen empty (PostBaseName index value true) = refl
value_seen empty (PostBaseName index value false) = refl
value_seen empty (Literal name value true) = refl
value_seen empty (Literal name value false) = refl

marks_seen : (empty : Text) (keeps : Bool) (marks : List ℕ) (lines : List FieldLine) → fold (marked keeps) marks (map (line_hiding empty) lines) ≡ fold (marked keeps) marks lines
marks_seen empty keeps marks [] = refl
marks_seen empty keeps marks (l ∷ lines) =
    ap (λ o. fold (marked keeps) (unwrap_or (option_map (λ value. if keeps then with_mark marks value else marks) o) marks) (map (line_hiding empty) lines)) (value_seen empty l)
    ∙ marks_seen empty keeps (marked keeps marks l) lines

-- a line more
lines_seen : (empty : Text) (lines : List FieldLine) (l : FieldLine) → map (line_hiding empty) lines ++ line_hiding empty l ∷ [] ≡ map (line_hiding empty) (lines ++ l ∷ [])
lines_seen empty [] l = refl
lines_seen empty (k ∷ lines) l = ap (λ ls. line_hiding empty k ∷ ls) (lines_seen empty lines l)

line_seen : (empty : Text) (d : Draft) (l m : FieldLine) (names : List ℕ) → m ≡ line_hiding empty l → add_line (draft_hiding empty d) m names ≡ draft_hiding empty (add_line d l names)
line_seen empty d l m names e =
    ap (λ k. add_line (draft_hiding empty d) k names) e
    ∙ ap (λ ls. record d { lines = ls; references = d.references ++ names }) (lines_seen empty d.lines l)

entry_name_seen : (empty : Text) (base number : ℕ) (value : Text) (n : Bool) → entry_name_line base number (shown_text empty n value) n ≡ line_hiding empty (entry_name_line base number value n)
entry_name_seen empty base number value n = by_order (nat_le number base)
  where
    by_order : (b : Bool) → (if b then RelativeName (base - number) (shown_text empty n value) n else PostBaseName (number - base - 1) (shown_text empty n value) n)
        ≡ line_hiding empty (if b then RelativeName (base - number) value n else PostBaseName (number - base - 1) value n)
    by_order true = refl
    by_order false = refl

text_seen : (shortest n : Bool) (value : List ℕ) → coded shortest (shown n value) ≡ shown_text (coded shortest []) n (coded shortest value)
text_seen shortest true value = refl
text_seen shortest false value = refl

-- A literal line is of the name, and of the value if that may be seen.
literal_seen : (s : EncoderHistory) (d : Draft) (f : Field) → add_literal s (draft_hiding (hidden s) d) (without_secret f) ≡ draft_hiding (hidden s) (add_literal s d f)
literal_seen s d f =
    ap (λ t. of_text (static_name f.name) (found_name s d f) (draft_hiding (hidden s) d) t) (text_seen s.choices.shortest_strings f.never_indexed f.value) ∙ by_name (static_name f.name) (found_name s d f)
  where
    name : Text
    name = coded s.choices.shortest_strings f.name

    value : Text
    value = coded s.choices.shortest_strings f.value

    of_text : Option ℕ → Option ℕ → Draft → Text → Draft
    of_text o p e t =
        unwrap_or (option_map (λ index. add_line e (StaticName index t f.never_indexed) []) o) (
        unwrap_or (option_map (λ number. add_line e (entry_name_line (length s.inserted) number t f.never_indexed) (number ∷ [])) p)
        (add_line e (Literal name t f.never_indexed) []))

    by_name : (o p : Option ℕ) → of_text o p (draft_hiding (hidden s) d) (shown_text (hidden s) f.never_indexed value) ≡ draft_hiding (hidden s) (of_text o p d value)
    by_name (Some index) p = line_seen (hidden s) d (StaticName index value f.never_indexed) _ [] refl
    by_name None (Some number) = line_seen (hidden s) d (entry_name_line (length s.inserted) number value f.never_indexed) _ (number ∷ []) (entry_name_seen (hidden s) (length s.inserted) number value f.never_indexed)
    by_name None None = line_seen (hidden s) d (Literal name value f.never_indexed) _ [] refl

-- What is inserted does not rest on the lines but by their marks.
insertable_seen : (s : EncoderHistory) (d : Draft) (f : Field) → is_insertable s (draft_hiding (hidden s) d) f ≡ is_insertable s d f
insertable_seen s d f =
    ap (λ marks. nat_lt (blocks_out s) s.limit && is_worth_to s (not (is_none (held s d f))) marks d f && finds_room s d f) (marks_seen (hidden s) (keeps_marks s) s.marks d.lines)

inserted_seen : (s : EncoderHistory) (d : Draft) (f : Field) → add_inserted s (draft_hiding (hidden s) d) f ≡ draft_hiding (hidden s) (add_inserted s d f)
inserted_seen s d f = ap (λ ls. record (add_inserted s d f) { lines = ls }) (lines_seen (hidden s) d.lines (PostBaseField (length d.inserted - length s.inserted)))

indexed_seen : (s : EncoderHistory) (d : Draft) (f : Field) → add_literal s (draft_hiding (hidden s) d) f ≡ draft_hiding (hidden s) (add_literal s d f)
    → write_indexed s (draft_hiding (hidden s) d) f ≡ draft_hiding (hidden s) (write_indexed s d f)
indexed_seen s d f literal =
    ap (λ b. unwrap_or (option_map (λ index. add_line seen (StaticField index) []) (static_field f)) (
    unwrap_or (option_map (λ number. add_line seen (RelativeField (length s.inserted - number)) (number ∷ [])) (found s d f))
    (if b then add_inserted s seen f else add_literal s seen f))) (insertable_seen s d f)
    ∙ by_search (static_field f) (found s d f) (is_insertable s d f)
  where
    seen : Draft
    seen = draft_hiding (hidden s) d

    by_search : (o p : Option ℕ) (b : Bool)
        → unwrap_or (option_map (λ index. add_line seen (StaticField index) []) o) (
        unwrap_or (option_map (λ number. add_line seen (RelativeField (length s.inserted - number)) (number ∷ [])) p)
        (if b then add_inserted s seen f else add_literal s seen f))
        ≡ draft_hiding (hidden s) (unwrap_or (option_map (λ index. add_line d (StaticField index) []) o) (
        unwrap_or (option_map (λ number. add_line d (RelativeField (length s.inserted - number)) (number ∷ [])) p)
        (if b then add_inserted s d f else add_literal s d f)))
    by_search (Some index) p b = line_seen (hidden s) d (StaticField index) _ [] refl
    by_search None (Some number) b = line_seen (hidden s) d (RelativeField (length s.inserted - number)) _ (number ∷ []) refl
    by_search None None true = inserted_seen s d f
    by_search None None false = literal

ahead_seen : (s : EncoderHistory) (marks : List ℕ) (d : Draft) (f : Field) → insert_ahead s marks (draft_hiding (hidden s) d) f ≡ draft_hiding (hidden s) (insert_ahead s marks d f)
ahead_seen s marks d f = by_test (is_insertable_ahead s marks d f)
  where
    by_test : (b : Bool) → (if b then add_ahead s (draft_hiding (hidden s) d) f else draft_hiding (hidden s) d) ≡ draft_hiding (hidden s) (if b then add_ahead s d f else d)
    by_test true = refl
    by_test false = refl

-- A never-indexed field is not inserted for later sections.
never_ahead : (s : EncoderHistory) (marks : List ℕ) (d : Draft) (name value : List ℕ) → insert_ahead s marks d (record { name = name; value = value; never_indexed = true }) ≡ d
never_ahead s marks d name value =
    let f : Field = record { name = name; value = value; never_indexed = true } in
    ap (λ b. if b then add_ahead s d f else d) (none (s.choices.economical && (s.limit == 0) && is_new s d f && is_worth_to s (not (is_none (any_equal s d f))) marks d f))
  where
    none : (b : Bool) → (b && false) ≡ false
    none true = refl
    none false = refl

-- one field
field_seen : (s : EncoderHistory) (d : Draft) (f : Field) → add_field s (draft_hiding (hidden s) d) (without_secret f) ≡ draft_hiding (hidden s) (add_field s d f)
field_seen s d f = by_flag f.name f.value f.never_indexed
  where
    by_flag : (name value : List ℕ) (n : Bool)
        → add_field s (draft_hiding (hidden s) d) (record { name = name; value = shown n value; never_indexed = n }) ≡ draft_hiding (hidden s) (add_field s d (record { name = name; value = value; never_indexed = n }))
    by_flag name value true =
        let f : Field = record { name = name; value = value; never_indexed = true } in
        never_ahead s (marks_after s (map (line_hiding (hidden s)) d.lines)) (add_literal s (draft_hiding (hidden s) d) (without_secret f)) name []
        ∙ literal_seen s d f
        ∙ ap (draft_hiding (hidden s)) (sym (never_ahead s (marks_after s d.lines) (add_literal s d f) name value))
    by_flag name value false =
        let f : Field = record { name = name; value = value; never_indexed = false } in
        ap (λ marks. insert_ahead s marks (write_indexed s (draft_hiding (hidden s) d) f) f) (marks_seen (hidden s) (keeps_marks s) s.marks d.lines)
        ∙ ap (λ e. insert_ahead s (marks_after s d.lines) e f) (indexed_seen s d f (literal_seen s d f))
        ∙ ahead_seen s (marks_after s d.lines) (write_indexed s d f) f

fields_seen : (s : EncoderHistory) (d : Draft) (fields : List Field) → fold (add_field s) (draft_hiding (hidden s) d) (map without_secret fields) ≡ draft_hiding (hidden s) (fold (add_field s) d fields)
fields_seen s d [] = refl
fields_seen s d (f ∷ fields) = ap (λ e. fold (add_field s) e (map without_secret fields)) (field_seen s d f) ∙ fields_seen s (add_field s d f) fields

-- The draft of fields without their secrets is that of the fields, without the secrets in its lines.
given_seen : (s : EncoderHistory) (fields : List Field) → draft_as_given s (map without_secret fields) ≡ draft_hiding (hidden s) (draft_as_given s fields)
given_seen s fields = fields_seen s (first_draft s) fields

-- **Drafts of fields that differ in secrets alone differ in these alone.**
pub drafts_alike : (s : EncoderHistory) (fields others : List Field) → without_secrets s fields ≡ without_secrets s others → draft_hiding (hidden s) (draft_of s fields) ≡ draft_hiding (hidden s) (draft_of s others)
drafts_alike s fields others e = sym (given_seen s (guarded_fields s fields)) ∙ ap (draft_as_given s) e ∙ given_seen s (guarded_fields s others)

pub instructions_alike : (s : EncoderHistory) (fields others : List Field) → without_secrets s fields ≡ without_secrets s others → instructions_for s fields ≡ instructions_for s others
instructions_alike s fields others e = ap (λ (d : Draft). d.instructions) (drafts_alike s fields others e)

pub counts_alike : (s : EncoderHistory) (fields others : List Field) → without_secrets s fields ≡ without_secrets s others
    → required_insert_count (draft_of s fields) ≡ required_insert_count (draft_of s others)
counts_alike s fields others e = ap required_insert_count (drafts_alike s fields others e)

-- what is hidden is hidden, whatever stood in its place
hidden_twice : (empty other : Text) (l : FieldLine) → line_hiding other (line_hiding empty l) ≡ line_hiding other l
hidden_twice empty other (StaticField index) = refl
hidden_twice empty other (RelativeField index) = refl
hidden_twice empty other (PostBaseField index) = refl
hidden_twice empty other (StaticName index value true) = refl
hidden_twice empty other (StaticName index value false) = refl
hidden_twice empty other (RelativeName index value true) = refl
hidden_twice empty other (RelativeName index value false) = refl
hidden_twice empty other (PostBaseName index value true) = refl
hidden_twice empty other (PostBaseName index value false) = refl
hidden_twice empty other (Literal name value true) = refl
hidden_twice empty other (Literal name value false) = refl

all_hidden : (empty : Text) (lines : List FieldLine) → map line_without_secret (map (line_hiding empty) lines) ≡ map line_without_secret lines
all_hidden empty [] = refl
all_hidden empty (l ∷ lines) =
    ap (λ k. k ∷ map line_without_secret (map (line_hiding empty) lines)) (hidden_twice empty (huffman_text []) l) ∙ ap (λ ls. line_without_secret l ∷ ls) (all_hidden empty lines)

pub lines_alike : (s : EncoderHistory) (fields others : List Field) → without_secrets s fields ≡ without_secrets s others
    → map line_without_secret (draft_of s fields).lines ≡ map line_without_secret (draft_of s others).lines
lines_alike s fields others e =
    sym (all_hidden (hidden s) (draft_of s fields).lines) ∙ ap (λ (d : Draft). map line_without_secret d.lines) (drafts_alike s fields others e) ∙ all_hidden (hidden s) (draft_of s others).lines

-- what is guarded is the same on each stream
alike_on : (s : EncoderHistory) (stream : ℕ) (fields others : List Field) → without_secrets s fields ≡ without_secrets s others → without_secrets (writing_on s stream) fields ≡ without_secrets (writing_on s stream) others
alike_on s stream fields others e = by_test (was_canceled s stream)
  where
    by_test : (b : Bool)
        → without_secrets (if b then record s { announced = 0; capacity = 0; limit = 0; choices = record s.choices { economical = false } } else s) fields
        ≡ without_secrets (if b then record s { announced = 0; capacity = 0; limit = 0; choices = record s.choices { economical = false } } else s) others
    by_test true = e
    by_test false = e

-- what is a function of the draft and of the marks behind its lines
kept_alike : {X : Type 0} (s : EncoderHistory) (kept : Draft → List ℕ → X) (fields others : List Field) → without_secrets s fields ≡ without_secrets s others → ((d : Draft) (marks : List ℕ) → kept (draft_hiding (hidden s) d) marks ≡ kept d marks)
    → kept (draft_of s fields) (marks_after s (draft_of s fields).lines) ≡ kept (draft_of s others) (marks_after s (draft_of s others).lines)
kept_alike s kept fields others e same =
    sym (seen (draft_of s fields)) ∙ ap (λ (d : Draft). kept d (marks_after s d.lines)) (drafts_alike s fields others e) ∙ seen (draft_of s others)
  where
    seen : (d : Draft) → kept (draft_hiding (hidden s) d) (marks_after s (map (line_hiding (hidden s)) d.lines)) ≡ kept d (marks_after s d.lines)
    seen d = ap (λ marks. kept (draft_hiding (hidden s) d) marks) (marks_seen (hidden s) (keeps_marks s) s.marks d.lines) ∙ same d (marks_after s d.lines)

-- the encoder after the section
pub sent_alike : (s : EncoderHistory) (stream : ℕ) (fields others : List Field) → without_secrets s fields ≡ without_secrets s others → sent_section s stream fields ≡ sent_section s stream others
sent_alike s stream fields others e =
    kept_alike (writing_on s stream)
    (λ d marks. record s {
      inserted = d.inserted;
      required_insert_counts = s.required_insert_counts ++ required_insert_count d ∷ [];
      marks = marks;
      tracked = s.tracked ++ (if required_insert_count d == 0 then [] else record { stream = stream; references = d.references } ∷ []);
    })
    fields others (alike_on s stream fields others e) (λ d marks. refl)

-- the encoder after the section's insertions, where the section does not go out
pub inserted_alike : (s : EncoderHistory) (stream : ℕ) (fields others : List Field) → without_secrets s fields ≡ without_secrets s others → having_inserted s stream fields ≡ having_inserted s stream others
inserted_alike s stream fields others e = kept_alike (writing_on s stream) (λ d marks. record s { inserted = d.inserted; marks = marks }) fields others (alike_on s stream fields others e) (λ d marks. refl)
