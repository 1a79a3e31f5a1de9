-- A section on a stream whose cancellation was read, and one of an encoder whose table may have no entry: it is written as static lines,
-- and nothing else changes.
use Rattle.std.proofs.Common.{Less, Equal, Greater, ◌⊎◌, inl, inr, ◌≡◌, ℕ, ◌+◌, ◌-◌, ◌^◌, ◌<◌, ◌≤◌, Bool, true, false, not, is_none, bytes_eq, ◌&&◌, ◌||◌, max, List, [], ◌∷◌, ◌++◌, length, map, filter, fold, refl, sym, ◌∙◌, ap, arith, nat_lt, nat_le, cond, append_assoc, append-nil, flat_map, if◌then◌else◌, Option, Some, None, option_map, unwrap_or}
use Rattle.std.specs.Prelude.{◌==◌}
use Rattle.std.specs.List.{AllByRecursion, list_all, list_any}
use Rattle.std.specs.Ordering.{nat_cmp, match_ordering}
use Rattle.std.specs.BTreeSet.{insert_key}
use Rattle.std.proofs.lemmas.Grind.{common_steps}
use Rattle.std.proofs.lemmas.List.Elements.{filter-append}
use Rattle.std.proofs.lemmas.List.Sums.{sum_by-cons}
use Rattle.h3_field.specs.Field.{Field, field_eq, field_size, section_size}
use Rattle.h3_field.specs.ReadBack.{IsFieldOfBytes}
use Rattle.h3_field.specs.StaticTable.{static_table, static_field, static_name}
use Rattle.h3_field.specs.Line.{FieldLine, line_bytes}
use Rattle.h3_field.specs.Line.FieldLine.{StaticField, RelativeField, StaticName, Literal}
use Rattle.h3_field.specs.Instruction.{encoder_bytes}
use Rattle.h3_field.specs.Prefix.{prefix_bytes}
use Rattle.h3_field.specs.Secret.{guarded}
use Rattle.h3_field.specs.StringLiteral.{coded}
use Rattle.h3_table.specs.Table.{table, evictions}
use Rattle.h3_qpack.specs.EncoderHistory.{EncoderHistory, blocks_out, referenced_entries, was_canceled, writing_on}
use Rattle.h3_table.specs.Cancellations.{counts_as_canceled}
use Rattle.h3_qpack.specs.EncoderState.{EncoderState, encoder_state, was_canceled_in}
use Rattle.h3_qpack.proofs.EncoderStates.{tracked_state}
use Rattle.h3_qpack.specs.SectionEncoding.{Draft, add_line, add_literal, add_ahead, write_indexed, write_field, add_field, unnamed, held, found, found_name, any_equal, is_usable, is_worth_to, literal_value, keeps_marks, marked, marks_after, entry_name_line, evictions_by, finds_room, is_insertable, is_new, is_insertable_ahead, guarded_fields, draft_of, required_insert_count, encoded_section, instructions_for, having_inserted, sent_section}
use Rattle.h3_field.specs.StaticLines.{literal_line_by, line_or_literal_by, static_line_by}
use Rattle.h3_qpack.specs.StaticSections.{chosen_line, static_section}
use Rattle.h3_qpack.specs.declared.encoder_choices.EncoderChoices.{EncoderChoices}
use Rattle.h3_qpack.specs.Drafting.{IsSent, IsCutOff}
use Rattle.h3_qpack.proofs.Newest.{newest_from-none}

-- the id of a stream that was kept, and all others
pub canceled_more : (stream other : ℕ) (ids : List ℕ) → list_any (λ id. id == other) (insert_key nat_cmp ids stream) ≡ ((stream == other) || list_any (λ id. id == other) ids)
canceled_more stream other [] = refl
canceled_more stream other (id ∷ ids) = by_order (nat_lt stream id) (stream == id) refl (canceled_more stream other ids)
  where
    twice : (a b : Bool) → (a || b) ≡ (a || (a || b))
    twice true b = refl
    twice false b = refl

    swapped : (a b c : Bool) → (a || (b || c)) ≡ (b || (a || c))
    swapped true true c = refl
    swapped true false c = refl
    swapped false b c = refl

    by_order : (a b : Bool) → (stream == id) ≡ b → list_any (λ k. k == other) (insert_key nat_cmp ids stream) ≡ ((stream == other) || list_any (λ k. k == other) ids)
        → list_any (λ k. k == other) (match_ordering (cond a Less (cond b Equal Greater)) (stream ∷ id ∷ ids) (id ∷ ids) (id ∷ insert_key nat_cmp ids stream)) ≡ ((stream == other) || ((id == other) || list_any (λ k. k == other) ids))
    by_order true b e h = refl
    by_order false true e h =
        let same : stream ≡ id = grind (arith, common_steps) in
        rw same (twice (id == other) (list_any (λ k. k == other) ids))
    by_order false false e h = rw h (swapped (id == other) (stream == other) (list_any (λ k. k == other) ids))

-- No entry is there. None is inserted: no section may be blocked, or none fits. And none is inserted for later sections: the encoder is
-- not economical, or none fits.
pub record NamesNone (s : EncoderHistory) : Type 0 where
  pub unblocked : (s.limit ≡ 0) ⊎ (s.capacity ≡ 0)
  pub unsaved : (s.choices.economical ≡ false) ⊎ (s.capacity ≡ 0)
  pub evicted : evictions s.capacity s.inserted ≡ length s.inserted

-- a draft of such an encoder
abbrev pub with_lines : EncoderHistory → List FieldLine → Draft
with_lines s lines = record { inserted = s.inserted; instructions = []; lines = lines; references = [] }

not_below : (n : ℕ) → nat_lt n 0 ≡ false
not_below n = grind (arith, common_steps)

not_above : (n most : ℕ) → n < 1 + most → nat_lt most n ≡ false
not_above n most h = grind (arith, common_steps, h)

too_large : (size capacity : ℕ) → capacity ≡ 0 → 32 ≤ size → nat_le size capacity ≡ false
too_large size capacity none some = grind (arith, common_steps, none, some)

-- nothing fits
no_room : (s : EncoderHistory) (d : Draft) (f : Field) → s.capacity ≡ 0 → finds_room s d f ≡ false
no_room s d f none =
    third (not f.never_indexed) (nat_lt (length d.inserted + 1) (2 ^ 62)) (nat_le (field_size f) s.capacity)
    (nat_le (evictions_by s d f) (max s.known_received (evictions s.capacity d.inserted)))
    (list_all (λ number. nat_lt (evictions_by s d f) number) (referenced_entries s ++ d.references))
    (too_large (field_size f) s.capacity none (omega arith))
  where
    third : (n a b c d : Bool) → b ≡ false → (n && a && b && c && d) ≡ false
    third n a true c d h = absurd (cc)
    third false a false c d h = refl
    third true false false c d h = refl
    third true true false c d h = refl

not_insertable : (s : EncoderHistory) (lines : List FieldLine) (f : Field) → NamesNone s → is_insertable s (with_lines s lines) f ≡ false
not_insertable s lines f h = by_reason h.unblocked
  where
    first : (a b c : Bool) → a ≡ false → (a && b && c) ≡ false
    first a b c h = rw h refl

    third : (a b c : Bool) → c ≡ false → (a && b && c) ≡ false
    third a b true h = absurd (cc)
    third true true false h = refl
    third true false false h = refl
    third false b false h = refl

    by_reason : ((s.limit ≡ 0) ⊎ (s.capacity ≡ 0)) → is_insertable s (with_lines s lines) f ≡ false
    by_reason (inl none) =
        let d = with_lines s lines in
        first (nat_lt (blocks_out s) s.limit) (is_worth_to s (not (is_none (held s d f))) (marks_after s d.lines) d f) (finds_room s d f)
        (ap (λ limit. nat_lt (blocks_out s) limit) none ∙ not_below (blocks_out s))
    by_reason (inr none) =
        let d = with_lines s lines in
        third (nat_lt (blocks_out s) s.limit) (is_worth_to s (not (is_none (held s d f))) (marks_after s d.lines) d f) (finds_room s d f) (no_room s d f none)

pub not_ahead : (s : EncoderHistory) (marks : List ℕ) (d : Draft) (f : Field) → (s.choices.economical ≡ false) ⊎ (s.capacity ≡ 0) → is_insertable_ahead s marks d f ≡ false
not_ahead s marks d f (inl plain) = rw plain refl
not_ahead s marks d f (inr none) =
    last (s.choices.economical && (s.limit == 0) && is_new s d f && is_worth_to s (not (is_none (any_equal s d f))) marks d f) (finds_room s d f) (no_room s d f none)
  where
    last : (a b : Bool) → b ≡ false → (a && b) ≡ false
    last a true h = absurd (cc)
    last true false h = refl
    last false false h = refl

none_found : (s : EncoderHistory) (lines : List FieldLine) (f : Field) → NamesNone s → found s (with_lines s lines) f ≡ None
none_found s lines f h =
    newest_from-none _ 1 s.inserted (λ n e below. fails (field_eq e f) (nat_lt (unnamed s (with_lines s lines)) n) (nat_le n (length s.inserted)) (is_usable s n) (not_above n (unnamed s (with_lines s lines)) (omega (arith, below, h.evicted))))
  where
    fails : (a b c d : Bool) → b ≡ false → (a && b && c && d) ≡ false
    fails true b c d h = rw h refl
    fails false b c d h = refl

no_name : (s : EncoderHistory) (lines : List FieldLine) (f : Field) → NamesNone s → found_name s (with_lines s lines) f ≡ None
no_name s lines f h =
    newest_from-none _ 1 s.inserted (λ n e below. fails (bytes_eq e.name f.name) (nat_lt (unnamed s (with_lines s lines)) n) (is_usable s n) (not_above n (unnamed s (with_lines s lines)) (omega (arith, below, h.evicted))))
  where
    fails : (a b c : Bool) → b ≡ false → (a && b && c) ≡ false
    fails true b c h = rw h refl
    fails false b c h = refl

literal_added : (s : EncoderHistory) (lines : List FieldLine) (f : Field) (o n : Option ℕ) → n ≡ None
    → unwrap_or (option_map (λ index. add_line (with_lines s lines) (StaticName index (coded s.choices.shortest_strings f.value) f.never_indexed) []) o) (
    unwrap_or (option_map (λ number. add_line (with_lines s lines) (entry_name_line (length s.inserted) number (coded s.choices.shortest_strings f.value) f.never_indexed) (number ∷ [])) n)
    (add_line (with_lines s lines) (Literal (coded s.choices.shortest_strings f.name) (coded s.choices.shortest_strings f.value) f.never_indexed) []))
    ≡ with_lines s (lines ++ literal_line_by s.choices.shortest_strings o f ∷ [])
literal_added s lines f None None e = refl
literal_added s lines f (Some i) None e = refl
literal_added s lines f o (Some i) e = absurd (grind (arith, common_steps, e))

line_added : (s : EncoderHistory) (lines : List FieldLine) (f : Field) (o n : Option ℕ) (b : Bool) (inserted literal : Draft) → n ≡ None → b ≡ false
    → literal ≡ with_lines s (lines ++ literal_line_by s.choices.shortest_strings (static_name f.name) f ∷ [])
    → unwrap_or (option_map (λ index. add_line (with_lines s lines) (StaticField index) []) o) (
    unwrap_or (option_map (λ number. add_line (with_lines s lines) (RelativeField (length s.inserted - number)) (number ∷ [])) n)
    (if b then inserted else literal))
    ≡ with_lines s (lines ++ line_or_literal_by s.choices.shortest_strings o f ∷ [])
line_added s lines f (Some i) None false inserted literal e d l = refl
line_added s lines f None None false inserted literal e d l = l
line_added s lines f o (Some i) b inserted literal e d l = absurd (grind (arith, common_steps, e))
line_added s lines f o None true inserted literal e d l = absurd (grind (arith, common_steps, d))

-- No static entry is never indexed.
never_static : (f : Field) → f.never_indexed ≡ true → static_field f ≡ None
unfolding static_table static_field
never_static f never = rw never refl

line_of_field : (s : EncoderHistory) (lines : List FieldLine) (f : Field) → NamesNone s → write_field s (with_lines s lines) f ≡ with_lines s (lines ++ static_line_by s.choices.shortest_strings f ∷ [])
line_of_field s lines f h = by_flag f.never_indexed refl
  where
    literal : add_literal s (with_lines s lines) f ≡ with_lines s (lines ++ literal_line_by s.choices.shortest_strings (static_name f.name) f ∷ [])
    literal = literal_added s lines f (static_name f.name) (found_name s (with_lines s lines) f) (no_name s lines f h)

    by_flag : (b : Bool) → f.never_indexed ≡ b → (if b then add_literal s (with_lines s lines) f else write_indexed s (with_lines s lines) f) ≡ with_lines s (lines ++ static_line_by s.choices.shortest_strings f ∷ [])
    by_flag true never = literal ∙ ap (λ o. with_lines s (lines ++ line_or_literal_by s.choices.shortest_strings o f ∷ [])) (sym (never_static f never))
    by_flag false plain =
        line_added s lines f (static_field f) (found s (with_lines s lines) f) (is_insertable s (with_lines s lines) f) _ (add_literal s (with_lines s lines) f)
        (none_found s lines f h) (not_insertable s lines f h) literal

field_added : (s : EncoderHistory) (lines : List FieldLine) (f : Field) → NamesNone s → add_field s (with_lines s lines) f ≡ with_lines s (lines ++ static_line_by s.choices.shortest_strings f ∷ [])
field_added s lines f h =
    let d = write_field s (with_lines s lines) f in
    ap (λ b. if b then add_ahead s d f else d) (not_ahead s (marks_after s lines) d f h.unsaved) ∙ line_of_field s lines f h

fields_added : (s : EncoderHistory) (lines : List FieldLine) (fields : List Field) → NamesNone s
    → fold (add_field s) (with_lines s lines) fields ≡ with_lines s (lines ++ map (static_line_by s.choices.shortest_strings) fields)
fields_added s lines [] h = ap (λ l. with_lines s l) (sym (append-nil lines))
fields_added s lines (f ∷ fs) h =
    ap (λ d. fold (add_field s) d fs) (field_added s lines f h) ∙ fields_added s (lines ++ static_line_by s.choices.shortest_strings f ∷ []) fs h
    ∙ ap (λ l. with_lines s l) (append_assoc lines (static_line_by s.choices.shortest_strings f ∷ []) (map (static_line_by s.choices.shortest_strings) fs))

lines_of : (choices : EncoderChoices) (fields : List Field)
    → flat_map line_bytes (map (static_line_by choices.shortest_strings) (map (guarded choices.guards_secrets) fields)) ≡ flat_map (λ f. line_bytes (chosen_line choices f)) fields
lines_of choices [] = refl
lines_of choices (f ∷ fs) = ap (λ bytes. line_bytes (chosen_line choices f) ++ bytes) (lines_of choices fs)

-- The draft has static lines alone, and names nothing.
pub draft_is_static : (s : EncoderHistory) (fields : List Field) → NamesNone s → draft_of s fields ≡ with_lines s (map (static_line_by s.choices.shortest_strings) (guarded_fields s fields))
draft_is_static s fields h = fields_added s [] (guarded_fields s fields) h

-- Its bytes are those of a section that names no dynamic entry.
pub section_is_static : (s : EncoderHistory) (fields : List Field) → NamesNone s → encoded_section s fields ≡ static_section s.choices fields
section_is_static s fields h =
    ap (λ d. prefix_bytes s.announced (required_insert_count d) (length s.inserted) ++ flat_map line_bytes d.lines) (draft_is_static s fields h)
    ∙ ap (λ bytes. 0 ∷ 0 ∷ bytes) (lines_of s.choices fields)

-- a table of capacity 0 holds nothing
nothing_fits : (fs : List Field) → table 0 fs ≡ []
nothing_fits [] = refl
nothing_fits (f ∷ fs) =
    either (nat_le (section_size (f ∷ fs)) 0) (grind (arith, common_steps, sum_by-cons field_size f fs)) (nothing_fits fs)
  where
    either : (b : Bool) → b ≡ false → table 0 fs ≡ [] → (if b then f ∷ fs else table 0 fs) ≡ []
    either true e h = absurd (grind (arith, common_steps, e))
    either false e h = h

-- what a section on a canceled stream is written by
abbrev pub without_table : EncoderHistory → EncoderHistory
without_table s = record s { announced = 0; capacity = 0; limit = 0; choices = record s.choices { economical = false } }

minus_none : (n : ℕ) → n - 0 ≡ n
minus_none n = omega arith

pub names_none : (s : EncoderHistory) → NamesNone (without_table s)
names_none s = record { unblocked = inl refl; unsaved = inr refl; evicted = ap (λ fs. length s.inserted - length fs) (nothing_fits s.inserted) ∙ minus_none (length s.inserted) }

-- An encoder whose table may have no entry names none.
bare_names_none : (s : EncoderHistory) → s.capacity ≡ 0 → NamesNone s
bare_names_none s none =
    record {
      unblocked = inr none;
      unsaved = inr none;
      evicted = ap (λ capacity. evictions capacity s.inserted) none ∙ ap (λ fs. length s.inserted - length fs) (nothing_fits s.inserted) ∙ minus_none (length s.inserted);
    }

-- what is written on the stream names none
abbrev pub WritesNone : EncoderHistory → ℕ → Type 0
WritesNone s stream = (was_canceled s stream ≡ true) ⊎ (s.capacity ≡ 0)

pub on_canceled : (s : EncoderHistory) (stream : ℕ) → was_canceled s stream ≡ true → writing_on s stream ≡ without_table s
on_canceled s stream e = rw e refl

pub on_other : (s : EncoderHistory) (stream : ℕ) → was_canceled s stream ≡ false → writing_on s stream ≡ s
on_other s stream e = rw e refl

pub on_static : (s : EncoderHistory) (stream : ℕ) (fields : List Field) → was_canceled s stream ≡ true → draft_of (writing_on s stream) fields ≡ with_lines s (map (static_line_by s.choices.shortest_strings) (guarded_fields s fields))
on_static s stream fields e = ap (λ by. draft_of by fields) (on_canceled s stream e) ∙ draft_is_static (without_table s) fields (names_none s)

pub on_bytes : (s : EncoderHistory) (stream : ℕ) (fields : List Field) → was_canceled s stream ≡ true → encoded_section (writing_on s stream) fields ≡ static_section s.choices fields
on_bytes s stream fields e = ap (λ by. encoded_section by fields) (on_canceled s stream e) ∙ section_is_static (without_table s) fields (names_none s)

none_static : (s : EncoderHistory) (stream : ℕ) (fields : List Field) → WritesNone s stream → draft_of (writing_on s stream) fields ≡ with_lines s (map (static_line_by s.choices.shortest_strings) (guarded_fields s fields))
none_static s stream fields (inl e) = on_static s stream fields e
none_static s stream fields (inr none) = by_test (was_canceled s stream)
  where
    by_test : (b : Bool) → draft_of (if b then without_table s else s) fields ≡ with_lines s (map (static_line_by s.choices.shortest_strings) (guarded_fields s fields))
    by_test true = draft_is_static (without_table s) fields (names_none s)
    by_test false = draft_is_static s fields (bare_names_none s none)

none_bytes : (s : EncoderHistory) (stream : ℕ) (fields : List Field) → WritesNone s stream → encoded_section (writing_on s stream) fields ≡ static_section s.choices fields
none_bytes s stream fields (inl e) = on_bytes s stream fields e
none_bytes s stream fields (inr none) = by_test (was_canceled s stream)
  where
    by_test : (b : Bool) → encoded_section (if b then without_table s else s) fields ≡ static_section s.choices fields
    by_test true = section_is_static (without_table s) fields (names_none s)
    by_test false = section_is_static s fields (bare_names_none s none)

-- and so are its choices, but for the economy
chosen_on : (s : EncoderHistory) (stream : ℕ) (fields : List Field) → static_section (writing_on s stream).choices fields ≡ static_section s.choices fields
chosen_on s stream fields = by_test (was_canceled s stream)
  where
    by_test : (b : Bool) → static_section (if b then without_table s else s).choices fields ≡ static_section s.choices fields
    by_test true = refl
    by_test false = refl

-- the insertions are the encoder's
pub on_inserted : (s : EncoderHistory) (stream : ℕ) → (writing_on s stream).inserted ≡ s.inserted
on_inserted s stream = by_test (was_canceled s stream)
  where
    by_test : (b : Bool) → (if b then without_table s else s).inserted ≡ s.inserted
    by_test true = refl
    by_test false = refl

-- a section that names entries is written for the announced capacity that the encoder goes by
pub on_announced : (s : EncoderHistory) (stream : ℕ) (fields : List Field) → 0 < required_insert_count (draft_of (writing_on s stream) fields) → (writing_on s stream).announced ≡ s.announced
on_announced s stream fields above = by_test (was_canceled s stream) refl
  where
    by_test : (b : Bool) → was_canceled s stream ≡ b → (writing_on s stream).announced ≡ s.announced
    by_test true e = let none = ap required_insert_count (on_static s stream fields e) in absurd (omega (arith, above, none))
    by_test false e = ap (λ (by : EncoderHistory). by.announced) (on_other s stream e)

-- A stream counts as canceled by the history where it does by what is kept.
pub canceled_state : (s : EncoderHistory) (t : EncoderState) (stream : ℕ) (b : Bool) → t ≡ encoder_state s → b ≡ was_canceled_in t stream → was_canceled s stream ≡ b
canceled_state s t stream b e is = ap (counts_as_canceled s.canceled stream) (tracked_state stream s.tracked) ∙ sym (is ∙ ap (λ u. was_canceled_in u stream) e)

-- and whether a section names none
pub none_state : (s : EncoderHistory) (t : EncoderState) (stream : ℕ) → t ≡ encoder_state s → ((t.table.capacity == 0) || was_canceled_in t stream) ≡ true → WritesNone s stream
none_state s t stream same is = by_test (t.table.capacity == 0) refl is
  where
    by_test : (b : Bool) → (t.table.capacity == 0) ≡ b → (b || was_canceled_in t stream) ≡ true → WritesNone s stream
    by_test true zero is =
        let none : t.table.capacity ≡ 0 = grind (arith, common_steps, zero) in
        inr (sym (ap (λ (u : EncoderState). u.table.capacity) same) ∙ none)
    by_test false some is = inl (canceled_state s t stream true same (sym is))

pub some_state : (s : EncoderHistory) (t : EncoderState) (stream : ℕ) → t ≡ encoder_state s → ((t.table.capacity == 0) || was_canceled_in t stream) ≡ false → was_canceled s stream ≡ false
some_state s t stream same is = by_test (t.table.capacity == 0) is
  where
    by_test : (b : Bool) → (b || was_canceled_in t stream) ≡ false → was_canceled s stream ≡ false
    by_test true is = absurd (cc)
    by_test false is = canceled_state s t stream false same (sym is)

none_waits : (known : ℕ) (counts : List ℕ) → filter (λ c. nat_lt known c) (counts ++ 0 ∷ []) ≡ filter (λ c. nat_lt known c) counts
none_waits known counts =
    let none : filter (λ c. nat_lt known c) (0 ∷ []) ≡ [] = rw (not_below known) refl in
    filter-append (λ c. nat_lt known c) counts (0 ∷ []) ∙ ap (λ cs. filter (λ c. nat_lt known c) counts ++ cs) none ∙ append-nil _

-- what is sent of a draft by an encoder
abbrev pub sent_draft : EncoderHistory → EncoderHistory → ℕ → Draft → EncoderHistory
sent_draft s by stream draft =
    record s {
      inserted = draft.inserted;
      required_insert_counts = s.required_insert_counts ++ required_insert_count draft ∷ [];
      marks = marks_after by draft.lines;
      tracked = s.tracked ++ (if required_insert_count draft == 0 then [] else record { stream = stream; references = draft.references } ∷ []);
    }

-- A section on a canceled stream leaves no mark.
pub plain_lines : (marks : List ℕ) (lines : List FieldLine) → fold (marked false) marks lines ≡ marks
plain_lines marks [] = refl
plain_lines marks (l ∷ lines) = ap (λ m. fold (marked false) m lines) (one (literal_value l)) ∙ plain_lines marks lines
  where
    one : (o : Option (List ℕ)) → unwrap_or (option_map (λ value. marks) o) marks ≡ marks
    one None = refl
    one (Some value) = refl

pub on_marks : (s : EncoderHistory) (stream : ℕ) (lines : List FieldLine) → was_canceled s stream ≡ true → marks_after (writing_on s stream) lines ≡ s.marks
on_marks s stream lines e = ap (λ b. marks_after (if b then without_table s else s) lines) e ∙ plain_lines s.marks lines

-- Nor does one of an encoder whose table may have no entry.
keeps_none : (s : EncoderHistory) → s.capacity ≡ 0 → keeps_marks s ≡ false
keeps_none s none = last s.choices.economical (nat_lt 0 s.capacity) (ap (λ capacity. nat_lt 0 capacity) none ∙ not_below 0)
  where
    last : (a b : Bool) → b ≡ false → (a && b) ≡ false
    last a true h = absurd (cc)
    last true false h = refl
    last false false h = refl

none_marks : (s : EncoderHistory) (stream : ℕ) (lines : List FieldLine) → WritesNone s stream → marks_after (writing_on s stream) lines ≡ s.marks
none_marks s stream lines (inl e) = on_marks s stream lines e
none_marks s stream lines (inr none) = by_test (was_canceled s stream)
  where
    by_test : (b : Bool) → marks_after (if b then without_table s else s) lines ≡ s.marks
    by_test true = plain_lines s.marks lines
    by_test false = ap (λ keeps. fold (marked keeps) s.marks lines) (keeps_none s none) ∙ plain_lines s.marks lines

begun_marks : (s : EncoderHistory) (b : Bool) → (if b then without_table s else s).marks ≡ s.marks
begun_marks s true = refl
begun_marks s false = refl

-- no field leaves what was there
pub none_inserted : (s : EncoderHistory) (stream : ℕ) → having_inserted s stream [] ≡ s
none_inserted s stream =
    ap (λ fs. record s { inserted = fs; marks = (writing_on s stream).marks }) (on_inserted s stream) ∙ ap (λ m. record s { marks = m }) (begun_marks s (was_canceled s stream))

-- A section that names none is not tracked, and inserts nothing.
none_kept : (s : EncoderHistory) (stream : ℕ) (fields : List Field) → WritesNone s stream → encoder_state s ≡ encoder_state (sent_section s stream fields)
none_kept s stream fields none =
    sym (ap (λ d. encoder_state (sent_draft s (writing_on s stream) stream d)) (none_static s stream fields none)
    ∙ rw (none_waits s.known_received s.required_insert_counts, append-nil s.tracked, none_marks s stream (map (static_line_by s.choices.shortest_strings) (guarded_fields s fields)) none) refl)

pub canceled_kept : (s : EncoderHistory) (stream : ℕ) (fields : List Field) → was_canceled s stream ≡ true → encoder_state s ≡ encoder_state (sent_section s stream fields)
canceled_kept s stream fields e = none_kept s stream fields (inl e)

pub none_sent : (s : EncoderHistory) (stream : ℕ) (fields : List Field) (t : EncoderState) (before block start : List ℕ) → WritesNone s stream → t ≡ encoder_state s
    → block ≡ before ++ static_section t.choices fields → AllByRecursion IsFieldOfBytes fields → IsSent s stream fields 0 t before block start start
none_sent s stream fields t before block start none same is are_bytes =
    let static = none_static s stream fields none in
    record {
      stores = same ∙ none_kept s stream fields none;
      count_is = ap required_insert_count (sym static);
      are_bytes = are_bytes;
      encoded_is = is ∙ ap (λ (u : EncoderState). before ++ static_section u.choices fields) same ∙ ap (λ bytes. before ++ bytes) (sym (none_bytes s stream fields none));
      instructions_are = sym (append-nil start) ∙ ap (λ (d : Draft). start ++ flat_map encoder_bytes d.instructions) (sym static);
    }

pub nothing_written : (s : EncoderHistory) (stream : ℕ) (fields : List Field) (t : EncoderState) (start : List ℕ) → t ≡ encoder_state s → IsCutOff s (writing_on s stream) fields t start start
nothing_written s stream fields t start same =
    record {
      front = 0;
      within = omega arith;
      are_bytes = tt;
      stores = same ∙ ap encoder_state (sym (none_inserted s stream));
      instructions_are = sym (append-nil start);
    }

-- An encoder that inserts nothing for later sections, and has inserted nothing, names none.
abbrev pub InsertsNothing : EncoderHistory → Type 0
InsertsNothing s = (s.limit ≡ 0) × ((s.choices.economical ≡ false) ⊎ (s.capacity ≡ 0))

early_names_none : (s : EncoderHistory) → InsertsNothing s → s.inserted ≡ [] → NamesNone s
early_names_none s none empty = record { unblocked = inl none.0; unsaved = none.1; evicted = ap (λ fs. evictions s.capacity fs) empty ∙ ap (λ fs. length fs) (sym empty) }

on_none : (s : EncoderHistory) (stream : ℕ) → InsertsNothing s → s.inserted ≡ [] → NamesNone (writing_on s stream)
on_none s stream none empty = by_test (was_canceled s stream)
  where
    by_test : (b : Bool) → NamesNone (if b then without_table s else s)
    by_test true = names_none s
    by_test false = early_names_none s none empty

pub early_bytes : (s : EncoderHistory) (stream : ℕ) (fields : List Field) → InsertsNothing s → s.inserted ≡ [] → encoded_section (writing_on s stream) fields ≡ static_section s.choices fields
early_bytes s stream fields none empty = section_is_static (writing_on s stream) fields (on_none s stream none empty) ∙ chosen_on s stream fields

pub early_inserts : (s : EncoderHistory) (stream : ℕ) (fields : List Field) → InsertsNothing s → s.inserted ≡ [] → instructions_for (writing_on s stream) fields ≡ []
early_inserts s stream fields none empty = ap (λ (d : Draft). d.instructions) (draft_is_static (writing_on s stream) fields (on_none s stream none empty))

pub early_still : (s : EncoderHistory) (stream : ℕ) (fields : List Field) → InsertsNothing s → s.inserted ≡ [] → (sent_section s stream fields).inserted ≡ []
early_still s stream fields none empty =
    ap (λ (d : Draft). d.inserted) (draft_is_static (writing_on s stream) fields (on_none s stream none empty)) ∙ on_inserted s stream ∙ empty
