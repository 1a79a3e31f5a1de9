-- What an economical encoder inserts for later sections, behind the line of a field.
use Rattle.std.proofs.Common.{◌≡◌, ℕ, ◌-◌, ◌^◌, ◌<◌, ◌≤◌, Bool, true, false, not, ◌&&◌, ◌==◌, List, [], ◌∷◌, ◌++◌, length, inl, inr, refl, sym, ◌∙◌, ap, subst, arith, flat_map, nat_le, nat_lt, Option, Some, None, is_none, option_map, unwrap_or, if◌then◌else◌}
use Rattle.std.proofs.lemmas.Grind.{common_steps}
use Rattle.std.proofs.lemmas.Bool.{and_parts}
use Rattle.std.proofs.lemmas.List.{flat_map_more}
use Rattle.std.proofs.lemmas.List.Sums.{fold_push}
use Rattle.h3_field.specs.Field.{Field, field_eq, field_size}
use Rattle.h3_field.specs.StaticTable.{static_field}
use Rattle.h3_field.specs.StringLiteral.{coded}
use Rattle.h3_field.specs.Line.{FieldLine, line_bytes}
use Rattle.h3_field.specs.Line.{FieldLine as line}
use Rattle.h3_field.specs.Instruction.{encoder_bytes}
use Rattle.h3_table.specs.Table.{evictions, newest_from}
use Rattle.h3_table.specs.TableState.{evicted, newest_in, with_entry}
use Rattle.h3_table.specs.Matches.{matches}
use Rattle.h3_table.specs.declared.entries.Match.TheVariants as what
use Rattle.h3_qpack.specs.Marks.{with_mark}
use Rattle.h3_qpack.specs.EncoderHistory.{EncoderHistory, blocks_out}
use Rattle.h3_qpack.specs.EncoderState.{EncoderState, encoder_state}
use Rattle.h3_qpack.specs.SectionEncoding.{Draft, draining, held, any_equal, is_usable, is_worth_to, unless_never, keeps_marks, marked, marks_after, entry_name_line, evictions_by, finds_room, is_new, is_insertable_ahead, insertion, add_ahead, write_field, insert_ahead, add_field}
use Rattle.h3_qpack.specs.Drafting.{IsDraftState, IsDraftedWith, IsDrafted, IsSmall, IsChosen, IsLiteral, IsPossible, IsPutAhead, MayInsertAhead, is_worth_in, equal_in, noted, is_literal, line_for, section_after, encoder_state_with, instructions_after, insertion_for}
use Rattle.h3_qpack.specs.declared.section.Section.{Section}
use Rattle.h3_qpack.specs.declared.section.Choice.{Choice}
use Rattle.h3_qpack.specs.declared.section.Choice.TheVariants as choice
use Rattle.h3_qpack.proofs.Newest.{newest_from-most, newest_from-stricter}
use Rattle.h3_qpack.proofs.TableStates.{newest_from-same, with_entry-held}
use Rattle.h3_qpack.proofs.Choices.{NameEntries, present_held}
use Rattle.h3_qpack.proofs.Chosen.{drafted, older_kept, worth_kept, rule_kept, room_kept, kept_room, insertion_kept}
use Rattle.h3_qpack.proofs.Drafted.{names_kept, field_drafted}

-- by what is kept
equal_kept : (s : EncoderHistory) (d : Draft) (marks : List ℕ) (t : EncoderState) (section : Section) (f : Field) → IsDraftState s d marks t section → equal_in t f ≡ any_equal s d f
equal_kept s d marks t section f k =
    ap (λ (u : EncoderState). newest_in u.table (matches what.Field f) (evicted u.table) u.table.inserted) k.stores ∙ present_held s d (λ e. field_eq e f)

-- An older entry that may be named is one of the table, and none is newer than the newest.
held_least : (s : EncoderHistory) (d : Draft) (f : Field) (number least : ℕ) → held s d f ≡ Some number → least < number → nat_le (unwrap_or (any_equal s d f) 0) least ≡ false
held_least s d f number least e above = by_case (any_equal s d f) refl
  where
    test : ℕ → Field → Bool
    test = λ n entry. field_eq entry f && nat_lt (evictions s.capacity d.inserted) n

    further : ℕ → Field → Bool
    further = λ n entry. nat_le n (length s.inserted) && is_usable s n

    same : (a b c : Bool) → (a && (b && c)) ≡ ((a && b) && c)
    same true b c = refl
    same false b c = refl

    both : newest_from (λ n entry. test n entry && further n entry) 1 d.inserted ≡ held s d f
    both = newest_from-same _ _ 1 d.inserted (λ n entry low high. same (test n entry) (nat_le n (length s.inserted)) (is_usable s n))

    far : (m : ℕ) → number ≤ m → nat_le m least ≡ false
    far m le = grind (arith, common_steps, le, above)

    some_not_none : Some number ≡ None → ⊥
    some_not_none h = cc

    by_case : (o : Option ℕ) → any_equal s d f ≡ o → nat_le (unwrap_or o 0) least ≡ false
    by_case (Some m) is = far m (newest_from-most test further 1 d.inserted number m (both ∙ e) is)
    by_case None is = absurd (some_not_none (sym (both ∙ e) ∙ newest_from-stricter test further 1 d.inserted is))

all_five : (a b c d e : Bool) → (a && b && c && d && e) ≡ true → (a ≡ true) × (b ≡ true) × (c ≡ true) × (d ≡ true) × (e ≡ true)
all_five true true true true true h = (refl, refl, refl, refl, refl)
all_five true true true true false h = absurd (cc)
all_five true true true false e h = absurd (cc)
all_five true true false d e h = absurd (cc)
all_five true false c d e h = absurd (cc)
all_five false b c d e h = absurd (cc)

second_fails : (a b c d e : Bool) → b ≡ false → (a && b && c && d && e) ≡ false
second_fails a true c d e h = absurd (cc)
second_fails true false c d e h = refl
second_fails false false c d e h = refl

third_fails : (a b c d e : Bool) → c ≡ false → (a && b && c && d && e) ≡ false
third_fails a b true d e h = absurd (cc)
third_fails true true false d e h = refl
third_fails true false false d e h = refl
third_fails false b false d e h = refl

and_fails : (a b : Bool) → b ≡ false → (a && b) ≡ false
and_fails a true h = absurd (cc)
and_fails true false h = refl
and_fails false false h = refl

-- Behind a line that is no literal nothing is inserted: the field has an entry, or a section may be blocked.
not_behind : (s : EncoderHistory) (d : Draft) (t : EncoderState) (section : Section) (f : Field) (c : Choice) (marks : List ℕ) → IsDraftState s d marks t section → IsChosen t section f c → is_literal c ≡ false
    → is_insertable_ahead s marks (drafted s d f c) f ≡ false
not_behind s d t section f (choice.Static index) marks k h plain =
    let e = drafted s d f (choice.Static index) in
    third_fails s.choices.economical (s.limit == 0) (is_new s e f) (is_worth_to s (not (is_none (any_equal s e f))) marks e f) (finds_room s e f) (rw h.1 refl)
not_behind s d t section f (choice.Entry number) marks k h plain =
    let entry : held s d f ≡ Some number = sym (older_kept s d marks t section f k) ∙ h.2 in
    let e = drafted s d f (choice.Entry number) in
    third_fails s.choices.economical (s.limit == 0) (is_new s e f) (is_worth_to s (not (is_none (any_equal s e f))) marks e f) (finds_room s e f)
    (and_fails (is_none (static_field f)) (nat_le (unwrap_or (any_equal s d f) 0) (draining s)) (held_least s d f number (draining s) entry (subst (λ n. n < number) k.draining h.3)))
not_behind s d t section f (choice.Insertion after searched) marks k h plain =
    let e = drafted s d f (choice.Insertion after searched) in
    second_fails s.choices.economical (s.limit == 0) (is_new s e f) (is_worth_to s (not (is_none (any_equal s e f))) marks e f) (finds_room s e f)
    (some_limit (blocks_out s) s.limit (sym k.may_block ∙ h.2.may_block))
  where
    some_limit : (n limit : ℕ) → nat_lt n limit ≡ true → (limit == 0) ≡ false
    some_limit n limit e = grind (arith, common_steps, e)
not_behind s d t section f (choice.StaticName index) marks k h plain = absurd (cc)
not_behind s d t section f (choice.EntryName number) marks k h plain = absurd (cc)
not_behind s d t section f choice.Literal marks k h plain = absurd (cc)

few_of : (s : EncoderHistory) (d : Draft) (marks : List ℕ) (t : EncoderState) (section : Section) → IsDraftState s d marks t section → IsSmall t → length d.inserted < 2 ^ 62
few_of s d marks t section k small = subst (λ n. n < 2 ^ 62) (ap (λ (u : EncoderState). u.table.inserted) k.stores) small.few

-- a line more
marks_more : (s : EncoderHistory) (lines : List FieldLine) (l : FieldLine) → marks_after s (lines ++ l ∷ []) ≡ marked (keeps_marks s) (marks_after s lines) l
marks_more s lines l = fold_push (marked (keeps_marks s)) s.marks lines l

-- A line that is no literal leaves no mark.
plain_marks : (s : EncoderHistory) (d : Draft) (f : Field) (c : Choice) → is_literal c ≡ false → marks_after s (drafted s d f c).lines ≡ marks_after s d.lines
plain_marks s d f (choice.Static index) e = marks_more s d.lines (line.StaticField index)
plain_marks s d f (choice.Entry number) e = marks_more s d.lines (line.RelativeField (length s.inserted - number))
plain_marks s d f (choice.Insertion after searched) e = marks_more s d.lines (line.PostBaseField (length d.inserted - length s.inserted))
plain_marks s d f (choice.StaticName index) e = absurd (cc)
plain_marks s d f (choice.EntryName number) e = absurd (cc)
plain_marks s d f choice.Literal e = absurd (cc)

-- the marks behind a literal
abbrev with_literal : EncoderHistory → List ℕ → Field → List ℕ
with_literal s marks f = if keeps_marks s && not f.never_indexed then with_mark marks f.value else marks

marked_literal : (keeps n : Bool) (marks value : List ℕ)
    → unwrap_or (option_map (λ v. if keeps then with_mark marks v else marks) (unless_never n value)) marks ≡ (if keeps && not n then with_mark marks value else marks)
marked_literal true true marks value = refl
marked_literal true false marks value = refl
marked_literal false true marks value = refl
marked_literal false false marks value = refl

literal_marks : (s : EncoderHistory) (d : Draft) (f : Field) (c : Choice) → is_literal c ≡ true → marks_after s (drafted s d f c).lines ≡ with_literal s (marks_after s d.lines) f
literal_marks s d f (choice.Static index) e = absurd (cc)
literal_marks s d f (choice.Entry number) e = absurd (cc)
literal_marks s d f (choice.Insertion after searched) e = absurd (cc)
literal_marks s d f (choice.StaticName index) e = marks_more s d.lines (line.StaticName index (coded s.choices.shortest_strings f.value) f.never_indexed) ∙ marked_literal (keeps_marks s) f.never_indexed (marks_after s d.lines) f.value
literal_marks s d f (choice.EntryName number) e = marks_more s d.lines (entry_name_line (length s.inserted) number (coded s.choices.shortest_strings f.value) f.never_indexed) ∙ either_line (nat_le number (length s.inserted))
  where
    either_line : (b : Bool) → marked (keeps_marks s) (marks_after s d.lines) (if b then line.RelativeName (length s.inserted - number) (coded s.choices.shortest_strings f.value) f.never_indexed else line.PostBaseName (number - length s.inserted - 1) (coded s.choices.shortest_strings f.value) f.never_indexed)
        ≡ with_literal s (marks_after s d.lines) f
    either_line true = marked_literal (keeps_marks s) f.never_indexed (marks_after s d.lines) f.value
    either_line false = marked_literal (keeps_marks s) f.never_indexed (marks_after s d.lines) f.value
literal_marks s d f choice.Literal e = marks_more s d.lines (line.Literal (coded s.choices.shortest_strings f.name) (coded s.choices.shortest_strings f.value) f.never_indexed) ∙ marked_literal (keeps_marks s) f.never_indexed (marks_after s d.lines) f.value

-- The line is all of the field.
line_alone : (s : EncoderHistory) (d : Draft) (t : EncoderState) (section : Section) (f : Field) (c : Choice) (lines start instruction_bytes : List ℕ) → IsDrafted s d t section lines start instruction_bytes
    → IsSmall t → IsChosen t section f c → IsPossible t section f c → is_literal c ≡ false
    → IsDrafted s (add_field s d f) (encoder_state_with t f c) (section_after t section c) (lines ++ line_bytes (line_for t section f c)) start (instruction_bytes ++ flat_map encoder_bytes (instructions_after t f c))
line_alone s d t section f c lines start instruction_bytes h small rule p plain =
    let marks = marks_after s d.lines in
    let same = rule_kept s d t section f c h.state (names_kept s d marks t section h.state small.names) (few_of s d marks t section h.state small) rule in
    let none : is_insertable_ahead s marks (write_field s d f) f ≡ false = ap (λ e. is_insertable_ahead s marks e f) same ∙ not_behind s d t section f c marks h.state rule plain in
    let kept : marks ≡ marks_after s (write_field s d f).lines = sym (ap (λ (e : Draft). marks_after s e.lines) same ∙ plain_marks s d f c plain) in
    subst (λ e. IsDrafted s e (encoder_state_with t f c) (section_after t section c) (lines ++ line_bytes (line_for t section f c)) start (instruction_bytes ++ flat_map encoder_bytes (instructions_after t f c)))
    (sym (ap (λ b. if b then add_ahead s (write_field s d f) f else write_field s d f) none))
    (subst (λ m. IsDraftedWith s (write_field s d f) m (encoder_state_with t f c) (section_after t section c) (lines ++ line_bytes (line_for t section f c)) start (instruction_bytes ++ flat_map encoder_bytes (instructions_after t f c))) kept
    (field_drafted s d t section f c lines start instruction_bytes h small rule p))

-- what a literal line leaves
literal_keeps : (t : EncoderState) (f : Field) (c : Choice) → is_literal c ≡ true → encoder_state_with t f c ≡ t
literal_keeps t f (choice.Static index) e = absurd (cc)
literal_keeps t f (choice.Entry number) e = absurd (cc)
literal_keeps t f (choice.Insertion after searched) e = absurd (cc)
literal_keeps t f (choice.StaticName index) e = refl
literal_keeps t f (choice.EntryName number) e = refl
literal_keeps t f choice.Literal e = refl

not_static : (t : EncoderState) (section : Section) (f : Field) → IsLiteral t section f → f.never_indexed ≡ false → static_field f ≡ None
not_static t section f (inl never) plain = absurd (cc)
not_static t section f (inr h) plain = h.1.nowhere.no_static

literal_not_static : (t : EncoderState) (section : Section) (f : Field) (c : Choice) → IsChosen t section f c → is_literal c ≡ true → f.never_indexed ≡ false → static_field f ≡ None
literal_not_static t section f (choice.Static index) h e = absurd (cc)
literal_not_static t section f (choice.Entry number) h e = absurd (cc)
literal_not_static t section f (choice.Insertion after searched) h e = absurd (cc)
literal_not_static t section f (choice.StaticName index) h e = not_static t section f h.0
literal_not_static t section f (choice.EntryName number) h e = not_static t section f h.0
literal_not_static t section f choice.Literal h e = not_static t section f h.0

-- how many entries are evicted behind an insertion
after_kept : (s : EncoderHistory) (d : Draft) (marks : List ℕ) (t : EncoderState) (section : Section) (f : Field) → IsDraftState s d marks t section → field_size f ≤ t.table.capacity → evicted (with_entry t.table f) ≡ evictions_by s d f
after_kept s d marks t section f k small =
    let fits = subst (λ c. field_size f ≤ c) (ap (λ (u : EncoderState). u.table.capacity) k.stores) small in
    ap (λ (u : EncoderState). evicted (with_entry u.table f)) k.stores ∙ ap evicted (with_entry-held s.capacity d.inserted f fits)

-- The rule inserts exactly where what is kept allows it.
ahead_kept : (s : EncoderHistory) (d : Draft) (marks : List ℕ) (t : EncoderState) (section : Section) (f : Field) → IsDraftState s d marks t section → NameEntries s → length d.inserted < 2 ^ 62 → (f.never_indexed ≡ false → static_field f ≡ None)
    → MayInsertAhead t section f → is_insertable_ahead s marks d f ≡ true
ahead_kept s d marks t section f k names few static m =
    let economical : s.choices.economical ≡ true = sym (ap (λ (u : EncoderState). u.choices.economical) k.stores) ∙ m.economical in
    let limit : s.limit ≡ 0 = sym (ap (λ (u : EncoderState). u.limit) k.stores) ∙ m.no_limit in
    let equal : equal_in t f ≡ any_equal s d f = equal_kept s d marks t section f k in
    let drains : nat_le (unwrap_or (any_equal s d f) 0) (draining s) ≡ true = le_true _ _ (subst (λ o. unwrap_or o 0 ≤ draining s) equal (subst (λ n. unwrap_or (equal_in t f) 0 ≤ n) k.draining m.no_entry)) in
    let worth : is_worth_to s (not (is_none (any_equal s d f))) marks d f ≡ true =
    sym (worth_kept s d marks t section (not (is_none (any_equal s d f))) f k) ∙ ap (λ o. is_worth_in t (not (is_none o)) f) (sym equal) ∙ m.worth in
    let new : is_new s d f ≡ true = both (is_none (static_field f)) (nat_le (unwrap_or (any_equal s d f) 0) (draining s)) (rw (static m.may.plain) refl) drains in
    five (s.choices.economical) (s.limit == 0) (is_new s d f) (is_worth_to s (not (is_none (any_equal s d f))) marks d f) (finds_room s d f)
    economical (rw limit refl) new worth (room_kept s d marks t section f k names few m.may)
  where
    le_true : (a b : ℕ) → a ≤ b → nat_le a b ≡ true
    le_true a b h = grind (arith, common_steps)

    both : (a b : Bool) → a ≡ true → b ≡ true → (a && b) ≡ true
    both a b x y = rw (x, y) refl

    five : (a b c d e : Bool) → a ≡ true → b ≡ true → c ≡ true → d ≡ true → e ≡ true → (a && b && c && d && e) ≡ true
    five a b c d e v w x y z = rw (v, w, x, y, z) refl

kept_ahead : (s : EncoderHistory) (d : Draft) (marks : List ℕ) (t : EncoderState) (section : Section) (f : Field) → IsDraftState s d marks t section → NameEntries s → length d.inserted < 2 ^ 62
    → is_insertable_ahead s marks d f ≡ true → MayInsertAhead t section f
kept_ahead s d marks t section f k names few e =
    let a = all_five s.choices.economical (s.limit == 0) (is_new s d f) (is_worth_to s (not (is_none (any_equal s d f))) marks d f) (finds_room s d f) e in
    let new = and_parts (is_none (static_field f)) (nat_le (unwrap_or (any_equal s d f) 0) (draining s)) a.2 in
    let equal : equal_in t f ≡ any_equal s d f = equal_kept s d marks t section f k in
    record {
      economical = ap (λ (u : EncoderState). u.choices.economical) k.stores ∙ a.0;
      no_limit = ap (λ (u : EncoderState). u.limit) k.stores ∙ no_limit s.limit a.1;
      no_entry = subst (λ n. unwrap_or (equal_in t f) 0 ≤ n) (sym k.draining) (subst (λ o. unwrap_or o 0 ≤ draining s) (sym equal) (le_is _ _ new.1));
      worth = ap (λ o. is_worth_in t (not (is_none o)) f) equal ∙ worth_kept s d marks t section (not (is_none (any_equal s d f))) f k ∙ a.3;
      may = kept_room s d marks t section f k names few a.4;
    }
  where
    le_is : (a b : ℕ) → nat_le a b ≡ true → a ≤ b
    le_is a b h = grind (arith, common_steps)

    no_limit : (limit : ℕ) → (limit == 0) ≡ true → limit ≡ 0
    no_limit limit h = grind (arith, common_steps, h)

-- a new entry that no line names
ahead_drafted : (s : EncoderHistory) (d : Draft) (marks : List ℕ) (t : EncoderState) (section : Section) (f : Field) (lines start instruction_bytes : List ℕ) → IsDraftedWith s d marks t section lines start instruction_bytes
    → field_size f ≤ t.table.capacity
    → IsDraftedWith s (add_ahead s d f) marks (record t { table = with_entry t.table f }) section lines start (instruction_bytes ++ encoder_bytes (insertion_for t.choices.shortest_strings t.table (evicted (with_entry t.table f)) f))
ahead_drafted s d marks t section f lines start instruction_bytes h small =
    let fits = subst (λ k. field_size f ≤ k) (ap (λ (u : EncoderState). u.table.capacity) h.state.stores) small in
    let entry = with_entry-held s.capacity d.inserted f fits in
    let is = after_kept s d marks t section f h.state small in
    record {
      state = record {
        stores = ap (λ (u : EncoderState). record u { table = with_entry u.table f }) h.state.stores ∙ ap (λ k. record (encoder_state (record s { marks = marks })) { table = k }) entry;
        base = h.state.base;
        may_block = h.state.may_block;
        draining = h.state.draining;
        oldest = h.state.oldest;
        newest = h.state.newest;
      };
      lines_are = h.lines_are;
      instructions_are = ap (λ i. instruction_bytes ++ encoder_bytes i) (insertion_kept s d marks t section f (evicted (with_entry t.table f)) h.state is)
          ∙ ap (λ bytes. bytes ++ encoder_bytes (insertion s d f)) h.instructions_are
          ∙ flat_map_more encoder_bytes start d.instructions (insertion s d f);
    }

-- Behind the line an insertion is made where the rule makes one.
put_drafted : (s : EncoderHistory) (d : Draft) (marks : List ℕ) (t : EncoderState) (section : Section) (f : Field) (new : EncoderState) (lines start instruction_bytes after : List ℕ) → IsDraftedWith s d marks t section lines start instruction_bytes
    → IsSmall t → (f.never_indexed ≡ false → static_field f ≡ None) → IsPutAhead t section f new instruction_bytes after → IsDraftedWith s (insert_ahead s marks d f) marks new section lines start after
put_drafted s d marks t section f new lines start instruction_bytes after h small static p = by_test (is_insertable_ahead s marks d f) refl
  where
    names : NameEntries s
    names = names_kept s d marks t section h.state small.names

    few : length d.inserted < 2 ^ 62
    few = few_of s d marks t section h.state small

    by_test : (b : Bool) → is_insertable_ahead s marks d f ≡ b → IsDraftedWith s (if b then add_ahead s d f else d) marks new section lines start after
    by_test true e =
        let m = kept_ahead s d marks t section f h.state names few e in
        let made = p.inserted m in
        rw (made.0, made.1) (ahead_drafted s d marks t section f lines start instruction_bytes h m.may.fits)
    by_test false e =
        let same = p.same (λ m. differ (is_insertable_ahead s marks d f) e (ahead_kept s d marks t section f h.state names few static m)) in
        rw (same.0, same.1) h
      where
        differ : (b : Bool) → b ≡ false → b ≡ true → ⊥
        differ true h k = cc
        differ false h k = cc

-- A literal line, and what is inserted behind it. Its mark is not kept yet.
literal_and_ahead : (s : EncoderHistory) (d : Draft) (t : EncoderState) (section : Section) (f : Field) (c : Choice) (new : EncoderState) (lines start instruction_bytes after : List ℕ) → IsDrafted s d t section lines start instruction_bytes
    → IsSmall t → IsChosen t section f c → IsPossible t section f c → is_literal c ≡ true
    → IsPutAhead (encoder_state_with t f c) (section_after t section c) f new (instruction_bytes ++ flat_map encoder_bytes (instructions_after t f c)) after
    → IsDraftedWith s (add_field s d f) (marks_after s d.lines) new (section_after t section c) (lines ++ line_bytes (line_for t section f c)) start after
literal_and_ahead s d t section f c new lines start instruction_bytes after h small rule p literal put =
    put_drafted s (write_field s d f) (marks_after s d.lines) (encoder_state_with t f c) (section_after t section c) f new (lines ++ line_bytes (line_for t section f c)) start
    (instruction_bytes ++ flat_map encoder_bytes (instructions_after t f c)) after
    (field_drafted s d t section f c lines start instruction_bytes h small rule p)
    (subst IsSmall (sym (literal_keeps t f c literal)) small) (literal_not_static t section f c rule literal) put

-- what is inserted behind a line is no line
lines_of_ahead : (s : EncoderHistory) (marks : List ℕ) (d : Draft) (f : Field) → (insert_ahead s marks d f).lines ≡ d.lines
lines_of_ahead s marks d f = by_test (is_insertable_ahead s marks d f)
  where
    by_test : (b : Bool) → (if b then add_ahead s d f else d).lines ≡ d.lines
    by_test true = refl
    by_test false = refl

-- A literal, what is inserted behind it, and then its mark.
literal_noted : (s : EncoderHistory) (d : Draft) (t : EncoderState) (section : Section) (f : Field) (c : Choice) (new : EncoderState) (lines start instruction_bytes after : List ℕ) → IsDrafted s d t section lines start instruction_bytes
    → IsSmall t → IsChosen t section f c → IsPossible t section f c → is_literal c ≡ true
    → IsPutAhead (encoder_state_with t f c) (section_after t section c) f new (instruction_bytes ++ flat_map encoder_bytes (instructions_after t f c)) after
    → IsDrafted s (add_field s d f) (noted new f) (section_after t section c) (lines ++ line_bytes (line_for t section f c)) start after
literal_noted s d t section f c new lines start instruction_bytes after h small rule p literal put =
    let marks = marks_after s d.lines in
    let made = literal_and_ahead s d t section f c new lines start instruction_bytes after h small rule p literal put in
    let same = rule_kept s d t section f c h.state (names_kept s d marks t section h.state small.names) (few_of s d marks t section h.state small) rule in
    let marks_are : with_literal s marks f ≡ marks_after s (add_field s d f).lines =
    sym (ap (marks_after s) (lines_of_ahead s marks (write_field s d f) f) ∙ ap (λ (e : Draft). marks_after s e.lines) same ∙ literal_marks s d f c literal) in
    record {
      state = record {
        stores = ap (λ (u : EncoderState). noted u f) made.state.stores ∙ ap (λ m. encoder_state (record s { inserted = (add_field s d f).inserted; marks = m })) marks_are;
        base = made.state.base;
        may_block = made.state.may_block;
        draining = made.state.draining;
        oldest = made.state.oldest;
        newest = made.state.newest;
      };
      lines_are = made.lines_are;
      instructions_are = made.instructions_are;
    }

-- The same for values that are known to be those.
pub alone_after : (s : EncoderHistory) (d : Draft) (start : List ℕ) (t : EncoderState) (section : Section) (f : Field) (c : Choice) (new : EncoderState) (next : Section) (lines more instruction_bytes later : List ℕ)
    → IsDrafted s d t section lines start instruction_bytes → IsSmall t → IsChosen t section f c → IsPossible t section f c → is_literal c ≡ false
    → new ≡ encoder_state_with t f c → next ≡ section_after t section c → more ≡ lines ++ line_bytes (line_for t section f c) → later ≡ instruction_bytes ++ flat_map encoder_bytes (instructions_after t f c)
    → IsDrafted s (add_field s d f) new next more start later
alone_after s d start t section f c new next lines more instruction_bytes later h small rule p plain a b e g = rw (a, b, e, g) (line_alone s d t section f c lines start instruction_bytes h small rule p plain)

pub noted_after : (s : EncoderHistory) (d : Draft) (start : List ℕ) (t : EncoderState) (section : Section) (f : Field) (c : Choice) (mid put new : EncoderState) (next : Section) (lines more instruction_bytes between later : List ℕ)
    → IsDrafted s d t section lines start instruction_bytes → IsSmall t → IsChosen t section f c → IsPossible t section f c → is_literal c ≡ true
    → mid ≡ encoder_state_with t f c → next ≡ section_after t section c → more ≡ lines ++ line_bytes (line_for t section f c) → between ≡ instruction_bytes ++ flat_map encoder_bytes (instructions_after t f c)
    → IsPutAhead mid next f put between later → new ≡ noted put f → IsDrafted s (add_field s d f) new next more start later
noted_after s d start t section f c mid put new next lines more instruction_bytes between later h small rule p literal a b e g made is =
    rw (is, b, e) (literal_noted s d t section f c put lines start instruction_bytes later h small rule p literal
    (subst (λ l. IsPutAhead (encoder_state_with t f c) (section_after t section c) f put l later) g
    (subst (λ n. IsPutAhead (encoder_state_with t f c) n f put between later) b (subst (λ m. IsPutAhead m next f put between later) a made))))
