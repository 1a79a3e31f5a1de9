-- Each choice made by what is kept is that of the encoder's rule.
use Rattle.std.proofs.Common.{◌≡◌, ℕ, ◌-◌, ◌^◌, ◌<◌, ◌≤◌, Bool, true, false, not, ◌&&◌, List, [], ◌∷◌, length, min, max, inl, inr, refl, sym, ◌∙◌, ap, subst, arith, nat_lt, if◌then◌else◌, Option, Some, None, is_none}
use Rattle.std.specs.Prelude.{IfSome}
use Rattle.std.proofs.lemmas.Grind.{common_steps}
use Rattle.std.proofs.lemmas.Bool.{and_parts}
use Rattle.h3_field.specs.Field.{Field}
use Rattle.h3_field.specs.StringLiteral.{coded}
use Rattle.h3_field.specs.Line.{FieldLine as line}
use Rattle.h3_table.specs.TableState.{evicted, newest_in}
use Rattle.h3_table.specs.Matches.{matches}
use Rattle.h3_qpack.specs.EncoderHistory.{EncoderHistory, blocks_out}
use Rattle.h3_qpack.specs.EncoderState.{EncoderState, MayInsertInto}
use Rattle.h3_qpack.specs.SectionEncoding.{Draft, draining, held, marks_after, is_worth_to, add_line, add_literal, add_inserted, write_indexed, write_field, entry_name_line, found, found_name, evictions_by, finds_room, is_insertable, insertion}
use Rattle.h3_qpack.specs.Drafting.{IsDraftState, IsChosen, IsLiteral, IsNotHeld, IsUnnamed, MayInsertFor, older, named_lasting, is_worth_in, most_usable, insertion_for}
use Rattle.h3_table.specs.declared.entries.Match.TheVariants as what
use Rattle.h3_qpack.specs.declared.section.Section.{Section}
use Rattle.h3_qpack.specs.declared.section.Choice.{Choice}
use Rattle.h3_qpack.specs.declared.section.Choice.TheVariants as choice
use Rattle.h3_qpack.proofs.TableStates.{table_state_of}
use Rattle.h3_qpack.proofs.Choices.{usable_to, held_held, found_above, found_name_held, worth_held, remaining_held, NameEntries, room_held, held_room}
use Rattle.h3_qpack.proofs.Newest.{above_only}

-- the draft with a field as it was chosen
abbrev pub drafted : EncoderHistory → Draft → Field → Choice → Draft
drafted s d f (choice.Static index) = add_line d (line.StaticField index) []
drafted s d f (choice.Entry number) = add_line d (line.RelativeField (length s.inserted - number)) (number ∷ [])
drafted s d f (choice.Insertion after searched) = add_inserted s d f
drafted s d f (choice.StaticName index) = add_line d (line.StaticName index (coded s.choices.shortest_strings f.value) f.never_indexed) []
drafted s d f (choice.EntryName number) = add_line d (entry_name_line (length s.inserted) number (coded s.choices.shortest_strings f.value) f.never_indexed) (number ∷ [])
drafted s d f choice.Literal = add_line d (line.Literal (coded s.choices.shortest_strings f.name) (coded s.choices.shortest_strings f.value) f.never_indexed) []

usable_kept : (s : EncoderHistory) (d : Draft) (marks : List ℕ) (t : EncoderState) (section : Section) (n m : ℕ) → IsDraftState s d marks t section → n ≡ m → most_usable t section n ≡ usable_to s m
usable_kept s d marks t section n m k e =
    ap (λ b. if b then n else min n t.known_received) k.may_block
    ∙ ap (λ known. if nat_lt (blocks_out s) s.limit then n else min n known) (ap (λ (u : EncoderState). u.known_received) k.stores)
    ∙ ap (λ x. usable_to s x) e

-- an equal entry that is older than the section
pub older_kept : (s : EncoderHistory) (d : Draft) (marks : List ℕ) (t : EncoderState) (section : Section) (f : Field) → IsDraftState s d marks t section → older t section f ≡ held s d f
older_kept s d marks t section f k =
    ap (λ most. newest_in t.table (matches what.Field f) (evicted t.table) most) (usable_kept s d marks t section section.base (length s.inserted) k k.base)
    ∙ ap (λ (u : EncoderState). newest_in u.table (matches what.Field f) (evicted u.table) (usable_to s (length s.inserted))) k.stores
    ∙ held_held s d f

-- an entry of the name
named_kept : (s : EncoderHistory) (d : Draft) (marks : List ℕ) (t : EncoderState) (section : Section) (f : Field) → IsDraftState s d marks t section → named_lasting t section f ≡ found_name s d f
named_kept s d marks t section f k =
    ap (λ most. newest_in t.table (matches what.Name f) (max section.draining (evicted t.table)) most) (usable_kept s d marks t section t.table.inserted (length d.inserted) k (ap (λ (u : EncoderState). u.table.inserted) k.stores))
    ∙ ap (λ least. newest_in t.table (matches what.Name f) (max least (evicted t.table)) (usable_to s (length d.inserted))) k.draining
    ∙ ap (λ (u : EncoderState). newest_in u.table (matches what.Name f) (max (draining s) (evicted u.table)) (usable_to s (length d.inserted))) k.stores
    ∙ found_name_held s d f

-- what is found of an older entry
found_of : (s : EncoderHistory) (d : Draft) (marks : List ℕ) (t : EncoderState) (section : Section) (f : Field) → IsDraftState s d marks t section → found s d f ≡ above_only section.draining (older t section f)
found_of s d marks t section f k =
    found_above s d f ∙ ap (λ o. above_only (draining s) o) (sym (older_kept s d marks t section f k)) ∙ ap (λ least. above_only least (older t section f)) (sym k.draining)

-- One that drains is not found.
none_found : (s : EncoderHistory) (d : Draft) (marks : List ℕ) (t : EncoderState) (section : Section) (f : Field) → IsDraftState s d marks t section → IsUnnamed t section f → found s d f ≡ None
none_found s d marks t section f k h = found_of s d marks t section f k ∙ by_case (older t section f) h.drains
  where
    not_above : (n : ℕ) → n ≤ section.draining → nat_lt section.draining n ≡ false
    not_above n le = grind (arith, common_steps, le)

    by_case : (o : Option ℕ) → IfSome o (λ number. number ≤ section.draining) → above_only section.draining o ≡ None
    by_case None le = refl
    by_case (Some n) le = rw (not_above n le) refl

entry_found : (s : EncoderHistory) (d : Draft) (marks : List ℕ) (t : EncoderState) (section : Section) (f : Field) (number : ℕ) → IsDraftState s d marks t section → older t section f ≡ Some number → section.draining < number
    → found s d f ≡ Some number
entry_found s d marks t section f number k is above = found_of s d marks t section f k ∙ ap (λ o. above_only section.draining o) is ∙ rw (is_above number above) refl
  where
    is_above : (n : ℕ) → section.draining < n → nat_lt section.draining n ≡ true
    is_above n lt = grind (arith, common_steps, lt)

-- worth an entry
pub worth_kept : (s : EncoderHistory) (d : Draft) (marks : List ℕ) (t : EncoderState) (section : Section) (drains : Bool) (f : Field) → IsDraftState s d marks t section → is_worth_in t drains f ≡ is_worth_to s drains marks d f
worth_kept s d marks t section drains f k = ap (λ u. is_worth_in u drains f) k.stores ∙ worth_held s d marks drains f

worth_for : (s : EncoderHistory) (d : Draft) (marks : List ℕ) (t : EncoderState) (section : Section) (f : Field) → IsDraftState s d marks t section
    → is_worth_in t (not (is_none (older t section f))) f ≡ is_worth_to s (not (is_none (held s d f))) marks d f
worth_for s d marks t section f k =
    ap (λ o. is_worth_in t (not (is_none o)) f) (older_kept s d marks t section f k) ∙ worth_kept s d marks t section (not (is_none (held s d f))) f k

-- how a field is inserted
pub insertion_kept : (s : EncoderHistory) (d : Draft) (marks : List ℕ) (t : EncoderState) (section : Section) (f : Field) (after : ℕ) → IsDraftState s d marks t section → after ≡ evictions_by s d f
    → insertion_for t.choices.shortest_strings t.table after f ≡ insertion s d f
insertion_kept s d marks t section f after k e =
    ap (λ (u : EncoderState). insertion_for u.choices.shortest_strings u.table after f) k.stores
    ∙ ap (λ n. insertion_for s.choices.shortest_strings (table_state_of s.capacity d.inserted) n f) e
    ∙ rw (remaining_held s d f (matches what.Field f), remaining_held s d f (matches what.Name f)) refl

-- There is room for a field exactly where what is kept has it.
pub room_kept : (s : EncoderHistory) (d : Draft) (marks : List ℕ) (t : EncoderState) (section : Section) (f : Field) → IsDraftState s d marks t section → NameEntries s → length d.inserted < 2 ^ 62
    → MayInsertInto t f section.oldest → finds_room s d f ≡ true
room_kept s d marks t section f k names few may =
    room_held s d f t (ap (λ (u : EncoderState). u.table) k.stores) (ap (λ (u : EncoderState). u.known_received) k.stores) (ap (λ (u : EncoderState). u.tracked) k.stores)
    names few (subst (λ n. MayInsertInto t f n) k.oldest may)

pub kept_room : (s : EncoderHistory) (d : Draft) (marks : List ℕ) (t : EncoderState) (section : Section) (f : Field) → IsDraftState s d marks t section → NameEntries s → length d.inserted < 2 ^ 62
    → finds_room s d f ≡ true → MayInsertInto t f section.oldest
kept_room s d marks t section f k names few e =
    subst (λ n. MayInsertInto t f n) (sym k.oldest)
    (held_room s d f t (ap (λ (u : EncoderState). u.table) k.stores) (ap (λ (u : EncoderState). u.known_received) k.stores) (ap (λ (u : EncoderState). u.tracked) k.stores) names few e)

-- A field is inserted exactly where it may be.
inserted_kept : (s : EncoderHistory) (d : Draft) (t : EncoderState) (section : Section) (f : Field) → IsDraftState s d (marks_after s d.lines) t section → NameEntries s → length d.inserted < 2 ^ 62
    → MayInsertFor t section f → is_insertable s d f ≡ true
inserted_kept s d t section f k names few may =
    let marks = marks_after s d.lines in
    let block : nat_lt (blocks_out s) s.limit ≡ true = sym k.may_block ∙ may.may_block in
    let worth : is_worth_to s (not (is_none (held s d f))) marks d f ≡ true = sym (worth_for s d marks t section f k) ∙ may.worth in
    all_true (nat_lt (blocks_out s) s.limit) (is_worth_to s (not (is_none (held s d f))) marks d f) (finds_room s d f) block worth (room_kept s d marks t section f k names few may.may)
  where
    all_true : (a b c : Bool) → a ≡ true → b ≡ true → c ≡ true → (a && b && c) ≡ true
    all_true a b c x y z = rw (x, y, z) refl

not_inserted_kept : (s : EncoderHistory) (d : Draft) (t : EncoderState) (section : Section) (f : Field) → IsDraftState s d (marks_after s d.lines) t section → NameEntries s → length d.inserted < 2 ^ 62
    → (MayInsertFor t section f → ⊥) → is_insertable s d f ≡ false
not_inserted_kept s d t section f k names few none = by_test (is_insertable s d f) refl
  where
    marks : List ℕ
    marks = marks_after s d.lines

    by_test : (b : Bool) → is_insertable s d f ≡ b → is_insertable s d f ≡ false
    by_test false e = e
    by_test true e =
        let i = and_parts (nat_lt (blocks_out s) s.limit && is_worth_to s (not (is_none (held s d f))) marks d f) (finds_room s d f) e in
        let j = and_parts (nat_lt (blocks_out s) s.limit) (is_worth_to s (not (is_none (held s d f))) marks d f) i.0 in
        absurd (none (record { may_block = k.may_block ∙ j.0; worth = worth_for s d marks t section f k ∙ j.1; may = kept_room s d marks t section f k names few i.1 }))

-- A field that is not held is written as a literal.
not_held_kept : (s : EncoderHistory) (d : Draft) (t : EncoderState) (section : Section) (f : Field) → IsDraftState s d (marks_after s d.lines) t section → NameEntries s → length d.inserted < 2 ^ 62
    → IsNotHeld t section f → write_indexed s d f ≡ add_literal s d f
not_held_kept s d t section f k names few h =
    rw (h.nowhere.no_static, none_found s d (marks_after s d.lines) t section f k h.nowhere, not_inserted_kept s d t section f k names few h.no_room) refl

plain_written : (s : EncoderHistory) (d : Draft) (f : Field) → f.never_indexed ≡ false → write_field s d f ≡ write_indexed s d f
plain_written s d f plain = ap (λ b. if b then add_literal s d f else write_indexed s d f) plain

-- So is one that is never indexed.
literal_kept : (s : EncoderHistory) (d : Draft) (t : EncoderState) (section : Section) (f : Field) → IsDraftState s d (marks_after s d.lines) t section → NameEntries s → length d.inserted < 2 ^ 62
    → IsLiteral t section f → write_field s d f ≡ add_literal s d f
literal_kept s d t section f k names few (inl never) = ap (λ b. if b then add_literal s d f else write_indexed s d f) never
literal_kept s d t section f k names few (inr h) = plain_written s d f h.0 ∙ not_held_kept s d t section f k names few h.1

-- The rule says the same.
pub rule_kept : (s : EncoderHistory) (d : Draft) (t : EncoderState) (section : Section) (f : Field) (c : Choice) → IsDraftState s d (marks_after s d.lines) t section → NameEntries s → length d.inserted < 2 ^ 62
    → IsChosen t section f c → write_field s d f ≡ drafted s d f c
rule_kept s d t section f (choice.Static index) k names few h = plain_written s d f h.0 ∙ rw h.1 refl
rule_kept s d t section f (choice.Entry number) k names few h =
    plain_written s d f h.0 ∙ rw (h.1, entry_found s d (marks_after s d.lines) t section f number k h.2 h.3) refl
rule_kept s d t section f (choice.Insertion after searched) k names few h =
    plain_written s d f h.0 ∙ rw (h.1.no_static, none_found s d (marks_after s d.lines) t section f k h.1, inserted_kept s d t section f k names few h.2) refl
rule_kept s d t section f (choice.StaticName index) k names few h = literal_kept s d t section f k names few h.0 ∙ rw h.1 refl
rule_kept s d t section f (choice.EntryName number) k names few h =
    let entry : found_name s d f ≡ Some number = sym (named_kept s d (marks_after s d.lines) t section f k) ∙ h.2 in
    literal_kept s d t section f k names few h.0 ∙ rw (h.1, entry) refl
rule_kept s d t section f choice.Literal k names few h =
    let no_name : found_name s d f ≡ None = sym (named_kept s d (marks_after s d.lines) t section f k) ∙ h.2 in
    literal_kept s d t section f k names few h.0 ∙ rw (h.1, no_name) refl
