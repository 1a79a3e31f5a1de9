-- A field section under way: what is kept and written goes with the draft, field by field.
use Rattle.std.proofs.Common.{◌≡◌, ℕ, ◌+◌, ◌-◌, ◌^◌, ◌<◌, ◌≤◌, List, [], ◌∷◌, ◌++◌, length, min, max, map, refl, sym, ◌∙◌, ap, subst, append-nil, flat_map, fold}
use Rattle.std.specs.List.{AllByRecursion}
use Rattle.std.proofs.lemmas.List.{flat_map_more}
use Rattle.std.proofs.lemmas.List.Sums.{fold_push}
use Rattle.h3_field.specs.Field.{Field, field_size}
use Rattle.h3_field.specs.StringLiteral.{coded}
use Rattle.h3_field.specs.Line.{FieldLine, line_bytes}
use Rattle.h3_field.specs.Line.{FieldLine as line}
use Rattle.h3_field.specs.Instruction.{encoder_bytes}
use Rattle.h3_table.specs.TableState.{evicted, with_entry}
use Rattle.h3_qpack.specs.EncoderHistory.{EncoderHistory, UnacknowledgedSection}
use Rattle.h3_table.specs.declared.tracking.TrackedSection.{TrackedSection}
use Rattle.h3_table.specs.InOrderLaws.{All_in_order}
use Rattle.h3_qpack.specs.EncoderState.{EncoderState, encoder_state, tracked_section, least}
use Rattle.h3_qpack.specs.SectionEncoding.{Draft, marks_after, add_line, add_inserted, write_field, entry_name_line, evictions_by, insertion}
use Rattle.h3_qpack.specs.Drafting.{IsDraftState, IsDraftedWith, IsDrafted, IsSmall, IsChosen, IsPossible, line_for, section_after, encoder_state_with, instructions_after, naming, oldest_of}
use Rattle.h3_qpack.specs.declared.section.Section.{Section}
use Rattle.h3_qpack.specs.declared.section.Choice.{Choice}
use Rattle.h3_qpack.specs.declared.section.Choice.TheVariants as choice
use Rattle.h3_qpack.proofs.TableStates.{table_state_of, with_entry-held}
use Rattle.h3_qpack.proofs.Choices.{NameEntries}
use Rattle.h3_qpack.proofs.Chosen.{drafted, rule_kept, insertion_kept}

oldest_more : (ns : List ℕ) (n oldest : ℕ) → oldest ≡ oldest_of ns → min oldest n ≡ oldest_of (ns ++ n ∷ [])
oldest_more ns n oldest e = ap (λ k. min k n) e ∙ sym (fold_push min (2 ^ 64 - 1) ns n)

newest_more : (ns : List ℕ) (n newest : ℕ) → newest ≡ fold max 0 ns → max newest n ≡ fold max 0 (ns ++ n ∷ [])
newest_more ns n newest e = ap (λ k. max k n) e ∙ sym (fold_push max 0 ns n)

lines_more : (ls : List FieldLine) (l m : FieldLine) (lines : List ℕ) → lines ≡ flat_map line_bytes ls → l ≡ m → lines ++ line_bytes l ≡ flat_map line_bytes (ls ++ m ∷ [])
lines_more ls l m lines e same = ap (λ bytes. bytes ++ line_bytes l) e ∙ ap (λ k. flat_map line_bytes ls ++ line_bytes k) same ∙ flat_map_more line_bytes [] ls m

-- a line that names nothing
plain_drafted : (s : EncoderHistory) (d : Draft) (marks : List ℕ) (t : EncoderState) (section : Section) (lines start instruction_bytes : List ℕ) (l m : FieldLine) → IsDraftedWith s d marks t section lines start instruction_bytes → l ≡ m
    → IsDraftedWith s (add_line d m []) marks t section (lines ++ line_bytes l) start (instruction_bytes ++ [])
plain_drafted s d marks t section lines start instruction_bytes l m h same =
    record {
      state = record {
        stores = h.state.stores;
        base = h.state.base;
        may_block = h.state.may_block;
        draining = h.state.draining;
        oldest = h.state.oldest ∙ ap oldest_of (sym (append-nil d.references));
        newest = h.state.newest ∙ ap (λ ns. fold max 0 ns) (sym (append-nil d.references));
      };
      lines_are = lines_more d.lines l m lines h.lines_are same;
      instructions_are = append-nil instruction_bytes ∙ h.instructions_are;
    }

-- a line that names an entry
entry_drafted : (s : EncoderHistory) (d : Draft) (marks : List ℕ) (t : EncoderState) (section : Section) (lines start instruction_bytes : List ℕ) (l m : FieldLine) (number : ℕ) → IsDraftedWith s d marks t section lines start instruction_bytes → l ≡ m
    → IsDraftedWith s (add_line d m (number ∷ [])) marks t (naming section number) (lines ++ line_bytes l) start (instruction_bytes ++ [])
entry_drafted s d marks t section lines start instruction_bytes l m number h same =
    record {
      state = record {
        stores = h.state.stores;
        base = h.state.base;
        may_block = h.state.may_block;
        draining = h.state.draining;
        oldest = oldest_more d.references number section.oldest h.state.oldest;
        newest = newest_more d.references number section.newest h.state.newest;
      };
      lines_are = lines_more d.lines l m lines h.lines_are same;
      instructions_are = append-nil instruction_bytes ∙ h.instructions_are;
    }

-- a new entry
insertion_drafted : (s : EncoderHistory) (d : Draft) (marks : List ℕ) (t : EncoderState) (section : Section) (f : Field) (after searched : ℕ) (lines start instruction_bytes : List ℕ) → IsDraftedWith s d marks t section lines start instruction_bytes
    → IsPossible t section f (choice.Insertion after searched)
    → IsDraftedWith s (add_inserted s d f) marks (encoder_state_with t f (choice.Insertion after searched)) (section_after t section (choice.Insertion after searched)) (lines ++ line_bytes (line_for t section f (choice.Insertion after searched))) start
    (instruction_bytes ++ flat_map encoder_bytes (instructions_after t f (choice.Insertion after searched)))
insertion_drafted s d marks t section f after searched lines start instruction_bytes h p =
    let table : t.table ≡ table_state_of s.capacity d.inserted = ap (λ (u : EncoderState). u.table) h.state.stores in
    let made : t.table.inserted ≡ length d.inserted = ap (λ (u : EncoderState). u.table.inserted) h.state.stores in
    let fits = subst (λ k. field_size f ≤ k) (ap (λ (u : EncoderState). u.table.capacity) h.state.stores) p.0.fits in
    let entry = with_entry-held s.capacity d.inserted f fits in
    let is : after ≡ evictions_by s d f = p.1 ∙ ap (λ k. evicted (with_entry k f)) table ∙ ap evicted entry in
    let number : t.table.inserted + 1 ≡ length d.inserted + 1 = ap (λ n. n + 1) made in
    let place : t.table.inserted - section.base ≡ length d.inserted - length s.inserted = ap (λ n. n - section.base) made ∙ ap (λ n. length d.inserted - n) h.state.base in
    record {
      state = record {
        stores = ap (λ (u : EncoderState). record u { table = with_entry u.table f }) h.state.stores ∙ ap (λ k. record (encoder_state (record s { marks = marks })) { table = k }) entry;
        base = h.state.base;
        may_block = h.state.may_block;
        draining = h.state.draining;
        oldest = ap (λ n. min section.oldest n) number ∙ oldest_more d.references (length d.inserted + 1) section.oldest h.state.oldest;
        newest = ap (λ n. max section.newest n) number ∙ newest_more d.references (length d.inserted + 1) section.newest h.state.newest;
      };
      lines_are = lines_more d.lines _ _ lines h.lines_are (ap (λ n. line.PostBaseField n) place);
      instructions_are = ap (λ i. instruction_bytes ++ flat_map encoder_bytes (i ∷ [])) (insertion_kept s d marks t section f after h.state is)
          ∙ ap (λ bytes. bytes ++ flat_map encoder_bytes (insertion s d f ∷ [])) h.instructions_are
          ∙ ap (λ bytes. (start ++ flat_map encoder_bytes d.instructions) ++ bytes) (append-nil (encoder_bytes (insertion s d f)))
          ∙ flat_map_more encoder_bytes start d.instructions (insertion s d f);
    }

chosen_drafted : (s : EncoderHistory) (d : Draft) (marks : List ℕ) (t : EncoderState) (section : Section) (f : Field) (c : Choice) (lines start instruction_bytes : List ℕ) → IsDraftedWith s d marks t section lines start instruction_bytes
    → IsPossible t section f c
    → IsDraftedWith s (drafted s d f c) marks (encoder_state_with t f c) (section_after t section c) (lines ++ line_bytes (line_for t section f c)) start (instruction_bytes ++ flat_map encoder_bytes (instructions_after t f c))
chosen_drafted s d marks t section f (choice.Static index) lines start instruction_bytes h p = plain_drafted s d marks t section lines start instruction_bytes _ _ h refl
chosen_drafted s d marks t section f (choice.Entry number) lines start instruction_bytes h p =
    entry_drafted s d marks t section lines start instruction_bytes _ _ number h (ap (λ n. line.RelativeField (n - number)) h.state.base)
chosen_drafted s d marks t section f (choice.Insertion after searched) lines start instruction_bytes h p = insertion_drafted s d marks t section f after searched lines start instruction_bytes h p
chosen_drafted s d marks t section f (choice.StaticName index) lines start instruction_bytes h p =
    plain_drafted s d marks t section lines start instruction_bytes _ _ h (ap (λ (u : EncoderState). line.StaticName index (coded u.choices.shortest_strings f.value) f.never_indexed) h.state.stores)
chosen_drafted s d marks t section f (choice.EntryName number) lines start instruction_bytes h p =
    entry_drafted s d marks t section lines start instruction_bytes _ _ number h
    (ap (λ (u : EncoderState). entry_name_line section.base number (coded u.choices.shortest_strings f.value) f.never_indexed) h.state.stores
    ∙ ap (λ n. entry_name_line n number (coded s.choices.shortest_strings f.value) f.never_indexed) h.state.base)
chosen_drafted s d marks t section f choice.Literal lines start instruction_bytes h p =
    plain_drafted s d marks t section lines start instruction_bytes _ _ h (ap (λ (u : EncoderState). line.Literal (coded u.choices.shortest_strings f.name) (coded u.choices.shortest_strings f.value) f.never_indexed) h.state.stores)

-- what sections that are tracked name is there
pub names_kept : (s : EncoderHistory) (d : Draft) (marks : List ℕ) (t : EncoderState) (section : Section) → IsDraftState s d marks t section → AllByRecursion (λ u. 0 < u.oldest) t.tracked → NameEntries s
names_kept s d marks t section k h =
    each s.tracked (All_in_order (λ u. 0 < u.oldest) (λ (u : TrackedSection). u.stream) (map tracked_section s.tracked) (subst (AllByRecursion (λ u. 0 < u.oldest)) (ap (λ (u : EncoderState). u.tracked) k.stores) h))
  where
    each : (ts : List UnacknowledgedSection) → AllByRecursion (λ u. 0 < u.oldest) (map tracked_section ts) → AllByRecursion (λ u. 0 < least u.references) ts
    each [] h = tt
    each (u ∷ us) h = (h.0, each us h.1)

-- The line of a field was written as it was chosen, and its mark is not kept yet.
pub field_drafted : (s : EncoderHistory) (d : Draft) (t : EncoderState) (section : Section) (f : Field) (c : Choice) (lines start instruction_bytes : List ℕ) → IsDrafted s d t section lines start instruction_bytes
    → IsSmall t → IsChosen t section f c → IsPossible t section f c
    → IsDraftedWith s (write_field s d f) (marks_after s d.lines) (encoder_state_with t f c) (section_after t section c) (lines ++ line_bytes (line_for t section f c)) start (instruction_bytes ++ flat_map encoder_bytes (instructions_after t f c))
field_drafted s d t section f c lines start instruction_bytes h small rule p =
    let marks = marks_after s d.lines in
    let few : length d.inserted < 2 ^ 62 = subst (λ n. n < 2 ^ 62) (ap (λ (u : EncoderState). u.table.inserted) h.state.stores) small.few in
    subst (λ e. IsDraftedWith s e marks (encoder_state_with t f c) (section_after t section c) (lines ++ line_bytes (line_for t section f c)) start (instruction_bytes ++ flat_map encoder_bytes (instructions_after t f c)))
    (sym (rule_kept s d t section f c h.state (names_kept s d marks t section h.state small.names) few rule))
    (chosen_drafted s d marks t section f c lines start instruction_bytes h p)
