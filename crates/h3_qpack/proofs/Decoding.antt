-- Each section that a decoder tries decodes to its fields.
use Rattle.std.proofs.Common.{◌≡◌, ℕ, zero, suc, ◌+◌, ◌-◌, ◌*◌, ◌%◌, ◌⊎◌, ⊎_elim, inl, inr, ◌<◌, ◌≤◌, Bool, true, false, List, [], ◌∷◌, ◌++◌, length, take, drop, refl, sym, ◌∙◌, ap, subst, arith, length-append, max, Some, nat_le, nat_lt, unwrap_or, if◌then◌else◌, fold, slice_get}
use Rattle.std.specs.Prelude.{◌==◌}
use Rattle.std.specs.List.{AllByRecursion, flat_map}
use Rattle.std.proofs.lemmas.Grind.{common_steps}
use Rattle.std.proofs.lemmas.List.{take-append-drop}
use Rattle.std.proofs.lemmas.Bool.{and_parts}
use Rattle.h3_field.specs.Field.{Field}
use Rattle.h3_field.specs.StringLiteral.{Text, coded}
use Rattle.h3_field.specs.Line.{FieldLine}
use Rattle.h3_field.specs.Line.FieldLine.{RelativeName, PostBaseName}
use Rattle.h3_field.specs.StaticTable.{static_field, static_name}
use Rattle.h3_field.specs.Prefix.{most_entries, IsRequiredCount}
use Rattle.h3_qpack.proofs.Counts.{few_entries}
use Rattle.h3_table.specs.Table.{table, evictions}
use Rattle.h3_qpack.specs.EncoderHistory.{EncoderHistory, UnacknowledgedSection}
use Rattle.h3_qpack.specs.NamedFields.{insertion_at, StandFor, entry_number}
use Rattle.h3_qpack.specs.SectionEncoding.{Draft, found, found_name, is_insertable, add_line, add_literal, add_inserted, add_ahead, write_field, add_field, first_draft, guarded_fields, draft_of, required_insert_count}
use Rattle.h3_qpack.specs.Session.{Session, UndecodedSection, oldest, without_oldest, count_of, references_of, undecoded_references, tracked_references, acknowledgments, is_canceled, IsWrittenOver, IsSound, DecodesTo}
use Rattle.h3_table.specs.TableLaws.{evictions-append}
use Rattle.h3_qpack.proofs.Newest.{chosen, newest_from-passes}
use Rattle.h3_qpack.proofs.Drafts.{either_way, with_field, All-first}
use Rattle.h3_table.specs.ReleasingLaws.{All-join}
use Rattle.h3_qpack.proofs.NamedFieldsOf.{section_stands, StandFor-append, lines_alike}
use Rattle.h3_qpack.proofs.Sessions.{taken_names}

-- each line names an entry up to the required count, and each entry has a number above 0
pub record IsCounted (s : EncoderHistory) (d : Draft) : Type 0 where
  pub lines : AllByRecursion (λ line. entry_number (length s.inserted) line ≤ required_insert_count d) d.lines
  pub positive : AllByRecursion (λ number. 0 < number) d.references
  pub made : AllByRecursion (λ number. number ≤ length d.inserted) d.references

more_is_more : (a : ℕ) (xs ys : List ℕ) → fold max a xs ≤ fold max a (xs ++ ys)
more_is_more a [] ys = least a ys
  where
    least : (a : ℕ) (ys : List ℕ) → a ≤ fold max a ys
    least a [] = omega arith
    least a (y ∷ ys) = omega (arith, least (max a y) ys)
more_is_more a (x ∷ xs) ys = more_is_more (max a x) xs ys

last_counts : (a : ℕ) (xs : List ℕ) (y : ℕ) → y ≤ fold max a (xs ++ y ∷ [])
last_counts a [] y = omega arith
last_counts a (x ∷ xs) y = last_counts (max a x) xs y

no_less : (base m n : ℕ) (lines : List FieldLine) → m ≤ n → AllByRecursion (λ line. entry_number base line ≤ m) lines → AllByRecursion (λ line. entry_number base line ≤ n) lines
no_less base m n [] le h = tt
no_less base m n (l ∷ ls) le h = (omega (arith, le, h.0), no_less base m n ls le h.1)

-- a line that names nothing, or the entry that is added to the names
plain_counted : (s : EncoderHistory) (d : Draft) (line : FieldLine) → entry_number (length s.inserted) line ≡ 0 → IsCounted s d → IsCounted s (add_line d line [])
plain_counted s d line none h =
    record {
      lines = All-join _ d.lines (line ∷ []) (no_less (length s.inserted) (required_insert_count d) _ d.lines (more_is_more 0 d.references []) h.lines) (omega (arith, none), tt);
      positive = All-join (λ number. 0 < number) d.references [] h.positive tt;
      made = All-join (λ number. number ≤ length d.inserted) d.references [] h.made tt;
    }

named_counted : (s : EncoderHistory) (d : Draft) (line : FieldLine) (number : ℕ) → entry_number (length s.inserted) line ≡ number → 0 < number → number ≤ length d.inserted → IsCounted s d → IsCounted s (add_line d line (number ∷ []))
named_counted s d line number is above below h =
    record {
      lines = All-join _ d.lines (line ∷ []) (no_less (length s.inserted) (required_insert_count d) _ d.lines (more_is_more 0 d.references (number ∷ [])) h.lines)
          (omega (arith, is, last_counts 0 d.references number), tt);
      positive = All-join (λ number. 0 < number) d.references (number ∷ []) h.positive (above, tt);
      made = All-join (λ number. number ≤ length d.inserted) d.references (number ∷ []) h.made (below, tt);
    }

All-at-most : (names : List ℕ) (m n : ℕ) → m ≤ n → AllByRecursion (λ number. number ≤ m) names → AllByRecursion (λ number. number ≤ n) names
All-at-most [] m n le h = tt
All-at-most (x ∷ xs) m n le h = (omega (arith, le, h.0), All-at-most xs m n le h.1)

inserted_counted : (s : EncoderHistory) (d : Draft) (f : Field) → length s.inserted ≤ length d.inserted → IsCounted s d → IsCounted s (add_inserted s d f)
inserted_counted s d f longer h =
    let more : length d.inserted ≤ length (d.inserted ++ f ∷ []) = omega (arith, length-append d.inserted (f ∷ [])) in
    let made_longer : (names : List ℕ) → AllByRecursion (λ number. number ≤ length d.inserted) names → AllByRecursion (λ number. number ≤ length (d.inserted ++ f ∷ [])) names = λ names k. All-at-most names _ _ more k in
    record {
      lines = All-join _ d.lines _ (no_less (length s.inserted) (required_insert_count d) _ d.lines (more_is_more 0 d.references ((length d.inserted + 1) ∷ [])) h.lines)
          (omega (arith, longer, last_counts 0 d.references (length d.inserted + 1)), tt);
      positive = All-join (λ number. 0 < number) d.references _ h.positive (omega arith, tt);
      made = All-join (λ number. number ≤ length (d.inserted ++ f ∷ [])) d.references _ (made_longer d.references h.made) (omega (arith, length-append d.inserted (f ∷ [])), tt);
    }

le_is : (a b : ℕ) → nat_le a b ≡ true → a ≤ b
le_is a b e = grind (arith, common_steps)

pub found_back : (s : EncoderHistory) (d : Draft) (f : Field) (number : ℕ) → found s d f ≡ Some number → (length s.inserted - (length s.inserted - number) ≡ number) × (0 < number) × (number ≤ length d.inserted)
found_back s d f number h =
    let p = newest_from-passes _ 1 d.inserted number h in
    let a = and_parts _ _ p.test_is in
    let b = and_parts _ (nat_le number (length s.inserted)) a.0 in
    let le = le_is number (length s.inserted) b.1 in
    (omega (arith, le), omega (arith, p.above), omega (arith, p.below))

pub name_back : (base number : ℕ) (value : Text) (n b : Bool) → nat_le number base ≡ b → 0 < number
    → entry_number base (if b then RelativeName (base - number) value n else PostBaseName (number - base - 1) value n) ≡ number
name_back base number value n true e above = grind (arith, common_steps)
name_back base number value n false e above = grind (arith, common_steps)

record Both (s : EncoderHistory) (d : Draft) : Type 0 where
  longer : length s.inserted ≤ length d.inserted
  counted : IsCounted s d

literal_both : (s : EncoderHistory) (d : Draft) (f : Field) → Both s d → Both s (add_literal s d f)
literal_both s d f h =
    chosen (Both s) (static_name f.name) _ _ (λ index e. record { longer = h.longer; counted = plain_counted s d _ refl h.counted }) (λ none.
    chosen (Both s) (found_name s d f) _ _ (λ number e.
    let p = newest_from-passes _ 1 d.inserted number e in
    let above : 0 < number = omega (arith, p.above) in
    record { longer = h.longer; counted = named_counted s d _ number (name_back (length s.inserted) number (coded s.choices.shortest_strings f.value) f.never_indexed _ refl above) above (omega (arith, p.below)) h.counted }) (λ none.
    record { longer = h.longer; counted = plain_counted s d _ refl h.counted }))

ahead_both : (s : EncoderHistory) (d : Draft) (f : Field) → Both s d → Both s (add_ahead s d f)
ahead_both s d f h =
    let more : length d.inserted ≤ length (d.inserted ++ f ∷ []) = omega (arith, length-append d.inserted (f ∷ [])) in
    record {
      longer = omega (arith, h.longer, more);
      counted = record { lines = h.counted.lines; positive = h.counted.positive; made = All-at-most d.references _ _ more h.counted.made };
    }

line_of_field_both : (s : EncoderHistory) (d : Draft) (f : Field) → Both s d → Both s (write_field s d f)
line_of_field_both s d f h =
    either_way (Both s) f.never_indexed _ _ (λ never. literal_both s d f h) (
    chosen (Both s) (static_field f) _ _ (λ index e. record { longer = h.longer; counted = plain_counted s d _ refl h.counted }) (λ none.
    chosen (Both s) (found s d f) _ _ (λ number e. let k = found_back s d f number e in record { longer = h.longer; counted = named_counted s d _ number k.0 k.1 k.2 h.counted }) (λ none.
    either_way (Both s) (is_insertable s d f) _ _
    (λ e. record { longer = omega (arith, h.longer, length-append d.inserted (f ∷ [])); counted = inserted_counted s d f h.longer h.counted })
    (literal_both s d f h))))

field_both : (s : EncoderHistory) (d : Draft) (f : Field) → Both s d → Both s (add_field s d f)
field_both s d f h = with_field (Both s) s d f (line_of_field_both s d f h) (λ e test k. ahead_both s e f k)

fields_both : (s : EncoderHistory) (d : Draft) (fields : List Field) → Both s d → Both s (fold (add_field s) d fields)
fields_both s d [] h = h
fields_both s d (f ∷ fields) h = fields_both s (add_field s d f) fields (field_both s d f h)

pub section_counted : (s : EncoderHistory) (fields : List Field) → IsCounted s (draft_of s fields)
section_counted s fields = (fields_both s (first_draft s) (guarded_fields s fields) (record { longer = omega arith; counted = record { lines = tt; positive = tt; made = tt } })).counted

slice_get-take : {X : Type 0} (xs : List X) (n i : ℕ) (x : X) → i < n → slice_get xs i ≡ Some x → slice_get (take n xs) i ≡ Some x
slice_get-take [] n i x lt h = cc
slice_get-take (y ∷ xs) zero i x lt h = absurd (omega arith)
slice_get-take (y ∷ xs) (suc n) zero x lt h = h
slice_get-take (y ∷ xs) (suc n) (suc i) x lt h = slice_get-take xs n i x (omega (arith, lt)) h

insertion_at-take : (fs : List Field) (n number : ℕ) (f : Field) → number ≤ n → insertion_at fs number ≡ Some f → insertion_at (take n fs) number ≡ Some f
insertion_at-take fs n zero f le h = h
insertion_at-take fs n (suc number) f le h = slice_get-take fs n number f (omega (arith, le)) h

StandFor-take : (fs : List Field) (n base : ℕ) (lines : List FieldLine) (fields : List Field) → AllByRecursion (λ line. entry_number base line ≤ n) lines → StandFor fs base lines fields → StandFor (take n fs) base lines fields
StandFor-take fs n base lines fields le h =
    lines_alike (λ line. entry_number base line ≤ n) (insertion_at fs) (insertion_at (take n fs)) base base lines fields (λ line few g e. insertion_at-take fs n (entry_number base line) g few e) le h

-- what holds of each section holds of the oldest
pub oldest_holds : (P : UndecodedSection → Type 0) (stream : ℕ) (sections : List UndecodedSection) (b : UndecodedSection) → AllByRecursion P sections → oldest stream sections ≡ Some b → P b
oldest_holds P stream [] b h e = cc
oldest_holds P stream (x ∷ xs) b h e = by_test (x.stream == stream) h.0 e (λ k. oldest_holds P stream xs b h.1 k)
  where
    by_test : (t : Bool) → P x → (if t then Some x else oldest stream xs) ≡ Some b → (oldest stream xs ≡ Some b → P b) → P b
    by_test true p e later = subst P (ap (λ o. unwrap_or o x) e) p
    by_test false p e later = later e

named_each : (P : ℕ → Type 0) (stream : ℕ) (bs : List UnacknowledgedSection) → AllByRecursion P (flat_map (λ b. b.references) bs) → AllByRecursion (AllByRecursion P) (tracked_references stream bs)
named_each P stream [] h = tt
named_each P stream (b ∷ bs) h = by_test (b.stream == stream) (All-first P b.references (flat_map (λ (b : UnacknowledgedSection). b.references) bs) h) (named_each P stream bs (second P b.references (flat_map (λ (b : UnacknowledgedSection). b.references) bs) h))
  where
    by_test : (t : Bool) → AllByRecursion P b.references → AllByRecursion (AllByRecursion P) (tracked_references stream bs) → AllByRecursion (AllByRecursion P) (if t then b.references ∷ tracked_references stream bs else tracked_references stream bs)
    by_test true h k = (h, k)
    by_test false h k = k

    second : (P : ℕ → Type 0) (xs ys : List ℕ) → AllByRecursion P (xs ++ ys) → AllByRecursion P ys
    second P [] ys h = h
    second P (x ∷ xs) ys h = second P xs ys h.1

All-drop : (P : List ℕ → Type 0) (n : ℕ) (xs : List (List ℕ)) → AllByRecursion P xs → AllByRecursion P (drop n xs)
All-drop P zero xs h = h
All-drop P (suc n) [] h = h
All-drop P (suc n) (x ∷ xs) h = All-drop P n xs h.1

All-weaker : (d e : ℕ) (names : List ℕ) → e ≤ d → AllByRecursion (λ number. d < number) names → AllByRecursion (λ number. e < number) names
All-weaker d e [] le h = tt
All-weaker d e (x ∷ xs) le h = (omega (arith, le, h.0), All-weaker d e xs le h.1)

none_named : (d : ℕ) (names : List ℕ) → fold max 0 names ≡ 0 → AllByRecursion (λ number. 0 < number) names → AllByRecursion (λ number. d < number) names
none_named d [] e h = tt
none_named d (x ∷ xs) e h = absurd (omega (arith, e, h.0, first_counts x xs))
  where
    first_counts : (x : ℕ) (xs : List ℕ) → x ≤ fold max (max 0 x) xs
    first_counts x xs = omega (arith, more_is_more (max 0 x) [] xs)

-- The names of the oldest section of a stream are there.
names_held : (s : Session) (b : UndecodedSection) → IsSound s → oldest b.stream s.sections ≡ Some b → is_canceled s b.stream ≡ false
    → AllByRecursion (λ number. evictions s.encoder.capacity s.encoder.inserted < number) (references_of b)
names_held s b h is alive = by_count (nat_lt 0 (count_of b)) refl
  where
    by_count : (t : Bool) → nat_lt 0 (count_of b) ≡ t → AllByRecursion (λ number. evictions s.encoder.capacity s.encoder.inserted < number) (references_of b)
    by_count true e =
        let evicted : undecoded_references b.stream s.sections ≡ references_of b ∷ undecoded_references b.stream (without_oldest b.stream s.sections) = taken_names b.stream s.sections b is ∙ rw e refl in
        let all = All-drop (AllByRecursion (λ number. evictions s.encoder.capacity s.encoder.inserted < number)) (acknowledgments b.stream s.decoder_instructions) (tracked_references b.stream s.encoder.tracked)
        (named_each (λ number. evictions s.encoder.capacity s.encoder.inserted < number) b.stream s.encoder.tracked h.references_present) in
        (subst (λ ns. AllByRecursion (AllByRecursion (λ number. evictions s.encoder.capacity s.encoder.inserted < number)) ns) (h.tracked b.stream alive ∙ evicted) all).0
    by_count false e =
        let none : count_of b ≡ 0 = grind (arith, common_steps) in
        none_named _ (references_of b) none (section_counted b.encoder b.fields).positive

-- A section that is tried once its insertions came decodes to its fields.
pub section_decodes : (s : Session) (b : UndecodedSection) → IsSound s → oldest b.stream s.sections ≡ Some b → is_canceled s b.stream ≡ false → count_of b ≤ s.received → DecodesTo s b
section_decodes s b h is alive came =
    let w = oldest_holds (IsWrittenOver s.encoder.inserted) b.stream s.sections b h.written is in
    let base = length b.encoder.inserted in
    let lines = (draft_of b.encoder b.fields).lines in
    let fields = guarded_fields b.encoder b.fields in
    let all : StandFor s.encoder.inserted base lines fields =
    subst (λ fs. StandFor fs base lines fields) (sym w.begins)
    (StandFor-append (draft_of b.encoder b.fields).inserted w.more base lines fields (section_stands b.encoder b.fields)) in
    let counted = section_counted b.encoder b.fields in
    let fewer : evictions s.encoder.capacity (take s.received s.encoder.inserted) ≤ evictions s.encoder.capacity s.encoder.inserted =
    subst (λ fs. evictions s.encoder.capacity (take s.received s.encoder.inserted) ≤ evictions s.encoder.capacity fs) (take-append-drop s.received s.encoder.inserted)
    (evictions-append s.encoder.capacity (take s.received s.encoder.inserted) (drop s.received s.encoder.inserted)) in
    record {
      lines = StandFor-take s.encoder.inserted s.received base lines fields (no_less base (count_of b) s.received lines came counted.lines) all;
      present = All-weaker _ _ (references_of b) fewer (names_held s b h is alive);
    }

-- the greatest of the names is one of them
greatest_holds : (P : ℕ → Type 0) (a : ℕ) (names : List ℕ) → AllByRecursion P names → (fold max a names ≡ a) ⊎ P (fold max a names)
greatest_holds P a [] h = inl refl
greatest_holds P a (x ∷ xs) h = ⊎_elim
    (λ e. ⊎_elim (λ (k : max a x ≡ a). inl (e ∙ k)) (λ (k : max a x ≡ x). inr (subst P (sym (e ∙ k)) h.0)) (which a x))
    (λ p. inr p)
    (greatest_holds P (max a x) xs h.1)
  where
    which : (a x : ℕ) → (max a x ≡ a) ⊎ (max a x ≡ x)
    which a x = grind (arith, common_steps)

pub count_holds : (P : ℕ → Type 0) (names : List ℕ) → 0 < fold max 0 names → AllByRecursion P names → P (fold max 0 names)
count_holds P names above h = ⊎_elim (λ e. absurd (omega (arith, e, above))) (λ p. p) (greatest_holds P 0 names h)

-- The encoded count of a section that is tried stands for its count, at whatever moment.
pub count_in_window : (s : Session) (b : UndecodedSection) → IsSound s → oldest b.stream s.sections ≡ Some b → is_canceled s b.stream ≡ false → 0 < count_of b
    → IsRequiredCount s.encoder.announced s.received (count_of b % (2 * most_entries s.encoder.announced) + 1) (count_of b)
count_in_window s b h is alive above =
    let w = oldest_holds (IsWrittenOver s.encoder.inserted) b.stream s.sections b h.written is in
    let d = draft_of b.encoder b.fields in
    let made : count_of b ≤ length d.inserted = count_holds (λ n. n ≤ length d.inserted) d.references above (section_counted b.encoder b.fields).made in
    let longer : length d.inserted ≤ length s.encoder.inserted = omega (arith, ap length w.begins, length-append d.inserted w.more) in
    let held : evictions s.encoder.capacity s.encoder.inserted < count_of b =
    count_holds (λ n. evictions s.encoder.capacity s.encoder.inserted < n) (references_of b) above (names_held s b h is alive) in
    let few : length (table s.encoder.capacity s.encoder.inserted) ≤ most_entries s.encoder.announced = omega (arith, few_entries s.encoder.capacity s.encoder.inserted, h.within_announced) in
    record {
      positive = above;
      residue = refl;
      not_too_old = omega (arith, h.received, held, few);
      not_too_new = omega (arith, made, longer, few, h.evictions_known, h.accounted);
    }
