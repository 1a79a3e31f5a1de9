-- The lines of a section stand for its fields.
use Rattle.std.proofs.Common.{◌≡◌, ℕ, zero, suc, ◌+◌, ◌-◌, ◌<◌, ◌≤◌, Bool, true, false, List, [], ◌∷◌, ◌++◌, length, refl, ◌∙◌, ap, arith, length-append, append_assoc, append-nil, add-one, Option, Some, None, nat_le, bytes_eq, if◌then◌else◌, fold, slice_get}
use Rattle.std.proofs.lemmas.Grind.{common_steps}
use Rattle.std.proofs.lemmas.List.Quantifiers.{position-Some}
use Rattle.std.proofs.lemmas.Option.{slice_get-get_or}
use Rattle.std.specs.List.{AllByRecursion, position}
use Rattle.std.proofs.Common.{get_or}
use Rattle.std.proofs.lemmas.Bool.{and_parts}
use Rattle.h3_field.specs.FieldLaws.{same_bytes, same_field}
use Rattle.h3_field.specs.Field.{Field, field_eq}
use Rattle.h3_field.specs.Section.{with_value}
use Rattle.h3_field.specs.StringLiteral.{coded}
use Rattle.h3_field.specs.Line.{FieldLine}
use Rattle.h3_field.specs.Line.FieldLine.{StaticField, RelativeField, PostBaseField, StaticName, RelativeName, PostBaseName, Literal}
use Rattle.h3_field.specs.StaticTable.{static_table, static_field, static_name}
use Rattle.h3_table.specs.Table.{newest}
use Rattle.h3_qpack.specs.EncoderHistory.{EncoderHistory}
use Rattle.h3_qpack.specs.SectionEncoding.{Draft, is_usable, found, found_name, is_insertable, add_line, add_literal, add_inserted, add_ahead, write_field, add_field, first_draft, guarded_fields, draft_of, entry_name_line}
use Rattle.h3_qpack.specs.NamedFields.{entry_number, line_field_by, AreOf, insertion_at, named_field, StandFor}
use Rattle.h3_qpack.proofs.Newest.{chosen, newest_from-passes}
use Rattle.h3_qpack.proofs.Drafts.{either_way, with_field}

slice_get-append : {X : Type 0} (xs ys : List X) (i : ℕ) (x : X) → slice_get xs i ≡ Some x → slice_get (xs ++ ys) i ≡ Some x
slice_get-append [] ys i x h = cc
slice_get-append (y ∷ xs) ys zero x h = h
slice_get-append (y ∷ xs) ys (suc i) x h = slice_get-append xs ys i x h

insertion_at-append : (fs gs : List Field) (number : ℕ) (f : Field) → insertion_at fs number ≡ Some f → insertion_at (fs ++ gs) number ≡ Some f
insertion_at-append fs gs zero f h = h
insertion_at-append fs gs (suc n) f h = slice_get-append fs gs n f h

pub with_value-more : (value : List ℕ) (n : Bool) (a b : Option Field) (f : Field) → ((g : Field) → a ≡ Some g → b ≡ Some g) → with_value value n a ≡ Some f → with_value value n b ≡ Some f
with_value-more value n None b f more h = cc
with_value-more value n (Some g) b f more h = ap (with_value value n) (more g refl) ∙ h

-- a line is of the same field, where what it names here is there too
pub line_alike : (here there : ℕ → Option Field) (base other : ℕ) (line : FieldLine) (f : Field) → ((g : Field) → here (entry_number base line) ≡ Some g → there (entry_number other line) ≡ Some g)
    → line_field_by here base line ≡ Some f → line_field_by there other line ≡ Some f
line_alike here there base other (StaticField index) f same h = h
line_alike here there base other (RelativeField index) f same h = same f h
line_alike here there base other (PostBaseField index) f same h = same f h
line_alike here there base other (StaticName index value n) f same h = h
line_alike here there base other (RelativeName index value n) f same h = with_value-more value.bytes n _ _ f same h
line_alike here there base other (PostBaseName index value n) f same h = with_value-more value.bytes n _ _ f same h
line_alike here there base other (Literal name value n) f same h = h

pub lines_alike : (P : FieldLine → Type 0) (here there : ℕ → Option Field) (base other : ℕ) (lines : List FieldLine) (fields : List Field)
    → ((line : FieldLine) → P line → (g : Field) → here (entry_number base line) ≡ Some g → there (entry_number other line) ≡ Some g)
    → AllByRecursion P lines → AreOf (line_field_by here base) lines fields → AreOf (line_field_by there other) lines fields
lines_alike P here there base other [] [] same all h = tt
lines_alike P here there base other (line ∷ lines) (f ∷ fields) same all h =
    (line_alike here there base other line f (same line all.0) h.0, lines_alike P here there base other lines fields same all.1 h.1)
lines_alike P here there base other [] (f ∷ fields) same all h = absurd h
lines_alike P here there base other (line ∷ lines) [] same all h = absurd h

pub StandFor-append : (fs gs : List Field) (base : ℕ) (lines : List FieldLine) (fields : List Field) → StandFor fs base lines fields → StandFor (fs ++ gs) base lines fields
StandFor-append fs gs base lines fields h =
    lines_alike (λ line. Unit {0}) (insertion_at fs) (insertion_at (fs ++ gs)) base base lines fields (λ line any g e. insertion_at-append fs gs (entry_number base line) g e) (any_of lines) h
  where
    any_of : (lines : List FieldLine) → AllByRecursion (λ line. Unit {0}) lines
    any_of [] = tt
    any_of (line ∷ lines) = (tt, any_of lines)

one_more : (inserted : List Field) (base : ℕ) (lines : List FieldLine) (fields : List Field) (line : FieldLine) (f : Field)
    → StandFor inserted base lines fields → named_field inserted base line ≡ Some f → StandFor inserted base (lines ++ line ∷ []) (fields ++ f ∷ [])
one_more inserted base [] [] line f h e = (e, tt)
one_more inserted base (l ∷ lines) (g ∷ fields) line f h e = (h.0, one_more inserted base lines fields line f h.1 e)
one_more inserted base [] (g ∷ fields) line f h e = absurd h
one_more inserted base (l ∷ lines) [] line f h e = absurd h

-- what stands at the place of an equal entry
equal_at : (entries : List Field) (f : Field) (i : ℕ) → position (λ entry. field_eq entry f) entries ≡ Some i → slice_get entries i ≡ Some f
equal_at entries f i h =
    let p = position-Some (λ entry. field_eq entry f) entries i f h in
    slice_get-get_or entries i f p.0 ∙ ap Some (same_field (get_or entries i f) f p.1)

pub name_at : (entries : List Field) (f : Field) (i : ℕ) → position (λ entry. bytes_eq entry.name f.name) entries ≡ Some i → with_value f.value f.never_indexed (slice_get entries i) ≡ Some f
name_at entries f i h =
    let p = position-Some (λ entry. bytes_eq entry.name f.name) entries i f h in
    let n = same_bytes (get_or entries i f).name f.name p.1 in
    ap (with_value f.value f.never_indexed) (slice_get-get_or entries i f p.0) ∙ ap Some (λ i. record { name = n i; value = f.value; never_indexed = f.never_indexed })

-- the entry that a search found stands at its number
pub insertion_found : (test : ℕ → Field → Bool) (fs : List Field) (number : ℕ) (h : newest test fs ≡ Some number)
    → insertion_at fs number ≡ Some (newest_from-passes test 1 fs number h).entry
insertion_found test fs number h = at_number fs number (newest_from-passes test 1 fs number h).entry (newest_from-passes test 1 fs number h).above (newest_from-passes test 1 fs number h).place
  where
    at_number : (fs : List Field) (number : ℕ) (e : Field) → 1 ≤ number → slice_get fs (number - 1) ≡ Some e → insertion_at fs number ≡ Some e
    at_number fs zero e above place = absurd (omega arith)
    at_number fs (suc n) e above place = let same : suc n - 1 ≡ n = omega arith in rw same at place

-- The lines so far stand for the fields so far.
pub record IsWritten (s : EncoderHistory) (d : Draft) (fields : List Field) : Type 0 where
  pub longer : length s.inserted ≤ length d.inserted
  pub lines : StandFor d.inserted (length s.inserted) d.lines fields

line_written : (s : EncoderHistory) (d : Draft) (line : FieldLine) (names : List ℕ) (fields : List Field) (f : Field)
    → IsWritten s d fields → named_field d.inserted (length s.inserted) line ≡ Some f → IsWritten s (add_line d line names) (fields ++ f ∷ [])
line_written s d line names fields f h e = record { longer = h.longer; lines = one_more d.inserted (length s.inserted) d.lines fields line f h.lines e }

last_insertion : (fs : List Field) (f : Field) → insertion_at (fs ++ f ∷ []) (length fs + 1) ≡ Some f
last_insertion fs f = rw add-one (here fs f)
  where
    here : (fs : List Field) (f : Field) → slice_get (fs ++ f ∷ []) (length fs) ≡ Some f
    here [] f = refl
    here (g ∷ fs) f = here fs f

inserted_written : (s : EncoderHistory) (d : Draft) (fields : List Field) (f : Field) → IsWritten s d fields → IsWritten s (add_inserted s d f) (fields ++ f ∷ [])
inserted_written s d fields f h =
    let at : length s.inserted + (length d.inserted - length s.inserted) + 1 ≡ length d.inserted + 1 = omega (arith, h.longer) in
    record {
      longer = omega (arith, h.longer, length-append d.inserted (f ∷ []));
      lines = one_more (d.inserted ++ f ∷ []) (length s.inserted) d.lines fields _ f
          (StandFor-append d.inserted (f ∷ []) (length s.inserted) d.lines fields h.lines)
          (ap (insertion_at (d.inserted ++ f ∷ [])) at ∙ last_insertion d.inserted f);
    }

ahead_written : (s : EncoderHistory) (d : Draft) (fields : List Field) (f : Field) → IsWritten s d fields → IsWritten s (add_ahead s d f) fields
ahead_written s d fields f h =
    record {
      longer = omega (arith, h.longer, length-append d.inserted (f ∷ []));
      lines = StandFor-append d.inserted (f ∷ []) (length s.inserted) d.lines fields h.lines;
    }

found_line : (s : EncoderHistory) (d : Draft) (f : Field) (number : ℕ) → found s d f ≡ Some number
    → named_field d.inserted (length s.inserted) (RelativeField (length s.inserted - number)) ≡ Some f
found_line s d f number h =
    let p = newest_from-passes _ 1 d.inserted number h in
    let a = and_parts _ (is_usable s number) p.test_is in
    let b = and_parts _ (nat_le number (length s.inserted)) a.0 in
    let c = and_parts (field_eq p.entry f) _ b.0 in
    let le = le_is number (length s.inserted) b.1 in
    let back : length s.inserted - (length s.inserted - number) ≡ number = omega (arith, le) in
    ap (insertion_at d.inserted) back ∙ insertion_found _ d.inserted number h ∙ ap Some (same_field p.entry f c.0)
  where
    le_is : (a b : ℕ) → nat_le a b ≡ true → a ≤ b
    le_is a b e = grind (arith, common_steps)

named_line : (inserted : List Field) (base number : ℕ) (shortest : Bool) (f : Field) (b : Bool) → nat_le number base ≡ b → 0 < number → with_value f.value f.never_indexed (insertion_at inserted number) ≡ Some f
    → named_field inserted base (if b then RelativeName (base - number) (coded shortest f.value) f.never_indexed else PostBaseName (number - base - 1) (coded shortest f.value) f.never_indexed) ≡ Some f
named_line inserted base number shortest f true e above h =
    let back : base - (base - number) ≡ number = grind (arith, common_steps) in ap (λ n. with_value f.value f.never_indexed (insertion_at inserted n)) back ∙ h
named_line inserted base number shortest f false e above h =
    let back : base + (number - base - 1) + 1 ≡ number = grind (arith, common_steps) in ap (λ n. with_value f.value f.never_indexed (insertion_at inserted n)) back ∙ h

found_name_line : (s : EncoderHistory) (d : Draft) (f : Field) (number : ℕ) → found_name s d f ≡ Some number
    → named_field d.inserted (length s.inserted) (entry_name_line (length s.inserted) number (coded s.choices.shortest_strings f.value) f.never_indexed) ≡ Some f
found_name_line s d f number h =
    let p = newest_from-passes _ 1 d.inserted number h in
    let a = and_parts _ (is_usable s number) p.test_is in
    let b = and_parts (bytes_eq p.entry.name f.name) _ a.0 in
    let n = same_bytes p.entry.name f.name b.0 in
    named_line d.inserted (length s.inserted) number s.choices.shortest_strings f (nat_le number (length s.inserted)) refl p.above
    (ap (with_value f.value f.never_indexed) (insertion_found _ d.inserted number h) ∙ ap Some (λ i. record { name = n i; value = f.value; never_indexed = f.never_indexed }))

literal_written : (s : EncoderHistory) (d : Draft) (fields : List Field) (f : Field) → IsWritten s d fields → IsWritten s (add_literal s d f) (fields ++ f ∷ [])
unfolding static_table static_name
literal_written s d fields f h =
    let P : Draft → Type 0 = λ e. IsWritten s e (fields ++ f ∷ []) in
    chosen P (static_name f.name) _ _ (λ index e. line_written s d _ [] fields f h (name_at static_table f index e)) (λ none.
    chosen P (found_name s d f) _ _ (λ number e. line_written s d _ (number ∷ []) fields f h (found_name_line s d f number e)) (λ none.
    line_written s d _ [] fields f h refl))

line_of_field_written : (s : EncoderHistory) (d : Draft) (fields : List Field) (f : Field) → IsWritten s d fields → IsWritten s (write_field s d f) (fields ++ f ∷ [])
unfolding static_table static_field
line_of_field_written s d fields f h =
    let P : Draft → Type 0 = λ e. IsWritten s e (fields ++ f ∷ []) in
    either_way P f.never_indexed _ _ (λ never. literal_written s d fields f h) (
    chosen P (static_field f) _ _ (λ index e. line_written s d _ [] fields f h (equal_at static_table f index e)) (λ none.
    chosen P (found s d f) _ _ (λ number e. line_written s d _ (number ∷ []) fields f h (found_line s d f number e)) (λ none.
    either_way P (is_insertable s d f) _ _ (λ e. inserted_written s d fields f h) (literal_written s d fields f h))))

field_written : (s : EncoderHistory) (d : Draft) (fields : List Field) (f : Field) → IsWritten s d fields → IsWritten s (add_field s d f) (fields ++ f ∷ [])
field_written s d fields f h = with_field (λ e. IsWritten s e (fields ++ f ∷ [])) s d f (line_of_field_written s d fields f h) (λ e test k. ahead_written s e (fields ++ f ∷ []) f k)

all_written : (s : EncoderHistory) (d : Draft) (before fields : List Field) → IsWritten s d before → IsWritten s (fold (add_field s) d fields) (before ++ fields)
all_written s d before [] h = rw append-nil h
all_written s d before (f ∷ fields) h = rw (← append_assoc before (f ∷ []) fields) (all_written s (add_field s d f) (before ++ f ∷ []) fields (field_written s d before f h))

-- The lines of a section stand for its fields over the insertions that it was written to need.
pub section_stands : (s : EncoderHistory) (fields : List Field) → StandFor (draft_of s fields).inserted (length s.inserted) (draft_of s fields).lines (guarded_fields s fields)
section_stands s fields = (all_written s (first_draft s) [] (guarded_fields s fields) (record { longer = omega arith; lines = tt })).lines
