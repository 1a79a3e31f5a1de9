-- An encoded field section means its fields to the decoder that tries it.
use Rattle.std.proofs.Common.{◌≡◌, ◌⊎◌, inl, inr, ℕ, zero, suc, ◌+◌, ◌-◌, ◌*◌, ◌%◌, ◌^◌, ◌<◌, ◌≤◌, Bool, true, false, List, [], ◌∷◌, ◌++◌, length, take, drop, refl, sym, ◌∙◌, ap, subst, arith, length-append, length-drop, Option, Some, None, nat_lt, if◌then◌else◌, fold, slice_get}
use Rattle.std.specs.List.{AllByRecursion, flat_map}
use Rattle.std.proofs.lemmas.Grind.{common_steps}
use Rattle.h3_field.specs.Field.{Field}
use Rattle.h3_field.specs.StringLiteral.{coded}
use Rattle.h3_field.specs.Line.{FieldLine, line_bytes}
use Rattle.h3_field.specs.Line.FieldLine.{StaticField, RelativeField, PostBaseField, StaticName, RelativeName, PostBaseName, Literal}
use Rattle.h3_field.specs.Section.{AreLines, NoLine, NextLine}
use Rattle.h3_field.specs.StaticTable.{static_field, static_name}
use Rattle.h3_field.specs.ReadBackLaws.{line_reads_back}
use Rattle.h3_table.specs.Table.{evictions}
use Rattle.h3_qpack.specs.EncoderHistory.{EncoderHistory}
use Rattle.h3_table.specs.TableState.{TableState, entry_at}
use Rattle.h3_qpack.specs.TableHistory.{table_state, table_of}
use Rattle.h3_qpack.specs.NamedFields.{insertion_at, StandFor, entry_number}
use Rattle.h3_qpack.specs.Meaning.{field_at, HaveFields}
use Rattle.h3_qpack.specs.SectionEncoding.{Draft, found, found_name, is_insertable, add_line, add_literal, add_inserted, write_field, add_field, first_draft, guarded_fields, draft_of}
use Rattle.h3_qpack.specs.Encodings.{IsWrittenLine}
use Rattle.h3_qpack.proofs.Newest.{chosen, newest_from-passes}
use Rattle.h3_qpack.proofs.Drafts.{either_way, with_field}
use Rattle.h3_table.specs.ReleasingLaws.{All-join}
use Rattle.std.proofs.lemmas.List.{length-take-le}
use Rattle.std.specs.Prelude.{◌==◌, ◌&&◌, not}
use Rattle.std.proofs.lemmas.Bool.{ne_eqb}
use Rattle.h3_field.specs.Reading.{Whole}
use Rattle.h3_field.specs.IntegerReading.{integer_limit}
use Rattle.h3_field.specs.Prefix.{most_entries, prefix_bytes}
use Rattle.h3_field.specs.PrefixReading.{EncodedPrefix, prefix, IsPrefix}
use Rattle.h3_field.specs.PrefixWriting.{written_prefix}
use Rattle.h3_field.specs.Section.{with_value}
use Rattle.h3_field.specs.PrefixLaws.{prefix_is_written, prefix_reads_back, prefix_is_read}
use Rattle.h3_qpack.specs.Meaning.{is_allowed, HasPrefix, MeansFields}
use Rattle.h3_qpack.specs.DecoderState.{DecoderState, checking, count_capacity}
use Rattle.h3_qpack.specs.SectionEncoding.{encoded_section}
use Rattle.h3_qpack.specs.Encodings.{decoder_of, IsWritten}
use Rattle.h3_qpack.specs.Session.{Session, UndecodedSection, oldest, is_canceled, count_of, IsSound, DecodesTo}
use Rattle.h3_qpack.proofs.NamedFieldsOf.{lines_alike}
use Rattle.h3_qpack.proofs.Decoding.{found_back, name_back, section_counted, section_decodes, count_in_window}
use Rattle.h3_qpack.proofs.UpTo.{lines_counted}

-- written lines are read one behind the other
pub lines_read : (lines : List FieldLine) → AllByRecursion IsWrittenLine lines → AreLines (flat_map line_bytes lines) lines
lines_read [] h = NoLine
lines_read (l ∷ ls) h = NextLine (line_bytes l ++ flat_map line_bytes ls) (flat_map line_bytes ls) l ls (line_reads_back l (flat_map line_bytes ls) h.0.0 h.0.1 h.0.2) (lines_read ls h.1)

-- a line names nothing, or an entry of which this holds
abbrev pub Names : (ℕ → Type 0) → ℕ → FieldLine → Type 0
Names P base line = (entry_number base line ≡ 0) ⊎ P (entry_number base line)

record Naming (P : ℕ → Type 0) (s : EncoderHistory) (d : Draft) : Type 0 where
  longer : length s.inserted ≤ length d.inserted
  each : AllByRecursion P d.references → AllByRecursion (Names P (length s.inserted)) d.lines

first_all : (P : ℕ → Type 0) (xs ys : List ℕ) → AllByRecursion P (xs ++ ys) → AllByRecursion P xs
first_all P [] ys h = tt
first_all P (x ∷ xs) ys h = (h.0, first_all P xs ys h.1)

last_all : (P : ℕ → Type 0) (xs : List ℕ) (y : ℕ) → AllByRecursion P (xs ++ y ∷ []) → P y
last_all P [] y h = h.0
last_all P (x ∷ xs) y h = last_all P xs y h.1

plain_named : (P : ℕ → Type 0) (s : EncoderHistory) (d : Draft) (line : FieldLine) → entry_number (length s.inserted) line ≡ 0 → Naming P s d → Naming P s (add_line d line [])
plain_named P s d line none h =
    record { longer = h.longer; each = λ all. All-join (Names P (length s.inserted)) d.lines (line ∷ []) (h.each (first_all P d.references [] all)) (inl none, tt) }

entry_named : (P : ℕ → Type 0) (s : EncoderHistory) (d : Draft) (line : FieldLine) (number : ℕ) → entry_number (length s.inserted) line ≡ number → Naming P s d → Naming P s (add_line d line (number ∷ []))
entry_named P s d line number is h =
    record {
      longer = h.longer;
      each = λ all. All-join (Names P (length s.inserted)) d.lines (line ∷ []) (h.each (first_all P d.references (number ∷ []) all)) (inr (subst P (sym is) (last_all P d.references number all)), tt);
    }

inserted_named : (P : ℕ → Type 0) (s : EncoderHistory) (d : Draft) (f : Field) → Naming P s d → Naming P s (add_inserted s d f)
inserted_named P s d f h =
    let is : length s.inserted + (length d.inserted - length s.inserted) + 1 ≡ length d.inserted + 1 = omega (arith, h.longer) in
    record {
      longer = omega (arith, h.longer, length-append d.inserted (f ∷ []));
      each = λ all. All-join (Names P (length s.inserted)) d.lines _ (h.each (first_all P d.references ((length d.inserted + 1) ∷ []) all)) (inr (subst P (sym is) (last_all P d.references (length d.inserted + 1) all)), tt);
    }

literal_named : (P : ℕ → Type 0) (s : EncoderHistory) (d : Draft) (f : Field) → Naming P s d → Naming P s (add_literal s d f)
literal_named P s d f h =
    chosen (Naming P s) (static_name f.name) _ _ (λ index e. plain_named P s d _ refl h) (λ none.
    chosen (Naming P s) (found_name s d f) _ _ (λ number e.
    let p = newest_from-passes _ 1 d.inserted number e in
    entry_named P s d _ number (name_back (length s.inserted) number (coded s.choices.shortest_strings f.value) f.never_indexed _ refl (omega (arith, p.above))) h) (λ none.
    plain_named P s d _ refl h))

line_of_field_named : (P : ℕ → Type 0) (s : EncoderHistory) (d : Draft) (f : Field) → Naming P s d → Naming P s (write_field s d f)
line_of_field_named P s d f h =
    either_way (Naming P s) f.never_indexed _ _ (λ never. literal_named P s d f h) (
    chosen (Naming P s) (static_field f) _ _ (λ index e. plain_named P s d _ refl h) (λ none.
    chosen (Naming P s) (found s d f) _ _ (λ number e. entry_named P s d _ number (found_back s d f number e).0 h) (λ none.
    either_way (Naming P s) (is_insertable s d f) _ _ (λ e. inserted_named P s d f h) (literal_named P s d f h))))

field_named : (P : ℕ → Type 0) (s : EncoderHistory) (d : Draft) (f : Field) → Naming P s d → Naming P s (add_field s d f)
field_named P s d f h =
    with_field (Naming P s) s d f (line_of_field_named P s d f h) (λ e test k. record { longer = omega (arith, k.longer, length-append e.inserted (f ∷ [])); each = k.each })

fields_named : (P : ℕ → Type 0) (s : EncoderHistory) (d : Draft) (fields : List Field) → Naming P s d → Naming P s (fold (add_field s) d fields)
fields_named P s d [] h = h
fields_named P s d (f ∷ fields) h = fields_named P s (add_field s d f) fields (field_named P s d f h)

-- what holds of all entries that a section names holds of each line's
pub lines_name : (P : ℕ → Type 0) (s : EncoderHistory) (fields : List Field) → AllByRecursion P (draft_of s fields).references
    → AllByRecursion (Names P (length s.inserted)) (draft_of s fields).lines
lines_name P s fields all =
    (fields_named P s (first_draft s) (guarded_fields s fields) (record { longer = omega arith; each = λ none. tt })).each all

-- a section takes no insertion away
pub section_longer : (s : EncoderHistory) (fields : List Field) → length s.inserted ≤ length (draft_of s fields).inserted
section_longer s fields =
    (fields_named (λ n. Unit {0}) s (first_draft s) (guarded_fields s fields) (record { longer = omega arith; each = λ none. tt })).longer

-- an entry that is not evicted is found where it is held
pub still_held : (fs : List Field) (evicted number : ℕ) (f : Field) → evicted < number → evicted ≤ length fs → insertion_at fs number ≡ Some f
    → slice_get (drop evicted fs) (number - evicted - 1) ≡ Some f
still_held fs evicted zero f lt le h = absurd (omega (arith, lt))
still_held fs evicted (suc n) f lt le h = let same : suc n - evicted - 1 ≡ n - evicted = omega (arith, lt) in rw same (at fs evicted n (omega (arith, lt)) h)
  where
    at : (fs : List Field) (evicted n : ℕ) → evicted ≤ n → slice_get fs n ≡ Some f → slice_get (drop evicted fs) (n - evicted) ≡ Some f
    at fs zero n le h = let same : n - 0 ≡ n = omega arith in rw same h
    at [] (suc g) n le h = absurd (cc)
    at (x ∷ xs) (suc g) zero le h = absurd (omega (arith, le))
    at (x ∷ xs) (suc g) (suc n) le h = let same : suc n - suc g ≡ n - g = omega arith in rw same (at xs g n (omega (arith, le)) h)

-- the field of a line, where what it names is held
held_field : (capacity : ℕ) (fs : List Field) (number : ℕ) (f : Field) → (number ≡ 0) ⊎ (evictions capacity fs < number) → insertion_at fs number ≡ Some f
    → entry_at (table_state (table_of capacity fs)) number ≡ Some f
held_field capacity fs number f (inl none) h = absurd (nothing number none h)
  where
    nothing : (n : ℕ) → n ≡ 0 → insertion_at fs n ≡ Some f → ⊥
    nothing zero e h = cc
    nothing (suc n) e h = omega (arith, e)
held_field capacity fs number f (inr there) h =
    let evicted : length fs - length (drop (evictions capacity fs) fs) ≡ evictions capacity fs = omega (arith, length-drop (evictions capacity fs) fs) in
    let yes : nat_lt (evictions capacity fs) number ≡ true = grind (arith, common_steps) in
    rw (evicted, yes) (still_held fs (evictions capacity fs) number f there (omega arith) h)

lines_held : (capacity : ℕ) (fs : List Field) (base : ℕ) (lines : List FieldLine) (fields : List Field) → AllByRecursion (Names (λ n. evictions capacity fs < n) base) lines
    → StandFor fs base lines fields → HaveFields (table_state (table_of capacity fs)) base lines fields
lines_held capacity fs base lines fields names h =
    lines_alike (Names (λ n. evictions capacity fs < n) base) (insertion_at fs) (entry_at (table_state (table_of capacity fs))) base base lines fields
    (λ line named g e. held_field capacity fs (entry_number base line) g named e) names h

-- lines that name no entry are of the same fields for every base and table
nothing_at : (fs : List Field) (n : ℕ) (f : Field) → n ≡ 0 → insertion_at fs n ≡ Some f → ⊥
nothing_at fs zero f e h = cc
nothing_at fs (suc n) f e h = omega (arith, e)

lines_plain : (h : TableState) (fs : List Field) (base : ℕ) (lines : List FieldLine) (fields : List Field) → AllByRecursion (λ line. entry_number base line ≤ 0) lines
    → StandFor fs base lines fields → HaveFields h 0 lines fields
lines_plain h fs base lines fields none e =
    lines_alike (λ line. entry_number base line ≤ 0) (insertion_at fs) (entry_at h) base 0 lines fields
    (λ line few g named. absurd (nothing_at fs (entry_number base line) g (omega (arith, few)) named)) none e

none_at : (base : ℕ) (line : FieldLine) → entry_number base line ≤ 0 → entry_number 0 line ≤ 0
none_at base (StaticField index) few = omega arith
none_at base (RelativeField index) few = omega arith
none_at base (PostBaseField index) few = omega (arith, few)
none_at base (StaticName index value n) few = omega arith
none_at base (RelativeName index value n) few = omega arith
none_at base (PostBaseName index value n) few = omega (arith, few)
none_at base (Literal name value n) few = omega arith

lines_at_none : (base : ℕ) (lines : List FieldLine) → AllByRecursion (λ line. entry_number base line ≤ 0) lines → AllByRecursion (λ line. entry_number 0 line ≤ 0) lines
lines_at_none base [] few = tt
lines_at_none base (line ∷ lines) few = (none_at base line few.0, lines_at_none base lines few.1)

-- the prefix that is written is read
pub prefix_read : (capacity count base : ℕ) (rest : List ℕ) → count < 2 ^ 62 → base < 2 ^ 62 → prefix (prefix_bytes capacity count base ++ rest) ≡ Whole (written_prefix capacity count base) rest
prefix_read capacity count base rest few low =
    ap (λ bytes. prefix (bytes ++ rest)) (prefix_is_written capacity count base) ∙ prefix_reads_back (written_prefix capacity count base) rest (encoded_fits (count == 0)) (delta_fits (count == 0))
  where
    rest_of : (m : ℕ) → count % m ≤ count
    rest_of m = grind (arith, common_steps)

    encoded_fits : (b : Bool) → (if◌then◌else◌ {A = EncodedPrefix} b (record { encoded = 0; is_negative = false; delta = 0 }) (record { encoded = count % (2 * most_entries capacity) + 1; is_negative = nat_lt base count; delta = if nat_lt base count then count - base - 1 else base - count })).encoded < integer_limit 8
    encoded_fits true = omega arith
    encoded_fits false = omega (arith, few, rest_of (2 * most_entries capacity))

    delta_fits : (b : Bool) → (if◌then◌else◌ {A = EncodedPrefix} b (record { encoded = 0; is_negative = false; delta = 0 }) (record { encoded = count % (2 * most_entries capacity) + 1; is_negative = nat_lt base count; delta = if nat_lt base count then count - base - 1 else base - count })).delta < integer_limit 7
    delta_fits true = omega arith
    delta_fits false = either (nat_lt base count)
      where
        either : (t : Bool) → (if t then count - base - 1 else base - count) < integer_limit 7
        either true = omega (arith, few)
        either false = omega (arith, low)

-- what a decoder has read of the session, as far as the section needs it
pub record HasReadFor (s : Session) (b : UndecodedSection) (r : DecoderState) : Type 0 where
  pub inserted : r.table.inserted ≡ s.received
  pub entries : r.table.entries ≡ (decoder_of s).table.entries
  pub announced : 0 < count_of b → count_capacity r ≡ s.encoder.announced

-- the prefix of a section, whenever it is tried
pub record Begins (r : DecoderState) (b : UndecodedSection) (base : ℕ) : Type 0 where
  pub begins : HasPrefix r (encoded_section b.encoder b.fields) (flat_map line_bytes (draft_of b.encoder b.fields).lines) (count_of b) base

-- a prefix that names entries, to a decoder with a table
allowed_there : (r : DecoderState) (p : EncodedPrefix) → 0 < count_capacity r → is_allowed r p ≡ true
allowed_there r p some = by_choice r.checks_count (count_capacity r == 0) (ne_eqb (count_capacity r) 0 (λ e. absurd (omega (arith, e, some))))
  where
    by_choice : (a b : Bool) → b ≡ false → (if a && b then (p.encoded == 0) && not p.is_negative else true) ≡ true
    by_choice true b none = rw none refl
    by_choice false b none = refl

-- a prefix that names none, to any decoder
allowed_plain : (r : DecoderState) (capacity base : ℕ) → is_allowed r (written_prefix capacity 0 base) ≡ true
allowed_plain r capacity base = by_choice (r.checks_count && (count_capacity r == 0))
  where
    by_choice : (b : Bool) → (if b then true else true) ≡ true
    by_choice true = refl
    by_choice false = refl

abbrev pub base_of : UndecodedSection → Bool → ℕ
base_of b true = length b.encoder.inserted
base_of b false = 0

pub section_begins : (s : Session) (b : UndecodedSection) (r : DecoderState) → IsSound s → HasReadFor s b r → oldest b.stream s.sections ≡ Some b → is_canceled s b.stream ≡ false → count_of b < 2 ^ 62 → IsWritten s b → Begins r b (base_of b (nat_lt 0 (count_of b)))
section_begins s b r h of is alive few w = by_count (nat_lt 0 (count_of b)) refl
  where
    by_count : (t : Bool) → nat_lt 0 (count_of b) ≡ t → Begins r b (base_of b t)
    by_count true e =
        let above : 0 < count_of b = grind (arith, common_steps) in
        let window = count_in_window s b h is alive above in
        let some : 0 < s.encoder.announced = omega (arith, window.not_too_old, window.not_too_new) in
        let taken : IsPrefix s.encoder.announced s.received (written_prefix s.encoder.announced (count_of b) (length b.encoder.inserted)) (count_of b) (length b.encoder.inserted) =
        prefix_is_read s.encoder.announced s.received (count_of b) (length b.encoder.inserted) some (λ z. absurd (omega (arith, z, above))) window.not_too_old window.not_too_new in
        record {
          begins = record {
            encoded = written_prefix b.encoder.announced (count_of b) (length b.encoder.inserted);
            whole = prefix_read b.encoder.announced (count_of b) (length b.encoder.inserted) _ few w.base;
            allowed = allowed_there r (written_prefix b.encoder.announced (count_of b) (length b.encoder.inserted)) (omega (arith, of.announced above, some));
            is = subst (λ c. IsPrefix c r.table.inserted (written_prefix b.encoder.announced (count_of b) (length b.encoder.inserted)) (count_of b) (length b.encoder.inserted)) (sym (of.announced above))
                (subst (λ n. IsPrefix s.encoder.announced n (written_prefix b.encoder.announced (count_of b) (length b.encoder.inserted)) (count_of b) (length b.encoder.inserted)) (sym of.inserted)
                (subst (λ c. IsPrefix s.encoder.announced s.received (written_prefix c (count_of b) (length b.encoder.inserted)) (count_of b) (length b.encoder.inserted)) (sym (w.announced above)) taken));
          };
        }
    by_count false e =
        let none : count_of b ≡ 0 = grind (arith, common_steps) in
        record {
          begins = record {
            encoded = written_prefix b.encoder.announced (count_of b) (length b.encoder.inserted);
            whole = prefix_read b.encoder.announced (count_of b) (length b.encoder.inserted) _ few w.base;
            allowed = rw none (allowed_plain r b.encoder.announced (length b.encoder.inserted));
            is = rw none (plain (nat_lt 0 (count_capacity r)) refl);
          };
        }
      where
        plain : (t : Bool) → nat_lt 0 (count_capacity r) ≡ t → IsPrefix (count_capacity r) r.table.inserted (written_prefix b.encoder.announced 0 (length b.encoder.inserted)) 0 0
        plain true e = inr (grind (arith, common_steps), inl (refl, refl), refl)
        plain false e = inl (grind (arith, common_steps), refl, refl)

entry_among : List Field → ℕ → ℕ → Option Field
entry_among entries inserted number = if nat_lt (inserted - length entries) number then slice_get entries (number - (inserted - length entries) - 1) else None

-- what entries a line finds does not rest on the capacity
entry_same : (h k : TableState) (number : ℕ) → h.entries ≡ k.entries → h.inserted ≡ k.inserted → entry_at h number ≡ entry_at k number
unfolding entry_among
entry_same h k number e f = ap (λ es. entry_among es h.inserted number) e ∙ ap (λ n. entry_among k.entries n number) f

line_same : (h k : TableState) (base : ℕ) (l : FieldLine) → h.entries ≡ k.entries → h.inserted ≡ k.inserted → field_at h base l ≡ field_at k base l
line_same h k base (StaticField index) e f = refl
line_same h k base (RelativeField index) e f = entry_same h k (base - index) e f
line_same h k base (PostBaseField index) e f = entry_same h k (base + index + 1) e f
line_same h k base (StaticName index value n) e f = refl
line_same h k base (RelativeName index value n) e f = ap (with_value value.bytes n) (entry_same h k (base - index) e f)
line_same h k base (PostBaseName index value n) e f = ap (with_value value.bytes n) (entry_same h k (base + index + 1) e f)
line_same h k base (Literal name value n) e f = refl

lines_same : (h k : TableState) (base : ℕ) (ls : List FieldLine) (fs : List Field) → h.entries ≡ k.entries → h.inserted ≡ k.inserted → HaveFields h base ls fs → HaveFields k base ls fs
lines_same h k base [] [] e f a = tt
lines_same h k base (l ∷ ls) (g ∷ fs) e f a = (sym (line_same h k base l e f) ∙ a.0, lines_same h k base ls fs e f a.1)
lines_same h k base [] (g ∷ fs) e f a = a
lines_same h k base (l ∷ ls) [] e f a = a

-- A section whose insertions came means its fields to a decoder that has read them.
pub section_means : (s : Session) (b : UndecodedSection) (r : DecoderState) → IsSound s → HasReadFor s b r → oldest b.stream s.sections ≡ Some b → is_canceled s b.stream ≡ false → count_of b ≤ s.received → IsWritten s b
    → MeansFields r (encoded_section b.encoder b.fields) (count_of b) (guarded_fields b.encoder b.fields)
section_means s b r h of is alive came w =
    record {
      rest = flat_map line_bytes lines;
      base = base_of b (nat_lt 0 (count_of b));
      lines = lines;
      begins = (section_begins s b r h of is alive few w).begins;
      received = omega (arith, came, of.inserted);
      split = lines_read lines w.lines;
      named = lines_counted r (count_of b) (base_of b (nat_lt 0 (count_of b))) lines (guarded_fields b.encoder b.fields) (low (nat_lt 0 (count_of b)) refl) (by_count (nat_lt 0 (count_of b)) refl);
    }
  where
    d : DecodesTo s b
    d = section_decodes s b h is alive came

    lines : List FieldLine
    lines = (draft_of b.encoder b.fields).lines

    received_is : length (take s.received s.encoder.inserted) ≡ s.received
    received_is = length-take-le s.received s.encoder.inserted h.received

    few : count_of b < 2 ^ 62
    few = omega (arith, came, h.received, h.small)

    counted : AllByRecursion (λ line. entry_number (length b.encoder.inserted) line ≤ count_of b) lines
    counted = (section_counted b.encoder b.fields).lines

    low : (t : Bool) → nat_lt 0 (count_of b) ≡ t → AllByRecursion (λ line. entry_number (base_of b t) line ≤ count_of b) lines
    low true e = counted
    low false e =
        let none : count_of b ≡ 0 = grind (arith, common_steps) in
        rw none (lines_at_none (length b.encoder.inserted) lines (rw none at counted))

    by_count : (t : Bool) → nat_lt 0 (count_of b) ≡ t → HaveFields r.table (base_of b t) lines (guarded_fields b.encoder b.fields)
    by_count true e =
        lines_same (decoder_of s).table r.table (length b.encoder.inserted) lines (guarded_fields b.encoder b.fields) (sym of.entries) (received_is ∙ sym of.inserted)
        (lines_held s.encoder.capacity (take s.received s.encoder.inserted) (length b.encoder.inserted) lines (guarded_fields b.encoder b.fields)
        (lines_name (λ n. evictions s.encoder.capacity (take s.received s.encoder.inserted) < n) b.encoder b.fields d.present) d.lines)
    by_count false e =
        let none : count_of b ≡ 0 = grind (arith, common_steps) in
        lines_plain r.table (take s.received s.encoder.inserted) (length b.encoder.inserted) lines (guarded_fields b.encoder b.fields) (rw none at counted) d.lines

-- the session's own decoder has read so
pub own_read : (checks : Bool) (s : Session) (b : UndecodedSection) → IsSound s → HasReadFor s b (checking checks (decoder_of s))
own_read checks s b h = record { inserted = length-take-le s.received s.encoder.inserted h.received; entries = refl; announced = λ above. refl }
