-- What holds of a section under way.
use Rattle.std.proofs.Common.{◌^◌, ◌≡◌, ℕ, ◌+◌, ◌<◌, ◌≤◌, Bool, true, false, not, is_none, ◌&&◌, ◌||◌, ◌==◌, List, [], ◌∷◌, ◌++◌, length, refl, sym, ◌∙◌, ap, arith, length-append, append_assoc, append-nil, max, Some, nat_le, nat_lt, bytes_eq, if◌then◌else◌, fold}
use Rattle.std.specs.List.{AllByRecursion, list_all}
use Rattle.std.proofs.lemmas.Grind.{common_steps}
use Rattle.std.proofs.lemmas.Bool.{and_parts}
use Rattle.h3_field.specs.Field.{Field, field_eq, field_size}
use Rattle.h3_field.specs.Line.{FieldLine}
use Rattle.h3_table.specs.Table.{evictions}
use Rattle.h3_qpack.specs.EncoderHistory.{EncoderHistory, blocks_out, referenced_entries}
use Rattle.h3_qpack.specs.SectionEncoding.{Draft, is_usable, unnamed, held, found, any_equal, is_worth_to, marks_after, evictions_by, finds_room, is_insertable, is_new, is_insertable_ahead, found_name, add_line, add_literal, add_inserted, add_ahead, write_field, add_field, first_draft, guarded_fields, draft_of}
use Rattle.h3_field.specs.StaticTable.{static_field, static_name}
use Rattle.h3_table.specs.ReleasingLaws.{All-join}
use Rattle.h3_table.specs.TableLaws.{length-table}
use Rattle.h3_qpack.proofs.Newest.{chosen, newest_from-passes}

-- the entry is there, and the decoder has it or one more section may be blocked
pub record IsNamed (s : EncoderHistory) (inserted : List Field) (number : ℕ) : Type 0 where
  pub there : evictions s.capacity inserted < number
  pub made : number ≤ length inserted
  pub usable : is_usable s number ≡ true

pub record IsDraft (s : EncoderHistory) (d : Draft) : Type 0 where
  pub more : List Field
  pub begins : d.inserted ≡ s.inserted ++ more
  pub references : AllByRecursion (IsNamed s d.inserted) d.references
  pub present : AllByRecursion (λ number. evictions s.capacity d.inserted < number) (referenced_entries s)
  pub evictions_known : evictions s.capacity d.inserted ≤ max s.known_received (evictions s.capacity s.inserted)
  pub small : length s.inserted < 2 ^ 62 → length d.inserted < 2 ^ 62

All-tested : (d : ℕ) (xs : List ℕ) → list_all (λ number. nat_lt d number) xs ≡ true → AllByRecursion (λ number. d < number) xs
All-tested d [] h = tt
All-tested d (x ∷ xs) h = let e = and_parts (nat_lt d x) (list_all (λ number. nat_lt d number) xs) h in (lt_true d x e.0, All-tested d xs e.1)
  where
    lt_true : (a b : ℕ) → nat_lt a b ≡ true → a < b
    lt_true a b e = grind (arith, common_steps)

pub All-first : {X : Type 0} (P : X → Type 0) (xs ys : List X) → AllByRecursion P (xs ++ ys) → AllByRecursion P xs
All-first P [] ys h = tt
All-first P (x ∷ xs) ys h = (h.0, All-first P xs ys h.1)

pub All-second : {X : Type 0} (P : X → Type 0) (xs ys : List X) → AllByRecursion P (xs ++ ys) → AllByRecursion P ys
All-second P [] ys h = h
All-second P (x ∷ xs) ys h = All-second P xs ys h.1

-- a line that names entries that may be named
line_is_draft : (s : EncoderHistory) (d : Draft) (line : FieldLine) (names : List ℕ) → IsDraft s d → AllByRecursion (IsNamed s d.inserted) names → IsDraft s (add_line d line names)
line_is_draft s d line names h n =
    record { more = h.more; begins = h.begins; references = All-join (IsNamed s d.inserted) d.references names h.references n; present = h.present; evictions_known = h.evictions_known; small = h.small }

-- a field that fits is in the table after it is inserted
still_there : (capacity : ℕ) (fs : List Field) (f : Field) → field_size f ≤ capacity → evictions capacity (fs ++ f ∷ []) < length fs + 1
still_there capacity [] f h = grind (arith, common_steps)
still_there capacity (g ∷ fs) f h = grind (arith, common_steps, still_there capacity fs f h, length-append fs (f ∷ []), length-table capacity (fs ++ f ∷ []))

-- what the test of room says
pub record MayInsert (s : EncoderHistory) (d : Draft) (f : Field) : Type 0 where
  pub plain : f.never_indexed ≡ false
  pub few : length d.inserted + 1 < 2 ^ 62
  pub fits : field_size f ≤ s.capacity
  pub known_received : evictions_by s d f ≤ max s.known_received (evictions s.capacity d.inserted)
  pub present : AllByRecursion (λ number. evictions_by s d f < number) (referenced_entries s)
  pub own : AllByRecursion (λ number. evictions_by s d f < number) d.references

le_true : (a b : ℕ) → nat_le a b ≡ true → a ≤ b
le_true a b e = grind (arith, common_steps)

lt_true : (a b : ℕ) → nat_lt a b ≡ true → a < b
lt_true a b e = grind (arith, common_steps)

is_plain : (b : Bool) → not b ≡ true → b ≡ false
is_plain true h = absurd (cc)
is_plain false h = refl

pub room_found : (s : EncoderHistory) (d : Draft) (f : Field) → finds_room s d f ≡ true → MayInsert s d f
room_found s d f h =
    let a = and_parts _ (list_all (λ number. nat_lt (evictions_by s d f) number) (referenced_entries s ++ d.references)) h in
    let b = and_parts _ (nat_le (evictions_by s d f) (max s.known_received (evictions s.capacity d.inserted))) a.0 in
    let c = and_parts _ (nat_le (field_size f) s.capacity) b.0 in
    let e = and_parts (not f.never_indexed) (nat_lt (length d.inserted + 1) (2 ^ 62)) c.0 in
    let all = All-tested (evictions_by s d f) (referenced_entries s ++ d.references) a.1 in
    record {
      plain = is_plain f.never_indexed e.0;
      few = lt_true _ _ e.1;
      fits = le_true _ _ c.1;
      known_received = le_true _ _ b.1;
      present = All-first (λ number. evictions_by s d f < number) (referenced_entries s) d.references all;
      own = All-second (λ number. evictions_by s d f < number) (referenced_entries s) d.references all;
    }

-- One more section may be blocked, and there is room.
pub may_insert : (s : EncoderHistory) (d : Draft) (f : Field) → is_insertable s d f ≡ true → MayInsert s d f
may_insert s d f h = room_found s d f (and_parts (nat_lt (blocks_out s) s.limit && is_worth_to s (not (is_none (held s d f))) (marks_after s d.lines) d f) (finds_room s d f) h).1

pub may_block : (s : EncoderHistory) (d : Draft) (f : Field) → is_insertable s d f ≡ true → nat_lt (blocks_out s) s.limit ≡ true
may_block s d f h =
    let a = and_parts (nat_lt (blocks_out s) s.limit && is_worth_to s (not (is_none (held s d f))) (marks_after s d.lines) d f) (finds_room s d f) h in
    (and_parts (nat_lt (blocks_out s) s.limit) (is_worth_to s (not (is_none (held s d f))) (marks_after s d.lines) d f) a.0).0

-- There is room for what is inserted for later sections.
pub may_insert_ahead : (s : EncoderHistory) (marks : List ℕ) (d : Draft) (f : Field) → is_insertable_ahead s marks d f ≡ true → MayInsert s d f
may_insert_ahead s marks d f h =
    room_found s d f (and_parts (s.choices.economical && (s.limit == 0) && is_new s d f && is_worth_to s (not (is_none (any_equal s d f))) marks d f) (finds_room s d f) h).1

-- an entry that is named stays named where nothing that is named is evicted
kept_names : (s : EncoderHistory) (fs gs : List Field) (names : List ℕ) → AllByRecursion (IsNamed s fs) names → AllByRecursion (λ number. evictions s.capacity (fs ++ gs) < number) names → AllByRecursion (IsNamed s (fs ++ gs)) names
kept_names s fs gs [] h k = tt
kept_names s fs gs (x ∷ xs) h k =
    (record { there = k.0; made = omega (arith, h.0.made, length-append fs gs); usable = h.0.usable }, kept_names s fs gs xs h.1 k.1)

room_usable : (s : EncoderHistory) (number : ℕ) → nat_lt (blocks_out s) s.limit ≡ true → is_usable s number ≡ true
room_usable s number h = rw h (or_true (nat_le number s.known_received))
  where
    or_true : (b : Bool) → (b || true) ≡ true
    or_true true = refl
    or_true false = refl

inserted_is_draft : (s : EncoderHistory) (d : Draft) (f : Field) → IsDraft s d → MayInsert s d f → nat_lt (blocks_out s) s.limit ≡ true → IsDraft s (add_inserted s d f)
inserted_is_draft s d f h m waits =
    record {
      more = h.more ++ f ∷ [];
      begins = ap (λ fs. fs ++ f ∷ []) h.begins ∙ append_assoc s.inserted h.more (f ∷ []);
      references = All-join (IsNamed s (d.inserted ++ f ∷ [])) d.references _ (kept_names s d.inserted (f ∷ []) d.references h.references m.own) (
        record {
          there = still_there s.capacity d.inserted f m.fits;
          made = omega (arith, length-append d.inserted (f ∷ []));
          usable = room_usable s (length d.inserted + 1) waits;
        },
        tt,
      );
      present = m.present;
      evictions_known = omega (arith, m.known_received, h.evictions_known);
      small = λ k. omega (arith, m.few, length-append d.inserted (f ∷ []));
    }

ahead_is_draft : (s : EncoderHistory) (d : Draft) (f : Field) → IsDraft s d → MayInsert s d f → IsDraft s (add_ahead s d f)
ahead_is_draft s d f h m =
    record {
      more = h.more ++ f ∷ [];
      begins = ap (λ fs. fs ++ f ∷ []) h.begins ∙ append_assoc s.inserted h.more (f ∷ []);
      references = kept_names s d.inserted (f ∷ []) d.references h.references m.own;
      present = m.present;
      evictions_known = omega (arith, m.known_received, h.evictions_known);
      small = λ k. omega (arith, m.few, length-append d.inserted (f ∷ []));
    }

-- what the search for an equal entry, or for an entry of the name, finds may be named
found_is_named : (s : EncoderHistory) (d : Draft) (f : Field) (number : ℕ) → found s d f ≡ Some number → IsNamed s d.inserted number
found_is_named s d f number h =
    let p = newest_from-passes _ 1 d.inserted number h in
    let a = and_parts _ (is_usable s number) p.test_is in
    let b = and_parts _ (nat_le number (length s.inserted)) a.0 in
    let c = and_parts (field_eq p.entry f) (nat_lt (unnamed s d) number) b.0 in
    record { there = omega (arith, lt_is _ _ c.1); made = omega (arith, p.below); usable = a.1 }
  where
    lt_is : (a b : ℕ) → nat_lt a b ≡ true → a < b
    lt_is a b e = grind (arith, common_steps)

pub found_name_is_named : (s : EncoderHistory) (d : Draft) (f : Field) (number : ℕ) → found_name s d f ≡ Some number → IsNamed s d.inserted number
found_name_is_named s d f number h =
    let p = newest_from-passes _ 1 d.inserted number h in
    let a = and_parts _ (is_usable s number) p.test_is in
    let b = and_parts (bytes_eq p.entry.name f.name) (nat_lt (unnamed s d) number) a.0 in
    record { there = omega (arith, lt_is _ _ b.1); made = omega (arith, p.below); usable = a.1 }
  where
    lt_is : (a b : ℕ) → nat_lt a b ≡ true → a < b
    lt_is a b e = grind (arith, common_steps)

literal_is_draft : (s : EncoderHistory) (d : Draft) (f : Field) → IsDraft s d → IsDraft s (add_literal s d f)
literal_is_draft s d f h =
    chosen (IsDraft s) (static_name f.name) _ _ (λ index e. line_is_draft s d _ [] h tt) (λ none.
    chosen (IsDraft s) (found_name s d f) _ _ (λ number e. line_is_draft s d _ (number ∷ []) h (found_name_is_named s d f number e, tt)) (λ none.
    line_is_draft s d _ [] h tt))

pub either_way : {X : Type 0} (P : X → Type 0) (b : Bool) (x y : X) → (b ≡ true → P x) → P y → P (if b then x else y)
either_way P true x y p q = p refl
either_way P false x y p q = q

line_of_field_is_draft : (s : EncoderHistory) (d : Draft) (f : Field) → IsDraft s d → IsDraft s (write_field s d f)
line_of_field_is_draft s d f h =
    either_way (IsDraft s) f.never_indexed _ _ (λ never. literal_is_draft s d f h) (
    chosen (IsDraft s) (static_field f) _ _ (λ index e. line_is_draft s d _ [] h tt) (λ none.
    chosen (IsDraft s) (found s d f) _ _ (λ number e. line_is_draft s d _ (number ∷ []) h (found_is_named s d f number e, tt)) (λ none.
    either_way (IsDraft s) (is_insertable s d f) _ _ (λ e. inserted_is_draft s d f h (may_insert s d f e) (may_block s d f e)) (literal_is_draft s d f h))))

-- what holds of a draft holds of it with a field, where it goes through a line and an insertion for later sections
pub with_field : (P : Draft → Type 0) (s : EncoderHistory) (d : Draft) (f : Field) → P (write_field s d f) → ((e : Draft) → is_insertable_ahead s (marks_after s d.lines) e f ≡ true → P e → P (add_ahead s e f)) → P (add_field s d f)
with_field P s d f h ahead = either_way P (is_insertable_ahead s (marks_after s d.lines) (write_field s d f) f) _ _ (λ e. ahead (write_field s d f) e h) h

field_is_draft : (s : EncoderHistory) (d : Draft) (f : Field) → IsDraft s d → IsDraft s (add_field s d f)
field_is_draft s d f h = with_field (IsDraft s) s d f (line_of_field_is_draft s d f h) (λ e test k. ahead_is_draft s e f k (may_insert_ahead s (marks_after s d.lines) e f test))

fields_are_draft : (s : EncoderHistory) (d : Draft) (fields : List Field) → IsDraft s d → IsDraft s (fold (add_field s) d fields)
fields_are_draft s d [] h = h
fields_are_draft s d (f ∷ fields) h = fields_are_draft s (add_field s d f) fields (field_is_draft s d f h)

-- Each section under way names entries that are there, and evicts none that a tracked section names or that isn't known.
pub draft_is_draft : (s : EncoderHistory) (fields : List Field) → AllByRecursion (λ number. evictions s.capacity s.inserted < number) (referenced_entries s) → IsDraft s (draft_of s fields)
draft_is_draft s fields held =
    fields_are_draft s (first_draft s) (guarded_fields s fields)
    (record { more = []; begins = sym (append-nil s.inserted); references = tt; present = held; evictions_known = omega arith; small = λ k. k })
