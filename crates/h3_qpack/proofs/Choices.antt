-- Each choice of the encoder's rule, made by what is kept.
use Rattle.std.proofs.Common.{◌≡◌, ℕ, ◌+◌, ◌-◌, ◌^◌, ◌<◌, ◌≤◌, Bool, true, false, not, ◌&&◌, ◌||◌, List, [], ◌∷◌, ◌++◌, length, min, max, refl, sym, ◌∙◌, ap, arith, length-append, nat_le, nat_lt, bytes_eq, if◌then◌else◌, map, fold}
use Rattle.std.specs.List.{AllByRecursion, list_all, flat_map}
use Rattle.std.proofs.lemmas.Grind.{common_steps}
use Rattle.std.proofs.lemmas.Bool.{and_parts}
use Rattle.h3_field.specs.Field.{Field, field_eq, field_size, section_size}
use Rattle.h3_table.specs.Table.{table, evictions, newest}
use Rattle.h3_table.specs.TableState.{evicted, newest_in, with_entry}
use Rattle.h3_qpack.specs.EncoderHistory.{EncoderHistory, UnacknowledgedSection, blocks_out, referenced_entries}
use Rattle.h3_qpack.specs.SectionEncoding.{Draft, is_usable, draining, unnamed, held, found, found_name, is_worth, is_worth_to, remaining, evictions_by, finds_room}
use Rattle.h3_table.specs.Tracking.{is_free_to}
use Rattle.h3_table.specs.declared.tracking.TrackedSection.{TrackedSection}
use Rattle.h3_table.specs.InOrder.{in_order}
use Rattle.h3_table.specs.InOrderLaws.{all_in_order}
use Rattle.h3_qpack.specs.EncoderState.{EncoderState, encoder_state, tracked_section, least, MayInsertInto}
use Rattle.h3_qpack.specs.Drafting.{is_worth_in}
use Rattle.h3_table.specs.TableLaws.{evictions-append}
use Rattle.h3_qpack.proofs.Newest.{above_only, newest_from-above}
use Rattle.h3_qpack.proofs.TableStates.{table_state_of, with_entry-held, newest_from-same, search_held}

-- the greatest number that may be named, of those up to a number
abbrev pub usable_to : EncoderHistory → ℕ → ℕ
usable_to s number = if nat_lt (blocks_out s) s.limit then number else min number s.known_received

usable_is : (s : EncoderHistory) (most n : ℕ) → nat_le n (usable_to s most) ≡ (nat_le n most && is_usable s n)
usable_is s most n = by_test (nat_lt (blocks_out s) s.limit) refl
  where
    and_true : (b : Bool) → (b && true) ≡ b
    and_true true = refl
    and_true false = refl

    or_true : (b : Bool) → (b || true) ≡ true
    or_true true = refl
    or_true false = refl

    or_false : (b : Bool) → (b || false) ≡ b
    or_false true = refl
    or_false false = refl

    by_test : (b : Bool) → nat_lt (blocks_out s) s.limit ≡ b → nat_le n (if b then most else min most s.known_received) ≡ (nat_le n most && (nat_le n s.known_received || b))
    by_test true e = rw (or_true (nat_le n s.known_received), and_true (nat_le n most)) refl
    by_test false e = rw (or_false (nat_le n s.known_received)) (grind (arith, common_steps))

lt_false : (a b : ℕ) → b ≤ a → nat_lt a b ≡ false
lt_false a b h = grind (arith, common_steps)

le_true : (a b : ℕ) → a ≤ b → nat_le a b ≡ true
le_true a b h = grind (arith, common_steps)

lt_true : (a b : ℕ) → a < b → nat_lt a b ≡ true
lt_true a b h = grind (arith, common_steps)

and_false : (b : Bool) → (b && false) ≡ false
and_false true = refl
and_false false = refl

both_above : (a b n : ℕ) → nat_lt (max a b) n ≡ (nat_lt a n && nat_lt b n)
both_above a b n = grind (arith, common_steps)

-- an equal entry that is older than the section
pub held_held : (s : EncoderHistory) (d : Draft) (f : Field) → newest_in (table_state_of s.capacity d.inserted) (λ e. field_eq e f) (evictions s.capacity d.inserted) (usable_to s (length s.inserted)) ≡ held s d f
held_held s d f = search_held s.capacity d.inserted (λ e. field_eq e f) (evictions s.capacity d.inserted) (usable_to s (length s.inserted)) _
    (λ n e le. rw (lt_false _ n le, and_false (field_eq e f)) refl)
    (λ n e low high. rw (lt_true _ n low, usable_is s (length s.inserted) n) (same (field_eq e f) (nat_le n (length s.inserted)) (is_usable s n)))
  where
    same : (a b c : Bool) → ((b && c) && a) ≡ (((a && true) && b) && c)
    same true true c = and_right c
      where
        and_right : (c : Bool) → (c && true) ≡ c
        and_right true = refl
        and_right false = refl
    same true false c = refl
    same false true true = refl
    same false true false = refl
    same false false c = refl

-- what is found is held, and does not drain
pub found_above : (s : EncoderHistory) (d : Draft) (f : Field) → found s d f ≡ above_only (draining s) (held s d f)
found_above s d f =
    newest_from-same _ _ 1 d.inserted (λ n e low high. rw (both_above (draining s) (evictions s.capacity d.inserted) n) (same (field_eq e f) (nat_lt (draining s) n) (nat_lt (evictions s.capacity d.inserted) n) (nat_le n (length s.inserted)) (is_usable s n)))
    ∙ newest_from-above (λ number entry. field_eq entry f && nat_lt (evictions s.capacity d.inserted) number && nat_le number (length s.inserted) && is_usable s number) (draining s) 1 d.inserted
  where
    same : (a x y b c : Bool) → (((a && (x && y)) && b) && c) ≡ (x && (((a && y) && b) && c))
    same true true y b c = refl
    same true false y b c = refl
    same false true y b c = refl
    same false false y b c = refl

-- an entry of the name
pub found_name_held : (s : EncoderHistory) (d : Draft) (f : Field)
    → newest_in (table_state_of s.capacity d.inserted) (λ e. bytes_eq e.name f.name) (unnamed s d) (usable_to s (length d.inserted)) ≡ found_name s d f
found_name_held s d f = search_held s.capacity d.inserted (λ e. bytes_eq e.name f.name) (unnamed s d) (usable_to s (length d.inserted)) _
    (λ n e le. rw (lt_false (unnamed s d) n (omega (arith, le)), and_false (bytes_eq e.name f.name)) refl)
    (λ n e low high. rw (usable_is s (length d.inserted) n, le_true n (length d.inserted) high) (same (bytes_eq e.name f.name) (nat_lt (unnamed s d) n) (is_usable s n)))
  where
    same : (a x c : Bool) → ((x && c) && a) ≡ ((a && x) && c)
    same true true true = refl
    same true true false = refl
    same true false c = refl
    same false true true = refl
    same false true false = refl
    same false false c = refl

-- an entry that remains after the insertion
pub remaining_held : (s : EncoderHistory) (d : Draft) (f : Field) (test : Field → Bool)
    → newest_in (table_state_of s.capacity d.inserted) test (evictions_by s d f) (length d.inserted) ≡ remaining s d f test
remaining_held s d f test = search_held s.capacity d.inserted test (evictions_by s d f) (length d.inserted) _
    (λ n e le. rw (lt_false (evictions_by s d f) n (omega (arith, le, evictions-append s.capacity d.inserted (f ∷ [])))) refl)
    (λ n e low high. rw (le_true n (length d.inserted) high) (same (nat_lt (evictions_by s d f) n) (test e)))
  where
    same : (a b : Bool) → ((a && true) && b) ≡ (a && b)
    same true b = refl
    same false b = refl

-- an entry of the table that passes
pub present_held : (s : EncoderHistory) (d : Draft) (test : Field → Bool)
    → newest_in (table_state_of s.capacity d.inserted) test (evictions s.capacity d.inserted) (length d.inserted)
    ≡ newest (λ number entry. test entry && nat_lt (evictions s.capacity d.inserted) number) d.inserted
present_held s d test = search_held s.capacity d.inserted test (evictions s.capacity d.inserted) (length d.inserted) _
    (λ n e le. rw (lt_false _ n le, and_false (test e)) refl)
    (λ n e low high. rw (lt_true _ n low, le_true n (length d.inserted) high) (same (test e)))
  where
    same : (a : Bool) → a ≡ (a && true)
    same true = refl
    same false = refl

-- A field is worth an entry by what is kept where it is by the rule.
pub worth_held : (s : EncoderHistory) (d : Draft) (marks : List ℕ) (drains : Bool) (f : Field) → is_worth_in (encoder_state (record s { inserted = d.inserted; marks = marks })) drains f ≡ is_worth_to s drains marks d f
worth_held s d marks drains f =
    ap (λ name. is_worth s.choices.economical drains (section_size (table s.capacity d.inserted)) s.capacity name marks f) (present_held s d (λ e. bytes_eq e.name f.name))

-- what the section so far names at least, and no entry has a number as great where it names none
abbrev pub oldest_of : List ℕ → ℕ
oldest_of ns = fold min (2 ^ 64 - 1) ns

-- sections that are tracked name entries
abbrev pub NameEntries : EncoderHistory → Type 0
NameEntries s = AllByRecursion (λ t. 0 < least t.references) s.tracked

least_all : (n m : ℕ) (ns : List ℕ) → list_all (λ k. nat_lt n k) (m ∷ ns) ≡ nat_lt n (fold min m ns)
least_all n m [] = and_true (nat_lt n m)
  where
    and_true : (b : Bool) → (b && true) ≡ b
    and_true true = refl
    and_true false = refl
least_all n m (k ∷ ns) =
    join (nat_lt n m) (nat_lt n k) (list_all (λ k. nat_lt n k) ns)
    ∙ ap (λ b. b && list_all (λ k. nat_lt n k) ns) least_two ∙ least_all n (min m k) ns
  where
    join : (a b c : Bool) → (a && (b && c)) ≡ ((a && b) && c)
    join true b c = refl
    join false b c = refl

    least_two : (nat_lt n m && nat_lt n k) ≡ nat_lt n (min m k)
    least_two = grind (arith, common_steps)

list_all-append : (n : ℕ) (xs ys : List ℕ) → list_all (λ k. nat_lt n k) (xs ++ ys) ≡ (list_all (λ k. nat_lt n k) xs && list_all (λ k. nat_lt n k) ys)
list_all-append n [] ys = refl
list_all-append n (x ∷ xs) ys = ap (λ b. nat_lt n x && b) (list_all-append n xs ys) ∙ join (nat_lt n x) _ _
  where
    join : (a b c : Bool) → (a && (b && c)) ≡ ((a && b) && c)
    join true b c = refl
    join false b c = refl

stored_free : (n : ℕ) (ts : List UnacknowledgedSection) → AllByRecursion (λ t. 0 < least t.references) ts → list_all (λ k. nat_lt n k) (flat_map (λ t. t.references) ts) ≡ is_free_to n (map tracked_section ts)
stored_free n [] h = refl
stored_free n (t ∷ ts) h =
    list_all-append n t.references (flat_map (λ (t : UnacknowledgedSection). t.references) ts)
    ∙ ap (λ b. list_all (λ k. nat_lt n k) t.references && b) (stored_free n ts h.1)
    ∙ ap (λ b. b && is_free_to n (map tracked_section ts)) (own t.references h.0)
  where
    own : (ns : List ℕ) → 0 < least ns → list_all (λ k. nat_lt n k) ns ≡ nat_lt n (least ns)
    own [] above = absurd (omega (arith, above))
    own (m ∷ ns) above = least_all n m ns

pub tracked_free : (n : ℕ) (ts : List UnacknowledgedSection) → AllByRecursion (λ t. 0 < least t.references) ts
    → list_all (λ k. nat_lt n k) (flat_map (λ t. t.references) ts) ≡ is_free_to n (in_order (λ t. t.stream) (map tracked_section ts))
tracked_free n ts h = stored_free n ts h ∙ sym (all_in_order (λ (t : TrackedSection). nat_lt n t.oldest) (λ t. t.stream) (map tracked_section ts))

pub drafted_free : (n : ℕ) (ns : List ℕ) → n < 2 ^ 64 - 1 → list_all (λ k. nat_lt n k) ns ≡ nat_lt n (oldest_of ns)
drafted_free n ns small = front (lt_true n (2 ^ 64 - 1) small) ∙ least_all n (2 ^ 64 - 1) ns
  where
    front : nat_lt n (2 ^ 64 - 1) ≡ true → list_all (λ k. nat_lt n k) ns ≡ list_all (λ k. nat_lt n k) ((2 ^ 64 - 1) ∷ ns)
    front e = sym (ap (λ b. b && list_all (λ k. nat_lt n k) ns) e)

-- There is room for a field exactly where what is kept allows it.
pub room_held : (s : EncoderHistory) (d : Draft) (f : Field) (t : EncoderState) → t.table ≡ table_state_of s.capacity d.inserted → t.known_received ≡ s.known_received → t.tracked ≡ in_order (λ u. u.stream) (map tracked_section s.tracked)
    → NameEntries s → length d.inserted < 2 ^ 62 → MayInsertInto t f (oldest_of d.references) → finds_room s d f ≡ true
room_held s d f t table known tracked named small h =
    let fits : field_size f ≤ s.capacity = omega (arith, h.fits, ap (λ k. k.capacity) table) in
    let after : evicted (with_entry t.table f) ≡ evictions_by s d f = ap (λ k. evicted (with_entry k f)) table ∙ ap evicted (with_entry-held s.capacity d.inserted f fits) in
    let before : evicted t.table ≡ evictions s.capacity d.inserted = ap evicted table in
    let few = lt_true (length d.inserted + 1) (2 ^ 62) (omega (arith, h.few, ap (λ k. k.inserted) table)) in
    let room = le_true (field_size f) s.capacity fits in
    let received = le_true (evictions_by s d f) (max s.known_received (evictions s.capacity d.inserted)) (omega (arith, h.known, after, before, known)) in
    let free : list_all (λ k. nat_lt (evictions_by s d f) k) (referenced_entries s) ≡ true =
    tracked_free (evictions_by s d f) s.tracked named ∙ ap (is_free_to (evictions_by s d f)) (sym tracked) ∙ ap (λ n. is_free_to n t.tracked) (sym after) ∙ h.free in
    let own : list_all (λ k. nat_lt (evictions_by s d f) k) d.references ≡ true =
    drafted_free (evictions_by s d f) d.references (omega (arith, small, length-append d.inserted (f ∷ []))) ∙ lt_true (evictions_by s d f) (oldest_of d.references) (omega (arith, h.own, after)) in
    all f.never_indexed _ _ _ _ h.plain few room received (list_all-append (evictions_by s d f) (referenced_entries s) d.references ∙ both _ _ free own)
  where
    both : (a b : Bool) → a ≡ true → b ≡ true → (a && b) ≡ true
    both a b x y = rw (x, y) refl

    all : (n a b c d : Bool) → n ≡ false → a ≡ true → b ≡ true → c ≡ true → d ≡ true → (not n && a && b && c && d) ≡ true
    all n a b c d v w x y z = rw (v, w, x, y, z) refl

is_plain : (b : Bool) → not b ≡ true → b ≡ false
is_plain true h = absurd (cc)
is_plain false h = refl

is_le : (a b : ℕ) → nat_le a b ≡ true → a ≤ b
is_le a b h = grind (arith, common_steps)

is_lt : (a b : ℕ) → nat_lt a b ≡ true → a < b
is_lt a b h = grind (arith, common_steps)

pub held_room : (s : EncoderHistory) (d : Draft) (f : Field) (t : EncoderState) → t.table ≡ table_state_of s.capacity d.inserted → t.known_received ≡ s.known_received → t.tracked ≡ in_order (λ u. u.stream) (map tracked_section s.tracked)
    → NameEntries s → length d.inserted < 2 ^ 62 → finds_room s d f ≡ true → MayInsertInto t f (oldest_of d.references)
held_room s d f t table known tracked named small h =
    let a = and_parts _ (list_all (λ number. nat_lt (evictions_by s d f) number) (referenced_entries s ++ d.references)) h in
    let b = and_parts _ (nat_le (evictions_by s d f) (max s.known_received (evictions s.capacity d.inserted))) a.0 in
    let c = and_parts _ (nat_le (field_size f) s.capacity) b.0 in
    let e = and_parts (not f.never_indexed) (nat_lt (length d.inserted + 1) (2 ^ 62)) c.0 in
    let named_all = and_parts _ _ (sym (list_all-append (evictions_by s d f) (referenced_entries s) d.references) ∙ a.1) in
    let fits = is_le (field_size f) s.capacity c.1 in
    let after : evicted (with_entry t.table f) ≡ evictions_by s d f = ap (λ k. evicted (with_entry k f)) table ∙ ap evicted (with_entry-held s.capacity d.inserted f fits) in
    let before : evicted t.table ≡ evictions s.capacity d.inserted = ap evicted table in
    record {
      plain = is_plain f.never_indexed e.0;
      few = omega (arith, is_lt _ _ e.1, ap (λ k. k.inserted) table);
      fits = omega (arith, fits, ap (λ k. k.capacity) table);
      known = omega (arith, is_le _ _ b.1, after, before, known);
      free = ap (λ n. is_free_to n t.tracked) after ∙ ap (is_free_to (evictions_by s d f)) tracked ∙ sym (tracked_free (evictions_by s d f) s.tracked named) ∙ named_all.0;
      own = omega (arith, after, is_lt (evictions_by s d f) (oldest_of d.references) (sym (drafted_free (evictions_by s d f) d.references (omega (arith, small, length-append d.inserted (f ∷ [])))) ∙ named_all.1));
    }
