-- What the hashes find is what a search finds.
use Rattle.std.proofs.Common.{◌≡◌, ◌==◌, ℕ, zero, suc, ◌+◌, ◌<◌, ◌≤◌, ◌⊎◌, nat_lt, bytes_eq, Bool, cond, true, false, not, ◌&&◌, List, [], ◌∷◌, length, Option, Some, None, refl, ap, sym, subst, ◌∙◌, arith, inl, inr}
use Rattle.std.specs.List.{slice_get, position_or_len}
use Rattle.std.proofs.lemmas.Bool.{and_parts, eqb-true, leb-true, ltb-true, cases_eq, cases_lt, le-ltb, lt-ltb, false≢true}
use Rattle.std.proofs.lemmas.Slice.Eq.{bytes_eq-Decides}
use Rattle.h3_huffman.specs.PayloadLaws.{bytes_same}
use Rattle.h3_field.specs.Field.{Field, plain_field, field_eq}
use Rattle.h3_field.specs.FieldLaws.{same_field}
use Rattle.h3_field.specs.StaticTable.{static_name, static_field, static_table, NamesEntry}
use Rattle.h3_field.specs.StaticTableLaws.{table_length}
use Rattle.h3_field.specs.StaticHash.{name_hash, field_hash, slot_of_field, is_some_of, is_name_found, are_names_found, all_names, is_field_found, are_fields_found, all_fields, are_entries}
use Rattle.h3_field.specs.StaticSlots.{name_slot, name_of, name_start, name_part, field_slot, value_of, value_start, value_part, are_places}

rows_found : are_names_found name_slot name_of static_table ≡ true
unfolding name_slot name_of name_start name_part static_table static_name
rows_found = refl

names_found : all_names name_slot name_of 99 ≡ true
unfolding name_slot name_of name_start name_part static_table static_name
names_found = refl

entries_found : are_fields_found field_slot name_of value_of static_table ≡ true
unfolding field_slot name_of name_start name_part value_of value_start value_part static_table
entries_found = refl

fields_found : all_fields field_slot name_of value_of 99 ≡ true
unfolding field_slot name_of name_start name_part value_of value_start value_part static_table static_field
fields_found = refl

table_is : are_entries name_of value_of 0 static_table ≡ true
unfolding name_of name_start name_part value_of value_start value_part static_table
table_is = refl

some_of : (n : ℕ) (o : Option ℕ) → is_some_of n o ≡ true → o ≡ Some n
some_of n (Some m) h = let e = eqb-true n m h in rw e refl
some_of n None h = absurd (cc)

names_at : (i k : ℕ) → all_names name_slot name_of k ≡ true → i < k → static_name (name_of i) ≡ Some (name_slot (name_hash (name_of i)))
names_at i zero h lt = absurd (omega arith)
names_at i (suc k) h lt =
    let parts = and_parts (is_name_found name_slot (name_of k)) (all_names name_slot name_of k) h in
    elim (cases_eq i k) [
      | inl same ↦ rw same (some_of _ _ parts.0)
      | inr other ↦ names_at i k parts.1 (omega arith)
    ]

abbrev entry_of : ℕ → Field
entry_of i = plain_field (name_of i) (value_of i)

fields_at : (i k : ℕ) → all_fields field_slot name_of value_of k ≡ true → i < k → static_field (entry_of i) ≡ Some (slot_of_field field_slot (entry_of i))
fields_at i zero h lt = absurd (omega arith)
fields_at i (suc k) h lt =
    let parts = and_parts (is_field_found field_slot (entry_of k)) (all_fields field_slot name_of value_of k) h in
    elim (cases_eq i k) [
      | inl same ↦ rw same (some_of _ _ parts.0)
      | inr other ↦ fields_at i k parts.1 (omega arith)
    ]

-- the name at the slot is the one that is looked for
name_match : (name : List ℕ) (slot : ℕ) → slot ≡ name_slot (name_hash name) → slot < 99 → name_of slot ≡ name → Some slot ≡ static_name name
name_match name slot is lt same =
    let at = names_at slot 99 names_found lt in
    rw is (sym (rw same at at))

-- the entry at the slot is the one that is looked for
field_match : (f : Field) (slot : ℕ) → slot ≡ slot_of_field field_slot f → slot < 99 → name_of slot ≡ f.name → value_of slot ≡ f.value → f.never_indexed ≡ false → Some slot ≡ static_field f
field_match f slot is lt same value plain =
    let flag = sym plain in
    let e : entry_of slot ≡ f = λ i. record { name = same i; value = value i; never_indexed = flag i } in
    let at = subst (λ (g : Field). static_field g ≡ Some (slot_of_field field_slot g)) e (fields_at slot 99 fields_found lt) in
    rw is (sym at)

-- What holds of a name that an entry has.
pub record HasName (name : List ℕ) : Type 0 where
  pub lt : name_slot (name_hash name) < 99
  pub same : name_of (name_slot (name_hash name)) ≡ name
  pub some : 0 < length name

-- What holds of a field that is an entry.
pub record HasField (f : Field) : Type 0 where
  pub lt : slot_of_field field_slot f < 99
  pub same : name_of (slot_of_field field_slot f) ≡ f.name
  pub value : value_of (slot_of_field field_slot f) ≡ f.value
  pub some : 0 < length f.name
  pub plain : f.never_indexed ≡ false

pub two_ways : (b : Bool) → (b ≡ true) ⊎ (b ≡ false)
two_ways true = inl refl
two_ways false = inr refl

look_up : (rows : List Field) (name : List ℕ) → are_names_found name_slot name_of rows ≡ true → position_or_len (λ entry. bytes_eq entry.name name) rows < length rows → HasName name
look_up [] name h some = absurd (omega arith)
look_up (entry ∷ rows) name h some =
    let parts = and_parts _ (are_names_found name_slot name_of rows) h in
    elim (two_ways (bytes_eq entry.name name)) [
      | inl same ↦
          let e : entry.name ≡ name = bytes_same entry.name name same in
          let d = and_parts _ (nat_lt 0 (length entry.name)) parts.0 in
          let c = and_parts _ (bytes_eq (name_of (name_slot (name_hash entry.name))) entry.name) d.0 in
          let b = and_parts (is_name_found name_slot entry.name) (nat_lt (name_slot (name_hash entry.name)) 99) c.0 in
          let here : HasName entry.name = record { lt = ltb-true _ _ b.1; same = bytes_same _ _ c.1; some = ltb-true _ _ d.1 } in
          rw e at here
      | inr other ↦ look_up rows name parts.1 (let less = rw other at some in omega (arith, less))
    ]

-- no entry has the flag
abbrev are_plain : List Field → Bool
are_plain [] = true
are_plain (entry ∷ rows) = not entry.never_indexed && are_plain rows

table_plain : are_plain static_table ≡ true
unfolding static_table
table_plain = refl

is_plain : (b : Bool) → not b ≡ true → b ≡ false
is_plain true h = absurd (cc)
is_plain false h = refl

look_up_field : (rows : List Field) (f : Field) → are_fields_found field_slot name_of value_of rows ≡ true → are_plain rows ≡ true → position_or_len (λ entry. field_eq entry f) rows < length rows → HasField f
look_up_field [] f h plain some = absurd (omega arith)
look_up_field (entry ∷ rows) f h plain some =
    let flags = and_parts (not entry.never_indexed) (are_plain rows) plain in
    let parts = and_parts _ (are_fields_found field_slot name_of value_of rows) h in
    elim (two_ways (field_eq entry f)) [
      | inl same ↦
          let e : entry ≡ f = same_field entry f same in
          let slot = slot_of_field field_slot entry in
          let d = and_parts _ (nat_lt 0 (length entry.name)) parts.0 in
          let c = and_parts _ (bytes_eq (value_of slot) entry.value) d.0 in
          let b = and_parts (nat_lt slot 99) (bytes_eq (name_of slot) entry.name) c.0 in
          let here : HasField entry = record { lt = ltb-true _ _ b.0; same = bytes_same _ _ b.1; value = bytes_same _ _ c.1; some = ltb-true _ _ d.1; plain = is_plain entry.never_indexed flags.0 } in
          rw e at here
      | inr other ↦ look_up_field rows f parts.1 flags.1 (let less = rw other at some in omega (arith, less))
    ]

name_not_found : (name : List ℕ) → (HasName name → ⊥) → None ≡ static_name name
unfolding static_name
name_not_found name h =
    let first = position_or_len (λ (entry : Field). bytes_eq entry.name name) static_table in
    elim (cases_lt first (length static_table)) [
      | inl some ↦ absurd (h (look_up static_table name rows_found some))
      | inr none ↦ rw (le-ltb first (length static_table) none) refl
    ]

field_not_found : (f : Field) → (HasField f → ⊥) → None ≡ static_field f
unfolding static_field
field_not_found f h =
    let first = position_or_len (λ (entry : Field). field_eq entry f) static_table in
    elim (cases_lt first (length static_table)) [
      | inl some ↦ absurd (h (look_up_field static_table f entries_found table_plain some))
      | inr none ↦ rw (le-ltb first (length static_table) none) refl
    ]

places_at : (start : ℕ → ℕ) (end i k : ℕ) → are_places start end k ≡ true → i < k → (start i ≤ start (i + 1)) × (start (i + 1) ≤ end)
places_at start end i zero h lt = absurd (omega arith)
places_at start end i (suc k) h lt =
    let b = and_parts _ (are_places start end k) h in
    let a = and_parts _ _ b.0 in
    elim (cases_eq i k) [
      | inl same ↦ rw same (leb-true _ _ a.0, leb-true _ _ a.1)
      | inr other ↦ places_at start end i k b.1 (omega arith)
    ]

name_places : are_places name_start 1294 99 ≡ true
unfolding name_start
name_places = refl

value_places : are_places value_start 732 99 ≡ true
unfolding value_start
value_places = refl

pub name_place : (i : ℕ) → i < 99 → (name_start i ≤ name_start (i + 1)) × (name_start (i + 1) ≤ 1294)
name_place i lt = places_at name_start 1294 i 99 name_places lt

pub value_place : (i : ℕ) → i < 99 → (value_start i ≤ value_start (i + 1)) × (value_start (i + 1) ≤ 732)
value_place i lt = places_at value_start 732 i 99 value_places lt

entry_from : (k i : ℕ) (rows : List Field) → are_entries name_of value_of k rows ≡ true → are_plain rows ≡ true → i < length rows → slice_get rows i ≡ Some (entry_of (k + i))
entry_from k i [] h plain lt = absurd (omega arith)
entry_from k zero (entry ∷ rows) h plain lt =
    let parts = and_parts (bytes_eq (name_of k) entry.name && bytes_eq (value_of k) entry.value) _ h in
    let both = and_parts (bytes_eq (name_of k) entry.name) (bytes_eq (value_of k) entry.value) parts.0 in
    let name = sym (bytes_same (name_of k) entry.name both.0) in
    let value = sym (bytes_same (value_of k) entry.value both.1) in
    let flag = is_plain entry.never_indexed (and_parts (not entry.never_indexed) (are_plain rows) plain).0 in
    let e : entry ≡ entry_of k = λ j. record { name = name j; value = value j; never_indexed = flag j } in
    let here : k + 0 ≡ k = omega arith in
    rw here (ap (λ x. Some x) e)
entry_from k (suc i) (entry ∷ rows) h plain lt =
    let parts = and_parts (bytes_eq (name_of k) entry.name && bytes_eq (value_of k) entry.value) (are_entries name_of value_of (k + 1) rows) h in
    let e : k + 1 + i ≡ k + suc i = omega arith in
    entry_from (k + 1) i rows parts.1 (and_parts (not entry.never_indexed) (are_plain rows) plain).1 (omega arith) ∙ ap (λ n. Some (entry_of n)) e

pub entry_is : (i : ℕ) (name value : List ℕ) → i < 99 → name ≡ name_of i → value ≡ value_of i → slice_get static_table i ≡ Some (plain_field name value)
entry_is i name value lt n v =
    let e : 0 + i ≡ i = omega arith in
    rw (n, v) (entry_from 0 i static_table table_is table_plain (rw table_length lt) ∙ ap (λ k. Some (entry_of k)) e)

-- the exits of the two searches
not_same : (a b : List ℕ) → true ≡ not (bytes_eq a b) → a ≡ b → ⊥
not_same a b h e =
    let same = (bytes_eq-Decides a b).1 e in
    let different : true ≡ not true = rw same at h in
    false≢true (sym different)

are_same : (a b : List ℕ) → false ≡ not (bytes_eq a b) → a ≡ b
are_same a b h = elim (two_ways (bytes_eq a b)) [
  | inl same ↦ bytes_same a b same
  | inr other ↦ let e : false ≡ not false = rw other at h in absurd (false≢true e)
]

pub name_empty : (name : List ℕ) → true ≡ (length name == 0) → None ≡ static_name name
name_empty name h = name_not_found name (λ has. let none = eqb-true _ _ (sym h) in absurd (omega (arith, has.some, none)))

pub name_free : (name : List ℕ) (hash slot : ℕ) → hash ≡ name_hash name → slot ≡ name_slot hash → 99 ≤ slot → None ≡ static_name name
name_free name hash slot h is le =
    let at : slot ≡ name_slot (name_hash name) = is ∙ ap (λ x. name_slot x) h in
    name_not_found name (λ has. absurd (omega (arith, has.lt, at)))

pub name_other : (name found : List ℕ) (hash slot : ℕ) → hash ≡ name_hash name → slot ≡ name_slot hash → found ≡ name_of slot → true ≡ not (bytes_eq found name) → None ≡ static_name name
name_other name found hash slot h is at ne =
    let slot_is : slot ≡ name_slot (name_hash name) = is ∙ ap (λ x. name_slot x) h in
    name_not_found name (λ has. not_same found name ne (at ∙ ap (λ s. name_of s) slot_is ∙ has.same))

pub name_here : (name found : List ℕ) (hash slot : ℕ) → hash ≡ name_hash name → slot ≡ name_slot hash → slot < 99 → found ≡ name_of slot → false ≡ not (bytes_eq found name) → Some slot ≡ static_name name
name_here name found hash slot h is lt at eq = name_match name slot (is ∙ ap (λ x. name_slot x) h) lt (sym at ∙ are_same found name eq)

-- What the search for a field has computed.
pub record Sought (f : Field) (hash slot : ℕ) : Type 0 where
  pub hash_is : hash ≡ field_hash (name_hash f.name) f.value
  pub slot_is : slot ≡ field_slot hash

at_slot : (f : Field) (hash slot : ℕ) → Sought f hash slot → slot ≡ slot_of_field field_slot f
at_slot f hash slot s = s.slot_is ∙ ap (λ x. field_slot x) s.hash_is

pub field_empty : (f : Field) → true ≡ (length f.name == 0) → None ≡ static_field f
field_empty f h = field_not_found f (λ has. let none = eqb-true _ _ (sym h) in absurd (omega (arith, has.some, none)))

pub field_flagged : (f : Field) → true ≡ f.never_indexed → None ≡ static_field f
field_flagged f h = field_not_found f (λ has. absurd (false≢true (sym has.plain ∙ sym h)))

-- what was found of a name and a value, of the field without the flag that they are of
pub field_plain : (f : Field) (name value : List ℕ) (found : Option ℕ) → found ≡ static_field (plain_field name value) → name ≡ f.name → value ≡ f.value → false ≡ f.never_indexed → found ≡ static_field f
field_plain f name value found is n v flag = is ∙ ap (λ (g : Field). static_field g) (λ i. record { name = n i; value = v i; never_indexed = flag i })

pub field_free : (f : Field) (hash slot : ℕ) → Sought f hash slot → 99 ≤ slot → None ≡ static_field f
field_free f hash slot s le = field_not_found f (λ has. absurd (omega (arith, has.lt, at_slot f hash slot s)))

pub field_other_name : (f : Field) (found : List ℕ) (hash slot : ℕ) → Sought f hash slot → found ≡ name_of slot → true ≡ not (bytes_eq found f.name) → None ≡ static_field f
field_other_name f found hash slot s at ne =
    field_not_found f (λ has. not_same found f.name ne (at ∙ ap (λ x. name_of x) (at_slot f hash slot s) ∙ has.same))

pub field_other_value : (f : Field) (found : List ℕ) (hash slot : ℕ) → Sought f hash slot → found ≡ value_of slot → true ≡ not (bytes_eq found f.value) → None ≡ static_field f
field_other_value f found hash slot s at ne =
    field_not_found f (λ has. not_same found f.value ne (at ∙ ap (λ x. value_of x) (at_slot f hash slot s) ∙ has.value))

pub field_here : (f : Field) (name value : List ℕ) (hash slot : ℕ) → Sought f hash slot → slot < 99 → name ≡ name_of slot → false ≡ not (bytes_eq name f.name) → value ≡ value_of slot → false ≡ not (bytes_eq value f.value) → f.never_indexed ≡ false → Some slot ≡ static_field f
field_here f name value hash slot s lt at eq value_at value_eq plain =
    field_match f slot (at_slot f hash slot s) lt (sym at ∙ are_same name f.name eq) (sym value_at ∙ are_same value f.value value_eq) plain

pub names_entry : (i : ℕ) (name : List ℕ) → i < 99 → name ≡ name_of i → NamesEntry i name
names_entry i name lt n = record { entry = entry_of i; here = entry_is i (name_of i) (value_of i) lt refl refl; name_is = sym n }

later_by : (a b : Bool) (m n : ℕ) → (b ≡ true → a ≡ true) → m ≤ n → cond (not a) (1 + m) 0 ≤ cond (not b) (1 + n) 0
later_by true b m n h k = omega arith
later_by false true m n h k = absurd (false≢true (h refl))
later_by false false m n h k = omega arith

-- what passes fewer passes first no sooner
later : (p q : Field → Bool) (rows : List Field) → ((x : Field) → q x ≡ true → p x ≡ true) → position_or_len p rows ≤ position_or_len q rows
later p q [] h = omega arith
later p q (x ∷ rows) h = later_by (p x) (q x) (position_or_len p rows) (position_or_len q rows) (h x) (later p q rows h)

-- no entry is a field whose name none has
pub no_name_no_field : (f : Field) → static_name f.name ≡ None → static_field f ≡ None
unfolding static_name static_field
no_name_no_field f none =
    let name = position_or_len (λ (entry : Field). bytes_eq entry.name f.name) static_table in
    let first = position_or_len (λ (entry : Field). field_eq entry f) static_table in
    let sooner : name ≤ first = later (λ entry. bytes_eq entry.name f.name) (λ entry. field_eq entry f) static_table (λ entry same. (and_parts _ _ (and_parts _ _ same).1).0) in
    elim (cases_lt name (length static_table)) [
      | inl some ↦ absurd (let never : Some name ≡ None = rw (lt-ltb name (length static_table) some) at none in cc)
      | inr more ↦ rw (le-ltb first (length static_table) (omega (arith, more, sooner))) refl
    ]
