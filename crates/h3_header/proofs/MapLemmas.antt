-- A map is what reading its own fields makes, one after the other.
use Rattle.std.proofs.Common.{◌≡◌, ◌≢◌, ℕ, suc, ◌+◌, ◌<◌, ◌≤◌, ◌^◌, Bool, true, false, List, [], ◌∷◌, ◌++◌, map, length, fold, bytes_eq, Option, Some, refl, sym, ap, ◌∙◌, subst, inl, inr, arith, ap₂, append_assoc, append-nil, length-append}
use Rattle.std.specs.Prelude.{All}
use Rattle.std.proofs.lemmas.Bool.{cases_Bool, cond-true, cond-false}
use Rattle.std.proofs.lemmas.List.{map-append, length-map, get_or_at, get_or_append_left, get_or-append-add}
use Rattle.std.proofs.lemmas.List.Sums.{sum_by-cons, sum_by-append}
use Rattle.std.proofs.lemmas.List.Elements.{All-tail}
use Rattle.std.proofs.lemmas.Slice.Eq.{bytes_eq-Decides}
use Rattle.http_header.specs.Token.{IsToken, is_token_byte}
use Rattle.http_header.specs.FieldName.{IsHeaderName}
use Rattle.http_header.specs.FieldValue.{FieldValue, plain_value, IsFieldValue}
use Rattle.http_header.specs.HeaderMap.{Entry, Entries, entry_at, pairs, owned_pairs, pairs_without_name, append, value_count, ContainsKey, IsUnique, IsHeaderMap, RefusesAppend}
use Rattle.http_header.proofs.PlacesLemmas.{ContainsKey-from_entry}
use Rattle.h3_field.specs.Field.{Field, plain_field}
use Rattle.h3_header.specs.Head.{Head, to_field, regular_fields}
use Rattle.h3_header.specs.Left.{owned_fields}
use Rattle.h3_header.specs.Reads.{kind_of, AcceptsAt, Accepts, AcceptsAll, with_kind, with_field}
use Rattle.h3_header.specs.ReadsBack.{IsPair, unmarked}
use Rattle.h3_header.specs.declared.headers.kind.FieldKind.TheVariants.{Regular}

-- the fields can be read into a, and make b
pub record Reading (any : Bool) (a : Head) (fields : List Field) (b : Head) : Type 0 where
  pub accepts : AcceptsAll any a fields
  pub makes : fold with_field a fields ≡ b

pub Reading-none : (any : Bool) (a : Head) → Reading any a [] a
unfolding AcceptsAll
Reading-none any a = record { accepts = tt; makes = refl }

pub Reading-one : (any : Bool) (a b : Head) (f : Field) (fields : List Field) → Accepts any a f → Reading any (with_field a f) fields b → Reading any a (f ∷ fields) b
unfolding AcceptsAll
Reading-one any a b f fields ok r = record { accepts = (ok, r.accepts); makes = r.makes }

pub Reading-append : (any : Bool) (a b c : Head) (xs ys : List Field) → Reading any a xs b → Reading any b ys c → Reading any a (xs ++ ys) c
unfolding AcceptsAll
Reading-append any a b c [] ys r s = subst (λ h. Reading any h ys c) (sym r.makes) s
Reading-append any a b c (x ∷ xs) ys r s =
    Reading-one any a c x (xs ++ ys) r.accepts.0 (Reading-append any (with_field a x) b c xs ys (record { accepts = r.accepts.1; makes = r.makes }) s)

-- the name is none of the list's
Absent : Entries FieldValue → List ℕ → Type 0
Absent [] name = Unit {0}
Absent (e ∷ m) name = (bytes_eq e.0 name ≡ false) × Absent m name

-- no name of the second list is among the first's
Away : Entries FieldValue → Entries FieldValue → Type 0
Away done [] = Unit {0}
Away done (e ∷ m) = Absent done e.0 × Away done m

-- the name is apart from each of the list's
Apart : List ℕ → Entries FieldValue → Type 0
Apart name [] = Unit {0}
Apart name (e ∷ m) = (bytes_eq name e.0 ≡ false) × Apart name m

Absent-append : (done : Entries FieldValue) (e : Entry FieldValue) (name : List ℕ) → Absent done name → bytes_eq e.0 name ≡ false → Absent (done ++ e ∷ []) name
unfolding Absent
Absent-append [] e name a h = (h, tt)
Absent-append (d ∷ done) e name a h = (a.0, Absent-append done e name a.1 h)

Away-append : (done m : Entries FieldValue) (e : Entry FieldValue) → Away done m → Apart e.0 m → Away (done ++ e ∷ []) m
unfolding Away Apart
Away-append done [] e a h = tt
Away-append done (x ∷ m) e a h = (Absent-append done e x.0 a.0 h.0, Away-append done m e a.1 h.1)

Away-nil : (m : Entries FieldValue) → Away [] m
unfolding Away Absent
Away-nil [] = tt
Away-nil (e ∷ m) = (tt, Away-nil m)

differ : (a b : List ℕ) → a ≢ b → bytes_eq a b ≡ false
differ a b n = elim (cases_Bool (bytes_eq a b)) [ inl t ↦ absurd (n ((bytes_eq-Decides a b).0 t)) | inr f ↦ f ]

Apart-from : (name : List ℕ) (m : Entries FieldValue) → ((k : ℕ) → k < length m → name ≢ (entry_at m k).0) → Apart name m
unfolding Apart
Apart-from name [] h = tt
Apart-from name (e ∷ m) h = (differ name e.0 (h 0 (omega arith)), Apart-from name m (λ k l. h (suc k) (omega arith)))

Apart-from_unique : (e : Entry FieldValue) (m : Entries FieldValue) → IsUnique (e ∷ m) → Apart e.0 m
Apart-from_unique e m unique =
    Apart-from e.0 m (λ k l same. let z : 0 ≡ suc k = unique 0 (suc k) (omega arith) (omega arith) same in omega arith)

IsUnique-rest : (e : Entry FieldValue) (m : Entries FieldValue) → IsUnique (e ∷ m) → IsUnique m
IsUnique-rest e m unique =
    λ i j l k same. let z : suc i ≡ suc j = unique (suc i) (suc j) (omega arith) (omega arith) same in omega arith

-- what `append` does at a name that stands last, and at one that is new
append_last : (done : Entries FieldValue) (name : List ℕ) (values : List FieldValue) (v : FieldValue) → Absent done name
    → append (done ++ (name, values) ∷ []) name v ≡ done ++ (name, values ++ v ∷ []) ∷ []
unfolding Absent
append_last [] name values v a = cond-true _ _ _ ((bytes_eq-Decides name name).1 refl)
append_last (d ∷ done) name values v a = cond-false _ _ _ a.0 ∙ ap (λ m. d ∷ m) (append_last done name values v a.1)

append_new : (done : Entries FieldValue) (name : List ℕ) (v : FieldValue) → Absent done name
    → append done name v ≡ done ++ (name, v ∷ []) ∷ []
unfolding Absent
append_new [] name v a = refl
append_new (d ∷ done) name v a = cond-false _ _ _ a.0 ∙ ap (λ m. d ∷ m) (append_new done name v a.1)

count_append : (done m : Entries FieldValue) → value_count (done ++ m) ≡ value_count done + value_count m
count_append done m = sum_by-append _ done m

count_cons : (e : Entry FieldValue) (m : Entries FieldValue) → value_count (e ∷ m) ≡ length e.1 + value_count m
count_cons e m = sum_by-cons (λ (x : Entry FieldValue). length x.1) e m

-- a header name is no pseudo field's
colon_no_token : (rest : List ℕ) → IsToken (58 ∷ rest) → ⊥
unfolding is_token_byte
colon_no_token rest t = let h : false ≡ true = t.1 0 0 (omega arith) in cc

no_colon : (name rest : List ℕ) → IsToken name → bytes_eq name (58 ∷ rest) ≡ false
no_colon name rest t = differ name (58 ∷ rest) (λ e. colon_no_token rest (subst IsToken e t))

pub kind_of-regular : (name : List ℕ) → IsHeaderName name → kind_of name ≡ Regular
unfolding kind_of
kind_of-regular name h =
    let t = h.0.0 in
    cond-false _ _ _ (no_colon name _ t) ∙ cond-false _ _ _ (no_colon name _ t) ∙ cond-false _ _ _ (no_colon name _ t)
    ∙ cond-false _ _ _ (no_colon name _ t) ∙ cond-false _ _ _ (no_colon name _ t) ∙ cond-false _ _ _ (no_colon name _ t)

-- a value as it is read back
abbrev unmark : FieldValue → FieldValue
unmark v = plain_value v.bytes

-- the values of one name, as fields
abbrev value_fields : List ℕ → List FieldValue → List Field
value_fields name values = map to_field (map (λ v. (name, v)) values)

ValidValues : List FieldValue → Type 0
ValidValues [] = Unit {0}
ValidValues (v ∷ values) = IsFieldValue v.bytes × ValidValues values

ValidEntries : Entries FieldValue → Type 0
ValidEntries [] = Unit {0}
ValidEntries (e ∷ m) = (0 < length e.1) × (IsHeaderName e.0 × (ValidValues e.1 × ValidEntries m))

abbrev pub with_map : Head → Entries FieldValue → Head
with_map h m = record h { regular = m }

module _ (any : Bool) (h : Head) where
  regular_step : (done : Entries FieldValue) (name bytes : List ℕ) (rest : List Field) (b : Head) → IsHeaderName name → IsFieldValue bytes
      → ¬ (RefusesAppend done name) → Reading any (with_map h (append done name (plain_value bytes))) rest b → Reading any (with_map h done) (plain_field name bytes ∷ rest) b
  regular_step done name bytes rest b is_name is_value room r =
      let e = kind_of-regular name is_name in
      Reading-one any _ b (plain_field name bytes) rest
      (subst (λ at. AcceptsAt any at (with_map h done) (plain_field name bytes)) (sym e) (record { name = is_name; value = is_value; room = room }))
      (subst (λ a. Reading any a rest b) (sym (ap (λ at. with_kind at (with_map h done) (plain_field name bytes)) e)) r)

  has_last : (done : Entries FieldValue) (name : List ℕ) (values : List FieldValue) → ContainsKey (done ++ (name, values) ∷ []) name
  has_last done name values =
      ContainsKey-from_entry _ name (length done) (omega (arith, length-append done ((name, values) ∷ [])))
      (ap (λ (e : Entry FieldValue). e.0) (get_or_at done (name, values) [] ([], []) (length done) refl))

  more : (values before : List FieldValue) (done : Entries FieldValue) (name : List ℕ) → Absent done name → IsHeaderName name → ValidValues values
      → value_count done + (length before + length values) < 2 ^ 64
      → Reading any (with_map h (done ++ (name, before) ∷ [])) (value_fields name values) (with_map h (done ++ (name, before ++ map unmark values) ∷ []))
  unfolding ValidValues
  more [] before done name away is_name valid fits =
      subst (λ vs. Reading any (with_map h (done ++ (name, before) ∷ [])) [] (with_map h (done ++ (name, vs) ∷ []))) (sym (append-nil before)) (Reading-none any _)
  more (v ∷ values) before done name away is_name valid fits =
      let counted = count_append done ((name, before) ∷ []) in
      let one = count_cons (name, before) [] in
      regular_step (done ++ (name, before) ∷ []) name v.bytes _ _ is_name valid.0
      (λ refused. elim refused [ inl full ↦ omega arith | inr new ↦ new.0 (has_last done name before) ])
      (subst (λ m. Reading any (with_map h m) (value_fields name values) (with_map h (done ++ (name, before ++ unmark v ∷ map unmark values) ∷ []))) (sym (append_last done name before (unmark v) away))
      (subst (λ vs. Reading any (with_map h (done ++ (name, before ++ unmark v ∷ []) ∷ [])) (value_fields name values) (with_map h (done ++ (name, vs) ∷ []))) (append_assoc before (unmark v ∷ []) (map unmark values))
      (more values (before ++ unmark v ∷ []) done name away is_name valid.1 (omega (arith, length-append before (unmark v ∷ []))))))

  whole : (m done : Entries FieldValue) → Away done m → IsUnique m → ValidEntries m → value_count done + value_count m < 2 ^ 64 → length done + length m ≤ 24576
      → Reading any (with_map h done) (regular_fields m) (with_map h (done ++ unmarked m))
  unfolding ValidEntries ValidValues Away
  whole [] done away unique valid fits few =
      subst (λ q. Reading any (with_map h done) [] (with_map h q)) (sym (append-nil done)) (Reading-none any _)
  whole ((name, []) ∷ m) done away unique valid fits few = absurd (omega (arith, valid.0))
  whole ((name, v ∷ values) ∷ m) done away unique valid fits few =
      let counted = count_cons (name, v ∷ values) m in
      let e : Entry FieldValue = (name, unmark v ∷ map unmark values) in
      let after = count_append done (e ∷ []) in
      let one = count_cons e [] in
      let same = length-map values unmark in
      subst (λ fields. Reading any (with_map h done) (plain_field name v.bytes ∷ fields) (with_map h (done ++ e ∷ unmarked m)))
      (sym (map-append to_field (map (λ x. (name, x)) values) (pairs m)))
      (regular_step done name v.bytes _ _ valid.1.0 valid.1.1.0.0
      (λ refused. elim refused [ inl full ↦ omega arith | inr new ↦ elim new.1 [ inl many ↦ omega arith | inr full ↦ omega arith ] ])
      (subst (λ q. Reading any (with_map h q) (value_fields name values ++ regular_fields m) (with_map h (done ++ e ∷ unmarked m))) (sym (append_new done name (unmark v) away.0))
      (subst (λ q. Reading any (with_map h (done ++ (name, unmark v ∷ []) ∷ [])) (value_fields name values ++ regular_fields m) (with_map h q)) (append_assoc done (e ∷ []) (unmarked m))
      (Reading-append any _ _ _ (value_fields name values) (regular_fields m)
      (more values (unmark v ∷ []) done name away.0 valid.1.0 valid.1.1.0.1 (omega arith))
      (whole m (done ++ e ∷ []) (Away-append done m e away.1 (Apart-from_unique (name, v ∷ values) m unique)) (IsUnique-rest (name, v ∷ values) m unique) valid.1.1.1
      (omega arith) (omega (arith, length-append done (e ∷ []))))))))

same_values : (name : List ℕ) (values : List FieldValue) → value_fields name (map unmark values) ≡ value_fields name values
same_values name [] = refl
same_values name (v ∷ values) = ap (λ r. plain_field name v.bytes ∷ r) (same_values name values)

pub regular_fields-unmarked : (m : Entries FieldValue) → regular_fields (unmarked m) ≡ regular_fields m
regular_fields-unmarked [] = refl
regular_fields-unmarked (e ∷ m) =
    map-append to_field (map (λ v. (e.0, v)) (map unmark e.1)) (pairs (unmarked m))
    ∙ ap₂ (λ x y. x ++ y) (same_values e.0 e.1) (regular_fields-unmarked m)
    ∙ sym (map-append to_field (map (λ v. (e.0, v)) e.1) (pairs m))

-- the parts of a fact on each element
All-left : (P : List ℕ × FieldValue → Type 0) (xs ys : List (List ℕ × FieldValue)) → All P (xs ++ ys) → All P xs
All-left P xs ys all i d l = subst P (get_or_append_left xs ys d i l) (all i d (omega (arith, length-append xs ys)))

All-right : (P : List ℕ × FieldValue → Type 0) (xs ys : List (List ℕ × FieldValue)) → All P (xs ++ ys) → All P ys
All-right P xs ys all i d l = subst P (get_or-append-add xs ys i d) (all (length xs + i) d (omega (arith, length-append xs ys)))

ValidValues-from : (name : List ℕ) (values : List FieldValue) → All IsPair (map (λ v. (name, v)) values) → ValidValues values
unfolding ValidValues
ValidValues-from name [] all = tt
ValidValues-from name (v ∷ values) all = ((all 0 (name, v) (omega arith)).1, ValidValues-from name values (All-tail IsPair (name, v) _ all))

ValidEntries-from : (m : Entries FieldValue) → All (λ e. 0 < length e.1) m → All IsPair (pairs m) → ValidEntries m
unfolding ValidEntries
ValidEntries-from [] filled all = tt
ValidEntries-from ((name, []) ∷ m) filled all = absurd (omega (arith, filled 0 ([], []) (omega arith)))
ValidEntries-from ((name, v ∷ values) ∷ m) filled all =
    let here = All-left IsPair (map (λ x. (name, x)) (v ∷ values)) (pairs m) all in (
      filled 0 ([], []) (omega arith),
      (
        (here 0 (name, v) (omega arith)).0,
        (
          ValidValues-from name (v ∷ values) here,
          ValidEntries-from m (All-tail (λ e. 0 < length e.1) (name, v ∷ values) m filled) (All-right IsPair (map (λ x. (name, x)) (v ∷ values)) (pairs m) all),
        ),
      ),
    )

-- the fields of a map are read into that map, where no value is sensitive
pub Reading-map : (any : Bool) (h : Head) (m : Entries FieldValue) → IsHeaderMap m → All IsPair (pairs m)
    → Reading any (with_map h []) (regular_fields m) (with_map h (unmarked m))
Reading-map any h m map_is all =
    whole any h m [] (Away-nil m) map_is.unique (ValidEntries-from m map_is.filled all) (omega (arith, map_is.values_fit)) (omega (arith, map_is.names_fit))

owned_tail : (name : List ℕ) (values : List FieldValue) (rest : List (Option (List ℕ) × FieldValue))
    → owned_fields (Some name) (pairs_without_name values ++ rest) ≡ value_fields name values ++ owned_fields (Some name) rest
owned_tail name [] rest = refl
owned_tail name (v ∷ values) rest = ap (λ r. plain_field name v.bytes ∷ r) (owned_tail name values rest)

-- a map that was taken apart gives the fields in the map's order
pub owned_fields-owned_pairs : (last : Option (List ℕ)) (m : Entries FieldValue) → owned_fields last (owned_pairs m) ≡ regular_fields m
owned_fields-owned_pairs last [] = refl
owned_fields-owned_pairs last ((name, []) ∷ m) = owned_fields-owned_pairs last m
owned_fields-owned_pairs last ((name, v ∷ values) ∷ m) =
    ap (λ r. plain_field name v.bytes ∷ r)
    (owned_tail name values (owned_pairs m) ∙ ap (λ r. value_fields name values ++ r) (owned_fields-owned_pairs (Some name) m)
    ∙ sym (map-append to_field (map (λ x. (name, x)) values) (pairs m)))
