-- The first field of which anything is malformed by itself refuses its list.
use Rattle.std.proofs.Common.{◌≡◌, ℕ, zero, suc, ◌+◌, ◌<◌, ◌≤◌, ◌^◌, nat_le, nat_lt, Bool, true, false, not, ◌&&◌, ◌||◌, bytes_eq, List, [], ◌∷◌, ◌++◌, length, take, get_or, Some, None, refl, ap, sym, subst, ◌∙◌, arith, if◌then◌else◌, length-append, take_all}
use Rattle.std.specs.Prelude.{All}
use Rattle.std.proofs.lemmas.Bool.{lt-leb, ltb-true, ltb-false}
use Rattle.std.proofs.lemmas.List.Sums.{sum_by-cons}
use Rattle.http_header.specs.FieldValue.{FieldValue, plain_value}
use Rattle.http_header.specs.HeaderMap.{Entry, Entries, append, value_count}
use Rattle.h3_field.specs.Field.{Field}
use Rattle.h3_header.specs.BadPart.{bad_part, bad_part_at, refusal_of, AreGood, IsHeadUnlessMany}
use Rattle.h3_header.specs.Head.{Head, trailer_head}
use Rattle.h3_header.specs.HeadRead.{IsHead, IsNone, Name, Value, TooMany, is_name_at, is_value_at, is_full_at, refusal_at, unless_refused, read_from, head_by}
use Rattle.h3_header.specs.HeadTests.{contains_key, is_full_of_values}
use Rattle.h3_header.specs.Reads.{kind_of, with_kind, with_field}
use Rattle.h3_header.proofs.HeadReads.{by_reading}
use Rattle.h3_header.specs.declared.headers.judge.BadPart.{BadPart}
use Rattle.h3_header.specs.declared.headers.judge.BadPart.TheVariants as part
use Rattle.h3_header.specs.declared.headers.kind.FieldKind.{FieldKind}
use Rattle.h3_header.specs.declared.headers.kind.FieldKind.TheVariants.{Method, Scheme, Authority, Path, Status, Protocol, Regular}

-- one more name and one more value at most
record Grows (m n : Entries FieldValue) : Type 0 where
  pub names : length n ≤ length m + 1
  pub values : value_count n ≤ value_count m + 1

appended : (m : Entries FieldValue) (name : List ℕ) (v : FieldValue) → Grows m (append m name v)
appended [] name v = record { names = omega arith; values = omega arith }
appended (e ∷ m) name v = by_name e m name v (bytes_eq e.0 name) refl (appended m name v)
  where
    cons : (x : Entry FieldValue) (n : Entries FieldValue) → value_count (x ∷ n) ≡ length x.1 + value_count n
    cons x n = sum_by-cons (λ (y : Entry FieldValue). length y.1) x n

    by_name : (e : Entry FieldValue) (m : Entries FieldValue) (name : List ℕ) (v : FieldValue) (b : Bool) → bytes_eq e.0 name ≡ b → Grows m (append m name v) → Grows (e ∷ m) (append (e ∷ m) name v)
    by_name e m name v true t h =
        rw t (record { names = omega arith; values = omega (arith, cons e m, cons (e.0, e.1 ++ v ∷ []) m, length-append e.1 (v ∷ [])) })
    by_name e m name v false t h = rw t (record { names = omega (arith, h.names); values = omega (arith, h.values, cons e m, cons e (append m name v)) })

-- a head whose map has room for so many fields more
record HasPlaces (h : Head) (n : ℕ) : Type 0 where
  pub names : length h.regular + n ≤ 24576
  pub values : value_count h.regular + n < 2 ^ 64

one_less : (at : FieldKind) (h : Head) (f : Field) (n : ℕ) → HasPlaces h (suc n) → HasPlaces (with_kind at h f) n
one_less Regular h f n p =
    let g = appended h.regular f.name (plain_value f.value) in
    record { names = omega (arith, g.names, p.names); values = omega (arith, g.values, p.values) }
one_less Method h f n p = record { names = omega (arith, p.names); values = omega (arith, p.values) }
one_less Scheme h f n p = record { names = omega (arith, p.names); values = omega (arith, p.values) }
one_less Authority h f n p = record { names = omega (arith, p.names); values = omega (arith, p.values) }
one_less Path h f n p = record { names = omega (arith, p.names); values = omega (arith, p.values) }
one_less Status h f n p = record { names = omega (arith, p.names); values = omega (arith, p.values) }
one_less Protocol h f n p = record { names = omega (arith, p.names); values = omega (arith, p.values) }

not_full : (at : FieldKind) (h : Head) (f : Field) (n : ℕ) → HasPlaces h (suc n) → is_full_at at h f ≡ false
not_full Regular h f n p = by_tests _ _ (contains_key h.regular f.name) values names
  where
    values : is_full_of_values h.regular ≡ false
    values = lt-leb _ _ (omega (arith, p.values))

    names : nat_le 24576 (length h.regular) ≡ false
    names = lt-leb _ _ (omega (arith, p.names))

    by_tests : (a b has : Bool) → a ≡ false → b ≡ false → (a || (not has && (b || a))) ≡ false
    by_tests false false true x y = refl
    by_tests false false false x y = refl
    by_tests true b has x y = absurd (cc)
    by_tests false true has x y = absurd (cc)
not_full Method h f n p = refl
not_full Scheme h f n p = refl
not_full Authority h f n p = refl
not_full Path h f n p = refl
not_full Status h f n p = refl
not_full Protocol h f n p = refl

bad_by : (name value full : Bool) (p : BadPart) → (if not name then Some part.Name else (if not value then Some part.Value else None)) ≡ Some p
    → (if not name then Some Name else (if not value then Some Value else (if full then Some TooMany else None))) ≡ Some (refusal_of p)
bad_by false value full p e = let same : part.Name ≡ p = cc in ap (λ q. Some (refusal_of q)) same
bad_by true false full p e = let same : part.Value ≡ p = cc in ap (λ q. Some (refusal_of q)) same
bad_by true true full p e = absurd (cc)

refused : (any : Bool) (at : FieldKind) (h : Head) (f : Field) (p : BadPart) → bad_part_at any at f ≡ Some p → refusal_at any at h f ≡ Some (refusal_of p)
refused any at h f p e = bad_by (is_name_at at f.name) (is_value_at any at f.value) (is_full_at at h f) p e

good_by : (name value full : Bool) → (if not name then Some part.Name else (if not value then Some part.Value else None)) ≡ None → full ≡ false
    → (if not name then Some Name else (if not value then Some Value else (if full then Some TooMany else None))) ≡ None
good_by false value full e room = absurd (cc)
good_by true false full e room = absurd (cc)
good_by true true false e room = refl
good_by true true true e room = absurd (cc)

taken : (any : Bool) (at : FieldKind) (h : Head) (f : Field) (n : ℕ) → HasPlaces h (suc n) → bad_part_at any at f ≡ None → refusal_at any at h f ≡ None
taken any at h f n p e = good_by (is_name_at at f.name) (is_value_at any at f.value) (is_full_at at h f) e (not_full at h f n p)

-- among the first n fields, the first bad one is at index i
first_from : (any : Bool) (h : Head) (fields : List Field) (n i : ℕ) (d : Field) (p : BadPart) → HasPlaces h n → i < length (take n fields)
    → All (λ f. bad_part any f ≡ None) (take i (take n fields)) → bad_part any (get_or (take n fields) i d) ≡ Some p → read_from any h fields ≡ IsNone (refusal_of p)
first_from any h [] zero i d p room lt good bad = absurd (omega (arith, lt))
first_from any h [] (suc n) i d p room lt good bad = absurd (omega (arith, lt))
first_from any h (f ∷ fields) zero i d p room lt good bad = absurd (omega (arith, lt))
first_from any h (f ∷ fields) (suc n) zero d p room lt good bad =
    ap (λ o. unless_refused o (read_from any (with_field h f) fields)) (refused any (kind_of f.name) h f p bad)
first_from any h (f ∷ fields) (suc n) (suc i) d p room lt good bad =
    ap (λ o. unless_refused o (read_from any (with_field h f) fields)) (taken any (kind_of f.name) h f n room (good 0 d (omega arith)))
    ∙ first_from any (with_field h f) fields n i d p (one_less (kind_of f.name) h f n room) (omega (arith, lt)) (λ k e less. good (suc k) e (omega (arith, less))) bad

pub first_bad : (any : Bool) (fields : List Field) (i : ℕ) (d : Field) (p : BadPart) → i < length (take 24576 fields)
    → All (λ f. bad_part any f ≡ None) (take i (take 24576 fields)) → bad_part any (get_or (take 24576 fields) i d) ≡ Some p → head_by any fields ≡ IsNone (refusal_of p)
first_bad any fields i d p lt good bad = by_reading any fields ∙ first_from any (trailer_head []) fields 24576 i d p (record { names = omega arith; values = omega arith }) lt good bad

pub bad_found : (any : Bool) (fields few : List Field) (i : ℕ) (d : Field) (p : BadPart) → few ≡ take 24576 fields → i < length few
    → All (λ f. bad_part any f ≡ None) (take i few) → bad_part any (get_or few i d) ≡ Some p → head_by any fields ≡ IsNone (refusal_of p)
bad_found any fields few i d p is lt good bad =
    first_bad any fields i d p (subst (λ l. i < length l) is lt) (subst (λ l. All (λ f. bad_part any f ≡ None) (take i l)) is good) (subst (λ l. bad_part any (get_or l i d) ≡ Some p) is bad)

pub few_refused : (any : Bool) (fields : List Field) (i : ℕ) (f : Field) (p : BadPart) → length fields ≤ 24576 → i < length fields → All (λ f. bad_part any f ≡ None) (take i fields)
    → bad_part any (get_or fields i f) ≡ Some p → head_by any fields ≡ IsNone (refusal_of p)
few_refused any fields i f p few lt good bad = bad_found any fields fields i f p (sym (take_all 24576 fields few)) lt good bad

-- with room for all of them, fields that are good make a head
good_from : (any : Bool) (h : Head) (fields : List Field) (n : ℕ) → HasPlaces h n → length fields ≤ n → All (λ f. bad_part any f ≡ None) fields → (k : Head) × (read_from any h fields ≡ IsHead k)
good_from any h [] n room few good = (h, refl)
good_from any h (f ∷ fields) zero room few good = absurd (omega (arith, few))
good_from any h (f ∷ fields) (suc n) room few good =
    let later = good_from any (with_field h f) fields n (one_less (kind_of f.name) h f n room) (omega (arith, few)) (λ k e less. good (suc k) e (omega (arith, less))) in
    (later.0, ap (λ o. unless_refused o (read_from any (with_field h f) fields)) (taken any (kind_of f.name) h f n room (good 0 f (omega arith))) ∙ later.1)

few_are_head : (any : Bool) (fields : List Field) → length fields ≤ 24576 → AreGood any fields → (k : Head) × (head_by any fields ≡ IsHead k)
few_are_head any fields few good =
    let all : All (λ f. bad_part any f ≡ None) fields = subst (λ l. All (λ f. bad_part any f ≡ None) l) (take_all 24576 fields few) good in
    let found = good_from any (trailer_head []) fields 24576 (record { names = omega arith; values = omega arith }) few all in
    (found.0, by_reading any fields ∙ found.1)

by_count : (any : Bool) (fields : List Field) (b : Bool) → nat_lt 24576 (length fields) ≡ b → AreGood any fields → IsHeadUnlessMany any fields
by_count any fields true many good = λ why none. ltb-true _ _ many
by_count any fields false many good = λ why none. absurd (let head = few_are_head any fields (ltb-false _ _ many) good in let never : IsNone why ≡ IsHead head.0 = sym none ∙ head.1 in cc)

pub good_unless_many : (any : Bool) (fields : List Field) → AreGood any fields → IsHeadUnlessMany any fields
good_unless_many any fields good = by_count any fields (nat_lt 24576 (length fields)) refl good
