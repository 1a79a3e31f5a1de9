-- The last status of a field list that is read as a head is that head's: so a list that is too large is counted as the head that it has.
use Rattle.std.proofs.Common.{Bool, true, false, if◌then◌else◌, ◌≡◌, refl, Some, ℕ, List, sym, subst, Option, [], ◌∷◌, ◌+◌, ◌<◌, arith, ◌≤◌, ap, ◌∙◌, None}
use Rattle.std.specs.Prelude.{bytes_eq, codes, option_map, ◌&&◌, ◌==◌, ◌/◌, ◌%◌, nat_le}
use Rattle.h3_field.specs.Field.{Field}
use Rattle.h3_header.specs.Head.{Head, trailer_head}
use Rattle.h3_header.specs.Reads.{kind_of, with_kind, IsValueAt, AcceptsAt, with_field, AcceptsAll, status_number, head_of_fields}
use Rattle.std.proofs.lemmas.Slice.Eq.{bytes_eq-Decides}
use Rattle.h3_qpack.specs.Sizes.{value_after, last_value}
use Rattle.std.specs.List.{fold}
use Rattle.std.proofs.lemmas.Grind.{common_steps}
use Rattle.h3_connection.specs.Pulling.{is_digit, is_interim, is_interim_text}
use Rattle.http.specs.StatusCode.{code_digits}
use Rattle.h3_headline.specs.Messages.{status_in}
use Rattle.h3_headline.specs.Status.{IsStatusOf}

either : {X : Type 0} (P : X → Type 0) (b : Bool) (x y : X) → P x → P y → P (if b then x else y)
either P true x y p q = p
either P false x y p q = q

second : {X : Type 0} (P : X → Type 0) (b : Bool) (x y : X) → b ≡ false → P y → P (if b then x else y)
second P true x y e q = absurd (cc)
second P false x y e q = q

-- another field leaves the status
status_stays : (h : Head) (f : Field) → bytes_eq f.name (codes ":status") ≡ false → (with_kind (kind_of f.name) h f).status ≡ h.status
unfolding kind_of
status_stays h f other =
    either (λ k. (with_kind k h f).status ≡ h.status) (bytes_eq f.name (codes ":method")) _ _ refl
    (either (λ k. (with_kind k h f).status ≡ h.status) (bytes_eq f.name (codes ":scheme")) _ _ refl
    (either (λ k. (with_kind k h f).status ≡ h.status) (bytes_eq f.name (codes ":authority")) _ _ refl
    (either (λ k. (with_kind k h f).status ≡ h.status) (bytes_eq f.name (codes ":path")) _ _ refl
    (second (λ k. (with_kind k h f).status ≡ h.status) (bytes_eq f.name (codes ":status")) _ _ other
    (either (λ k. (with_kind k h f).status ≡ h.status) (bytes_eq f.name (codes ":protocol")) _ _ refl refl)))))

with_status : (any : Bool) (h : Head) (f : Field) → IsValueAt any (kind_of (codes ":status")) f.value → IsStatusOf (with_kind (kind_of (codes ":status")) h f).status (Some f.value)
unfolding kind_of
with_status any h f valid = (valid, refl)

after_field : (any : Bool) (h : Head) (last : Option (List ℕ)) (f : Field) → IsStatusOf h.status last → AcceptsAt any (kind_of f.name) h f
    → IsStatusOf (with_kind (kind_of f.name) h f).status (value_after (codes ":status") last f)
after_field any h last f at accepts = by_name (bytes_eq f.name (codes ":status")) refl
  where
    by_name : (b : Bool) → bytes_eq f.name (codes ":status") ≡ b → IsStatusOf (with_kind (kind_of f.name) h f).status (if b then Some f.value else last)
    by_name true e =
        let name : f.name ≡ codes ":status" = (bytes_eq-Decides f.name (codes ":status")).0 e in
        subst (λ n. IsStatusOf (with_kind (kind_of n) h f).status (Some f.value)) (sym name) (with_status any h f (subst (λ n. IsValueAt any (kind_of n) f.value) name accepts.value))
    by_name false e = subst (λ s. IsStatusOf s last) (sym (status_stays h f e)) at

status_of : (any : Bool) (h : Head) (last : Option (List ℕ)) (fields : List Field) → IsStatusOf h.status last → AcceptsAll any h fields
    → IsStatusOf (fold with_field h fields).status (fold (value_after (codes ":status")) last fields)
unfolding AcceptsAll
status_of any h last [] at accepts = at
status_of any h last (f ∷ fields) at accepts = status_of any (with_field h f) (value_after (codes ":status") last f) fields (after_field any h last f at accepts.0) accepts.1

digit : (n : ℕ) → n < 10 → is_digit (48 + n) ≡ true
digit n h = grind (arith, common_steps, h)

-- the digits of a status begin with 1 where it is an interim one
text_of : (n : ℕ) → 100 ≤ n → n < 1000 → is_interim_text (Some (code_digits n)) ≡ is_interim (Some (status_number (code_digits n)))
text_of n low high =
    let first : n / 100 < 10 = omega (arith, low, high) in
    let second : n / 10 % 10 < 10 = omega arith in
    let third : n % 10 < 10 = omega arith in
    let number : status_number (code_digits n) ≡ n = omega (arith, low, high) in
    rw (digit (n / 100) first, digit (n / 10 % 10) second, digit (n % 10) third, number) (by_tests (48 + n / 100 == 49) refl (nat_le 100 n) refl (nat_le n 199) refl)
  where
    equal : (a b : ℕ) → (a == b) ≡ true → a ≡ b
    equal a b e = grind (arith, common_steps, e)

    differ : (a b : ℕ) → (a == b) ≡ false → a ≡ b → ⊥
    differ a b e k = grind (arith, common_steps, e, k)

    at_most : (a b : ℕ) → nat_le a b ≡ true → a ≤ b
    at_most a b e = grind (arith, common_steps, e)

    above : (a b : ℕ) → nat_le a b ≡ false → b < a
    above a b e = grind (arith, common_steps, e)

    by_tests : (a : Bool) → (48 + n / 100 == 49) ≡ a → (b : Bool) → nat_le 100 n ≡ b → (c : Bool) → nat_le n 199 ≡ c → a ≡ (b && c)
    by_tests true e true k true l = refl
    by_tests true e true k false l = absurd (omega (arith, equal _ _ e, above _ _ l))
    by_tests true e false k c l = absurd (omega (arith, above _ _ k, low))
    by_tests false e true k true l = absurd (differ (48 + n / 100) 49 e (omega (arith, low, at_most _ _ l)))
    by_tests false e true k false l = refl
    by_tests false e false k c l = refl

told_as : (status : Option ℕ) (last : Option (List ℕ)) → IsStatusOf status last → is_interim_text last ≡ is_interim status
told_as None None h = refl
told_as (Some n) None h = absurd h
told_as None (Some text) h = absurd h
told_as (Some n) (Some text) h =
    ap (λ t. is_interim_text (Some t)) h.0.2 ∙ text_of h.0.0 h.0.1.0 h.0.1.1 ∙ sym (ap (λ m. is_interim (Some m)) (h.1 ∙ ap status_number h.0.2))

-- **The last status tells whether the head is an interim one.**
pub interim_by_last : (any : Bool) (fields : List Field) → AcceptsAll any (trailer_head []) fields → is_interim_text (last_value (codes ":status") fields) ≡ is_interim (head_of_fields fields).status
interim_by_last any fields accepts = told_as _ _ (status_of any (trailer_head []) None fields tt accepts)

-- the status of a list, field by field
told_after : (h : Head) (last : Option (List ℕ)) (f : Field) → h.status ≡ option_map status_number last → (with_field h f).status ≡ option_map status_number (value_after (codes ":status") last f)
unfolding kind_of
told_after h last f before = by_name (bytes_eq f.name (codes ":status")) refl
  where
    found : (with_kind (kind_of (codes ":status")) h f).status ≡ Some (status_number f.value)
    found = refl

    by_name : (b : Bool) → bytes_eq f.name (codes ":status") ≡ b → (with_kind (kind_of f.name) h f).status ≡ option_map status_number (if b then Some f.value else last)
    by_name true e = ap (λ n. (with_kind (kind_of n) h f).status) ((bytes_eq-Decides f.name (codes ":status")).0 e) ∙ found
    by_name false e = status_stays h f e ∙ before

told_from : (h : Head) (last : Option (List ℕ)) (fields : List Field) → h.status ≡ option_map status_number last
    → (fold with_field h fields).status ≡ option_map status_number (fold (value_after (codes ":status")) last fields)
told_from h last [] before = before
told_from h last (f ∷ fields) before = told_from (with_field h f) (value_after (codes ":status") last f) fields (told_after h last f before)

-- **The status that a list reads as, by its fields.**
pub status_told : (fields : List Field) → (head_of_fields fields).status ≡ status_in fields
status_told fields = told_from (trailer_head []) None fields refl
