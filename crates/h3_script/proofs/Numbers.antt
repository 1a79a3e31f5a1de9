-- Words of decimal digits.
use Rattle.std.proofs.Common.{◌≡◌, ℕ, ◌+◌, ◌*◌, ◌-◌, ◌^◌, ◌<◌, ◌≤◌, Bool, true, false, ◌&&◌, nat_lt, List, [], ◌∷◌, ◌++◌, length, take, drop, get_or, fold, Some, None, refl, sym, ◌∙◌, ap, arith, if◌then◌else◌, take-append-drop, lt-ltb, le-ltb}
use Rattle.std.specs.List.{list_all}
use Rattle.std.proofs.lemmas.Bool.{and_parts, ltb-true, ltb-false}
use Rattle.std.proofs.lemmas.List.{take_more}
use Rattle.std.proofs.lemmas.List.Folds.{list_all_at, list_all-append}
use Rattle.h3_script.specs.Words.{is_digit, digits_value, number_of}

-- a number with the digits behind it
value_from : ℕ → List ℕ → ℕ
value_from n digits = fold (λ n d. 10 * n + (d - 48)) n digits

value_append : (n : ℕ) (xs ys : List ℕ) → value_from n (xs ++ ys) ≡ value_from (value_from n xs) ys
unfolding value_from
value_append n [] ys = refl
value_append n (x ∷ xs) ys = value_append (10 * n + (x - 48)) xs ys

grows : (n : ℕ) (digits : List ℕ) → n ≤ value_from n digits
unfolding value_from
grows n [] = omega arith
grows n (d ∷ digits) = omega (arith, grows (10 * n + (d - 48)) digits)

pub digits_more : (word : List ℕ) (i d : ℕ) → i < length word → d ≡ get_or word i 0 → digits_value (take (i + 1) word) ≡ 10 * digits_value (take i word) + (d - 48)
unfolding value_from
digits_more word i d lt is = ap digits_value (take_more word i 0 lt) ∙ value_append 0 (take i word) (get_or word i 0 ∷ []) ∙ ap (λ x. 10 * digits_value (take i word) + (x - 48)) (sym is)

front_most : (word : List ℕ) (i : ℕ) → digits_value (take i word) ≤ digits_value word
unfolding value_from
front_most word i =
    let whole : digits_value word ≡ value_from (digits_value (take i word)) (drop i word) = ap digits_value (sym (take-append-drop i word)) ∙ value_append 0 (take i word) (drop i word) in
    omega (arith, whole, grows (digits_value (take i word)) (drop i word))

none_if : (word : List ℕ) → (list_all is_digit word && nat_lt (digits_value word) (2 ^ 64)) ≡ false → number_of word ≡ None
none_if word h = no_test (nat_lt 0 (length word)) (list_all is_digit word && nat_lt (digits_value word) (2 ^ 64)) (digits_value word) h
  where
    no_test : (a b : Bool) (n : ℕ) → b ≡ false → (if a && b then Some n else None) ≡ None
    no_test true true n h = cc
    no_test true false n h = refl
    no_test false b n h = refl

second_false : (a b : Bool) → b ≡ false → (a && b) ≡ false
second_false true b h = h
second_false false b h = refl

first_false : (a b : Bool) → a ≡ false → (a && b) ≡ false
first_false true b h = cc
first_false false b h = refl

-- a digit that does not fit
no_digit : (word : List ℕ) (i d : ℕ) (b : Bool) → i < length word → d ≡ get_or word i 0 → is_digit d ≡ b
    → (b && nat_lt (10 * digits_value (take i word) + (d - 48)) (2 ^ 64)) ≡ false → number_of word ≡ None
no_digit word i d false lt is digit h =
    none_if word (first_false (list_all is_digit word) (nat_lt (digits_value word) (2 ^ 64)) (list_all_at is_digit word i 0 lt (ap is_digit (sym is) ∙ digit)))
no_digit word i d true lt is digit h =
    let over : 2 ^ 64 ≤ 10 * digits_value (take i word) + (d - 48) = ltb-false _ _ h in
    none_if word (second_false (list_all is_digit word) (nat_lt (digits_value word) (2 ^ 64)) (le-ltb (digits_value word) (2 ^ 64) (omega (arith, over, digits_more word i d lt is, front_most word (i + 1)))))

if_none : (b : Bool) (n : ℕ) → None ≡ (if b then Some n else None) → b ≡ false
if_none true n h = cc
if_none false n h = refl

if_some : (b : Bool) (n m : ℕ) → Some m ≡ (if b then Some n else None) → (b ≡ true) × (m ≡ n)
if_some true n m h = (refl, cc)
if_some false n m h = cc

-- the digits so far are a number
pub record IsSoFar (word : List ℕ) (i number : ℕ) : Type 0 where
  pub value : number ≡ digits_value (take i word)
  pub digits : list_all is_digit (take i word) ≡ true
  pub small : number < 2 ^ 64

pub no_more : (word : List ℕ) (i d number : ℕ) → IsSoFar word i number → i < length word → d ≡ get_or word i 0
    → None ≡ (if is_digit d && nat_lt (10 * number + (d - 48)) (2 ^ 64) then Some (10 * number + (d - 48)) else None) → None ≡ number_of word
no_more word i d number s lt is h =
    sym (no_digit word i d (is_digit d) lt is refl (ap (λ n. is_digit d && nat_lt (10 * n + (d - 48)) (2 ^ 64)) (sym s.value) ∙ if_none _ _ h))

pub so_far_more : (word : List ℕ) (i d number new : ℕ) → IsSoFar word i number → i < length word → d ≡ get_or word i 0
    → Some new ≡ (if is_digit d && nat_lt (10 * number + (d - 48)) (2 ^ 64) then Some (10 * number + (d - 48)) else None) → IsSoFar word (i + 1) new
so_far_more word i d number new s lt is h =
    let more = if_some _ _ _ h in
    let parts = and_parts (is_digit d) _ more.0 in
    let digit : is_digit (get_or word i 0) ≡ true = ap is_digit (sym is) ∙ parts.0 in
    record {
      value = more.1 ∙ ap (λ n. 10 * n + (d - 48)) s.value ∙ sym (digits_more word i d lt is);
      digits = ap (list_all is_digit) (take_more word i 0 lt) ∙ list_all-append is_digit (take i word) (get_or word i 0 ∷ []) ∙ rw (s.digits, digit) refl;
      small = omega (arith, more.1, ltb-true _ _ parts.1);
    }

pub all_so_far : (word : List ℕ) (i number : ℕ) → IsSoFar word i number → take i word ≡ word → 0 < length word → Some number ≡ number_of word
all_so_far word i number s all some =
    let value : number ≡ digits_value word = s.value ∙ ap digits_value all in
    let digits : list_all is_digit word ≡ true = ap (list_all is_digit) (sym all) ∙ s.digits in
    rw (lt-ltb 0 (length word) some, digits, lt-ltb (digits_value word) (2 ^ 64) (rw value at s.small)) (ap Some value)
