-- Texts that stand one behind the other, as frames and instructions do: which of them came whole with a front of all bytes, and what
-- came of the next one.
use Rattle.std.proofs.Common.{◌≡◌, ℕ, ◌<◌, nat_le, false, arith, ◌≤◌, true, zero, suc, List, [], take, refl, drop, ◌+◌, ◌∷◌, ap, ◌-◌, ◌++◌, length, ◌∙◌, flat_map, sym, append_assoc, Bool, if◌then◌else◌, length-append}
use Rattle.std.proofs.lemmas.Grind.{common_steps}
use Rattle.h3_qpack.specs.WholeInstructions.{whole_in, rest_in}
use Rattle.std.proofs.lemmas.Bool.{leb-true}
use Rattle.std.proofs.lemmas.List.{take-append-le}
use Rattle.h3_headline.specs.Parts.{GoesOn, HaveBytes}

above : (a n : ℕ) → nat_le a n ≡ false → n < a
above a n e = grind (arith, common_steps, e)

below : (a n : ℕ) → a ≤ n → nat_le a n ≡ true
below a n h = grind (arith, common_steps, h)

short : (a n : ℕ) → 0 < a → n ≤ 0 → nat_le a n ≡ false
short a n h k = grind (arith, common_steps, h, k)

take_none : {X : Type 0} (n : ℕ) → ◌≡◌ {A = List X} (take n []) []
take_none zero = refl
take_none (suc n) = refl

drop_none : {X : Type 0} (n : ℕ) → ◌≡◌ {A = List X} (drop n []) []
drop_none zero = refl
drop_none (suc n) = refl

take_one : {X : Type 0} (k : ℕ) (x : X) (xs : List X) → take (k + 1) (x ∷ xs) ≡ x ∷ take k xs
take_one k x xs = let e : k + 1 ≡ suc k = omega arith in ap (λ m. take m (x ∷ xs)) e

drop_one : {X : Type 0} (k : ℕ) (x : X) (xs : List X) → drop (k + 1) (x ∷ xs) ≡ drop k xs
drop_one k x xs = let e : k + 1 ≡ suc k = omega arith in ap (λ m. drop m (x ∷ xs)) e

-- past the first of two lists
pub drop_past : {X : Type 0} (n : ℕ) (xs ys : List X) → length xs ≤ n → drop n (xs ++ ys) ≡ drop (n - length xs) ys
drop_past n [] ys h = let e : n ≡ n - 0 = omega arith in ap (λ m. drop m ys) e
drop_past zero (x ∷ xs) ys h = absurd (omega (arith, h))
drop_past (suc n) (x ∷ xs) ys h =
    let e : n - length xs ≡ suc n - suc (length xs) = omega arith in
    drop_past n xs ys (omega (arith, h)) ∙ ap (λ m. drop m ys) e

pub take_past : {X : Type 0} (n : ℕ) (xs ys : List X) → length xs ≤ n → take n (xs ++ ys) ≡ xs ++ take (n - length xs) ys
take_past n [] ys h = let e : n ≡ n - 0 = omega arith in ap (λ m. take m ys) e
take_past zero (x ∷ xs) ys h = absurd (omega (arith, h))
take_past (suc n) (x ∷ xs) ys h =
    let e : n - length xs ≡ suc n - suc (length xs) = omega arith in
    ap (λ l. x ∷ l) (take_past n xs ys (omega (arith, h)) ∙ ap (λ m. xs ++ take m ys) e)

-- a front, and what comes behind it
pub take_both : {X : Type 0} (few many : ℕ) (xs : List X) → few ≤ many → take few xs ++ take (many - few) (drop few xs) ≡ take many xs
take_both zero many xs h = let e : many - 0 ≡ many = omega arith in ap (λ m. take m xs) e
take_both (suc few) zero xs h = absurd (omega (arith, h))
take_both (suc few) (suc many) [] h = take_none (suc many - suc few)
take_both (suc few) (suc many) (x ∷ xs) h =
    let e : suc many - suc few ≡ many - few = omega arith in
    ap (λ m. x ∷ (take few xs ++ take m (drop few xs))) e ∙ ap (λ l. x ∷ l) (take_both few many xs (omega (arith, h)))

pub flat_map_append : {X : Type 0} (f : X → List ℕ) (xs ys : List X) → flat_map f (xs ++ ys) ≡ flat_map f xs ++ flat_map f ys
flat_map_append f [] ys = refl
flat_map_append f (x ∷ xs) ys = ap (λ l. f x ++ l) (flat_map_append f xs ys) ∙ sym (append_assoc (f x) (flat_map f xs) (flat_map f ys))

-- no more are whole than there are
pub whole_within : {X : Type 0} (f : X → List ℕ) (n : ℕ) (xs : List X) → whole_in f n xs ≤ length xs
whole_within f n [] = omega arith
whole_within f n (x ∷ xs) = by_test (nat_le (length (f x)) n) (whole_within f (n - length (f x)) xs)
  where
    by_test : (b : Bool) → whole_in f (n - length (f x)) xs ≤ length xs → (if b then whole_in f (n - length (f x)) xs + 1 else 0) ≤ suc (length xs)
    by_test true h = omega (arith, h)
    by_test false h = omega arith

-- a front is the whole texts, and what came of the next one
pub front_is : {X : Type 0} (f : X → List ℕ) (n : ℕ) (xs : List X) → take n (flat_map f xs) ≡ flat_map f (take (whole_in f n xs) xs) ++ rest_in f n xs
front_is f n [] = take_none n
front_is f n (x ∷ xs) = by_test (nat_le (length (f x)) n) refl (front_is f (n - length (f x)) xs)
  where
    by_test : (b : Bool) → nat_le (length (f x)) n ≡ b → take (n - length (f x)) (flat_map f xs) ≡ flat_map f (take (whole_in f (n - length (f x)) xs) xs) ++ rest_in f (n - length (f x)) xs
        → take n (f x ++ flat_map f xs) ≡ flat_map f (take (if b then whole_in f (n - length (f x)) xs + 1 else 0) (x ∷ xs)) ++ (if b then rest_in f (n - length (f x)) xs else take n (f x))
    by_test true e later =
        let k = whole_in f (n - length (f x)) xs in
        let rest = rest_in f (n - length (f x)) xs in
        take_past n (f x) (flat_map f xs) (leb-true (length (f x)) n e) ∙ ap (λ l. f x ++ l) later ∙ sym (append_assoc (f x) (flat_map f (take k xs)) rest)
        ∙ sym (ap (λ l. flat_map f l ++ rest) (take_one k x xs))
    by_test false e later = take-append-le n (f x) (flat_map f xs) (let less = above (length (f x)) n e in omega (arith, less))

goes_further : {X : Type 0} (f : X → List ℕ) (few many : ℕ) (x : X) (xs : List X) → few ≤ many → nat_le (length (f x)) few ≡ true → GoesOn f (few - length (f x)) (many - length (f x)) xs → GoesOn f few many (x ∷ xs)
goes_further f few many x xs h e later =
    let len = length (f x) in
    let fits = leb-true len few e in
    let fits_too : nat_le len many ≡ true = below len many (omega (arith, fits, h)) in
    let k = whole_in f (few - len) xs in
    let sizes : many - few ≡ many - len - (few - len) = omega (arith, fits, h) in
    let behind = drop_one k x xs in
    record {
      count = later.count;
      bytes = rw e (
          ap (λ l. rest_in f (few - len) xs ++ take (many - few) l) (drop_past few (f x) (flat_map f xs) fits)
          ∙ ap (λ m. rest_in f (few - len) xs ++ take m (drop (few - len) (flat_map f xs))) sizes
          ∙ later.bytes ∙ ap (λ l. take later.count (flat_map f l)) (sym behind));
      whole = rw (e, fits_too) (
          take_one (whole_in f (many - len) xs) x xs ∙ ap (λ l. x ∷ l) later.whole
          ∙ sym (ap (λ l. take (k + 1) (x ∷ xs) ++ take (whole_in f later.count l) l) behind ∙ ap (λ l. l ++ take (whole_in f later.count (drop k xs)) (drop k xs)) (take_one k x xs)));
      rest = rw (e, fits_too) (later.rest ∙ sym (ap (λ l. rest_in f later.count l) behind));
    }

goes_within : {X : Type 0} (f : X → List ℕ) (few many : ℕ) (x : X) (xs : List X) → few ≤ many → nat_le (length (f x)) few ≡ false → GoesOn f few many (x ∷ xs)
goes_within f few many x xs h e =
    let less = above (length (f x)) few e in
    let all = f x ++ flat_map f xs in
    record {
      count = many;
      bytes = rw e (ap (λ l. l ++ take (many - few) (drop few all)) (sym (take-append-le few (f x) (flat_map f xs) (omega (arith, less)))) ∙ take_both few many all h);
      whole = rw e refl;
      rest = rw e refl;
    }

pub goes_on : {X : Type 0} (f : X → List ℕ) (few many : ℕ) (all : List X) → few ≤ many → GoesOn f few many all
goes_on f few many [] h = record { count = 0; bytes = ap (λ l. take (many - few) l) (drop_none few) ∙ take_none (many - few); whole = refl; rest = refl }
goes_on f few many (x ∷ xs) h = by_test (nat_le (length (f x)) few) refl (goes_on f (few - length (f x)) (many - length (f x)) xs (omega (arith, h)))
  where
    by_test : (b : Bool) → nat_le (length (f x)) few ≡ b → GoesOn f (few - length (f x)) (many - length (f x)) xs → GoesOn f few many (x ∷ xs)
    by_test true e later = goes_further f few many x xs h e later
    by_test false e later = goes_within f few many x xs h e

pub whole_same : {X : Type 0} (f : X → List ℕ) → HaveBytes f → (n : ℕ) (xs ys : List X) → n ≤ length (flat_map f xs) → whole_in f n (xs ++ ys) ≡ whole_in f n xs
whole_same f b n [] [] h = refl
whole_same f b n [] (y ∷ ys) h = ap (λ t. if t then whole_in f (n - length (f y)) ys + 1 else 0) (short (length (f y)) n (b.some y) h)
whole_same f b n (x ∷ xs) ys h =
    let fits : n - length (f x) ≤ length (flat_map f xs) = omega (arith, h, length-append (f x) (flat_map f xs)) in
    ap (λ k. if nat_le (length (f x)) n then k + 1 else 0) (whole_same f b (n - length (f x)) xs ys fits)

pub taken_same : {X : Type 0} (f : X → List ℕ) → HaveBytes f → (n : ℕ) (xs ys : List X) → n ≤ length (flat_map f xs) → take (whole_in f n (xs ++ ys)) (xs ++ ys) ≡ take (whole_in f n xs) xs
taken_same f b n xs ys h = ap (λ k. take k (xs ++ ys)) (whole_same f b n xs ys h) ∙ take-append-le (whole_in f n xs) xs ys (whole_within f n xs)

pub rest_same : {X : Type 0} (f : X → List ℕ) → HaveBytes f → (n : ℕ) (xs ys : List X) → n ≤ length (flat_map f xs) → rest_in f n (xs ++ ys) ≡ rest_in f n xs
rest_same f b n [] [] h = refl
rest_same f b n [] (y ∷ ys) h =
    let none : n ≡ 0 = omega (arith, h) in
    ap (λ t. if t then rest_in f (n - length (f y)) ys else take n (f y)) (short (length (f y)) n (b.some y) h) ∙ ap (λ m. take m (f y)) none
rest_same f b n (x ∷ xs) ys h =
    let fits : n - length (f x) ≤ length (flat_map f xs) = omega (arith, h, length-append (f x) (flat_map f xs)) in
    ap (λ l. if nat_le (length (f x)) n then l else take n (f x)) (rest_same f b (n - length (f x)) xs ys fits)

pub front_same : {X : Type 0} (f : X → List ℕ) (n : ℕ) (xs ys : List X) → n ≤ length (flat_map f xs) → take n (flat_map f (xs ++ ys)) ≡ take n (flat_map f xs)
front_same f n xs ys h = ap (λ l. take n l) (flat_map_append f xs ys) ∙ take-append-le n (flat_map f xs) (flat_map f ys) h

-- no bytes make none whole
pub none_whole : {X : Type 0} (f : X → List ℕ) → HaveBytes f → (xs : List X) → whole_in f 0 xs ≡ 0
none_whole f b [] = refl
none_whole f b (x ∷ xs) = ap (λ t. if t then whole_in f (0 - length (f x)) xs + 1 else 0) (short (length (f x)) 0 (b.some x) (omega arith))

pub none_left : {X : Type 0} (f : X → List ℕ) → HaveBytes f → (xs : List X) → rest_in f 0 xs ≡ []
none_left f b [] = refl
none_left f b (x ∷ xs) = ap (λ t. if t then rest_in f (0 - length (f x)) xs else take 0 (f x)) (short (length (f x)) 0 (b.some x) (omega arith))
