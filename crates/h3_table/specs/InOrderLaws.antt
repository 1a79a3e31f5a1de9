-- Lists in the order of their keys.
use Rattle.std.proofs.Common.{◌≡◌, ◌<◌, ◌≤◌, ℕ, ◌+◌, Bool, true, false, ◌||◌, ◌&&◌, List, [], ◌∷◌, ◌++◌, length, filter, cond, refl, sym, ◌∙◌, ap, arith, nat_lt, if◌then◌else◌}
use Rattle.std.specs.Prelude.{◌==◌}
use Rattle.std.specs.List.{list_any, list_all, AllByRecursion}
use Rattle.std.proofs.lemmas.Grind.{common_steps}
use Rattle.h3_table.specs.declared.tracking.TrackedSection.{TrackedSection}
use Rattle.h3_table.specs.Tracking.{without_newest, without_oldest_of}
use Rattle.h3_table.specs.InOrder.{put_first, put_last, in_order, Ascends}

-- an item in front of all that are not less
pub first_stays : {X : Type 0} (key : X → ℕ) (x : X) (ys : List X) → AllByRecursion (λ y. key x ≤ key y) ys → put_first key x ys ≡ x ∷ ys
first_stays key x [] h = refl
first_stays key x (y ∷ ys) h = let far : nat_lt (key y) (key x) ≡ false = grind (arith, common_steps, h.0) in rw far refl

swap : (a b c : Bool) → (a || (b || c)) ≡ (b || (a || c))
swap true true c = refl
swap true false c = refl
swap false true c = refl
swap false false c = refl

swap_and : (a b c : Bool) → (a && (b && c)) ≡ (b && (a && c))
swap_and true true c = refl
swap_and true false c = refl
swap_and false true c = refl
swap_and false false c = refl

any_first : {X : Type 0} (test : X → Bool) (key : X → ℕ) (x : X) (ys : List X) → list_any test (put_first key x ys) ≡ (test x || list_any test ys)
any_first test key x [] = refl
any_first test key x (y ∷ ys) = by_test (nat_lt (key y) (key x)) (any_first test key x ys)
  where
    by_test : (b : Bool) → list_any test (put_first key x ys) ≡ (test x || list_any test ys) → list_any test (if b then y ∷ put_first key x ys else x ∷ y ∷ ys) ≡ (test x || list_any test (y ∷ ys))
    by_test true h = ap (λ b. test y || b) h ∙ swap (test y) (test x) (list_any test ys)
    by_test false h = refl

pub any_in_order : {X : Type 0} (test : X → Bool) (key : X → ℕ) (xs : List X) → list_any test (in_order key xs) ≡ list_any test xs
any_in_order test key [] = refl
any_in_order test key (x ∷ xs) = any_first test key x (in_order key xs) ∙ ap (λ b. test x || b) (any_in_order test key xs)

all_first : {X : Type 0} (test : X → Bool) (key : X → ℕ) (x : X) (ys : List X) → list_all test (put_first key x ys) ≡ (test x && list_all test ys)
all_first test key x [] = refl
all_first test key x (y ∷ ys) = by_test (nat_lt (key y) (key x)) (all_first test key x ys)
  where
    by_test : (b : Bool) → list_all test (put_first key x ys) ≡ (test x && list_all test ys) → list_all test (if b then y ∷ put_first key x ys else x ∷ y ∷ ys) ≡ (test x && list_all test (y ∷ ys))
    by_test true h = ap (λ b. test y && b) h ∙ swap_and (test y) (test x) (list_all test ys)
    by_test false h = refl

pub all_in_order : {X : Type 0} (test : X → Bool) (key : X → ℕ) (xs : List X) → list_all test (in_order key xs) ≡ list_all test xs
all_in_order test key [] = refl
all_in_order test key (x ∷ xs) = all_first test key x (in_order key xs) ∙ ap (λ b. test x && b) (all_in_order test key xs)

length_first : {X : Type 0} (key : X → ℕ) (x : X) (ys : List X) → length (put_first key x ys) ≡ length ys + 1
length_first key x [] = refl
length_first key x (y ∷ ys) = by_test (nat_lt (key y) (key x)) (length_first key x ys)
  where
    by_test : (b : Bool) → length (put_first key x ys) ≡ length ys + 1 → length (if b then y ∷ put_first key x ys else x ∷ y ∷ ys) ≡ length (y ∷ ys) + 1
    by_test true h = omega (arith, h)
    by_test false h = omega arith

pub length_in_order : {X : Type 0} (key : X → ℕ) (xs : List X) → length (in_order key xs) ≡ length xs
length_in_order key [] = refl
length_in_order key (x ∷ xs) = omega (arith, length_first key x (in_order key xs), length_in_order key xs)

-- what holds of all in order, holds of all
All_apart : {X : Type 0} (P : X → Type 0) (key : X → ℕ) (x : X) (ys : List X) → AllByRecursion P (put_first key x ys) → P x × AllByRecursion P ys
All_apart P key x [] h = h
All_apart P key x (y ∷ ys) h = by_test (nat_lt (key y) (key x)) h (All_apart P key x ys)
  where
    by_test : (b : Bool) → AllByRecursion P (if b then y ∷ put_first key x ys else x ∷ y ∷ ys) → (AllByRecursion P (put_first key x ys) → P x × AllByRecursion P ys) → P x × AllByRecursion P (y ∷ ys)
    by_test true k later = let e = later k.1 in (e.0, (k.0, e.1))
    by_test false k later = k

pub All_in_order : {X : Type 0} (P : X → Type 0) (key : X → ℕ) (xs : List X) → AllByRecursion P (in_order key xs) → AllByRecursion P xs
All_in_order P key [] h = tt
All_in_order P key (x ∷ xs) h = let e = All_apart P key x (in_order key xs) h in (e.0, All_in_order P key xs e.1)

All_first : {X : Type 0} (P : X → Type 0) (key : X → ℕ) (x : X) (ys : List X) → P x → AllByRecursion P ys → AllByRecursion P (put_first key x ys)
All_first P key x [] p h = (p, tt)
All_first P key x (y ∷ ys) p h = by_test (nat_lt (key y) (key x)) (All_first P key x ys p h.1)
  where
    by_test : (b : Bool) → AllByRecursion P (put_first key x ys) → AllByRecursion P (if b then y ∷ put_first key x ys else x ∷ y ∷ ys)
    by_test true k = (h.0, k)
    by_test false k = (p, h)

lower : {X : Type 0} (key : X → ℕ) (m n : ℕ) (ys : List X) → m ≤ n → AllByRecursion (λ y. n ≤ key y) ys → AllByRecursion (λ y. m ≤ key y) ys
lower key m n [] le h = tt
lower key m n (y ∷ ys) le h = (omega (arith, le, h.0), lower key m n ys le h.1)

is_below : (m n : ℕ) → nat_lt m n ≡ true → m < n
is_below m n e = grind (arith, common_steps)

not_below : (m n : ℕ) → nat_lt m n ≡ false → n ≤ m
not_below m n e = grind (arith, common_steps)

Ascends_first : {X : Type 0} (key : X → ℕ) (x : X) (ys : List X) → Ascends key ys → Ascends key (put_first key x ys)
Ascends_first key x [] h = (tt, tt)
Ascends_first key x (y ∷ ys) h = by_test (nat_lt (key y) (key x)) refl (Ascends_first key x ys h.1)
  where
    by_test : (b : Bool) → nat_lt (key y) (key x) ≡ b → Ascends key (put_first key x ys) → Ascends key (if b then y ∷ put_first key x ys else x ∷ y ∷ ys)
    by_test true e k = (All_first (λ z. key y ≤ key z) key x ys (omega (arith, is_below (key y) (key x) e)) h.0, k)
    by_test false e k = let le = not_below (key y) (key x) e in ((le, lower key (key x) (key y) ys le h.0), h)

pub Ascends_in_order : {X : Type 0} (key : X → ℕ) (xs : List X) → Ascends key (in_order key xs)
Ascends_in_order key [] = tt
Ascends_in_order key (x ∷ xs) = Ascends_first key x (in_order key xs) (Ascends_in_order key xs)

All-kept : {X : Type 0} (P : X → Type 0) (test : X → Bool) (ys : List X) → AllByRecursion P ys → AllByRecursion P (filter test ys)
All-kept P test [] h = tt
All-kept P test (y ∷ ys) h = by_test (test y) (All-kept P test ys h.1)
  where
    by_test : (b : Bool) → AllByRecursion P (filter test ys) → AllByRecursion P (cond b (y ∷ filter test ys) (filter test ys))
    by_test true k = (h.0, k)
    by_test false k = k

filter_first : {X : Type 0} (test : X → Bool) (key : X → ℕ) (x : X) (ys : List X) → Ascends key ys → filter test (put_first key x ys) ≡ (if test x then put_first key x (filter test ys) else filter test ys)
filter_first test key x [] up = refl
filter_first test key x (y ∷ ys) up = by_order (nat_lt (key y) (key x)) refl (filter_first test key x ys up.1)
  where
    front : key x ≤ key y → put_first key x (filter test (y ∷ ys)) ≡ x ∷ filter test (y ∷ ys)
    front le = first_stays key x (filter test (y ∷ ys)) (All-kept (λ z. key x ≤ key z) test (y ∷ ys) (le, lower key (key x) (key y) ys le up.0))

    behind : (t u : Bool) → nat_lt (key y) (key x) ≡ true → filter test (put_first key x ys) ≡ (if t then put_first key x (filter test ys) else filter test ys)
        → cond u (y ∷ filter test (put_first key x ys)) (filter test (put_first key x ys)) ≡ (if t then put_first key x (cond u (y ∷ filter test ys) (filter test ys)) else cond u (y ∷ filter test ys) (filter test ys))
    behind true true e h = rw e (ap (λ zs. y ∷ zs) h)
    behind true false e h = h
    behind false true e h = ap (λ zs. y ∷ zs) h
    behind false false e h = h

    in_front : (t : Bool) → key x ≤ key y → cond t (x ∷ filter test (y ∷ ys)) (filter test (y ∷ ys)) ≡ (if t then put_first key x (filter test (y ∷ ys)) else filter test (y ∷ ys))
    in_front true le = sym (front le)
    in_front false le = refl

    by_order : (b : Bool) → nat_lt (key y) (key x) ≡ b → filter test (put_first key x ys) ≡ (if test x then put_first key x (filter test ys) else filter test ys)
        → filter test (if b then y ∷ put_first key x ys else x ∷ y ∷ ys) ≡ (if test x then put_first key x (filter test (y ∷ ys)) else filter test (y ∷ ys))
    by_order true e h = behind (test x) (test y) e h
    by_order false e h = in_front (test x) (not_below (key y) (key x) e)

pub filter_in_order : {X : Type 0} (test : X → Bool) (key : X → ℕ) (xs : List X) → filter test (in_order key xs) ≡ in_order key (filter test xs)
filter_in_order test key [] = refl
filter_in_order test key (x ∷ xs) = filter_first test key x (in_order key xs) (Ascends_in_order key xs) ∙ by_test (test x) (filter_in_order test key xs)
  where
    by_test : (b : Bool) → filter test (in_order key xs) ≡ in_order key (filter test xs)
        → (if b then put_first key x (filter test (in_order key xs)) else filter test (in_order key xs)) ≡ in_order key (cond b (x ∷ filter test xs) (filter test xs))
    by_test true h = ap (put_first key x) h
    by_test false h = h

-- an item in front and one behind
first_last : {X : Type 0} (key : X → ℕ) (x t : X) (ys : List X) → put_first key x (put_last key t ys) ≡ put_last key t (put_first key x ys)
first_last key x t [] = by_test (nat_lt (key t) (key x)) refl
  where
    by_test : (b : Bool) → nat_lt (key t) (key x) ≡ b → (if b then t ∷ x ∷ [] else x ∷ t ∷ []) ≡ (if b then t ∷ x ∷ [] else x ∷ t ∷ [])
    by_test b e = refl
first_last key x t (y ∷ ys) = by_tests (nat_lt (key t) (key y)) (nat_lt (key y) (key x)) refl refl (first_last key x t ys)
  where
    by_tests : (a b : Bool) → nat_lt (key t) (key y) ≡ a → nat_lt (key y) (key x) ≡ b → put_first key x (put_last key t ys) ≡ put_last key t (put_first key x ys)
        → put_first key x (if a then t ∷ y ∷ ys else y ∷ put_last key t ys) ≡ put_last key t (if b then y ∷ put_first key x ys else x ∷ y ∷ ys)
    by_tests true true e f h = let g : nat_lt (key t) (key x) ≡ true = grind (arith, common_steps) in rw (g, f, e) refl
    by_tests true false e f h = rw (f, e) (by_third (nat_lt (key t) (key x)))
      where
        by_third : (c : Bool) → (if c then t ∷ x ∷ y ∷ ys else x ∷ t ∷ y ∷ ys) ≡ (if c then t ∷ x ∷ y ∷ ys else x ∷ t ∷ y ∷ ys)
        by_third c = refl
    by_tests false true e f h = rw (f, e) (ap (λ zs. y ∷ zs) h)
    by_tests false false e f h = let g : nat_lt (key t) (key x) ≡ false = grind (arith, common_steps) in rw (f, g, e) refl

pub in_order_more : {X : Type 0} (key : X → ℕ) (xs : List X) (x : X) → in_order key (xs ++ x ∷ []) ≡ put_last key x (in_order key xs)
in_order_more key [] x = refl
in_order_more key (y ∷ xs) x = ap (put_first key y) (in_order_more key xs x) ∙ first_last key y x (in_order key xs)

-- without the last of a key
All-newest : {X : Type 0} (P : X → Type 0) (test : X → Bool) (ys : List X) → AllByRecursion P ys → AllByRecursion P (without_newest test ys)
All-newest P test [] h = tt
All-newest P test (y ∷ ys) h = by_tests (list_any test ys) (test y) (All-newest P test ys h.1)
  where
    by_tests : (a b : Bool) → AllByRecursion P (without_newest test ys) → AllByRecursion P (if a then y ∷ without_newest test ys else (if b then ys else y ∷ ys))
    by_tests true b k = (h.0, k)
    by_tests false true k = h.1
    by_tests false false k = h

newest_first : {X : Type 0} (key : X → ℕ) (k : ℕ) (x : X) (ys : List X) → Ascends key ys
    → without_newest (λ z. key z == k) (put_first key x ys) ≡ (if list_any (λ z. key z == k) ys then put_first key x (without_newest (λ z. key z == k) ys) else (if key x == k then ys else put_first key x ys))
newest_first key k x [] up = refl
newest_first key k x (y ∷ ys) up = by_order (nat_lt (key y) (key x)) refl (newest_first key k x ys up.1)
  where
    stays : key x ≤ key y → put_first key x (without_newest (λ z. key z == k) (y ∷ ys)) ≡ x ∷ without_newest (λ z. key z == k) (y ∷ ys)
    stays le = first_stays key x (without_newest (λ z. key z == k) (y ∷ ys)) (All-newest (λ z. key x ≤ key z) (λ z. key z == k) (y ∷ ys) (le, lower key (key x) (key y) ys le up.0))

    in_front : (a : Bool) → list_any (λ z. key z == k) (y ∷ ys) ≡ a → key x ≤ key y
        → (if a then x ∷ without_newest (λ z. key z == k) (y ∷ ys) else (if key x == k then y ∷ ys else x ∷ y ∷ ys)) ≡ (if a then put_first key x (without_newest (λ z. key z == k) (y ∷ ys)) else (if key x == k then y ∷ ys else x ∷ y ∷ ys))
    in_front true e le = sym (stays le)
    in_front false e le = refl

    behind : (a t u : Bool) → list_any (λ z. key z == k) ys ≡ a → (key x == k) ≡ t → (key y == k) ≡ u → nat_lt (key y) (key x) ≡ true
        → without_newest (λ z. key z == k) (put_first key x ys) ≡ (if a then put_first key x (without_newest (λ z. key z == k) ys) else (if t then ys else put_first key x ys))
        → (if t || a then y ∷ without_newest (λ z. key z == k) (put_first key x ys) else (if u then put_first key x ys else y ∷ put_first key x ys))
        ≡ (if u || a then put_first key x (if a then y ∷ without_newest (λ z. key z == k) ys else (if u then ys else y ∷ ys)) else (if t then y ∷ ys else y ∷ put_first key x ys))
    behind true true true e f g lt h = rw lt (ap (λ zs. y ∷ zs) h)
    behind true true false e f g lt h = rw lt (ap (λ zs. y ∷ zs) h)
    behind true false true e f g lt h = rw lt (ap (λ zs. y ∷ zs) h)
    behind true false false e f g lt h = rw lt (ap (λ zs. y ∷ zs) h)
    behind false true true e f g lt h = absurd (unequal (is_below (key y) (key x) lt))
      where
        unequal : key y < key x → ⊥
        unequal less = grind (arith, common_steps)
    behind false true false e f g lt h = ap (λ zs. y ∷ zs) h
    behind false false true e f g lt h = refl
    behind false false false e f g lt h = refl

    by_order : (b : Bool) → nat_lt (key y) (key x) ≡ b
        → without_newest (λ z. key z == k) (put_first key x ys) ≡ (if list_any (λ z. key z == k) ys then put_first key x (without_newest (λ z. key z == k) ys) else (if key x == k then ys else put_first key x ys))
        → without_newest (λ z. key z == k) (if b then y ∷ put_first key x ys else x ∷ y ∷ ys)
        ≡ (if list_any (λ z. key z == k) (y ∷ ys) then put_first key x (without_newest (λ z. key z == k) (y ∷ ys)) else (if key x == k then y ∷ ys else (if b then y ∷ put_first key x ys else x ∷ y ∷ ys)))
    by_order true e h = rw (any_first (λ z. key z == k) key x ys) (behind (list_any (λ z. key z == k) ys) (key x == k) (key y == k) refl refl refl e h)
    by_order false e h = in_front (list_any (λ z. key z == k) (y ∷ ys)) refl (not_below (key y) (key x) e)

pub newest_in_order : {X : Type 0} (key : X → ℕ) (k : ℕ) (xs : List X) → without_newest (λ z. key z == k) (in_order key xs) ≡ in_order key (without_newest (λ z. key z == k) xs)
newest_in_order key k [] = refl
newest_in_order key k (x ∷ xs) =
    newest_first key k x (in_order key xs) (Ascends_in_order key xs)
    ∙ ap (λ b. if b then put_first key x (without_newest (λ z. key z == k) (in_order key xs)) else (if key x == k then in_order key xs else put_first key x (in_order key xs))) (any_in_order (λ z. key z == k) key xs)
    ∙ by_tests (list_any (λ z. key z == k) xs) (key x == k) (newest_in_order key k xs)
  where
    by_tests : (a b : Bool) → without_newest (λ z. key z == k) (in_order key xs) ≡ in_order key (without_newest (λ z. key z == k) xs)
        → (if a then put_first key x (without_newest (λ z. key z == k) (in_order key xs)) else (if b then in_order key xs else put_first key x (in_order key xs)))
        ≡ in_order key (if a then x ∷ without_newest (λ z. key z == k) xs else (if b then xs else x ∷ xs))
    by_tests true b h = ap (put_first key x) h
    by_tests false true h = refl
    by_tests false false h = refl

-- without the first section of a stream
All-oldest : (P : TrackedSection → Type 0) (stream : ℕ) (ts : List TrackedSection) → AllByRecursion P ts → AllByRecursion P (without_oldest_of stream ts)
All-oldest P stream [] h = tt
All-oldest P stream (t ∷ ts) h = by_test (t.stream == stream) (All-oldest P stream ts h.1)
  where
    by_test : (b : Bool) → AllByRecursion P (without_oldest_of stream ts) → AllByRecursion P (if b then ts else t ∷ without_oldest_of stream ts)
    by_test true k = h.1
    by_test false k = (h.0, k)

oldest_first : (stream : ℕ) (t : TrackedSection) (ts : List TrackedSection) → Ascends (λ u. u.stream) ts
    → without_oldest_of stream (put_first (λ u. u.stream) t ts) ≡ (if t.stream == stream then ts else put_first (λ u. u.stream) t (without_oldest_of stream ts))
oldest_first stream t [] up = refl
oldest_first stream t (u ∷ ts) up = by_order (nat_lt u.stream t.stream) refl (oldest_first stream t ts up.1)
  where
    stays : t.stream ≤ u.stream → put_first (λ v. v.stream) t (without_oldest_of stream (u ∷ ts)) ≡ t ∷ without_oldest_of stream (u ∷ ts)
    stays le = first_stays (λ (v : TrackedSection). v.stream) t (without_oldest_of stream (u ∷ ts)) (All-oldest (λ v. t.stream ≤ v.stream) stream (u ∷ ts) (le, lower (λ (v : TrackedSection). v.stream) t.stream u.stream ts le up.0))

    unequal : (t.stream == stream) ≡ true → (u.stream == stream) ≡ true → u.stream < t.stream → ⊥
    unequal f g less = grind (arith, common_steps)

    behind : (x y : Bool) → (t.stream == stream) ≡ x → (u.stream == stream) ≡ y → nat_lt u.stream t.stream ≡ true
        → without_oldest_of stream (put_first (λ v. v.stream) t ts) ≡ (if x then ts else put_first (λ v. v.stream) t (without_oldest_of stream ts))
        → (if y then put_first (λ v. v.stream) t ts else u ∷ without_oldest_of stream (put_first (λ v. v.stream) t ts)) ≡ (if x then u ∷ ts else put_first (λ v. v.stream) t (if y then ts else u ∷ without_oldest_of stream ts))
    behind true true f g e h = absurd (unequal f g (is_below u.stream t.stream e))
    behind true false f g e h = ap (λ us. u ∷ us) h
    behind false true f g e h = refl
    behind false false f g e h = rw e (ap (λ us. u ∷ us) h)

    in_front : (x : Bool) → t.stream ≤ u.stream → (if x then u ∷ ts else t ∷ without_oldest_of stream (u ∷ ts)) ≡ (if x then u ∷ ts else put_first (λ v. v.stream) t (without_oldest_of stream (u ∷ ts)))
    in_front true le = refl
    in_front false le = sym (stays le)

    by_order : (b : Bool) → nat_lt u.stream t.stream ≡ b → without_oldest_of stream (put_first (λ v. v.stream) t ts) ≡ (if t.stream == stream then ts else put_first (λ v. v.stream) t (without_oldest_of stream ts))
        → without_oldest_of stream (if b then u ∷ put_first (λ v. v.stream) t ts else t ∷ u ∷ ts) ≡ (if t.stream == stream then u ∷ ts else put_first (λ v. v.stream) t (without_oldest_of stream (u ∷ ts)))
    by_order true e h = behind (t.stream == stream) (u.stream == stream) refl refl e h
    by_order false e h = in_front (t.stream == stream) (not_below u.stream t.stream e)

pub oldest_in_order : (stream : ℕ) (ts : List TrackedSection) → without_oldest_of stream (in_order (λ t. t.stream) ts) ≡ in_order (λ t. t.stream) (without_oldest_of stream ts)
oldest_in_order stream [] = refl
oldest_in_order stream (t ∷ ts) = oldest_first stream t (in_order (λ (u : TrackedSection). u.stream) ts) (Ascends_in_order (λ (u : TrackedSection). u.stream) ts) ∙ by_test (t.stream == stream) (oldest_in_order stream ts)
  where
    by_test : (b : Bool) → without_oldest_of stream (in_order (λ u. u.stream) ts) ≡ in_order (λ u. u.stream) (without_oldest_of stream ts)
        → (if b then in_order (λ u. u.stream) ts else put_first (λ u. u.stream) t (without_oldest_of stream (in_order (λ u. u.stream) ts))) ≡ in_order (λ u. u.stream) (if b then ts else t ∷ without_oldest_of stream ts)
    by_test true h = refl
    by_test false h = ap (put_first (λ u. u.stream) t) h
