-- An item that is put behind the others of its key.
use Rattle.std.proofs.Common.{◌≡◌, ◌<◌, ℕ, ◌+◌, Bool, true, false, List, [], ◌∷◌, length, refl, arith, nat_lt, if◌then◌else◌}
use Rattle.std.proofs.lemmas.List.Sums.{sum_by-cons}
use Rattle.std.proofs.lemmas.Grind.{common_steps}
use Rattle.std.specs.List.{sum_by, AllByRecursion}
use Rattle.h3_table.specs.InOrder.{put_last}

-- an item in front of all that are greater
pub last_stays : {X : Type 0} (key : X → ℕ) (x : X) (ys : List X) → AllByRecursion (λ y. key x < key y) ys → put_last key x ys ≡ x ∷ ys
last_stays key x [] h = refl
last_stays key x (y ∷ ys) h = let near : nat_lt (key x) (key y) ≡ true = grind (arith, common_steps, h.0) in rw near refl

-- a sum over the items
pub sum_by-put_last : {X : Type 0} (f : X → ℕ) (key : X → ℕ) (x : X) (ys : List X) → sum_by f (put_last key x ys) ≡ f x + sum_by f ys
sum_by-put_last f key x [] = sum_by-cons f x []
sum_by-put_last f key x (y ∷ ys) = by_test (nat_lt (key x) (key y)) (sum_by-put_last f key x ys)
  where
    by_test : (b : Bool) → sum_by f (put_last key x ys) ≡ f x + sum_by f ys → sum_by f (if b then x ∷ y ∷ ys else y ∷ put_last key x ys) ≡ f x + sum_by f (y ∷ ys)
    by_test true h = sum_by-cons f x (y ∷ ys)
    by_test false h = omega (arith, h, sum_by-cons f y (put_last key x ys), sum_by-cons f y ys)

pub length-put_last : {X : Type 0} (key : X → ℕ) (x : X) (ys : List X) → length (put_last key x ys) ≡ length ys + 1
length-put_last key x [] = refl
length-put_last key x (y ∷ ys) = by_test (nat_lt (key x) (key y)) (length-put_last key x ys)
  where
    by_test : (b : Bool) → length (put_last key x ys) ≡ length ys + 1 → length (if b then x ∷ y ∷ ys else y ∷ put_last key x ys) ≡ length (y ∷ ys) + 1
    by_test true h = omega arith
    by_test false h = omega (arith, h)

pub All-put_last : {X : Type 0} (P : X → Type 0) (key : X → ℕ) (x : X) (ys : List X) → P x → AllByRecursion P ys → AllByRecursion P (put_last key x ys)
All-put_last P key x [] p h = (p, tt)
All-put_last P key x (y ∷ ys) p h = by_test (nat_lt (key x) (key y)) (All-put_last P key x ys p h.1)
  where
    by_test : (b : Bool) → AllByRecursion P (put_last key x ys) → AllByRecursion P (if b then x ∷ y ∷ ys else y ∷ put_last key x ys)
    by_test true k = (p, h)
    by_test false k = (h.0, k)
