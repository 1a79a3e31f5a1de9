-- Lists in the order of the keys of their items.
use Rattle.std.specs.Prelude.{ℕ, nat_lt, List, [], ◌∷◌, if◌then◌else◌, ◌≤◌}
use Rattle.std.specs.List.{AllByRecursion}

-- with the item in front of the first whose key is not less
abbrev pub put_first : {X : Type 0} → (X → ℕ) → X → List X → List X
put_first key x [] = x ∷ []
put_first key x (y ∷ ys) = if nat_lt (key y) (key x) then y ∷ put_first key x ys else x ∷ y ∷ ys

-- with the item behind the last whose key is not greater
abbrev pub put_last : {X : Type 0} → (X → ℕ) → X → List X → List X
put_last key x [] = x ∷ []
put_last key x (y ∷ ys) = if nat_lt (key x) (key y) then x ∷ y ∷ ys else y ∷ put_last key x ys

-- The items in the order of their keys. Those of one key stay in the order in which they stand.
abbrev pub in_order : {X : Type 0} → (X → ℕ) → List X → List X
in_order key [] = []
in_order key (x ∷ xs) = put_first key x (in_order key xs)

-- no key is less than one in front of it
abbrev pub Ascends : {X : Type 0} → (X → ℕ) → List X → Type 0
Ascends key [] = Unit {0}
Ascends key (x ∷ xs) = AllByRecursion (λ y. key x ≤ key y) xs × Ascends key xs
