-- Units that were written one behind the other, each read back whatever follows it, of which only a front came.
use Rattle.std.proofs.Common.{◌≡◌, ℕ, suc, ◌+◌, ◌-◌, ◌≤◌, List, [], ◌∷◌, ◌++◌, length, take, drop, flat_map, refl, sym, ◌∙◌, ap, subst, arith, length-append, length-drop}
use Rattle.std.specs.List.{AllByRecursion}
use Rattle.std.proofs.lemmas.List.{take-append-drop, take_at}

-- How the bytes of a unit are read: none begins with nothing, more bytes change nothing, a written one is read back, and no bytes
-- begin with two.
pub record UnitLaws {X : Type 0} (bytes_of : X → List ℕ) (IsWritten : X → Type 0) (Begins : List ℕ → X → List ℕ → Type 0) : Type 0 where
  pub none : (x : X) (rest : List ℕ) → Begins [] x rest → ⊥
  pub longer : (bytes rest more : List ℕ) (x : X) → Begins bytes x rest → Begins (bytes ++ more) x (rest ++ more)
  pub back : (x : X) (rest : List ℕ) → IsWritten x → Begins (bytes_of x ++ rest) x rest
  pub one : (bytes rest other : List ℕ) (x y : X) → Begins bytes x rest → Begins bytes y other → (x ≡ y) × (rest ≡ other)

-- The bytes are these units, and the bytes left.
pub data AreUnits {X : Type 0} (Begins : List ℕ → X → List ℕ → Type 0) : List ℕ → List X → List ℕ → Type 0 where
  NoUnit : (bytes : List ℕ) → AreUnits Begins bytes [] bytes
  NextUnit : (bytes rest left : List ℕ) (x : X) (xs : List X) → Begins bytes x rest → AreUnits Begins rest xs left → AreUnits Begins bytes (x ∷ xs) left

-- what was read of the front: some of the units, and what came of those behind them is left
pub record FrontOfUnits {X : Type 0} (bytes_of : X → List ℕ) (all : List X) (n : ℕ) (xs : List X) (left : List ℕ) : Type 0 where
  pub count : ℕ
  pub within : count ≤ length all
  pub are : xs ≡ take count all
  pub fits : length (flat_map bytes_of (take count all)) ≤ n
  pub left_is : left ≡ take (n - length (flat_map bytes_of (take count all))) (flat_map bytes_of (drop count all))

-- the first unit that is read is the first that was written
first_unit : {X : Type 0} (bytes_of : X → List ℕ) (IsWritten : X → Type 0) (Begins : List ℕ → X → List ℕ → Type 0) → UnitLaws bytes_of IsWritten Begins
    → (y : X) (all : List X) (n : ℕ) (bytes rest : List ℕ) (x : X) → IsWritten y → n ≤ length (flat_map bytes_of (y ∷ all))
    → bytes ≡ take n (flat_map bytes_of (y ∷ all)) → Begins bytes x rest
    → (x ≡ y) × (length (bytes_of y) ≤ n) × (rest ≡ take (n - length (bytes_of y)) (flat_map bytes_of all))
first_unit bytes_of IsWritten Begins laws y all n bytes rest x w fits e here =
    let text = bytes_of y ++ flat_map bytes_of all in
    let more = drop n text in
    let whole : bytes ++ more ≡ text = ap (λ b. b ++ more) e ∙ take-append-drop n text in
    let long = subst (λ t. Begins t x (rest ++ more)) whole (laws.longer bytes rest more x here) in
    let one = laws.one text (rest ++ more) (flat_map bytes_of all) x y long (laws.back y (flat_map bytes_of all) w) in
    let sizes : length rest + (length text - n) ≡ length (flat_map bytes_of all) = omega (arith, ap length one.1, length-append rest more, length-drop n text) in
    let place : length rest ≡ n - length (bytes_of y) = omega (arith, sizes, fits, length-append (bytes_of y) (flat_map bytes_of all)) in (
      one.0,
      omega (arith, sizes, fits, length-append (bytes_of y) (flat_map bytes_of all)),
      sym (take_at rest more (n - length (bytes_of y)) place) ∙ ap (take (n - length (bytes_of y))) one.1,
    )

pub front_of_units : {X : Type 0} (bytes_of : X → List ℕ) (IsWritten : X → Type 0) (Begins : List ℕ → X → List ℕ → Type 0) → UnitLaws bytes_of IsWritten Begins
    → (all : List X) (n : ℕ) (bytes left : List ℕ) (xs : List X) → AllByRecursion IsWritten all → n ≤ length (flat_map bytes_of all)
    → bytes ≡ take n (flat_map bytes_of all) → AreUnits Begins bytes xs left → FrontOfUnits bytes_of all n xs left
front_of_units bytes_of IsWritten Begins laws all n bytes left [] w fits e (NoUnit b) =
    let same : n - 0 ≡ n = omega arith in
    record { count = 0; within = omega arith; are = refl; fits = omega arith; left_is = rw same e }
front_of_units bytes_of IsWritten Begins laws [] n bytes left (x ∷ xs) w fits e (NextUnit b rest l y ys here others) =
    let none : n ≡ 0 = omega (arith, fits) in
    absurd (laws.none x rest (subst (λ t. Begins t x rest) (e ∙ ap (λ m. take m []) none) here))
front_of_units bytes_of IsWritten Begins laws (y ∷ all) n bytes left (x ∷ xs) w fits e (NextUnit b rest l k ks here others) =
    let f = first_unit bytes_of IsWritten Begins laws y all n bytes rest x w.0 fits e here in
    let later = front_of_units bytes_of IsWritten Begins laws all (n - length (bytes_of y)) rest left xs w.1 (omega (arith, fits, length-append (bytes_of y) (flat_map bytes_of all))) f.2 others in
    let sum = length-append (bytes_of y) (flat_map bytes_of (take later.count all)) in
    let same : n - length (bytes_of y) - length (flat_map bytes_of (take later.count all)) ≡ n - length (bytes_of y ++ flat_map bytes_of (take later.count all)) = omega (arith, sum) in
    record {
      count = suc later.count;
      within = omega (arith, later.within);
      are = ap (λ z. z ∷ xs) f.0 ∙ ap (λ zs. y ∷ zs) later.are;
      fits = omega (arith, later.fits, f.1, sum);
      left_is = later.left_is ∙ ap (λ m. take m (flat_map bytes_of (drop later.count all))) same;
    }
