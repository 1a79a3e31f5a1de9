-- What some bytes begin with.
use Rattle.std.specs.Prelude.{◌≡◌, ℕ, List, ◌++◌}

-- A value, and the bytes behind it; or too few bytes to tell; or what no further bytes make good.
pub data Reading (A : Type 0) : Type 0 where
  Whole : (value : A) (rest : List ℕ) → Reading A
  Unfinished : Reading A
  Bad : Reading A

-- one value, and then what stands behind it
abbrev pub then_read : {A B : Type 0} → Reading A → (A → List ℕ → Reading B) → Reading B
then_read (Whole value rest) next = next value rest
then_read Unfinished next = Unfinished
then_read Bad next = Bad

-- What is read stays so, whatever bytes come behind. What is unfinished may become anything.
abbrev pub Stays : {A : Type 0} → List ℕ → Reading A → Reading A → Type 0
Stays more (Whole value rest) later = later ≡ Whole value (rest ++ more)
Stays more Unfinished later = Unit {0}
Stays more Bad later = later ≡ Bad

-- so of all bytes
abbrev pub IsStable : {A : Type 0} → (List ℕ → Reading A) → Type 0
IsStable read = (bytes more : List ℕ) → Stays more (read bytes) (read (bytes ++ more))
