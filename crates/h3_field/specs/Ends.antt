-- What a reading leaves is an end of the bytes.
use Rattle.std.specs.Prelude.{◌≡◌, ◌≤◌, ◌-◌, ℕ, List, ◌++◌, length, drop}
use Rattle.h3_field.specs.Reading.{Reading, Whole, Unfinished, Bad}

-- the bytes are at least so many others, and then these
pub record EndsWith (least : ℕ) (bytes rest : List ℕ) : Type 0 where
  pub front : List ℕ
  pub parts : bytes ≡ front ++ rest
  pub some : least ≤ length front

-- what stands behind the value, where there is one, is an end
unfoldable pub LeavesEnd : {A : Type 0} → ℕ → List ℕ → Reading A → Type 0
LeavesEnd least bytes (Whole value rest) = EndsWith least bytes rest
LeavesEnd least bytes Unfinished = Unit {0}
LeavesEnd least bytes Bad = Unit {0}

-- so of all bytes: the value takes at least so many of them
unfoldable pub LeavesEnds : {A : Type 0} → ℕ → (List ℕ → Reading A) → Type 0
LeavesEnds least read = (bytes : List ℕ) → LeavesEnd least bytes (read bytes)

-- what a reader leaves in its buffer: the bytes without some of the first ones
abbrev pub IsEndOf : List ℕ → List ℕ → Type 0
IsEndOf bytes rest = rest ≡ drop (length bytes - length rest) bytes
