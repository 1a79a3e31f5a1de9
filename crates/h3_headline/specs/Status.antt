-- The last status of a field list that is read as a head.
use Rattle.std.proofs.Common.{◌≡◌, ℕ, List, Option, Some, None}
use Rattle.http.specs.StatusCode.{IsCodeText}
use Rattle.h3_header.specs.Reads.{status_number}

-- a status of the head is that of the last text, which is one of a status
abbrev pub IsStatusOf : Option ℕ → Option (List ℕ) → Type 0
IsStatusOf None None = Unit {0}
IsStatusOf (Some n) None = ⊥
IsStatusOf None (Some text) = ⊥
IsStatusOf (Some n) (Some text) = IsCodeText text × (n ≡ status_number text)
