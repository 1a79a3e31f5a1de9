-- Texts that are cut at the bytes of one value.
use Rattle.std.specs.Prelude.{ℕ, List, [], ◌∷◌, ◌==◌, if◌then◌else◌, Option, Some, None, option_map, map}
use Rattle.std.specs.Borrow.{Bor}

-- the bytes before the first of that value, and those behind it
abbrev pub cut : ℕ → List ℕ → Option (List ℕ × List ℕ)
cut at [] = None
cut at (b ∷ bytes) = if b == at then Some ([], bytes) else option_map (λ parts. (b ∷ parts.0, parts.1)) (cut at bytes)

-- the pieces with one more byte at the front
abbrev pub begun : ℕ → List (List ℕ) → List (List ℕ)
begun b [] = (b ∷ []) ∷ []
begun b (piece ∷ pieces) = (b ∷ piece) ∷ pieces

-- the pieces that the bytes of that value part
abbrev pub pieces : ℕ → List ℕ → List (List ℕ)
pieces at [] = [] ∷ []
pieces at (b ∷ bytes) = if b == at then [] ∷ pieces at bytes else begun b (pieces at bytes)

-- the bytes that each reference points to
abbrev pub texts : List (Bor (List ℕ)) → List (List ℕ)
texts refs = map (λ r. r.now) refs
