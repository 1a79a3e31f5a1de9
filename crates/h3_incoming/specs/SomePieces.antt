-- Pieces of bytes of which none is empty.
use Rattle.std.specs.Prelude.{ℕ, ◌<◌, List, [], ◌∷◌, length}

abbrev pub AreSome : List (List ℕ) → Type 0
AreSome [] = Unit {0}
AreSome (p ∷ pieces) = (0 < length p) × AreSome pieces
