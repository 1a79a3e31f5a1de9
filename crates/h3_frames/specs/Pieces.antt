-- Bytes in pieces, one after another.
use Rattle.std.specs.Prelude.{◌≡◌, ℕ, zero, suc, ◌-◌, ◌≤◌, List, [], ◌∷◌, ◌++◌, length, take, drop, map, nat_lt, nat_le, if◌then◌else◌, Option, Some, None}
use Rattle.std.specs.List.{concat}

-- the bytes of the pieces, joined
abbrev pub joined : {T : Type 0} → (T → List ℕ) → List T → List ℕ
joined unread pieces = concat (map unread pieces)

-- What is seen of a list of pieces: the pieces, and how many more fit with no allocation. Its bytes are the pieces joined.
pub record Listed : Type 0 where
  pub pieces : List (List ℕ)
  pub room : ℕ

-- the pieces with one more at the end; an empty one is none
abbrev pub with_piece : List (List ℕ) → List ℕ → List (List ℕ)
with_piece pieces [] = pieces
with_piece pieces (byte ∷ bytes) = pieces ++ (byte ∷ bytes) ∷ []

-- what is left of the pieces behind their first n bytes
abbrev pub without : ℕ → List (List ℕ) → List (List ℕ)
without n [] = []
without zero (p ∷ pieces) = p ∷ pieces
without (suc n) (p ∷ pieces) = if nat_lt (suc n) (length p) then drop (suc n) p ∷ pieces else without (suc n - length p) pieces

-- the first piece, and the others
abbrev pub first_of : List (List ℕ) → Option (List ℕ) × List (List ℕ)
first_of [] = (None, [])
first_of (p ∷ pieces) = (Some p, pieces)

-- how many bytes the first piece has
abbrev pub first_size : List (List ℕ) → ℕ
first_size [] = 0
first_size (p ∷ pieces) = length p

-- the bytes of the first piece
abbrev pub first_bytes : List (List ℕ) → List ℕ
first_bytes [] = []
first_bytes (p ∷ pieces) = p

-- the first piece's first bytes, at most max, and what is left
abbrev pub chunk_of : ℕ → List (List ℕ) → Option (List ℕ) × List (List ℕ)
chunk_of max [] = (None, [])
chunk_of max (p ∷ pieces) = if nat_le (length p) max then (Some p, pieces) else (Some (take max p), drop max p ∷ pieces)

-- some bytes at the front of the pieces are passed
abbrev pub IsRest : List (List ℕ) → List (List ℕ) → Type 0
IsRest all new = (count : ℕ) × (count ≤ length (concat all)) × (new ≡ without count all)

-- the last bytes of the pieces, so many
abbrev pub ending : ℕ → List (List ℕ) → List (List ℕ)
ending size all = without (length (concat all) - size) all

abbrev pub front_in : Option (List ℕ) × List (List ℕ) → Option (List ℕ)
front_in x = x.0

abbrev pub others_in : Option (List ℕ) × List (List ℕ) → List (List ℕ)
others_in x = x.1

abbrev pub bytes_in : Option (List ℕ) → List ℕ
bytes_in None = []
bytes_in (Some bytes) = bytes
