-- What a contract sees of a `Cursor`, and what its fields keep.
use Rattle.std.specs.Prelude.{◌≡◌, ℕ, ◌+◌, ◌<◌, ◌≤◌, List, [], ◌∷◌, length, drop, slice_index_or, All}
use Rattle.h3_frames.specs.Pieces.{joined}

-- all the bytes, and how many of them were passed
pub record Place : Type 0 where
  pub all : List ℕ
  pub position : ℕ

-- the bytes that are left
abbrev pub left_at : Place → List ℕ
left_at p = drop p.position p.all

-- what no read changes: all the bytes, and how many there are
abbrev pub place_kept : Place → List (List ℕ × ℕ)
place_kept p = (p.all, p.position + length (left_at p)) ∷ []

-- the piece under the cursor, with the bytes of it that were passed, is where the position says
pub record IsPlaced {T : Type 0} (unread : T → List ℕ) (items : List T) (index front position len : ℕ) : Type 0 where
  pub counted : len ≡ length (joined unread items)
  pub within : position ≤ len
  pub rest : drop position (joined unread items) ≡ drop front (joined unread (drop index items))
  pub inside : index < length items → (d : T) → front < length (unread (slice_index_or items index d))
  pub ended : length items ≤ index → front ≡ 0
  pub filled : All (λ p. 0 < length (unread p)) items
