-- The streams of which a cancellation was read (RFC 9204, section 4.4.2), where all are kept or at most so many.
use Rattle.std.specs.Prelude.{◌≡◌, ℕ, ◌+◌, Bool, false, not, ◌&&◌, ◌||◌, max, List, [], ◌∷◌, length, nat_lt, if◌then◌else◌, ◌==◌, Option, Some, None}
use Rattle.std.specs.List.{list_any}
use Rattle.std.specs.Ordering.{nat_cmp}
use Rattle.std.specs.BTreeSet.{insert_key}

pub record Cancellations : Type 0 where
  -- the streams that are kept, in increasing order
  pub kept : List ℕ
  -- the most that are kept; with no such number all are
  pub most : Option ℕ
  -- above each stream that was let go
  pub below : ℕ

abbrev pub none_canceled : Option ℕ → Cancellations
none_canceled most = record { kept = []; most = most; below = 0 }

-- All are kept, and none was let go.
abbrev pub KeepsAll : Cancellations → Type 0
KeepsAll c = (c.most ≡ None) × (c.below ≡ 0)

abbrev pub are_too_many : Option ℕ → List ℕ → Bool
are_too_many None streams = false
are_too_many (Some most) streams = nat_lt most (length streams)

-- the least of these streams is let go
abbrev pub without_least : Cancellations → List ℕ → Cancellations
without_least c [] = record c { kept = [] }
without_least c (least ∷ streams) = record c { kept = streams; below = max c.below (least + 1) }

abbrev pub keeping : Cancellations → List ℕ → Cancellations
keeping c streams = if are_too_many c.most streams then without_least c streams else record c { kept = streams }

-- One stream more is canceled. One that is below the number is not kept.
abbrev pub with_canceled : Cancellations → ℕ → Cancellations
with_canceled c stream = if nat_lt stream c.below then c else keeping c (insert_key nat_cmp c.kept stream)

abbrev pub is_kept : Cancellations → ℕ → Bool
is_kept c stream = list_any (λ other. other == stream) c.kept

-- A stream counts as canceled where it is kept, and where it is below the number and no section of it is tracked: a cancellation releases
-- those of its stream.
abbrev pub counts_as_canceled : Cancellations → ℕ → Bool → Bool
counts_as_canceled c stream is_tracked = is_kept c stream || (nat_lt stream c.below && not is_tracked)
