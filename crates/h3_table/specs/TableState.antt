-- The state of a dynamic table: the entries that are there, and how many there ever were (RFC 9204, section 3.2).
use Rattle.std.specs.Prelude.{ℕ, ◌+◌, ◌-◌, ◌^◌, ◌&&◌, Bool, List, [], ◌∷◌, ◌++◌, length, slice_get, nat_lt, nat_le, if◌then◌else◌, Option, None}
use Rattle.h3_field.specs.Field.{Field, field_size}
use Rattle.h3_table.specs.Table.{table, newest_from}

pub record TableState : Type 0 where
  pub capacity : ℕ
  -- the oldest first
  pub entries : List Field
  -- how many were ever inserted: the number of the newest entry
  pub inserted : ℕ

abbrev pub no_entries : TableState
no_entries = record { capacity = 0; entries = []; inserted = 0 }

-- how many insertions are no longer there
abbrev pub evicted : TableState → ℕ
evicted h = h.inserted - length h.entries

-- the entry of that number, where it is there
abbrev pub entry_at : TableState → ℕ → Option Field
entry_at h number = if nat_lt (evicted h) number then slice_get h.entries (number - evicted h - 1) else None

-- Numbers of entries stay below 2 ^ 62, and an entry is no larger than the table.
abbrev pub has_room : TableState → Field → Bool
has_room h f = nat_lt (h.inserted + 1) (2 ^ 62) && nat_le (field_size f) h.capacity

-- RFC 9204 3.2.2: eviction
-- with a further entry: the oldest ones are evicted
abbrev pub with_entry : TableState → Field → TableState
with_entry h f = record h { entries = table h.capacity (h.entries ++ f ∷ []); inserted = h.inserted + 1 }

abbrev pub with_capacity : TableState → ℕ → TableState
with_capacity h capacity = record h { capacity = capacity; entries = table capacity h.entries }

abbrev pub in_range : (Field → Bool) → ℕ → ℕ → ℕ → Field → Bool
in_range test above most number entry = nat_lt above number && nat_le number most && test entry

-- the newest entry that passes, of those above one number and up to another
abbrev pub newest_in : TableState → (Field → Bool) → ℕ → ℕ → Option ℕ
newest_in h test above most = newest_from (in_range test above most) (evicted h + 1) h.entries
