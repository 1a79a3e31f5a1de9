-- The static table has 99 entries.
use Rattle.std.proofs.Common.{◌≡◌, ℕ, zero, suc, ◌≤◌, List, [], ◌∷◌, length, None, refl, arith}
use Rattle.std.specs.List.{slice_get}
use Rattle.h3_field.specs.Field.{Field}
use Rattle.h3_field.specs.StaticTable.{static_table}

pub table_length : length static_table ≡ 99
unfolding static_table
table_length = refl

get_none : (fields : List Field) (i : ℕ) → length fields ≤ i → slice_get fields i ≡ None
get_none [] i h = refl
get_none (f ∷ fields) zero h = absurd (omega arith)
get_none (f ∷ fields) (suc i) h = get_none fields i (omega arith)

pub static_none : (index : ℕ) → 99 ≤ index → slice_get static_table index ≡ None
static_none index le = get_none static_table index (rw table_length le)
