-- How the table changes as insertions are added.
use Rattle.std.proofs.Common.{◌≡◌, ℕ, ◌+◌, ◌-◌, ◌≤◌, List, [], ◌∷◌, ◌++◌, length, arith, length-append}
use Rattle.std.proofs.lemmas.Grind.{common_steps}
use Rattle.std.proofs.lemmas.List.Sums.{sum_by-append}
use Rattle.h3_field.specs.Field.{Field, field_size, section_size}
use Rattle.h3_table.specs.Table.{table, evictions}

pub length-table : (capacity : ℕ) (fs : List Field) → length (table capacity fs) ≤ length fs
length-table capacity [] = omega arith
length-table capacity (f ∷ fs) = grind (arith, common_steps, length-table capacity fs)

-- A further insertion evicts no more than it must: what was evicted stays evicted.
pub length-table-append : (capacity : ℕ) (fs gs : List Field) → length (table capacity (fs ++ gs)) ≤ length (table capacity fs) + length gs
length-table-append capacity [] gs = grind (arith, length-table capacity gs)
length-table-append capacity (f ∷ fs) gs =
    grind (arith, common_steps, length-table-append capacity fs gs, length-table capacity fs, length-append fs gs, sum_by-append field_size (f ∷ fs) gs)

pub evictions-append : (capacity : ℕ) (fs gs : List Field) → evictions capacity fs ≤ evictions capacity (fs ++ gs)
evictions-append capacity fs gs = omega (arith, length-table-append capacity fs gs, length-append fs gs, length-table capacity fs)

-- a field that fits is there, and the others have what it leaves
pub table-one : (capacity : ℕ) (fs : List Field) (f : Field) → field_size f ≤ capacity → table capacity (fs ++ f ∷ []) ≡ table (capacity - field_size f) fs ++ f ∷ []
table-one capacity [] f h = grind (arith, common_steps)
table-one capacity (g ∷ fs) f h = grind (arith, common_steps, table-one capacity fs f h, sum_by-append field_size (g ∷ fs) (f ∷ []))

pub section_size-table : (capacity : ℕ) (fs : List Field) → section_size (table capacity fs) ≤ capacity
section_size-table capacity [] = omega arith
section_size-table capacity (f ∷ fs) = grind (arith, common_steps, section_size-table capacity fs)
