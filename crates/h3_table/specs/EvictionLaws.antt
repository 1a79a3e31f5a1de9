-- How many entries are evicted for a field.
use Rattle.std.proofs.Common.{◌≡◌, ◌+◌, ◌-◌, ◌≤◌, [], ◌∷◌, ◌++◌, length, ◌∙◌, ap, arith, length-append}
use Rattle.h3_field.specs.Field.{Field, field_size}
use Rattle.h3_table.specs.Table.{table}
use Rattle.h3_table.specs.TableState.{TableState, evicted, with_entry}
use Rattle.h3_table.specs.TableLaws.{table-one}

length-with_entry : (h : TableState) (f : Field) → field_size f ≤ h.capacity → length (table h.capacity (h.entries ++ f ∷ [])) ≡ length (table (h.capacity - field_size f) h.entries) + 1
length-with_entry h f fits = ap length (table-one h.capacity h.entries f fits) ∙ omega (arith, length-append (table (h.capacity - field_size f) h.entries) (f ∷ []))

-- how many are evicted once the field is inserted
pub evicted_with_entry : (h : TableState) (f : Field) → field_size f ≤ h.capacity → evicted (with_entry h f) ≡ h.inserted - length (table (h.capacity - field_size f) h.entries)
evicted_with_entry h f fits = omega (arith, length-with_entry h f fits)
