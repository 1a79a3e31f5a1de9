-- What the fields of a table's struct stand for.
use Rattle.std.specs.Prelude.{◌≡◌, ◌<◌, ◌≤◌, ◌*◌, ◌^◌, length}
use Rattle.h3_field.specs.Field.{section_size}
use Rattle.h3_table.specs.TableState.{TableState}
use Rattle.h3_table.specs.declared.entries.Entries.TheInside.{Inside}

abbrev pub table_state_inside : Inside → TableState
table_state_inside e = record { capacity = e.capacity; entries = e.fields.fields; inserted = e.inserted }

pub record IsEntries (e : Inside) : Type 0 where
  pub sum : e.size ≡ section_size e.fields.fields
  pub fits : e.size ≤ e.capacity
  pub small : e.capacity < 2 ^ 30
  pub made : length e.fields.fields ≤ e.inserted
  pub few : e.inserted < 2 ^ 62
  pub written : e.fields.written ≤ e.inserted * 2 ^ 30
