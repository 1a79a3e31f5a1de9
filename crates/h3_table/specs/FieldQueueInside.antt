-- What the fields of `FieldQueue` stand for.
use Rattle.std.specs.Prelude.{◌<◌, ◌+◌, ◌^◌, List, ◌++◌, length}
use Rattle.std.specs.VecDeque.{deque_capacity}
use Rattle.h3_table.specs.FieldRow.{FieldRow}
use Rattle.h3_table.specs.Records.{fields_of, AreLaid}
use Rattle.h3_field.specs.Field.{Field}
use Rattle.h3_table.specs.declared.field_queue.FieldQueue.TheInside.{Inside}
use Rattle.h3_table.specs.declared.field_queue.FieldSlices.TheInside as slices

abbrev pub field_row_inside : Inside → FieldRow
field_row_inside q = record { fields = fields_of q.bytes.bytes q.records.items; written = q.first + length q.bytes.bytes; room = q.bytes.room; places = deque_capacity q.records }

pub record IsFieldQueue (q : Inside) : Type 0 where
  pub laid : AreLaid q.first q.bytes.bytes q.records.items
  pub small : q.first + length q.bytes.bytes < 2 ^ 128
  pub few : length q.bytes.bytes < 2 ^ 33

abbrev pub fields_inside : slices.Inside → List Field
fields_inside f = fields_of f.bytes.now (f.records.first.now ++ f.records.further.now)

pub record AreFieldSlices (f : slices.Inside) : Type 0 where
  pub laid : AreLaid f.first f.bytes.now (f.records.first.now ++ f.records.further.now)
  pub few : length f.bytes.now < 2 ^ 33
