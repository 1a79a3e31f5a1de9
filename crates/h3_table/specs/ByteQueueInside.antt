-- What the fields of `ByteQueue` stand for.
use Rattle.std.specs.Prelude.{◌≤◌, ◌-◌, drop, length}
use Rattle.std.specs.Vec.{vec_capacity, vec_len}
use Rattle.h3_table.specs.ByteRow.{ByteRow}
use Rattle.h3_table.specs.declared.byte_queue.ByteQueue.TheInside.{Inside}

abbrev pub byte_row_inside : Inside → ByteRow
byte_row_inside q = record { bytes = drop q.start q.bytes.items; room = vec_capacity q.bytes - vec_len q.bytes }

abbrev pub IsByteQueue : Inside → Type 0
IsByteQueue q = q.start ≤ length q.bytes.items
