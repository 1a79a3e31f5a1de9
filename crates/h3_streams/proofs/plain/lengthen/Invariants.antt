use Rattle.std.proofs.Common.{◌≤◌, length}
use Rattle.h3_streams.specs.Plain.{SamePlaces}
use Rattle.h3_streams.proofs.plain.lengthen.Given as goal

abbrev pub invariant-loop-place : goal.invariant-loop-place
invariant-loop-place l = SamePlaces l.fn.row.items l.row.items × (length l.row.items ≤ l._place)
