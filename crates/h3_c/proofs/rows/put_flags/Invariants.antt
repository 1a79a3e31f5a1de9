use Rattle.h3_c.proofs.RowLaws.{FlagsAt}
use Rattle.h3_c.proofs.rows.put_flags.Given as goal

abbrev pub invariant-loop-place : goal.invariant-loop-place
invariant-loop-place l = FlagsAt l.fields l.place l.flags l.fn.flags
