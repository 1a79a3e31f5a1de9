use Rattle.std.proofs.Common.{rules}
use Rattle.h3_c.proofs.RowLaws.{short_fails, short_next}
use Rattle.h3_c.proofs.rows.are_short.Goals as goal

pub returns-then-not-is_short : goal.returns-then-not-is_short
returns-then-not-is_short c = short_fails c.args.fields.now c.loop-place.place c.get.result _ (search rules) c.get.ensures (search rules) c.loop-place.invariant.same

pub loop-place-preserved : goal.loop-place-preserved
loop-place-preserved c = record { same = short_next c.args.fields.now c.loop-place.place c.get.result _ (search rules) c.get.ensures (search rules) c.loop-place.invariant.same }
