use Rattle.std.proofs.Common.{◌<◌, length, rules}
use Rattle.h3_c.proofs.RowLaws.{flags_next}
use Rattle.h3_c.proofs.rows.put_flags.Goals as goal

pub loop-place-preserved : goal.loop-place-preserved
loop-place-preserved c =
    let inside : c.loop-place.place < length c.args.fields.now = search rules in
    rw c.flag_of.ensures (flags_next c.args.fields.now c.loop-place.place c.get.result c.loop-place.flags c.args.flags.now inside c.get.ensures c.if-place-flags.false c.loop-place.invariant)
