use Rattle.std.proofs.Common.{◌<◌, length, rules}
use Rattle.h3_c.proofs.RowLaws.{is_first_short, sizes_next}
use Rattle.h3_c.proofs.rows.put_sizes.Goals as goal

pub size_of-requires : goal.size_of-requires
size_of-requires c = (is_first_short c.args.fields.now c.loop-place.place c.get.result (search rules) c.get.ensures c.loop-place.invariant.short).0

pub loop-place-preserved : goal.loop-place-preserved
loop-place-preserved c =
    let fields = c.args.fields.now in
    let inside : c.loop-place.place < length fields = search rules in
    record {
      sizes = rw c.size_of.ensures (sizes_next fields c.loop-place.place c.get.result c.loop-place.sizes c.args.sizes.now inside c.get.ensures c.requires.count c.loop-place.invariant.sizes);
      short = (is_first_short fields c.loop-place.place c.get.result inside c.get.ensures c.loop-place.invariant.short).1;
    }
