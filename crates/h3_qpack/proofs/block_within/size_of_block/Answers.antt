use Rattle.std.proofs.Common.{length, ap, arith}
use Rattle.h3_qpack.proofs.Sizes.{size_end_to_end}
use Rattle.h3_qpack.proofs.block_within.size_of_block.Goals as goal

pub returns : goal.returns
returns c =
    let bytes = ap length c.bytes-bytes.ensures in
    omega (arith, size_end_to_end c.args.block.now, c.len-count.ensures, bytes, c.saturating_mul.ensures, c.saturating_add.ensures)
