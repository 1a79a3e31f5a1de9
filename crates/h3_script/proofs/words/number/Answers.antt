use Rattle.std.proofs.Common.{refl, arith, take_all}
use Rattle.h3_script.proofs.Numbers.{no_more, so_far_more, all_so_far}
use Rattle.h3_script.proofs.words.number.Goals as goal

pub returns-in_err-more : goal.returns-in_err-more
returns-in_err-more c = rw c.from_residual.ensures (no_more c.args.word.now c.loop-byte.byte-index _ _ c.loop-byte.invariant c.loop-byte-test.true refl c.in_err-more.ensures)

pub loop-byte-preserved : goal.loop-byte-preserved
loop-byte-preserved c = so_far_more c.args.word.now c.loop-byte.byte-index _ _ _ c.loop-byte.invariant c.loop-byte-test.true refl c.in_ok-more.ensures

pub returns : goal.returns
returns c = all_so_far c.args.word.now c.loop-byte.byte-index c.loop-byte.number c.loop-byte.invariant (take_all _ _ (omega arith)) (omega arith)
