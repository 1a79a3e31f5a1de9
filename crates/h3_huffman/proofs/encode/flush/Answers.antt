use Rattle.std.proofs.Common.{arith}
use Rattle.h3_huffman.proofs.Pending.{move_high}
use Rattle.h3_huffman.proofs.encode.flush.Goals as goal

pub returns-clause-standing : goal.returns-clause-standing
returns-clause-standing c = λ plain index standing.
    let same = c.put_word.auto.out in
    move_high _ _ _ _ _ _ _ standing c.if-before-lt32.false (omega (arith, c.requires.few)) (omega (arith, same, c.requires.room)) same c.put_word.ensures
