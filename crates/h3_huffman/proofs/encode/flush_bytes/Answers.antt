use Rattle.std.proofs.Common.{arith}
use Rattle.h3_huffman.proofs.Whole.{flush_whole}
use Rattle.h3_huffman.proofs.encode.flush_bytes.Goals as goal

pub returns-clause-standing : goal.returns-clause-standing
returns-clause-standing c = λ plain index standing.
    let same = c.put_eight.auto.out in
    flush_whole _ _ _ _ _ _ _ standing c.requires.few (omega (arith, same, c.requires.room)) same c.put_eight.ensures
