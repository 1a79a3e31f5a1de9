use Rattle.std.proofs.Common.{◌+◌, refl, arith}
use Rattle.h3_huffman.proofs.Pending.{add_at}
use Rattle.h3_huffman.proofs.encode.add_four.Goals as goal

pub returns-clause-standing : goal.returns-clause-standing
returns-clause-standing c = λ out standing.
    let i = c.args.place in
    let fits = c.if-count-ge64.false in
    let l1 = c.word_len in
    let l2 = c.word_len-2 in
    let l3 = c.word_len-3 in
    let l4 = c.word_len-4 in
    let w1 = c.word_of in
    let w2 = c.word_of-2 in
    let w3 = c.word_of-3 in
    let w4 = c.word_of-4 in
    let one = add_at _ _ i (i + 1) _ _ _ w1.result l1.result refl standing (omega (arith, fits)) (omega (arith, c.requires.there)) l1.ensures.value w1.ensures in
    let two = add_at _ _ (i + 1) (i + 2) _ _ _ w2.result l2.result (omega arith) one (omega (arith, fits)) (omega (arith, c.requires.there)) l2.ensures.value w2.ensures in
    let three = add_at _ _ (i + 2) (i + 3) _ _ _ w3.result l3.result (omega arith) two (omega (arith, fits)) (omega (arith, c.requires.there)) l3.ensures.value w3.ensures in
    add_at _ _ (i + 3) (i + 4) _ _ _ w4.result l4.result (omega arith) three (omega (arith, fits)) (omega (arith, c.requires.there)) l4.ensures.value w4.ensures
