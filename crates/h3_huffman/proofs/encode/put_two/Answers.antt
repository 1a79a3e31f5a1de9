use Rattle.std.proofs.Common.{refl, arith}
use Rattle.h3_huffman.proofs.Whole.{put_both}
use Rattle.h3_huffman.proofs.encode.put_two.Goals as goal

pub returns-clause-standing : goal.returns-clause-standing
returns-clause-standing c =
    let l1 = c.word_len-first_len in
    let l2 = c.word_len in
    let same = c.put_eight.auto.out in
    put_both _ _ _ c.args.place _ _ _ c.word_of.result c.word_of-2.result l1.result l2.result _ c.requires.standing c.requires.few c.requires.there l1.ensures.value c.word_of.ensures l2.ensures.value c.word_of-2.ensures
    l1.ensures.least l1.ensures.most l2.ensures.least l2.ensures.most refl (omega (arith, same, c.requires.room)) same c.put_eight.ensures
