use Rattle.std.proofs.Common.{refl, arith}
use Rattle.h3_huffman.proofs.Writing.{sum_of}
use Rattle.h3_huffman.proofs.Pending.{add_at}
use Rattle.h3_huffman.proofs.encode.put_one.Goals as goal

pub flush-requires-clause-room : goal.flush-requires-clause-room
flush-requires-clause-room c =
    let word = c.word_of in
    let len = c.word_len in
    let more = add_at _ _ c.args.place _ _ _ _ word.result len.result refl c.requires.standing (omega (arith, c.requires.few, len.ensures.most)) c.requires.there len.ensures.value word.ensures in
    (sum_of _ _ _ _ _ _ more.standing).2

pub returns-clause-standing : goal.returns-clause-standing
returns-clause-standing c =
    let word = c.word_of in
    let len = c.word_len in
    let more = add_at _ _ c.args.place _ _ _ _ word.result len.result refl c.requires.standing (omega (arith, c.requires.few, len.ensures.most)) c.requires.there len.ensures.value word.ensures in
    c.flush.ensures.standing _ _ more
