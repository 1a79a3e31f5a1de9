use Rattle.std.proofs.Common.{arith, ◌≡◌, get_or, ◌∙◌}
use Rattle.h3_huffman.specs.declared.byte_words.TheConstants.{WORD_LENGTHS}
use Rattle.h3_huffman.proofs.Writing.{word_is}
use Rattle.h3_huffman.proofs.encode.word_len.Goals as goal

pub returns-clause-value : goal.returns-clause-value
returns-clause-value c =
    let w = word_is c.args.byte (omega arith) in
    let e : c.from.result ≡ get_or WORD_LENGTHS c.args.byte 0 = c.from.ensures in
    e ∙ w.len

pub returns-clause-most : goal.returns-clause-most
returns-clause-most c =
    let w = word_is c.args.byte (omega arith) in
    let e : c.from.result ≡ get_or WORD_LENGTHS c.args.byte 0 = c.from.ensures in
    rw e w.most

pub returns-clause-least : goal.returns-clause-least
returns-clause-least c =
    let w = word_is c.args.byte (omega arith) in
    let e : c.from.result ≡ get_or WORD_LENGTHS c.args.byte 0 = c.from.ensures in
    rw e w.least
