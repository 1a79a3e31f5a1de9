use Rattle.std.proofs.Common.{arith}
use Rattle.h3_huffman.proofs.Writing.{word_is}
use Rattle.h3_huffman.proofs.encode.word_of.Goals as goal

pub returns : goal.returns
returns c = (word_is c.args.byte (omega arith)).word
