use Rattle.std.proofs.Common.{refl}
use Rattle.h3_huffman.specs.Huffman.{huffman, bits, code_word, octets}
use Rattle.h3_field.proofs.examples.strings.Goals as goal

pub returns-clause-letter : goal.returns-clause-letter
unfolding huffman bits code_word octets
returns-clause-letter c = refl

pub returns-clause-host : goal.returns-clause-host
unfolding huffman bits code_word octets
returns-clause-host c = refl
