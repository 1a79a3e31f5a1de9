use Rattle.std.proofs.Common.{refl}
use Rattle.h3_huffman.specs.Huffman.{huffman, bits, code_word, octets}
use Rattle.h3_field.proofs.examples.shortest_strings.Goals as goal

pub returns-clause-as_long : goal.returns-clause-as_long
unfolding huffman bits code_word octets
returns-clause-as_long c = refl

pub returns-clause-longer : goal.returns-clause-longer
unfolding huffman bits code_word octets
returns-clause-longer c = refl

pub returns-clause-shorter : goal.returns-clause-shorter
unfolding huffman bits code_word octets
returns-clause-shorter c = refl

pub returns-clause-empty : goal.returns-clause-empty
unfolding huffman bits code_word octets
returns-clause-empty c = refl

pub returns-clause-off : goal.returns-clause-off
unfolding huffman bits code_word octets
returns-clause-off c = refl

pub returns-clause-off_longer : goal.returns-clause-off_longer
unfolding huffman bits code_word octets
returns-clause-off_longer c = refl
