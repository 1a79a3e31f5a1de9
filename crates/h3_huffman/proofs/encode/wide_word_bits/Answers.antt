use Rattle.std.proofs.Common.{arith, ap, length, flat_map}
use Rattle.std.proofs.lemmas.List.{take_all}
use Rattle.h3_huffman.specs.Huffman.{code_word}
use Rattle.h3_huffman.proofs.encode.wide_word_bits.Goals as goal

pub returns-clause-value : goal.returns-clause-value
returns-clause-value c =
    let whole = take_all c.loop-byte.byte-index c.args.plain.now (omega arith) in
    omega (arith, c.loop-byte.invariant.value, ap (λ x. length (flat_map code_word x)) whole)
