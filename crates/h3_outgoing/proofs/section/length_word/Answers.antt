-- The last bytes of the word are the encoding, by its size.
use Rattle.std.proofs.Common.{arith, ◌≡◌, ◌%◌, ◌∷◌, [], ap, sym, ◌∙◌}
use Rattle.h3_coding.specs.ShortestLaws.{encoding_one, encoding_two, encoding_four, encoding_eight}
use Rattle.h3_outgoing.proofs.section.length_word.Goals as goal

pub returns-then-len-clause-encoding : goal.returns-then-len-clause-encoding
returns-then-len-clause-encoding c =
    let whole : c.args.len % 256 ≡ c.args.len = omega arith in
    ap (λ n. n ∷ []) whole ∙ sym (encoding_one c.args.len (omega arith))

pub returns-then-len-2-clause-encoding : goal.returns-then-len-2-clause-encoding
returns-then-len-2-clause-encoding c = sym (encoding_two c.args.len (omega arith) (omega arith))

pub returns-then-len-3-clause-encoding : goal.returns-then-len-3-clause-encoding
returns-then-len-3-clause-encoding c = sym (encoding_four c.args.len (omega arith) (omega arith))

pub returns-else-len-3-clause-encoding : goal.returns-else-len-3-clause-encoding
returns-else-len-3-clause-encoding c = sym (encoding_eight c.args.len (omega arith) (omega arith))
