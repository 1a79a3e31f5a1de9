use Rattle.std.proofs.Common.{◌/◌, ◌%◌, ◌^◌, ◌∙◌, ap, arith, bit_or}
use Rattle.h3_huffman.proofs.Pending.{high_half}
use Rattle.h3_huffman.proofs.WritingFront.{finished_front}
use Rattle.h3_huffman.proofs.encode.put_last.Goals as goal

pub returns-clause-payload : goal.returns-clause-payload
returns-clause-payload c = λ plain p.
    let few = c.requires.few in
    let half = ap (λ x. x / 2 ^ 32) p.high ∙ high_half _ _ (omega (arith, few)) p.below in
    finished_front _ _ _ _ _ _ _ p.standing few (ap (λ x. bit_or x (4294967295 / 2 ^ c.args.before.count) % 2 ^ 32) half) c.put_word.ensures
