use Rattle.std.proofs.Common.{arith}
use Rattle.httparse.proofs.LaneLemmas.{covered}
use Rattle.h3_header.specs.HeadTests.{is_name_byte}
use Rattle.h3_header.proofs.grammar.names.is_plain_name.Goals as goal

pub returns-then-are_eight_plain : goal.returns-then-are_eight_plain
returns-then-are_eight_plain c last =
    covered is_name_byte c.args.text.now 8 8 (omega arith) (omega arith) (c.are_eight_plain.ensures c.if-are_eight_plain.true)
    (c.are_eight_plain-then-are_eight_plain.ensures last)

pub returns-then-are_sixteen_plain : goal.returns-then-are_sixteen_plain
returns-then-are_sixteen_plain c last =
    covered is_name_byte c.args.text.now 16 16 (omega arith) (omega arith) (c.are_sixteen_plain.ensures c.if-are_sixteen_plain.true)
    (c.are_sixteen_plain-then-are_sixteen_plain.ensures last)
