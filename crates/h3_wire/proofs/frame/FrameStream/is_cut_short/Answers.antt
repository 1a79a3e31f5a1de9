use Rattle.std.proofs.Common.{arith}
use Rattle.std.proofs.lemmas.Grind.{common_steps}
use Rattle.h3_wire.proofs.frame.FrameStream.is_cut_short.Goals as goal

pub returns-then-there-eq0-clause-is : goal.returns-then-there-eq0-clause-is
returns-then-there-eq0-clause-is g c = grind (arith, common_steps)

pub returns-then-there-eq0-clause-short : goal.returns-then-there-eq0-clause-short
returns-then-there-eq0-clause-short g c = grind (arith, common_steps)

pub returns-then-there-eq0-clause-whole : goal.returns-then-there-eq0-clause-whole
returns-then-there-eq0-clause-whole g c = grind (arith, common_steps)

pub returns-else-there-eq0-clause-is : goal.returns-else-there-eq0-clause-is
returns-else-there-eq0-clause-is g c = grind (arith, common_steps)

pub returns-else-there-eq0-clause-short : goal.returns-else-there-eq0-clause-short
returns-else-there-eq0-clause-short g c = grind (arith, common_steps)

pub returns-else-there-eq0-clause-whole : goal.returns-else-there-eq0-clause-whole
returns-else-there-eq0-clause-whole g c = grind (arith, common_steps)

pub returns-else-there-count-clause-is : goal.returns-else-there-count-clause-is
returns-else-there-count-clause-is g c = grind (arith, common_steps)

pub returns-else-there-count-clause-short : goal.returns-else-there-count-clause-short
returns-else-there-count-clause-short g c = grind (arith, common_steps)

pub returns-else-there-count-clause-whole : goal.returns-else-there-count-clause-whole
returns-else-there-count-clause-whole g c = grind (arith, common_steps)
