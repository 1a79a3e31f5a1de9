use Rattle.std.proofs.Common.{arith}
use Rattle.std.proofs.lemmas.Grind.{common_steps}
use Rattle.h3_qpack.proofs.section.Section.choose_literal.Goals as goal

pub returns-in-Some-newest-clause-rule : goal.returns-in-Some-newest-clause-rule
returns-in-Some-newest-clause-rule c = grind (arith, common_steps)

pub returns-in-Some-newest-clause-possible : goal.returns-in-Some-newest-clause-possible
returns-in-Some-newest-clause-possible c = grind (arith, common_steps)

pub returns-in-Some-newest-clause-missed : goal.returns-in-Some-newest-clause-missed
returns-in-Some-newest-clause-missed c = search

pub returns-clause-rule : goal.returns-clause-rule
returns-clause-rule c = grind (arith, common_steps)

pub returns-clause-possible : goal.returns-clause-possible
returns-clause-possible c = search

pub returns-clause-missed : goal.returns-clause-missed
returns-clause-missed c = search
