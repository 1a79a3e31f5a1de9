use Rattle.std.proofs.Common.{arith}
use Rattle.std.proofs.lemmas.Grind.{common_steps}
use Rattle.h3_qpack.proofs.session.acknowledge.Goals as goal

pub returns-then-not-is_needed-clause-ok : goal.returns-then-not-is_needed-clause-ok
returns-then-not-is_needed-clause-ok c = grind (arith, common_steps)

pub returns-then-not-is_needed-clause-err : goal.returns-then-not-is_needed-clause-err
returns-then-not-is_needed-clause-err c = search

pub returns-clause-ok : goal.returns-clause-ok
returns-clause-ok c = grind (arith, common_steps)
