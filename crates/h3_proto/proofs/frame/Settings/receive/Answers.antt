use Rattle.std.proofs.Common.{arith}
use Rattle.std.proofs.lemmas.Grind.{common_steps}
use Rattle.h3_proto.proofs.frame.Settings.receive.Goals as goal

pub returns-then-not-is_known-clause-ok : goal.returns-then-not-is_known-clause-ok
returns-then-not-is_known-clause-ok c = grind (arith, common_steps)

pub returns-then-not-is_known-clause-err : goal.returns-then-not-is_known-clause-err
returns-then-not-is_known-clause-err c = search

pub returns-clause-ok : goal.returns-clause-ok
returns-clause-ok c = grind (arith, common_steps)

pub returns-clause-err : goal.returns-clause-err
returns-clause-err c = grind (arith, common_steps)
