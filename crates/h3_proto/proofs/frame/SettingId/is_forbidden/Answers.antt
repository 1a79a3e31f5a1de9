use Rattle.std.proofs.Common.{arith}
use Rattle.std.proofs.lemmas.Grind.{common_steps}
use Rattle.h3_proto.proofs.frame.SettingId.is_forbidden.Goals as goal

pub returns-in_default : goal.returns-in_default
returns-in_default c = grind (arith, common_steps)

pub returns-in_default-2 : goal.returns-in_default-2
returns-in_default-2 c = grind (arith, common_steps)

pub returns-in-0 : goal.returns-in-0
returns-in-0 c = search

pub returns-in-0-2 : goal.returns-in-0-2
returns-in-0-2 c = grind (arith, common_steps)
