use Rattle.std.proofs.Common.{arith}
use Rattle.std.proofs.lemmas.Grind.{common_steps}
use Rattle.h3_proto.proofs.frame.SettingId.is_known.Goals as goal

pub returns-in-1 : goal.returns-in-1
returns-in-1 c = grind (arith, common_steps)

pub returns-in-1-2 : goal.returns-in-1-2
returns-in-1-2 c = grind (arith, common_steps)

pub returns-in-1-3 : goal.returns-in-1-3
returns-in-1-3 c = grind (arith, common_steps)
