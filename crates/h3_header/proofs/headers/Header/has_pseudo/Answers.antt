use Rattle.std.proofs.Common.{arith}
use Rattle.std.proofs.lemmas.Grind.{common_steps}
use Rattle.h3_header.proofs.headers.Header.has_pseudo.Goals as goal

pub returns-else-is_some-5 : goal.returns-else-is_some-5
returns-else-is_some-5 c = grind (arith, common_steps)
