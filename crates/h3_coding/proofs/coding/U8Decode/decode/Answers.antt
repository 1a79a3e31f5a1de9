use Rattle.std.proofs.Common.{arith}
use Rattle.std.proofs.lemmas.Grind.{common_steps}
use Rattle.h3_coding.proofs.coding.U8Decode.decode.Goals as goal

pub returns-then-remaining-lt1-clause-err : goal.returns-then-remaining-lt1-clause-err
returns-then-remaining-lt1-clause-err g c = grind (arith, common_steps)
