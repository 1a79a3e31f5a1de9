use Rattle.std.proofs.Common.{arith}
use Rattle.std.proofs.lemmas.Grind.{common_steps}
use Rattle.h3_header.proofs.headers.read.append_field.Goals as goal

pub returns-in-Err-MaxSizeReached-clause-err : goal.returns-in-Err-MaxSizeReached-clause-err
returns-in-Err-MaxSizeReached-clause-err c = grind (arith, common_steps)
