use Rattle.std.proofs.Common.{arith}
use Rattle.std.proofs.lemmas.Grind.{common_steps}
use Rattle.h3_proto.proofs.stream.StreamTypeDecode.decode.Goals as goal

pub returns-in_err-get_var-clause-err : goal.returns-in_err-get_var-clause-err
returns-in_err-get_var-clause-err g c = grind (arith, common_steps)

pub returns-in_err-get_var-clause-kept : goal.returns-in_err-get_var-clause-kept
returns-in_err-get_var-clause-kept g c = search

pub returns-clause-ok : goal.returns-clause-ok
returns-clause-ok g c = grind (arith, common_steps)

pub returns-clause-kept : goal.returns-clause-kept
returns-clause-kept g c = search
