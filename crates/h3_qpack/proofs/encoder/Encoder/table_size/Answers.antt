use Rattle.std.proofs.Common.{arith}
use Rattle.std.proofs.lemmas.Grind.{common_steps}
use Rattle.h3_qpack.proofs.encoder.Encoder.table_size.Goals as goal

pub returns-clause-value : goal.returns-clause-value
returns-clause-value c = search

pub returns-clause-history : goal.returns-clause-history
returns-clause-history c = grind (arith, common_steps)
