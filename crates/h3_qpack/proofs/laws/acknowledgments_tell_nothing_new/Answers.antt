use Rattle.h3_qpack.proofs.Schedules.{nothing_new, same_bytes, same_instructions}
use Rattle.h3_qpack.proofs.laws.acknowledgments_tell_nothing_new.Goals as goal

pub returns-clause-known : goal.returns-clause-known
returns-clause-known c = nothing_new

pub returns-clause-bytes : goal.returns-clause-bytes
returns-clause-bytes c = same_bytes

pub returns-clause-instructions : goal.returns-clause-instructions
returns-clause-instructions c = same_instructions
