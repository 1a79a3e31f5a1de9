use Rattle.h3_qpack.specs.SecretsLaws.{instructions_alike, counts_alike, lines_alike, sent_alike, inserted_alike}
use Rattle.h3_qpack.proofs.laws.secrets_leave_no_trace.Goals as goal

pub returns-clause-instructions : goal.returns-clause-instructions
returns-clause-instructions c = λ s fields others e. instructions_alike s fields others e

pub returns-clause-count : goal.returns-clause-count
returns-clause-count c = λ s fields others e. counts_alike s fields others e

pub returns-clause-lines : goal.returns-clause-lines
returns-clause-lines c = λ s fields others e. lines_alike s fields others e

pub returns-clause-sent : goal.returns-clause-sent
returns-clause-sent c = λ s stream fields others e. sent_alike s stream fields others e

pub returns-clause-inserted : goal.returns-clause-inserted
returns-clause-inserted c = λ s stream fields others e. inserted_alike s stream fields others e
