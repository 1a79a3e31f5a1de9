use Rattle.std.proofs.Common.{refl}
use Rattle.h3_qpack.proofs.Withdrawals.{withdrawn_as_cut_off, counts_kept}
use Rattle.h3_qpack.proofs.laws.sections_leave_their_counts.Goals as goal

pub returns-clause-withdrawn : goal.returns-clause-withdrawn
returns-clause-withdrawn c = withdrawn_as_cut_off

pub returns-clause-sent : goal.returns-clause-sent
returns-clause-sent c = λ s stream fields. refl

pub returns-clause-read : goal.returns-clause-read
returns-clause-read c = counts_kept
