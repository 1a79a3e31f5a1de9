use Rattle.std.proofs.Common.{refl}
use Rattle.h3_qpack.proofs.Decoding.{section_counted}
use Rattle.h3_qpack.proofs.laws.sections_stay_within_their_counts.Goals as goal

pub returns-clause-lines : goal.returns-clause-lines
returns-clause-lines c = λ s fields. (section_counted s fields).lines

pub returns-clause-prefix : goal.returns-clause-prefix
returns-clause-prefix c = λ s fields none. rw none refl
