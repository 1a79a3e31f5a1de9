use Rattle.h3_qpack.proofs.DecodedLaws.{one_meaning, one_missing, not_both}
use Rattle.h3_qpack.proofs.laws.sections_have_one_meaning.Goals as goal

pub returns-clause-fields : goal.returns-clause-fields
returns-clause-fields c = one_meaning

pub returns-clause-missing : goal.returns-clause-missing
returns-clause-missing c = one_missing

pub returns-clause-either : goal.returns-clause-either
returns-clause-either c = not_both
