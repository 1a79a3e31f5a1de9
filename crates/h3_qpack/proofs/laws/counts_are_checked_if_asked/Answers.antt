use Rattle.h3_qpack.proofs.Checking.{whole_table, any_prefix, fields_unchecked, missing_unchecked, all_read_alike}
use Rattle.h3_qpack.proofs.laws.counts_are_checked_if_asked.Goals as goal

pub returns-clause-table : goal.returns-clause-table
returns-clause-table c = whole_table

pub returns-clause-prefix : goal.returns-clause-prefix
returns-clause-prefix c = any_prefix

pub returns-clause-fields : goal.returns-clause-fields
returns-clause-fields c = fields_unchecked

pub returns-clause-missing : goal.returns-clause-missing
returns-clause-missing c = missing_unchecked

pub returns-clause-instructions : goal.returns-clause-instructions
returns-clause-instructions c = all_read_alike
