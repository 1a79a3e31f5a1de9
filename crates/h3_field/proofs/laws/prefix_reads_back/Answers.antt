use Rattle.h3_field.specs.PrefixLaws.{prefix_is_written, prefix_reads_back, prefix_is_read}
use Rattle.h3_field.proofs.laws.prefix_reads_back.Goals as goal

pub returns-clause-written : goal.returns-clause-written
returns-clause-written c = prefix_is_written

pub returns-clause-bytes : goal.returns-clause-bytes
returns-clause-bytes c = prefix_reads_back

pub returns-clause-taken : goal.returns-clause-taken
returns-clause-taken c = prefix_is_read
