use Rattle.h3_field.specs.IntegerLaws.{prefixed_read, integer_read}
use Rattle.h3_field.proofs.IntegersFound.{integer_found}
use Rattle.h3_field.proofs.laws.integer_reads_back.Goals as goal

pub returns-clause-written : goal.returns-clause-written
returns-clause-written c = prefixed_read

pub returns-clause-longer : goal.returns-clause-longer
returns-clause-longer c = integer_read

pub returns-clause-nothing_else : goal.returns-clause-nothing_else
returns-clause-nothing_else c = integer_found
