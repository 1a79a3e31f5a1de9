use Rattle.h3_field.specs.StringLaws.{string_literal_read}
use Rattle.h3_field.specs.ReadBackLaws.{written_stands}
use Rattle.h3_field.proofs.NoValues.{one_string_stood_for}
use Rattle.h3_field.proofs.laws.string_reads_back.Goals as goal

pub returns-clause-written : goal.returns-clause-written
returns-clause-written c = string_literal_read

pub returns-clause-stands : goal.returns-clause-stands
returns-clause-stands c = written_stands

pub returns-clause-one : goal.returns-clause-one
returns-clause-one c = one_string_stood_for
