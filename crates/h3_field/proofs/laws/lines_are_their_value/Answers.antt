use Rattle.h3_field.specs.ValueLaws.{line_some, line_is}
use Rattle.h3_field.proofs.NoValues.{line_none, no_line, line_of_memory}
use Rattle.h3_field.proofs.laws.lines_are_their_value.Goals as goal

pub returns-clause-some : goal.returns-clause-some
returns-clause-some c = line_some

pub returns-clause-only : goal.returns-clause-only
returns-clause-only c = line_is

pub returns-clause-none : goal.returns-clause-none
returns-clause-none c = line_none

pub returns-clause-refused : goal.returns-clause-refused
returns-clause-refused c form l none says = no_line form none l says

pub returns-clause-memory : goal.returns-clause-memory
returns-clause-memory c = line_of_memory
