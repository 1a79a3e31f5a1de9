use Rattle.h3_field.specs.ValueLaws.{instruction_some, instruction_is}
use Rattle.h3_field.proofs.NoValues.{instruction_none, no_instruction, instruction_of_memory}
use Rattle.h3_field.proofs.laws.instructions_are_their_value.Goals as goal

pub returns-clause-some : goal.returns-clause-some
returns-clause-some c = instruction_some

pub returns-clause-only : goal.returns-clause-only
returns-clause-only c = instruction_is

pub returns-clause-none : goal.returns-clause-none
returns-clause-none c = instruction_none

pub returns-clause-refused : goal.returns-clause-refused
returns-clause-refused c form i none says = no_instruction form none i says

pub returns-clause-memory : goal.returns-clause-memory
returns-clause-memory c = instruction_of_memory
