use Rattle.h3_field.specs.ValueLaws.{string_some, string_is}
use Rattle.h3_field.proofs.NoValues.{string_none, no_string}
use Rattle.h3_field.proofs.laws.payloads_are_their_value.Goals as goal

pub returns-clause-some : goal.returns-clause-some
returns-clause-some c = string_some

pub returns-clause-only : goal.returns-clause-only
returns-clause-only c = string_is

pub returns-clause-none : goal.returns-clause-none
returns-clause-none c = string_none

pub returns-clause-refused : goal.returns-clause-refused
returns-clause-refused c = no_string
