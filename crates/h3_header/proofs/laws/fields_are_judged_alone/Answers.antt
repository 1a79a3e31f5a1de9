use Rattle.h3_header.proofs.BadPartLaws.{few_refused, good_unless_many}
use Rattle.h3_header.proofs.laws.fields_are_judged_alone.Goals as goal

pub returns-clause-refused : goal.returns-clause-refused
returns-clause-refused c = few_refused

pub returns-clause-head : goal.returns-clause-head
returns-clause-head c = good_unless_many
