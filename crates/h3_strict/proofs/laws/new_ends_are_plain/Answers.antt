use Rattle.h3_strict.proofs.PlainSetups.{judges_plainly, new_ends_plainly, new_plainly, setup_plainly}
use Rattle.h3_strict.proofs.laws.new_ends_are_plain.Goals as goal

pub returns-clause-endpoint : goal.returns-clause-endpoint
returns-clause-endpoint c = new_plainly

pub returns-clause-ends : goal.returns-clause-ends
returns-clause-ends c = new_ends_plainly

pub returns-clause-made : goal.returns-clause-made
returns-clause-made c = setup_plainly

pub returns-clause-plain : goal.returns-clause-plain
returns-clause-plain c = judges_plainly
