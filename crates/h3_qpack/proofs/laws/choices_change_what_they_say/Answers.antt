use Rattle.std.proofs.Common.{refl}
use Rattle.h3_qpack.specs.GuardLaws.{as_given, guarded_on}
use Rattle.h3_qpack.proofs.PlainSections.{nothing_chosen}
use Rattle.h3_qpack.proofs.laws.choices_change_what_they_say.Goals as goal

pub returns-clause-fields : goal.returns-clause-fields
returns-clause-fields c = as_given

pub returns-clause-strings : goal.returns-clause-strings
returns-clause-strings c = λ bytes. refl

pub returns-clause-guarded : goal.returns-clause-guarded
returns-clause-guarded c = guarded_on

pub returns-clause-stateless : goal.returns-clause-stateless
returns-clause-stateless c = nothing_chosen
