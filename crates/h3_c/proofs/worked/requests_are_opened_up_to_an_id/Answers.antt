use Rattle.std.proofs.Common.{refl}
use Rattle.h3_c.proofs.worked.requests_are_opened_up_to_an_id.Goals as goal

pub returns-clause-learned : goal.returns-clause-learned
returns-clause-learned c = refl

pub returns-clause-answers : goal.returns-clause-answers
returns-clause-answers c = refl
