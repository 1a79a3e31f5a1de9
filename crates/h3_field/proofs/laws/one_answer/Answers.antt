use Rattle.h3_field.proofs.SectionReadBack.{one_answer}
use Rattle.h3_field.proofs.laws.one_answer.Goals as goal

pub returns : goal.returns
returns c = one_answer
