use Rattle.h3_script.proofs.OneRefusal.{one_refusal}
use Rattle.h3_script.proofs.laws.a_text_is_refused_at_one_line.Goals as goal

pub returns : goal.returns
returns c = one_refusal
