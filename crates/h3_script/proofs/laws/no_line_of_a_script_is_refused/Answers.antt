use Rattle.h3_script.proofs.Scripts.{not_refused}
use Rattle.h3_script.proofs.laws.no_line_of_a_script_is_refused.Goals as goal

pub returns : goal.returns
returns c = not_refused
