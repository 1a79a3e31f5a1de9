use Rattle.h3_script.proofs.PlainSetups.{script_plain}
use Rattle.h3_script.proofs.laws.a_script_judges_plainly.Goals as goal

pub returns : goal.returns
returns c = script_plain
