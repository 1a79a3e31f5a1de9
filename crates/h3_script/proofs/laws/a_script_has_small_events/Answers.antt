use Rattle.h3_script.proofs.ScriptSizes.{script_small}
use Rattle.h3_script.proofs.laws.a_script_has_small_events.Goals as goal

pub returns : goal.returns
returns c = script_small
