use Rattle.h3_script.proofs.Unique.{script_one}
use Rattle.h3_script.proofs.laws.a_script_is_read_in_one_way.Goals as goal

pub returns : goal.returns
returns c = script_one
