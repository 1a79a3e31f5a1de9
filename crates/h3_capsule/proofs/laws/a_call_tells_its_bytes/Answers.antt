use Rattle.h3_capsule.proofs.Telling.{each_call}
use Rattle.h3_capsule.proofs.laws.a_call_tells_its_bytes.Goals as goal

pub returns : goal.returns
returns c = each_call
