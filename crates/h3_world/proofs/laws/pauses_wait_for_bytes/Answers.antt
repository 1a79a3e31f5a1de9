use Rattle.h3_world.proofs.ExactPauses.{pause_allowed}
use Rattle.h3_world.proofs.laws.pauses_wait_for_bytes.Goals as goal

pub returns : goal.returns
returns c = pause_allowed
