use Rattle.h3_world.proofs.EventsSound.{canceled_sound}
use Rattle.h3_world.proofs.laws.a_side_gives_a_stream_up.Goals as goal

pub returns : goal.returns
returns c = canceled_sound
