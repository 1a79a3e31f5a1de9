use Rattle.h3_unidirectional.proofs.Listened.{no_listening}
use Rattle.h3_unidirectional.proofs.encoding.read_windows.Goals as goal

pub loop-e-init : goal.loop-e-init
loop-e-init c = λ s is. no_listening _ s _ is
