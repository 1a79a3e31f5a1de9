use Rattle.h3_unidirectional.proofs.Heard.{no_hearing}
use Rattle.h3_unidirectional.proofs.decoding.read_windows.Goals as goal

pub loop-e-init : goal.loop-e-init
loop-e-init c = no_hearing _ _
