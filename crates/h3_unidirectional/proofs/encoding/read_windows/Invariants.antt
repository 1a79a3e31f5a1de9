use Rattle.std.proofs.Common.{◌≡◌, length}
use Rattle.h3_qpack.specs.EncoderHistory.{EncoderHistory}
use Rattle.h3_qpack.specs.EncoderState.{encoder_state}
use Rattle.h3_unidirectional.specs.Fronts.{ListensFront}
use Rattle.h3_unidirectional.proofs.encoding.read_windows.Given as goal

-- a front was read
abbrev pub invariant-loop-e : goal.invariant-loop-e
invariant-loop-e l = (s : EncoderHistory) → l.fn.encoder ≡ encoder_state s → ListensFront l.most s (record { encoder = l.fn.encoder; unread = l.fn.rest }) (record { encoder = l.encoder; unread = l.rest })

abbrev pub decreases-loop-e : goal.decreases-loop-e
decreases-loop-e l = length l.rest
