use Rattle.std.proofs.Common.{length}
use Rattle.h3_unidirectional.specs.Fronts.{HearsFront}
use Rattle.h3_unidirectional.proofs.decoding.read_windows.Given as goal

-- a front was read
abbrev pub invariant-loop-e : goal.invariant-loop-e
invariant-loop-e l = HearsFront l.most (record { decoder = l.fn.decoder; unread = l.fn.rest }) (record { decoder = l.decoder; unread = l.rest })

abbrev pub decreases-loop-e : goal.decreases-loop-e
decreases-loop-e l = length l.rest
