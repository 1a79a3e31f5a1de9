use Rattle.std.proofs.Common.{length}
use Rattle.h3_connection.specs.KeptGoaways.{keeps_last}
use Rattle.h3_unidirectional.specs.Fronts.{KeepsFront}
use Rattle.h3_unidirectional.proofs.control.PeerControl.read.Given as goal

-- a front was read, without a fault
abbrev pub invariant-frames : goal.invariant-frames
invariant-frames l = KeepsFront l.kinds (keeps_last l.choices) l.choices.unfinished_limit l.side l.fn.self l.self

abbrev pub decreases-frames : goal.decreases-frames
decreases-frames l = length l.self.unread
