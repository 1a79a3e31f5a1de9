use Rattle.std.proofs.Common.{◌≡◌, length}
use Rattle.h3_frames.specs.Known.{known_by}
use Rattle.h3_frames.specs.Place.{left_at}
use Rattle.h3_frames.proofs.frame.other_settings.find_settings.Given as goal

-- whole unknown frames were passed
abbrev pub invariant-loop-head : goal.invariant-loop-head
invariant-loop-head l = known_by l.fn.kinds (left_at l.cursor) ≡ known_by l.fn.kinds (left_at l.fn.cursor)

abbrev pub decreases-loop-head : goal.decreases-loop-head
decreases-loop-head l = length (left_at l.cursor)
