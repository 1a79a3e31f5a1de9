use Rattle.std.proofs.Common.{◌≡◌, ◌++◌, length}
use Rattle.std.specs.List.{concat}
use Rattle.h3_frames.proofs.frame.sparing.let_all_go.Given as goal

-- each piece is here or there
abbrev pub invariant-loop-piece : goal.invariant-loop-piece
invariant-loop-piece l = l.let_go.pieces ++ l.kept.pieces ≡ l.fn.let_go.pieces ++ l.fn.kept.pieces

abbrev pub decreases-loop-piece : goal.decreases-loop-piece
decreases-loop-piece l = length (concat l.kept.pieces)
