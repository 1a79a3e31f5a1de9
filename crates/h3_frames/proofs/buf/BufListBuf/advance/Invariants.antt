use Rattle.std.proofs.Common.{◌≡◌, ◌≤◌, length, drop}
use Rattle.std.specs.List.{concat}
use Rattle.h3_frames.specs.Pieces.{without}
use Rattle.h3_frames.proofs.buf.BufListBuf.advance.Given as goal

abbrev pub invariant-loop-left : goal.invariant-loop-left
invariant-loop-left g l = record {
  inside : l.left ≤ length (concat l.self.pieces);
  rest : drop l.left (concat l.self.pieces) ≡ drop l.fn.cnt (concat l.fn.self.pieces);
  pieces : without l.left l.self.pieces ≡ without l.fn.cnt l.fn.self.pieces;
}

abbrev pub decreases-loop-left : goal.decreases-loop-left
decreases-loop-left g l = l.left
