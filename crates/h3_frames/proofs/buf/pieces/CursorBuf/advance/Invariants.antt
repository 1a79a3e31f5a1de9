use Rattle.std.proofs.Common.{◌≡◌, ◌+◌, ◌≤◌, length}
use Rattle.h3_frames.specs.Place.{left_at}
use Rattle.h3_frames.proofs.buf.pieces.CursorBuf.advance.Given as goal

abbrev pub invariant-loop-left : goal.invariant-loop-left
invariant-loop-left g l = (l.left ≤ length (left_at l.self)) × (l.self.position + l.left ≡ l.fn.self.position + l.fn.cnt) × (l.self.all ≡ l.fn.self.all)

abbrev pub decreases-loop-left : goal.decreases-loop-left
decreases-loop-left g l = l.left
