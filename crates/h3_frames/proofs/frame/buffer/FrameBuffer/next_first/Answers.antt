use Rattle.std.proofs.Common.{◌≡◌, length, refl, subst}
use Rattle.std.specs.List.{concat}
use Rattle.h3_frames.specs.Pieces.{ending}
use Rattle.h3_frames.specs.PieceLaws.{rest_is, rest_same}
use Rattle.h3_frames.specs.UnreadFrames.{UnreadFrames}
use Rattle.h3_frames.proofs.frame.buffer.FrameBuffer.next_first.Goals as goal

pub returns-then-passing-gt0-clause-pieces : goal.returns-then-passing-gt0-clause-pieces
returns-then-passing-gt0-clause-pieces c = rest_is _ _ _ refl (rest_same _ _ refl)

pub returns-clause-pieces : goal.returns-clause-pieces
returns-clause-pieces c =
    let new = c.decode_first.new.self.pieces in
    subst (λ (u : UnreadFrames). new ≡ ending (length (concat new)) u.pieces) c.self.view_is (rest_is _ _ _ refl c.decode_first.ensures.rest)
