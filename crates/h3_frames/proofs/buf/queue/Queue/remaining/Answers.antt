use Rattle.std.proofs.Common.{ap, sym, ◌∙◌, length}
use Rattle.std.specs.List.{concat}
use Rattle.h3_frames.specs.Pieces.{Listed}
use Rattle.h3_frames.proofs.ElementLemmas.{concat-all_cuts}
use Rattle.h3_frames.proofs.buf.queue.Queue.remaining.Goals as goal

pub returns : goal.returns
returns g c = c.self.invariant.0 ∙ sym (ap length (concat-all_cuts g.T.Buf.unread c.self.inside.bufs.items)) ∙ ap (λ (l : Listed). length (concat l.pieces)) c.self.view_is
