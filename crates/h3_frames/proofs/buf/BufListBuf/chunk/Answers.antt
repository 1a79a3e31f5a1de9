use Rattle.std.proofs.Common.{◌<◌, length, ap, sym, subst, ◌∙◌}
use Rattle.std.specs.Prelude.{IfSome}
use Rattle.std.specs.List.{concat}
use Rattle.bytes.specs.Unread.{IsChunkOf}
use Rattle.h3_frames.specs.Pieces.{Listed}
use Rattle.h3_frames.proofs.ElementLemmas.{chunk_more}
use Rattle.h3_frames.proofs.FrontLemmas.{held_none, held_some}
use Rattle.h3_frames.proofs.buf.BufListBuf.chunk.Goals as goal

pub returns-in-Some : goal.returns-in-Some
returns-in-Some g c =
    let ps = c.self.inside.behind.pieces in
    let first = c.in-Some.first in
    let all = ap concat (sym (held_some g.T.Buf.unread c.self.inside.front first ps c.in-Some.is)) ∙ ap (λ (l : Listed). concat l.pieces) c.self.view_is in
    let some = subst (λ f. IfSome f (λ p. 0 < length (g.T.Buf.unread p))) c.in-Some.is c.self.invariant.0 in
    subst (IsChunkOf c.chunk.result.now) all (chunk_more c.chunk.result.now (g.T.Buf.unread first) (concat ps) some c.chunk.ensures)

pub returns-in-None : goal.returns-in-None
returns-in-None g c =
    let ps = c.self.inside.behind.pieces in
    let all = ap concat (sym (held_none g.T.Buf.unread c.self.inside.front ps c.in-None.is)) ∙ ap (λ (l : Listed). concat l.pieces) c.self.view_is in
    subst (IsChunkOf c.chunk-in-None.result.now) all c.chunk-in-None.ensures
