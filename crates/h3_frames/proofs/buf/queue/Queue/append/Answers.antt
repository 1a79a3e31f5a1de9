use Rattle.std.proofs.Common.{ap, ◌∙◌, ◌++◌, ◌<◌, length, arith}
use Rattle.std.specs.List.{concat}
use Rattle.std.proofs.lemmas.List.Elements.{All-push, All-same}
use Rattle.h3_frames.specs.Elements.{all_cuts, all_of, cuts}
use Rattle.h3_frames.specs.Pieces.{Listed, joined}
use Rattle.h3_frames.proofs.ElementLemmas.{concat-all_cuts, cuts-push}
use Rattle.h3_frames.proofs.PieceLemmas.{length-joined-push}
use Rattle.h3_frames.proofs.buf.queue.Queue.append.Goals as goal

pub overflow_add-self : goal.overflow_add-self
overflow_add-self g c =
    let bytes = ap length (concat-all_cuts g.T.Buf.unread c.self.inside.bufs.items) in
    let shown = ap (λ (l : Listed). length (concat l.pieces)) c.self.view_is in
    omega (arith, c.self.invariant.0, bytes, shown, c.requires.fits, c.remaining.ensures)

pub invariant_of-self : goal.invariant_of-self
invariant_of-self g c =
    let old = c.self.inside.bufs.items in
    let sizes = ap (λ l. length (joined (all_of g.T.Buf.unread) l)) c.push_back_reserved.ensures.items ∙ length-joined-push (all_of g.T.Buf.unread) old c.args.element in
    (omega (arith, c.self.invariant.0, sizes, c.remaining.ensures), All-same (λ e. 0 < length (all_of g.T.Buf.unread e)) _ _ c.push_back_reserved.ensures.items (All-push (λ e. 0 < length (all_of g.T.Buf.unread e)) old c.args.element c.self.invariant.1 c.requires.some))

pub returns-clause-pieces : goal.returns-clause-pieces
returns-clause-pieces g c =
    ap (all_cuts g.T.Buf.unread) c.push_back_reserved.ensures.items ∙ cuts-push g.T.Buf.unread c.self.inside.bufs.items c.args.element ∙ ap (λ (l : Listed). l.pieces ++ cuts g.T.Buf.unread c.args.element) c.self.view_is
