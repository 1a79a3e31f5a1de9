use Rattle.std.proofs.Common.{length, length-append, arith, ap, ◌∙◌}
use Rattle.std.specs.List.{concat}
use Rattle.h3_frames.specs.Pieces.{Listed}
use Rattle.h3_frames.proofs.FrontLemmas.{held_none, held_some}
use Rattle.h3_frames.proofs.buf.BufList.count.Goals as goal

pub returns-in-Some : goal.returns-in-Some
returns-in-Some g c =
    let ps = c.self.inside.behind.pieces in
    let shown = ap (λ l. length (concat l)) (held_some g.T.Buf.unread c.self.inside.front _ ps c.in-Some.is) ∙ length-append (g.T.Buf.unread c.in-Some.first) (concat ps) in
    omega (arith, shown, c.remaining.ensures, c.remaining-others.ensures, ap (λ (l : Listed). length (concat l.pieces)) c.self.view_is)

pub returns-in-None : goal.returns-in-None
returns-in-None g c =
    let shown = ap (λ l. length (concat l)) (held_none g.T.Buf.unread c.self.inside.front c.self.inside.behind.pieces c.in-None.is) in
    omega (arith, shown, c.remaining-others.ensures, ap (λ (l : Listed). length (concat l.pieces)) c.self.view_is)
