use Rattle.std.proofs.Common.{◌++◌, length, ap, sym, ◌∙◌}
use Rattle.std.specs.List.{concat}
use Rattle.h3_frames.specs.Elements.{held}
use Rattle.h3_frames.specs.Pieces.{Listed}
use Rattle.h3_frames.proofs.FrontLemmas.{bytes_elements, filled_elements}
use Rattle.h3_frames.proofs.buf.BufList.cursor.Goals as goal

pub new-requires-clause-len : goal.new-requires-clause-len
new-requires-clause-len g c =
    let front = c.self.inside.front in
    let bytes = sym (ap (λ (l : Listed). concat l.pieces) c.self.view_is) ∙ ap (λ l. concat (held g.T.Buf.unread front ++ l)) c.elements.ensures.pieces ∙ bytes_elements g.T.Buf.unread front c.elements.result.now.items in
    c.count.ensures ∙ ap length bytes

pub new-requires-clause-filled : goal.new-requires-clause-filled
new-requires-clause-filled g c = filled_elements g.T.Buf.unread c.self.inside.front c.elements.result.now.items c.self.invariant.0 c.elements.ensures.filled

pub returns-clause-all : goal.returns-clause-all
returns-clause-all g c =
    let front = c.self.inside.front in
    c.new.ensures.all ∙ sym (sym (ap (λ (l : Listed). concat l.pieces) c.self.view_is) ∙ ap (λ l. concat (held g.T.Buf.unread front ++ l)) c.elements.ensures.pieces ∙ bytes_elements g.T.Buf.unread front c.elements.result.now.items)
