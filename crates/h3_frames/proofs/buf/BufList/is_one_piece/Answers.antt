use Rattle.std.proofs.Common.{length, nat_le, ap, sym, ◌∙◌}
use Rattle.h3_frames.specs.Pieces.{Listed}
use Rattle.h3_frames.proofs.FrontLemmas.{held_none, held_some, none_size, one_more}
use Rattle.h3_frames.proofs.buf.BufList.is_one_piece.Goals as goal

pub returns-in-Some : goal.returns-in-Some
returns-in-Some g c =
    let pieces = c.self.inside.behind.pieces in
    let shown = held_some g.T.Buf.unread c.self.inside.front c.in-Some.field-0 pieces c.in-Some.is in
    none_size c.is_empty.result pieces c.is_empty.ensures.none c.is_empty.ensures.some ∙ sym (one_more pieces (g.T.Buf.unread c.in-Some.field-0)) ∙ ap (λ l. nat_le (length l) 1) (sym shown) ∙ ap (λ (l : Listed). nat_le (length l.pieces) 1) c.self.view_is

pub returns-in-None : goal.returns-in-None
returns-in-None g c =
    let shown = held_none g.T.Buf.unread c.self.inside.front c.self.inside.behind.pieces c.in-None.is in
    c.is_one_piece.ensures ∙ ap (λ l. nat_le (length l) 1) (sym shown) ∙ ap (λ (l : Listed). nat_le (length l.pieces) 1) c.self.view_is
