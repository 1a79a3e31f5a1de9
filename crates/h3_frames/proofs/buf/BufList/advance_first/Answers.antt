use Rattle.std.proofs.Common.{◌<◌, ◌≤◌, length, drop, arith, ap, sym, ◌∙◌}
use Rattle.std.specs.List.{concat}
use Rattle.h3_frames.specs.Pieces.{Listed, first_size, without}
use Rattle.h3_frames.proofs.FrontLemmas.{held_some, pass_behind, pass_first, pass_pieces, pass_some}
use Rattle.h3_frames.proofs.buf.BufList.advance_first.Goals as goal

pub returns-then-cnt-there-clause-rest : goal.returns-then-cnt-there-clause-rest
returns-then-cnt-there-clause-rest g c =
    let ps = c.self.inside.behind.pieces in
    let shown = held_some g.T.Buf.unread c.self.inside.front _ ps c.in-Some.is in
    let less : c.args.cnt < length (g.T.Buf.unread c.in-Some.first) = omega (arith, c.if-cnt-there.true, c.remaining-there.ensures) in
    pass_some c.args.cnt _ _ ps less c.advance.ensures.value ∙ ap (λ l. drop c.args.cnt (concat l)) (sym shown) ∙ ap (λ (l : Listed). drop c.args.cnt (concat l.pieces)) c.self.view_is

pub returns-then-cnt-there-clause-pieces : goal.returns-then-cnt-there-clause-pieces
returns-then-cnt-there-clause-pieces g c =
    let ps = c.self.inside.behind.pieces in
    let shown = held_some g.T.Buf.unread c.self.inside.front _ ps c.in-Some.is in
    let less : c.args.cnt < length (g.T.Buf.unread c.in-Some.first) = omega (arith, c.if-cnt-there.true, c.remaining-there.ensures) in
    pass_pieces c.args.cnt _ _ ps c.requires.0 less c.advance.ensures.value ∙ ap (without c.args.cnt) (sym shown) ∙ ap (λ (l : Listed). without c.args.cnt l.pieces) c.self.view_is

pub returns-else-cnt-there-clause-all : goal.returns-else-cnt-there-clause-all
returns-else-cnt-there-clause-all g c few =
    let shown = ap first_size (held_some g.T.Buf.unread c.self.inside.front _ c.self.inside.behind.pieces c.in-Some.is) in
    omega (arith, few, shown, ap (λ (l : Listed). first_size l.pieces) c.self.view_is, c.if-cnt-there.false, c.remaining-there.ensures)

pub returns-else-cnt-there-clause-rest : goal.returns-else-cnt-there-clause-rest
returns-else-cnt-there-clause-rest g c =
    let ps = c.self.inside.behind.pieces in
    let shown = held_some g.T.Buf.unread c.self.inside.front _ ps c.in-Some.is in
    let n = c.remaining-there.result in
    pass_first n _ ps c.remaining-there.ensures ∙ ap (λ l. drop n (concat l)) (sym shown) ∙ ap (λ (l : Listed). drop n (concat l.pieces)) c.self.view_is

pub returns-else-cnt-there-clause-pieces : goal.returns-else-cnt-there-clause-pieces
returns-else-cnt-there-clause-pieces g c =
    let ps = c.self.inside.behind.pieces in
    let shown = held_some g.T.Buf.unread c.self.inside.front _ ps c.in-Some.is in
    let all : length (g.T.Buf.unread c.in-Some.first) ≤ c.args.cnt = omega (arith, c.if-cnt-there.false, c.remaining-there.ensures) in
    pass_behind c.args.cnt c.remaining-there.result _ ps c.requires.0 c.remaining-there.ensures all ∙ ap (without c.args.cnt) (sym shown) ∙ ap (λ (l : Listed). without c.args.cnt l.pieces) c.self.view_is
