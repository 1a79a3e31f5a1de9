use Rattle.std.proofs.Common.{◌≡◌, ◌<◌, nat_le, length, arith, refl, ap, sym, ◌∙◌}
use Rattle.std.proofs.lemmas.Bool.{ne_eqb}
use Rattle.h3_frames.specs.Pieces.{Listed}
use Rattle.h3_frames.proofs.ElementLemmas.{none_is_one, one_is, several}
use Rattle.h3_frames.proofs.buf.queue.Queue.is_one_piece.Goals as goal

pub returns-then-len-eq1 : goal.returns-then-len-eq1
returns-then-len-eq1 g c =
    let items = c.self.inside.bufs.items in
    let one : length items ≡ 1 = omega (arith, c.if-len-eq1.true, c.len.ensures) in
    c.is_one_piece.ensures ∙ one_is g.T.Buf.unread items c.in-Some.first.now one c.in-Some.ensures.lookup ∙ ap (λ (l : Listed). nat_le (length l.pieces) 1) c.self.view_is

pub returns-else-len-eq1 : goal.returns-else-len-eq1
returns-else-len-eq1 g c =
    let items = c.self.inside.bufs.items in
    let some : 0 < length items = omega (arith, c.in-Some.ensures.variant.0 refl) in
    let more : 1 < length items = omega (arith, c.if-len-eq1.false, c.len.ensures, some) in
    ne_eqb c.len.result 1 c.if-len-eq1.false ∙ sym (several g.T.Buf.unread items more c.self.invariant.1) ∙ ap (λ (l : Listed). nat_le (length l.pieces) 1) c.self.view_is

pub returns-in-None : goal.returns-in-None
returns-in-None g c =
    let items = c.self.inside.bufs.items in
    sym (none_is_one g.T.Buf.unread items (λ some. c.in-None.ensures.variant.1 (omega (arith, some)))) ∙ ap (λ (l : Listed). nat_le (length l.pieces) 1) c.self.view_is
