use Rattle.std.proofs.Common.{◌<◌, ◌++◌, [], ◌∷◌, length, arith, ap, sym, ◌∙◌}
use Rattle.std.specs.List.{concat}
use Rattle.h3_frames.specs.Elements.{held}
use Rattle.h3_frames.specs.Pieces.{Listed}
use Rattle.h3_frames.proofs.FrontLemmas.{front_room-none, put_behind, put_size, size_behind}
use Rattle.h3_frames.proofs.buf.BufList.put.Goals as goal

pub append-requires-clause-room : goal.append-requires-clause-room
append-requires-clause-room g c =
    let shown = ap (λ (l : Listed). l.pieces) c.self.view_is in
    let some : 0 < length c.args.self.now.pieces = c.is_empty.ensures.some c.if-is_empty.false in
    let none = front_room-none g.T.Buf.unread c.self.inside.front c.self.inside.behind.pieces (omega (arith, ap length shown, some)) in
    omega (arith, none, ap (λ (l : Listed). l.room) c.self.view_is, c.requires.room)

pub append-requires-clause-fits : goal.append-requires-clause-fits
append-requires-clause-fits g c =
    let size = size_behind g.T.Buf.unread c.self.inside.front c.self.inside.behind.pieces in
    let shown = ap (λ (l : Listed). length (concat l.pieces)) c.self.view_is in
    omega (arith, size, shown, c.requires.fits)

pub invariant_of-self : goal.invariant_of-self
invariant_of-self g c =
    let front = c.self.inside.front in
    let new = put_behind g.T.Buf.unread front c.self.inside.behind.pieces c.append.new.self.pieces _ c.append.ensures.pieces in
    let size = ap (λ l. length (concat l)) new ∙ put_size (held g.T.Buf.unread front ++ c.self.inside.behind.pieces) _ in
    let shown = ap (λ (l : Listed). length (concat l.pieces)) c.self.view_is in
    (c.self.invariant.0, omega (arith, size, shown, c.requires.fits))

pub returns-then-is_empty-clause-pieces : goal.returns-then-is_empty-clause-pieces
returns-then-is_empty-clause-pieces g c = c.begin.ensures.pieces ∙ ap (λ l. l ++ g.T.Buf.unread c.args.piece ∷ []) (sym (c.is_empty.ensures.none c.if-is_empty.true))

pub returns-clause-pieces : goal.returns-clause-pieces
returns-clause-pieces g c =
    put_behind g.T.Buf.unread c.self.inside.front c.self.inside.behind.pieces c.append.new.self.pieces _ c.append.ensures.pieces ∙ ap (λ (l : Listed). l.pieces ++ g.T.Buf.unread c.args.piece ∷ []) c.self.view_is

pub returns-clause-left : goal.returns-clause-left
returns-clause-left g c =
    let shown = ap (λ (l : Listed). l.pieces) c.self.view_is in
    let some : 0 < length c.args.self.now.pieces = c.is_empty.ensures.some c.if-is_empty.false in
    let none = front_room-none g.T.Buf.unread c.self.inside.front c.self.inside.behind.pieces (omega (arith, ap length shown, some)) in
    omega (arith, none, ap (λ (l : Listed). l.room) c.self.view_is, c.append.ensures.left)
