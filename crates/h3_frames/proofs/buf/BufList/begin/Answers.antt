use Rattle.std.proofs.Common.{[], ◌∷◌, length, arith, ap, ◌∙◌}
use Rattle.std.specs.List.{concat}
use Rattle.h3_frames.specs.Pieces.{Listed}
use Rattle.h3_frames.proofs.FrontLemmas.{front_room-most, none_behind, put_size}
use Rattle.h3_frames.proofs.buf.BufList.begin.Goals as goal

pub invariant_of-self : goal.invariant_of-self
invariant_of-self g c =
    let piece = g.T.Buf.unread c.args.piece in
    let none = none_behind g.T.Buf.unread c.self.inside.front c.self.inside.behind.pieces (ap (λ (l : Listed). l.pieces) c.self.view_is ∙ c.requires.none) in
    let size = ap (λ l. length (concat (piece ∷ l))) none ∙ put_size [] piece in
    (c.requires.some, omega (arith, size, c.requires.fits))

pub returns-clause-pieces : goal.returns-clause-pieces
returns-clause-pieces g c =
    let none = none_behind g.T.Buf.unread c.self.inside.front c.self.inside.behind.pieces (ap (λ (l : Listed). l.pieces) c.self.view_is ∙ c.requires.none) in
    ap (λ l. g.T.Buf.unread c.args.piece ∷ l) none

pub returns-clause-left : goal.returns-clause-left
returns-clause-left g c =
    let most = front_room-most c.self.inside.front c.self.inside.behind.pieces in
    omega (arith, most, ap (λ (l : Listed). l.room) c.self.view_is)
