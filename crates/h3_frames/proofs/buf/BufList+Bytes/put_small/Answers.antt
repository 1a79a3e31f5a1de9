use Rattle.std.proofs.Common.{◌<◌, ◌++◌, [], ◌∷◌, length, arith, ap, sym, ◌∙◌}
use Rattle.std.specs.List.{concat}
use Rattle.h3_frames.specs.Elements.{held}
use Rattle.h3_frames.specs.Pieces.{Listed}
use Rattle.h3_frames.proofs.FrontLemmas.{front_room-none, put_behind, put_size, size_behind}
use Rattle.h3_frames.proofs.buf.BufList+Bytes.put_small.Goals as goal

pub add-requires-clause-room : goal.add-requires-clause-room
add-requires-clause-room c =
    let shown = ap (λ (l : Listed). l.pieces) c.self.view_is in
    let some : 0 < length c.args.self.now.pieces = c.is_empty.ensures.some c.if-is_empty.false in
    let none = front_room-none (λ b. b) c.self.inside.front c.self.inside.behind.pieces (omega (arith, ap length shown, some)) in
    omega (arith, none, ap (λ (l : Listed). l.room) c.self.view_is, c.requires.room)

pub add-requires-clause-fits : goal.add-requires-clause-fits
add-requires-clause-fits c =
    let size = size_behind (λ b. b) c.self.inside.front c.self.inside.behind.pieces in
    let shown = ap (λ (l : Listed). length (concat l.pieces)) c.self.view_is in
    omega (arith, size, shown, c.requires.fits)

pub invariant_of-self : goal.invariant_of-self
invariant_of-self c =
    let front = c.self.inside.front in
    let new = put_behind (λ b. b) front c.self.inside.behind.pieces c.add.new.self.pieces _ c.add.ensures.pieces in
    let size = ap (λ l. length (concat l)) new ∙ put_size (held (λ b. b) front ++ c.self.inside.behind.pieces) _ in
    let shown = ap (λ (l : Listed). length (concat l.pieces)) c.self.view_is in
    (c.self.invariant.0, omega (arith, size, shown, c.requires.fits))

pub returns-then-is_empty-clause-pieces : goal.returns-then-is_empty-clause-pieces
returns-then-is_empty-clause-pieces c = c.begin.ensures.pieces ∙ ap (λ l. l ++ c.args.piece ∷ []) (sym (c.is_empty.ensures.none c.if-is_empty.true))

pub returns-clause-pieces : goal.returns-clause-pieces
returns-clause-pieces c =
    put_behind (λ b. b) c.self.inside.front c.self.inside.behind.pieces c.add.new.self.pieces _ c.add.ensures.pieces ∙ ap (λ (l : Listed). l.pieces ++ c.args.piece ∷ []) c.self.view_is

pub returns-clause-left : goal.returns-clause-left
returns-clause-left c =
    let shown = ap (λ (l : Listed). l.pieces) c.self.view_is in
    let some : 0 < length c.args.self.now.pieces = c.is_empty.ensures.some c.if-is_empty.false in
    let none = front_room-none (λ b. b) c.self.inside.front c.self.inside.behind.pieces (omega (arith, ap length shown, some)) in
    omega (arith, none, ap (λ (l : Listed). l.room) c.self.view_is, c.add.ensures.left)
