use Rattle.std.proofs.Common.{◌≡◌, arith, ap, sym, ◌∙◌}
use Rattle.h3_connection.specs.WaitingPieces.{without_front}
use Rattle.h3_connection.specs.WaitingPieceLaws.{without-none}
use Rattle.h3_outgoing.proofs.frames.take_later.Goals as goal

pub returns : goal.returns
returns c =
    let none : c.loop-left.left ≡ 0 = omega arith in
    let frames = c.loop-left.later.items in
    sym (without-none frames) ∙ ap (λ n. without_front n frames) (sym none) ∙ c.loop-left.invariant.frames
