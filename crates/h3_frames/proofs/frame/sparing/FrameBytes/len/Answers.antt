use Rattle.std.proofs.Common.{length, arith, ap, ◌∙◌}
use Rattle.std.specs.List.{concat}
use Rattle.h3_frames.specs.UnknownSize.{Sparing}
use Rattle.h3_frames.proofs.SparedPieces.{gone_and_kept}
use Rattle.h3_frames.proofs.frame.sparing.FrameBytes.len.Goals as goal

pub overflow_add-result : goal.overflow_add-result
overflow_add-result c =
    let i = c.self.inside in
    omega (arith, gone_and_kept i.known_to i.passing i.gone c.remaining.result i.let_go.pieces i.kept.pieces c.self.invariant.0 c.remaining.ensures, c.self.invariant.1)

pub returns : goal.returns
returns c =
    let i = c.self.inside in
    gone_and_kept i.known_to i.passing i.gone c.remaining.result i.let_go.pieces i.kept.pieces c.self.invariant.0 c.remaining.ensures
    ∙ ap (λ (s : Sparing). length (concat s.pieces)) c.self.view_is
