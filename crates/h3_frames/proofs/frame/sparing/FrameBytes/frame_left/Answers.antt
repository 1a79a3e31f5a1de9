use Rattle.std.proofs.Common.{◌≡◌, ◌-◌, ◌++◌, length, ap, sym, ◌∙◌}
use Rattle.std.specs.List.{concat}
use Rattle.h3_frames.specs.FrameLeft.{left_of_frame}
use Rattle.h3_frames.specs.UnknownSize.{Sparing}
use Rattle.h3_frames.proofs.FramesLeft.{spared_left}
use Rattle.h3_frames.proofs.frame.sparing.FrameBytes.frame_left.Goals as goal

pub returns-then-self-gt0 : goal.returns-then-self-gt0
returns-then-self-gt0 c =
    let i = c.self.inside in
    let all : length (concat (i.let_go.pieces ++ i.kept.pieces)) ≡ length (concat c.args.self.now.pieces) = ap (λ (s : Sparing). length (concat s.pieces)) c.self.view_is in
    c.saturating_sub.ensures ∙ ap (λ n. i.passing - n) (c.len.ensures ∙ sym all)
    ∙ spared_left i.known_to i.let_go.pieces i.kept.pieces i.passing i.gone c.self.invariant.0 c.if-self-gt0.true
    ∙ ap (λ (s : Sparing). left_of_frame (concat s.pieces)) c.self.view_is
