use Rattle.std.proofs.Common.{ap, ◌∙◌}
use Rattle.std.specs.List.{concat}
use Rattle.h3_frames.specs.FirstFrames.{begins_other}
use Rattle.h3_frames.specs.UnknownSize.{Sparing}
use Rattle.h3_frames.proofs.OtherFronts.{spared_begins}
use Rattle.h3_frames.proofs.frame.sparing.FrameBytes.begins_other.Goals as goal

pub returns-then-self-gt0 : goal.returns-then-self-gt0
returns-then-self-gt0 c =
    let i = c.self.inside in
    spared_begins i.known_to i.let_go.pieces i.kept.pieces i.passing i.gone c.self.invariant.0 c.if-self-gt0.true ∙ ap (λ (s : Sparing). begins_other (concat s.pieces)) c.self.view_is
