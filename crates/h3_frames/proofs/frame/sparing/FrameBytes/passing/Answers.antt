use Rattle.std.proofs.Common.{subst}
use Rattle.h3_frames.specs.UnknownSize.{IsPassing}
use Rattle.h3_frames.proofs.SparedPieces.{is_passing}
use Rattle.h3_frames.proofs.frame.sparing.FrameBytes.passing.Goals as goal

pub returns-clause-is : goal.returns-clause-is
returns-clause-is c =
    let i = c.self.inside in
    subst IsPassing c.self.view_is (is_passing i.known_to i.passing i.gone i.let_go.pieces i.kept.pieces c.self.invariant.0)
