use Rattle.std.proofs.Common.{◌≡◌, Some, ap, subst, sym, ◌∙◌}
use Rattle.std.specs.List.{concat}
use Rattle.h3_frames.specs.UnknownSize.{IsPassing, Sparing, is_longer}
use Rattle.h3_frames.proofs.SessionFrames.{unsuited}
use Rattle.h3_frames.proofs.SparedPieces.{is_passing, longer_of, passing_by}
use Rattle.h3_frames.proofs.frame.sparing.FrameBytes.is_under_way.Goals as goal

pub returns-then-suits : goal.returns-then-suits
returns-then-suits c =
    let i = c.self.inside in
    let is = subst IsPassing c.self.view_is (is_passing i.known_to i.passing i.gone i.let_go.pieces i.kept.pieces c.self.invariant.0) in
    let size : i.passing ≡ c.args.self.now.passing = ap (λ (s : Sparing). s.passing) c.self.view_is in
    let there = passing_by c.args.kinds c.args.self.now i.passing is c.if-self-gt0.true size (sym c.suits.ensures ∙ c.if-suits.true) in
    longer_of c.args.kinds (concat c.args.self.now.pieces) c.len.result (Some i.passing) c.len.ensures there

pub returns-else-suits : goal.returns-else-suits
returns-else-suits c =
    let i = c.self.inside in
    let is = subst IsPassing c.self.view_is (is_passing i.known_to i.passing i.gone i.let_go.pieces i.kept.pieces c.self.invariant.0) in
    c.if-suits.false ∙ sym (ap (is_longer _) (unsuited c.args.self.now c.args.kinds is (sym c.suits.ensures ∙ c.if-suits.false)).none)
