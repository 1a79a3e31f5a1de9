use Rattle.std.proofs.Common.{◌<◌, ◌≤◌, length, refl, subst, sym, ap, ◌∙◌}
use Rattle.std.specs.List.{concat}
use Rattle.h3_frames.specs.Frames.{Unknown}
use Rattle.h3_frames.specs.PieceLaws.{rest_same}
use Rattle.h3_frames.proofs.LettingGo.{unknown_waits, unknown_whole}
use Rattle.h3_frames.proofs.frame.decoder.pass_unknown.Goals as goal

pub returns-then-remaining-size-clause-tries : goal.returns-then-remaining-size-clause-tries
returns-then-remaining-size-clause-tries c = λ kinds is.
    let few : length (concat c.args.src.now.pieces) < c.args.size = subst (λ n. n < c.args.size) c.remaining.ensures c.if-remaining-size.true in
    (unknown_waits kinds (concat c.args.src.now.pieces) c.args.size is few, refl)

pub returns-then-remaining-size-clause-rest : goal.returns-then-remaining-size-clause-rest
returns-then-remaining-size-clause-rest c = rest_same _ _ refl

pub returns-clause-tries : goal.returns-clause-tries
returns-clause-tries c = λ kinds is.
    let all : c.args.size ≤ length (concat c.args.src.now.pieces) = subst (λ n. c.args.size ≤ n) c.remaining.ensures c.if-remaining-size.false in
    let whole = unknown_whole kinds (concat c.args.src.now.pieces) c.args.size is all in
    (whole.0, whole.1 ∙ ap (Unknown whole.0) (sym c.advance.ensures.value))
