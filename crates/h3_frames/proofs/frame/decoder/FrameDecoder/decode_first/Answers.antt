use Rattle.std.proofs.Common.{◌<◌, ◌≤◌, length, refl, sym, subst}
use Rattle.std.specs.List.{concat}
use Rattle.h3_frames.specs.PieceLaws.{rest_same}
use Rattle.h3_frames.specs.Tries.{finds, needed, no_try}
use Rattle.h3_frames.proofs.Settling.{found}
use Rattle.h3_frames.proofs.SuitingKinds.{expects_as}
use Rattle.h3_frames.proofs.Tries.{too_few}
use Rattle.h3_frames.proofs.frame.decoder.FrameDecoder.decode_first.Goals as goal

pub returns-then-remaining-needed-clause-gives : goal.returns-then-remaining-needed-clause-gives
returns-then-remaining-needed-clause-gives c = λ kinds.
    let d = c.args.self.now in
    let few : length (concat c.args.src.now.pieces) < needed d =
    subst (λ n. n < needed d) c.remaining.ensures (subst (λ n. c.remaining.result < n) c.needed.ensures c.if-remaining-needed.true) in
    let w = too_few kinds d.expected d.tries _ (expects_as kinds d _ c.requires.expects) few in
    (sym w.0, w.1)

pub returns-then-remaining-needed-clause-counts : goal.returns-then-remaining-needed-clause-counts
returns-then-remaining-needed-clause-counts c = λ kinds.
    let d = c.args.self.now in
    let few : length (concat c.args.src.now.pieces) < needed d =
    subst (λ n. n < needed d) c.remaining.ensures (subst (λ n. c.remaining.result < n) c.needed.ensures c.if-remaining-needed.true) in
    no_try d d _ few refl

pub returns-then-remaining-needed-clause-rest : goal.returns-then-remaining-needed-clause-rest
returns-then-remaining-needed-clause-rest c = rest_same _ _ refl

pub returns-clause-gives : goal.returns-clause-gives
returns-clause-gives c = λ kinds. found kinds _ _ _ _ (c.in_ok-frame.ensures.some kinds) refl

pub returns-clause-counts : goal.returns-clause-counts
returns-clause-counts c = λ kinds.
    let d = c.args.self.now in
    let enough : needed d ≤ length (concat c.args.src.now.pieces) =
    subst (λ n. needed d ≤ n) c.remaining.ensures (subst (λ n. n ≤ c.remaining.result) c.needed.ensures c.if-remaining-needed.false) in
    finds _ _ _ _ _ enough (c.in_ok-frame.ensures.some kinds) c.count.ensures
