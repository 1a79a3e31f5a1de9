use Rattle.std.proofs.Common.{◌++◌, ◌+◌, ◌<◌, List, ℕ, length, sym, subst}
use Rattle.std.specs.List.{concat}
use Rattle.h3_frames.specs.UnknownSize.{AreLetGo, let_go_by}
use Rattle.h3_frames.specs.ExcessiveFrames.{SaysLength}
use Rattle.h3_frames.proofs.SparedPieces.{more_let_go, says_with_more}
use Rattle.h3_frames.proofs.frame.sparing.release.Goals as goal

pub returns-clause-front : goal.returns-clause-front
returns-clause-front c = λ known_to h.
    let front = c.args.let_go.now.pieces in
    let kept = c.args.kept.now.pieces in
    let few : c.args.gone.now + length (concat kept) < c.args.passing = subst (λ n. c.args.gone.now + n < c.args.passing) c.remaining-len.ensures c.if-gone-len.false in
    subst (λ (p : List (List ℕ)). AreLetGo known_to c.args.passing (c.args.gone.now + c.remaining-len.result) p) (sym c.let_all_go.ensures.pieces)
    (subst (λ n. AreLetGo known_to c.args.passing (c.args.gone.now + n) (front ++ kept)) (sym c.remaining-len.ensures) (more_let_go known_to c.args.passing c.args.gone.now front kept h few))

pub returns-clause-says : goal.returns-clause-says
returns-clause-says c = λ known_to number h says.
    subst (λ (p : List (List ℕ)). SaysLength c.args.passing number (concat p)) (sym c.let_all_go.ensures.pieces)
    (says_with_more (let_go_by known_to) c.args.let_go.now.pieces c.args.kept.now.pieces c.args.passing number h.unknown says)
