use Rattle.std.proofs.Common.{◌≡◌, ◌^◌, ◌++◌, [], ◌<◌, length, arith, ap, sym, subst, ◌∙◌}
use Rattle.std.specs.List.{concat}
use Rattle.h3_frames.specs.UnknownSize.{AreLetGo, IsPassing, Sparing}
use Rattle.h3_frames.proofs.SparedPieces.{all_let_go, first_let_go, gone_and_kept, is_passing, known_first, none_gone, not_empty}
use Rattle.h3_frames.specs.ExcessiveFrames.{head_said, number_said}
use Rattle.h3_coding.specs.Varint.{varint_at}
use Rattle.h3_frames.proofs.frame.sparing.FrameBytes.spare.Goals as goal
use Rattle.h3_frames.proofs.frame.sparing.FrameBytes.spare.Goals.{then-self-gt0-via-then-self-gt0, then-self-gt0-via-else-self-gt0+then-len-eq0}

pub returns-then-self-gt0-clause-spared : goal.returns-then-self-gt0-clause-spared
returns-then-self-gt0-clause-spared c = λ under_way.
    let i = c.self.inside in
    elim c.then-self-gt0.branch [
      | then-self-gt0-via-then-self-gt0 w ↦ subst (λ (s : Sparing). 0 < s.passing) c.self.view_is w.if-self-gt0.true
      | then-self-gt0-via-else-self-gt0+then-len-eq0 w ↦
          let zero : i.passing ≡ 0 = omega (arith, w.if-self-gt0.false) in
          let gone = none_gone i.known_to i.passing i.gone i.let_go.pieces c.self.invariant.0 zero in
          let all = gone_and_kept i.known_to i.passing i.gone c.remaining-len.result i.let_go.pieces i.kept.pieces c.self.invariant.0 c.remaining-len.ensures in
          let there : length (concat c.args.self.now.pieces) ≡ 0 =
          sym (ap (λ (s : Sparing). length (concat s.pieces)) c.self.view_is) ∙ omega (arith, all, gone, w.if-len-eq0.true) in
          absurd (not_empty c.args.kinds (concat c.args.self.now.pieces) there under_way)
    ]

pub returns-then-self-gt0-clause-is : goal.returns-then-self-gt0-clause-is
returns-then-self-gt0-clause-is c =
    let i = c.self.inside in
    subst IsPassing c.self.view_is (is_passing i.known_to i.passing i.gone i.let_go.pieces i.kept.pieces c.self.invariant.0)

pub invariant_of-self : goal.invariant_of-self
invariant_of-self c =
    let i = c.self.inside in
    let zero : i.passing ≡ 0 = omega (arith, c.if-self-gt0.false) in
    let none : i.let_go.pieces ≡ [] = c.self.invariant.0.none zero in
    let new = c.let_all_go.new.let_go.pieces in
    let is : new ≡ i.kept.pieces = c.let_all_go.ensures.pieces ∙ ap (λ p. p ++ i.kept.pieces) none in
    let few : length (concat i.kept.pieces) < c.in-Some.size = subst (λ n. n < c.in-Some.size) c.remaining-len.ensures c.if-len-size.true in
    let there = sym c.unknown_size.ensures ∙ c.in-Some.is in
    let known = known_first c.args.kinds c.choices_of-self-inside.result (concat i.kept.pieces) c.in-Some.size there c.choices_of-self-inside.ensures in
    let gone = first_let_go c.args.kinds c.choices_of-self-inside.result c.in-Some.size i.kept.pieces there known few in
    let all : new ++ c.let_all_go.new.kept.pieces ≡ i.let_go.pieces ++ i.kept.pieces = all_let_go i.let_go.pieces i.kept.pieces new c.let_all_go.new.kept.pieces c.let_all_go.ensures.pieces c.let_all_go.ensures.none in (
      subst (λ n. AreLetGo c.choices_of-self-inside.result c.in-Some.size n new) (sym c.remaining-len.ensures) (subst (λ p. AreLetGo c.choices_of-self-inside.result c.in-Some.size (length (concat i.kept.pieces)) p) (sym is) gone),
      subst (λ p. length (concat p) < 2 ^ 64) (sym all) c.self.invariant.1,
      λ some less. c.let_all_go.ensures.none,
      λ some. ap (λ p. number_said (head_said (varint_at (concat p)))) is ∙ sym c.number_of-self-inside.ensures,
    )

pub returns-in-Some-clause-is : goal.returns-in-Some-clause-is
returns-in-Some-clause-is c =
    let i = c.self.inside in
    let zero : i.passing ≡ 0 = omega (arith, c.if-self-gt0.false) in
    let none : i.let_go.pieces ≡ [] = c.self.invariant.0.none zero in
    let new = c.let_all_go.new.let_go.pieces in
    let is : new ≡ i.kept.pieces = c.let_all_go.ensures.pieces ∙ ap (λ p. p ++ i.kept.pieces) none in
    let few : length (concat i.kept.pieces) < c.in-Some.size = subst (λ n. n < c.in-Some.size) c.remaining-len.ensures c.if-len-size.true in
    let there = sym c.unknown_size.ensures ∙ c.in-Some.is in
    let known = known_first c.args.kinds c.choices_of-self-inside.result (concat i.kept.pieces) c.in-Some.size there c.choices_of-self-inside.ensures in
    let gone = first_let_go c.args.kinds c.choices_of-self-inside.result c.in-Some.size i.kept.pieces there known few in
    is_passing c.choices_of-self-inside.result c.in-Some.size c.remaining-len.result new c.let_all_go.new.kept.pieces
    (subst (λ n. AreLetGo c.choices_of-self-inside.result c.in-Some.size n new) (sym c.remaining-len.ensures) (subst (λ p. AreLetGo c.choices_of-self-inside.result c.in-Some.size (length (concat i.kept.pieces)) p) (sym is) gone))
