use Rattle.std.proofs.Common.{◌≡◌, ◌++◌, ◌≤◌, ◌&&◌, nat_lt, length, arith, ap, sym, subst, ◌∙◌}
use Rattle.std.specs.List.{concat}
use Rattle.h3_frames.specs.ExcessiveFrames.{SaysLength, is_excessive_by}
use Rattle.h3_frames.specs.Known.{known_by}
use Rattle.h3_frames.specs.UnknownSize.{IsPassing, Sparing, let_go_by, suits}
use Rattle.h3_frames.proofs.SessionFrames.{under_way_tells, unsuited_long}
use Rattle.h3_frames.proofs.SparedExcess.{left_behind}
use Rattle.h3_frames.proofs.SparedPieces.{is_passing, says_with_more, size_of_both}
use Rattle.h3_frames.proofs.frame.sparing.FrameBytes.is_excessive.Goals as goal

pub returns-then-len-self : goal.returns-then-len-self
returns-then-len-self c =
    let i = c.self.inside in
    let is = subst IsPassing c.self.view_is (is_passing i.known_to i.passing i.gone i.let_go.pieces i.kept.pieces c.self.invariant.0) in
    let size : i.passing ≡ c.args.self.now.passing = ap (λ (s : Sparing). s.passing) c.self.view_is in
    sym (under_way_tells c.args.most c.args.self.now c.args.kinds is (sym c.suits.ensures ∙ c.if-not-suits.false) (omega (arith, size, c.len.ensures, c.if-len-self.true)))

pub returns-then-not-suits : goal.returns-then-not-suits
returns-then-not-suits c =
    let i = c.self.inside in
    let is = subst IsPassing c.self.view_is (is_passing i.known_to i.passing i.gone i.let_go.pieces i.kept.pieces c.self.invariant.0) in
    let says = says_with_more (let_go_by i.known_to) i.let_go.pieces i.kept.pieces i.passing i.number c.self.invariant.0.unknown c.self.invariant.3 in
    let there = subst (λ (s : Sparing). SaysLength s.passing i.number (concat s.pieces)) c.self.view_is says in
    c.is_long_update.ensures
    ∙ ap (λ (s : Sparing). (s.known_to.updates && c.args.kinds.updates) && nat_lt c.args.most i.number) c.self.view_is
    ∙ unsuited_long c.args.most i.number c.args.self.now c.args.kinds c.requires is there (sym c.suits.ensures ∙ c.if-not-suits.true)

pub is_excessive_behind-requires-clause-there : goal.is_excessive_behind-requires-clause-there
is_excessive_behind-requires-clause-there c =
    let i = c.self.inside in
    let all : length (concat (i.let_go.pieces ++ i.kept.pieces)) ≡ length (concat c.args.self.now.pieces) = ap (λ (s : Sparing). length (concat s.pieces)) c.self.view_is in
    omega (arith, c.self.invariant.0.gone_is, size_of_both i.let_go.pieces i.kept.pieces, all, c.len.ensures, c.if-len-self.false)

pub returns : goal.returns
returns c =
    let i = c.self.inside in
    let there : length (concat (i.let_go.pieces ++ i.kept.pieces)) ≡ length (concat c.args.self.now.pieces) = ap (λ (s : Sparing). length (concat s.pieces)) c.self.view_is in
    let whole : i.passing ≤ length (concat (i.let_go.pieces ++ i.kept.pieces)) = omega (arith, there, c.len.ensures, c.if-len-self.false) in
    c.is_excessive_behind.ensures
    ∙ ap (is_excessive_by c.args.kinds c.args.most) (left_behind c.args.kinds i.known_to i.let_go.pieces i.kept.pieces i.passing i.gone (ap (λ (s : Sparing). suits s.known_to c.args.kinds) c.self.view_is ∙ sym c.suits.ensures ∙ c.if-not-suits.false) c.self.invariant.0 whole)
    ∙ ap (λ (s : Sparing). is_excessive_by c.args.kinds c.args.most (known_by c.args.kinds (concat s.pieces))) c.self.view_is
