use Rattle.std.proofs.Common.{◌≡◌, ◌++◌, ◌-◌, ◌^◌, ◌<◌, ◌≤◌, List, ℕ, length, drop, arith, ap, refl, sym, subst, ◌∙◌}
use Rattle.std.proofs.lemmas.List.{length-drop}
use Rattle.std.specs.List.{concat}
use Rattle.h3_frames.specs.Pieces.{IsRest}
use Rattle.h3_frames.specs.UnknownSize.{Sparing, AreLetGo, no_kinds}
use Rattle.h3_frames.proofs.SparedPieces.{passed_rest, passed_bytes, none_let_go, none_says, none_spared, size_of_both}
use Rattle.h3_frames.proofs.frame.sparing.FrameBytes.pass.Goals as goal

pub advance-requires : goal.advance-requires
advance-requires c =
    let i = c.self.inside in
    let all : length (concat (i.let_go.pieces ++ i.kept.pieces)) ≡ length (concat c.args.self.now.pieces) = ap (λ (s : Sparing). length (concat s.pieces)) c.self.view_is in
    let size : i.passing ≡ c.args.self.now.passing = ap (λ (s : Sparing). s.passing) c.self.view_is in
    omega (arith, c.self.invariant.0.gone_is, size_of_both i.let_go.pieces i.kept.pieces, all, size, c.requires.whole)

pub invariant_of-self : goal.invariant_of-self
invariant_of-self c =
    let i = c.self.inside in
    let left = c.advance.new.self.pieces in
    let fewer : length (concat left) ≡ length (concat i.kept.pieces) - (i.passing - i.gone) = ap length c.advance.ensures.value ∙ length-drop (i.passing - i.gone) (concat i.kept.pieces) in
    let fits : length (concat left) < 2 ^ 64 = omega (arith, fewer, size_of_both i.let_go.pieces i.kept.pieces, c.self.invariant.1) in (
      subst (λ (p : List (List ℕ)). AreLetGo no_kinds 0 0 p) (sym c.new-self-inside.ensures) none_let_go,
      subst (λ (p : List (List ℕ)). length (concat (p ++ left)) < 2 ^ 64) (sym c.new-self-inside.ensures) fits,
      none_spared 0 0 left refl,
      none_says i.number _,
    )

pub returns-clause-bytes : goal.returns-clause-bytes
returns-clause-bytes c =
    let i = c.self.inside in
    let left = c.advance.new.self.pieces in
    let all : length (concat (i.let_go.pieces ++ i.kept.pieces)) ≡ length (concat c.args.self.now.pieces) = ap (λ (s : Sparing). length (concat s.pieces)) c.self.view_is in
    let size : i.passing ≡ c.args.self.now.passing = ap (λ (s : Sparing). s.passing) c.self.view_is in
    let less : i.gone < i.passing = c.self.invariant.0.under_way (omega (arith, size, c.requires.under_way)) in
    let whole : i.passing ≤ length (concat (i.let_go.pieces ++ i.kept.pieces)) = omega (arith, all, size, c.requires.whole) in
    ap (λ (p : List (List ℕ)). concat (p ++ left)) c.new-self-inside.ensures
    ∙ passed_bytes i.let_go.pieces i.kept.pieces left i.passing i.gone c.self.invariant.0.gone_is less whole c.advance.ensures.pieces
    ∙ ap (λ (s : Sparing). drop s.passing (concat s.pieces)) c.self.view_is

pub returns-clause-rest : goal.returns-clause-rest
returns-clause-rest c =
    let i = c.self.inside in
    let left = c.advance.new.self.pieces in
    let all : length (concat (i.let_go.pieces ++ i.kept.pieces)) ≡ length (concat c.args.self.now.pieces) = ap (λ (s : Sparing). length (concat s.pieces)) c.self.view_is in
    let size : i.passing ≡ c.args.self.now.passing = ap (λ (s : Sparing). s.passing) c.self.view_is in
    let less : i.gone < i.passing = c.self.invariant.0.under_way (omega (arith, size, c.requires.under_way)) in
    let whole : i.passing ≤ length (concat (i.let_go.pieces ++ i.kept.pieces)) = omega (arith, all, size, c.requires.whole) in
    let rest = passed_rest i.let_go.pieces i.kept.pieces left i.passing i.gone c.self.invariant.0.gone_is less whole c.advance.ensures.pieces in
    subst (λ (p : List (List ℕ)). IsRest c.args.self.now.pieces (p ++ left)) (sym c.new-self-inside.ensures) (subst (λ (s : Sparing). IsRest s.pieces left) c.self.view_is rest)
