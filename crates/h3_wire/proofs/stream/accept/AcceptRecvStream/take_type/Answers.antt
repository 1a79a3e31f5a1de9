use Rattle.std.proofs.Common.{◌≡◌, ◌≤◌, ◌++◌, length, false, sym, ◌∙◌, ap, ap₂, refl, subst, ℕ, Option, Some, None}
use Rattle.std.specs.List.{concat}
use Rattle.std.specs.Option.{is_some}
use Rattle.h3_wire.specs.Accepting.{Accepting, start_from}
use Rattle.h3_wire.proofs.Accepting.{takes_fewer, start_after_type}
use Rattle.h3_wire.proofs.stream.accept.AcceptRecvStream.take_type.Goals as goal

none_is : (o : Option ℕ) → false ≡ is_some o → o ≡ None
none_is None e = refl
none_is (Some v) e = absurd (cc)

pub returns-clause-same : goal.returns-clause-same
returns-clause-same g c = λ more.
    let view = c.self.view_is in
    let at = c.self.inside in
    let new = concat c.take_number.new.self.pieces in
    let none : at.ty ≡ None = none_is at.ty c.if-is_some.ensures in
    let alone : at.id ≡ None = c.self.invariant none in
    ap₂ (λ n i. start_from (Some n) i (new ++ more)) c.from_value.ensures alone
    ∙ start_after_type c.in-Some.number (concat at.stream.pieces) new more c.in-Some.ensures.takes
    ∙ ap₂ (λ k i. start_from k i (concat at.stream.pieces ++ more)) (sym none) (sym alone)
    ∙ ap (λ (a : Accepting g.row.S.Denot). start_from a.kind a.id (concat a.pieces ++ more)) view

pub returns-clause-fewer : goal.returns-clause-fewer
returns-clause-fewer g c =
    subst (λ (a : Accepting g.row.S.Denot). length (concat c.take_number.new.self.pieces) ≤ length (concat a.pieces)) c.self.view_is
    (takes_fewer (Some c.in-Some.number) (concat c.self.inside.stream.pieces) _ c.in-Some.ensures.takes)
