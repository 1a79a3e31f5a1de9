use Rattle.std.proofs.Common.{◌≡◌, ◌≤◌, ◌++◌, length, false, sym, ◌∙◌, ap, subst, Some, IsSome}
use Rattle.std.specs.List.{concat}
use Rattle.h3_wire.specs.Accepting.{Accepting, start_from, resolved}
use Rattle.h3_wire.proofs.Accepting.{takes_fewer, start_after_id}
use Rattle.h3_wire.proofs.stream.accept.AcceptRecvStream.take_id.Goals as goal

pub returns-clause-same : goal.returns-clause-same
returns-clause-same g c = λ more.
    let view = c.self.view_is in
    let at = c.self.inside in
    let new = concat c.take_number.new.self.pieces in
    let some : IsSome at.ty = subst (λ (a : Accepting g.row.S.Denot). IsSome a.kind) (sym view) c.requires in
    let waiting : resolved at.ty at.id ≡ false = subst (λ (a : Accepting g.row.S.Denot). resolved a.kind a.id ≡ false) (sym view) (sym c.if-is_resolved.ensures) in
    ap (λ n. start_from at.ty (Some n) (new ++ more)) c.from_u64_unchecked.ensures
    ∙ start_after_id at.ty at.id c.in-Some.number (concat at.stream.pieces) new more some waiting c.in-Some.ensures.takes
    ∙ ap (λ (a : Accepting g.row.S.Denot). start_from a.kind a.id (concat a.pieces ++ more)) view

pub returns-clause-fewer : goal.returns-clause-fewer
returns-clause-fewer g c =
    subst (λ (a : Accepting g.row.S.Denot). length (concat c.take_number.new.self.pieces) ≤ length (concat a.pieces)) c.self.view_is
    (takes_fewer (Some c.in-Some.number) (concat c.self.inside.stream.pieces) _ c.in-Some.ensures.takes)
