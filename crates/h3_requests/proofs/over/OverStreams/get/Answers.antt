-- The way of its mark, with its code.
use Rattle.std.proofs.Common.{Some, sym, subst, ◌∙◌, ap}
use Rattle.std.specs.Prelude.{IfSome, option_copied}
use Rattle.h3_requests.specs.Marks.{code_at, mark_at}
use Rattle.h3_requests.specs.Over.{over_so, ways_in, IsWay}
use Rattle.h3_requests.proofs.Ways.{over_found, over_known, over_lent, told}
use Rattle.h3_requests.proofs.over.OverStreams.get.Goals as goal

pub like_way-requires : goal.like_way-requires
like_way-requires c = subst (λ o. IfSome o IsWay) (sym c.get.ensures ∙ ap option_copied c.in-Some.is) (c.self.invariant.0.over c.get_if_any.result c.get-way.result)

pub returns-then-way-eq0-clause-value : goal.returns-then-way-eq0-clause-value
returns-then-way-eq0-clause-value c = sym (over_found (ways_in c.self.inside.ways) (mark_at c.self.inside.groups) (mark_at c.self.inside.marks) (code_at c.self.inside.codes) c.args.self.now c.into_inner-number.result c.args.id 0 c.self.view_is c.into_inner-number.ensures.value c.into_inner-number.ensures.bound (sym c.if-way-eq0.true ∙ c.get-way.ensures))

pub returns-then-way-eq0-clause-over : goal.returns-then-way-eq0-clause-over
returns-then-way-eq0-clause-over c = over_known (ways_in c.self.inside.ways) (mark_at c.self.inside.groups) (mark_at c.self.inside.marks) (code_at c.self.inside.codes) c.args.self.now c.into_inner-number.result c.args.id c.self.view_is c.into_inner-number.ensures.value c.into_inner-number.ensures.bound c.self.invariant.0

pub returns-in-Some-clause-value : goal.returns-in-Some-clause-value
returns-in-Some-clause-value c =
    ap Some (c.like_way.ensures ∙ ap (over_so c.in-Some.way.now) c.get-code.ensures)
    ∙ ap (λ o. told (option_copied o) (code_at c.self.inside.codes c.into_inner-number.result)) (sym c.in-Some.is)
    ∙ sym (over_lent (ways_in c.self.inside.ways) (mark_at c.self.inside.groups) (mark_at c.self.inside.marks) (code_at c.self.inside.codes) c.args.self.now c.into_inner-number.result c.args.id c.get_if_any.result c.get-way.result (option_copied c.get.result) c.self.view_is
    c.into_inner-number.ensures.value c.into_inner-number.ensures.bound c.get_if_any.ensures c.get-way.ensures c.get.ensures)

pub returns-in-Some-clause-over : goal.returns-in-Some-clause-over
returns-in-Some-clause-over c = over_known (ways_in c.self.inside.ways) (mark_at c.self.inside.groups) (mark_at c.self.inside.marks) (code_at c.self.inside.codes) c.args.self.now c.into_inner-number.result c.args.id c.self.view_is c.into_inner-number.ensures.value c.into_inner-number.ensures.bound c.self.invariant.0

pub returns-in-None-clause-over : goal.returns-in-None-clause-over
returns-in-None-clause-over c = over_known (ways_in c.self.inside.ways) (mark_at c.self.inside.groups) (mark_at c.self.inside.marks) (code_at c.self.inside.codes) c.args.self.now c.into_inner-number.result c.args.id c.self.view_is c.into_inner-number.ensures.value c.into_inner-number.ensures.bound c.self.invariant.0
