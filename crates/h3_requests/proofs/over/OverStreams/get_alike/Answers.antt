-- The stream that stands for the way of its mark.
use Rattle.std.proofs.Common.{sym, ◌∙◌, ap}
use Rattle.std.specs.Prelude.{option_copied, option_map}
use Rattle.h3_requests.specs.Marks.{code_at, mark_at}
use Rattle.h3_requests.specs.Over.{codeless, ways_in}
use Rattle.h3_requests.proofs.Ways.{over_alike_found, over_found}
use Rattle.h3_requests.proofs.over.OverStreams.get_alike.Goals as goal

pub returns-then-way-eq0 : goal.returns-then-way-eq0
returns-then-way-eq0 c = sym (ap (option_map codeless) (over_found (ways_in c.self.inside.ways) (mark_at c.self.inside.groups) (mark_at c.self.inside.marks) (code_at c.self.inside.codes) c.args.self.now c.into_inner-number.result c.args.id 0 c.self.view_is c.into_inner-number.ensures.value c.into_inner-number.ensures.bound (sym c.if-way-eq0.true ∙ c.get_if_any-way.ensures)))

pub returns-in-Some : goal.returns-in-Some
returns-in-Some c =
    ap (λ o. option_map codeless (option_map (λ w. w.stream) (option_copied o))) (sym c.in-Some.is)
    ∙ over_alike_found (ways_in c.self.inside.ways) (mark_at c.self.inside.groups) (mark_at c.self.inside.marks) (code_at c.self.inside.codes) c.args.self.now c.into_inner-number.result c.args.id c.get_if_any.result c.get_if_any-way.result (option_copied c.get.result) c.self.view_is
    c.into_inner-number.ensures.value c.into_inner-number.ensures.bound c.get_if_any.ensures c.get_if_any-way.ensures c.get.ensures c.self.invariant.0
