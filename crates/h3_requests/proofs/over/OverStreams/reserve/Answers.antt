-- The marks and the ways stay.
use Rattle.std.proofs.Common.{◌<◌, refl, sym, subst, ◌∙◌}
use Rattle.h3_requests.specs.Marks.{code_at, mark_at}
use Rattle.h3_requests.specs.Over.{ways_in, AreMarked, HasWays}
use Rattle.h3_requests.proofs.Ways.{none_more, over_known, same_marked, same_ways, still_marked}
use Rattle.h3_requests.proofs.over.OverStreams.reserve.Goals as goal

pub returns-in_err-reserve-clause-over : goal.returns-in_err-reserve-clause-over
returns-in_err-reserve-clause-over c = over_known (ways_in c.self.inside.ways) (mark_at c.self.inside.groups) (mark_at c.self.inside.marks) (code_at c.self.inside.codes) c.args.self.now c.into_inner-number.result c.args.id c.self.view_is c.into_inner-number.ensures.value c.into_inner-number.ensures.bound c.self.invariant.0

pub invariant_of-self-2 : goal.invariant_of-self-2
invariant_of-self-2 c =
    let marked : AreMarked (ways_in c.reserve.new.self) (mark_at c.self.inside.groups) (mark_at c.self.inside.marks) =
    subst (λ ways. AreMarked ways (mark_at c.self.inside.groups) (mark_at c.self.inside.marks)) (sym c.reserve.ensures) c.self.invariant.0 in (
      still_marked (ways_in c.reserve.new.self) (ways_in c.reserve.new.self) (mark_at c.self.inside.groups) (mark_at c.self.inside.groups) (mark_at c.self.inside.marks) (mark_at c.reserve-2.new.self) marked
          (λ group. same_ways (ways_in c.reserve.new.self group)) (λ group. none_more (ways_in c.reserve.new.self group)) c.reserve-2.ensures.same (λ q some. refl),
      (λ id above. c.reserve-2.ensures.same id ∙ c.self.invariant.1 id (subst (λ top. top < id) c.reserve-2.ensures.top above)),
      c.self.invariant.2,
    )

pub returns-clause-same : goal.returns-clause-same
returns-clause-same c =
    same_marked (ways_in c.self.inside.ways) (ways_in c.reserve.new.self) (mark_at c.self.inside.groups) (mark_at c.self.inside.groups) (mark_at c.self.inside.marks) (mark_at c.reserve-2.new.self) (code_at c.self.inside.codes)
    (code_at c.self.inside.codes) c.self.invariant.0
    (λ group. subst (λ ways. HasWays (ways_in c.self.inside.ways group) (ways group)) (sym c.reserve.ensures) (same_ways (ways_in c.self.inside.ways group))) c.reserve-2.ensures.same (λ q some. refl) (λ q some. refl) ∙ c.self.view_is

pub returns-clause-over : goal.returns-clause-over
returns-clause-over c = over_known (ways_in c.self.inside.ways) (mark_at c.self.inside.groups) (mark_at c.self.inside.marks) (code_at c.self.inside.codes) c.args.self.now c.into_inner-number.result c.args.id c.self.view_is c.into_inner-number.ensures.value c.into_inner-number.ensures.bound c.self.invariant.0
