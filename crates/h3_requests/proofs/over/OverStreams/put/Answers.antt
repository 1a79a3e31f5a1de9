-- One stream is marked with its way, which may be a new one.
use Rattle.std.proofs.Common.{refl, subst, ◌∙◌}
use Rattle.h3_connection.specs.Calls.{Sets}
use Rattle.h3_requests.specs.Marks.{code_at, mark_at}
use Rattle.h3_requests.specs.Over.{ways_in}
use Rattle.h3_requests.proofs.Ways.{add_ways, have_ways, marked_in, same_marked, still_marked, still_or_too, told_plain}
use Rattle.h3_requests.proofs.over.OverStreams.put.Goals as goal

pub invariant_of-self : goal.invariant_of-self
invariant_of-self c = (
  still_or_too (ways_in c.self.inside.ways) (ways_in c.way_of-way.new.self) (mark_at c.self.inside.groups) (mark_at c.mark.new.groups) (mark_at c.self.inside.marks) (mark_at c.mark.new.marks) c.into_inner.result c.group_of-group.result c.way_of-way.result c.mark.result c.self.invariant.0
      (have_ways (ways_in c.self.inside.ways) (ways_in c.way_of-way.new.self) c.group_of-group.result c.way_of-way.ensures.others c.way_of-way.ensures.rest) (add_ways (ways_in c.self.inside.ways) (ways_in c.way_of-way.new.self) c.group_of-group.result c.way_of-way.ensures.adds c.way_of-way.ensures.rest) c.mark.ensures.group c.mark.ensures.kept c.mark.ensures.set c.mark.ensures.same c.way_of-way.ensures.known,
  c.mark.ensures.below c.self.invariant.1,
  c.mark.ensures.groups_below,
)

pub returns-then-way-gt0-clause-put : goal.returns-then-way-gt0-clause-put
returns-then-way-gt0-clause-put c = λ set.
    marked_in (ways_in c.self.inside.ways) (ways_in c.way_of-way.new.self) (mark_at c.self.inside.groups) (mark_at c.mark.new.groups) (mark_at c.self.inside.marks) (mark_at c.mark.new.marks) (code_at c.self.inside.codes) (code_at c.self.inside.codes) c.args.self.now c.into_inner.result c.args.id c.group_of-group.result c.way_of-way.result c.args.stream.now c.self.view_is c.self.invariant.0
    (have_ways (ways_in c.self.inside.ways) (ways_in c.way_of-way.new.self) c.group_of-group.result c.way_of-way.ensures.others c.way_of-way.ensures.rest) c.into_inner.ensures.value c.into_inner.ensures.bound (c.mark.ensures.group set) (c.mark.ensures.set set) (λ q differs. refl)
    (told_plain (ways_in c.way_of-way.new.self c.group_of-group.result) c.way_of-way.result (code_at c.self.inside.codes c.into_inner.result) c.args.stream.now (c.way_of-way.ensures.is c.if-way-gt0.true))

pub returns-then-way-gt0-clause-same : goal.returns-then-way-gt0-clause-same
returns-then-way-gt0-clause-same c = λ unset.
    same_marked (ways_in c.self.inside.ways) (ways_in c.way_of-way.new.self) (mark_at c.self.inside.groups) (mark_at c.mark.new.groups) (mark_at c.self.inside.marks) (mark_at c.mark.new.marks) (code_at c.self.inside.codes) (code_at c.self.inside.codes) c.self.invariant.0 (have_ways (ways_in c.self.inside.ways) (ways_in c.way_of-way.new.self) c.group_of-group.result c.way_of-way.ensures.others c.way_of-way.ensures.rest) (c.mark.ensures.same unset) (c.mark.ensures.kept unset) (λ q some. refl) ∙ c.self.view_is

pub invariant_of-self-else-way-gt0 : goal.invariant_of-self-else-way-gt0
invariant_of-self-else-way-gt0 c = (
  still_marked (ways_in c.self.inside.ways) (ways_in c.way_of-way.new.self) (mark_at c.self.inside.groups) (mark_at c.self.inside.groups) (mark_at c.self.inside.marks) (mark_at c.self.inside.marks) c.self.invariant.0 (have_ways (ways_in c.self.inside.ways) (ways_in c.way_of-way.new.self) c.group_of-group.result c.way_of-way.ensures.others c.way_of-way.ensures.rest) (add_ways (ways_in c.self.inside.ways) (ways_in c.way_of-way.new.self) c.group_of-group.result c.way_of-way.ensures.adds c.way_of-way.ensures.rest) (λ id. refl) (λ q some. refl),
  c.self.invariant.1,
  c.self.invariant.2,
)

pub returns-clause-put : goal.returns-clause-put
returns-clause-put c = λ put.
    let same = same_marked (ways_in c.self.inside.ways) (ways_in c.way_of-way.new.self) (mark_at c.self.inside.groups) (mark_at c.self.inside.groups) (mark_at c.self.inside.marks) (mark_at c.self.inside.marks) (code_at c.self.inside.codes) (code_at c.self.inside.codes) c.self.invariant.0 (have_ways (ways_in c.self.inside.ways) (ways_in c.way_of-way.new.self) c.group_of-group.result c.way_of-way.ensures.others c.way_of-way.ensures.rest) (λ id. refl) (λ q some. refl) (λ q some. refl) ∙ c.self.view_is in
    subst (λ l. Sets l c.put_coded.new.self c.args.id c.args.stream.now) same (c.put_coded.ensures.put put)

pub returns-in_default-clause-same : goal.returns-in_default-clause-same
returns-in_default-clause-same c = λ unset. same_marked (ways_in c.self.inside.ways) (ways_in c.way_of-way.new.self) (mark_at c.self.inside.groups) (mark_at c.self.inside.groups) (mark_at c.self.inside.marks) (mark_at c.self.inside.marks) (code_at c.self.inside.codes) (code_at c.self.inside.codes) c.self.invariant.0 (have_ways (ways_in c.self.inside.ways) (ways_in c.way_of-way.new.self) c.group_of-group.result c.way_of-way.ensures.others c.way_of-way.ensures.rest) (λ id. refl) (λ q some. refl) (λ q some. refl) ∙ c.self.view_is

pub returns-clause-same : goal.returns-clause-same
returns-clause-same c = λ unset.
    let same = same_marked (ways_in c.self.inside.ways) (ways_in c.way_of-way.new.self) (mark_at c.self.inside.groups) (mark_at c.self.inside.groups) (mark_at c.self.inside.marks) (mark_at c.self.inside.marks) (code_at c.self.inside.codes) (code_at c.self.inside.codes) c.self.invariant.0 (have_ways (ways_in c.self.inside.ways) (ways_in c.way_of-way.new.self) c.group_of-group.result c.way_of-way.ensures.others c.way_of-way.ensures.rest) (λ id. refl) (λ q some. refl) (λ q some. refl) ∙ c.self.view_is in
    c.put_coded.ensures.same unset ∙ same

pub way_of-way-requires-clause-ways : goal.way_of-way-requires-clause-ways
way_of-way-requires-clause-ways c = c.self.invariant.0.over
