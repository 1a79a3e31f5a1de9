-- Its mark goes.
use Rattle.h3_requests.specs.Marks.{code_at, mark_at}
use Rattle.h3_requests.specs.Over.{ways_in}
use Rattle.h3_requests.proofs.Ways.{over_known, unmarked}
use Rattle.h3_requests.proofs.over.OverStreams.remove.Goals as goal

pub returns-clause-takes_out : goal.returns-clause-takes_out
returns-clause-takes_out c =
    unmarked (ways_in c.self.inside.ways) (mark_at c.self.inside.groups) (mark_at c.self.inside.marks) (mark_at c.set.new.self) (code_at c.self.inside.codes) c.args.self.now c.into_inner.result c.args.id c.set.result c.self.view_is c.into_inner.ensures.value c.into_inner.ensures.bound
    c.set.ensures.set c.set.ensures.same c.set.ensures.none

pub returns-clause-over : goal.returns-clause-over
returns-clause-over c = over_known (ways_in c.self.inside.ways) (mark_at c.self.inside.groups) (mark_at c.self.inside.marks) (code_at c.self.inside.codes) c.args.self.now c.into_inner.result c.args.id c.self.view_is c.into_inner.ensures.value c.into_inner.ensures.bound c.self.invariant.0
