-- Its mark is not 0.
use Rattle.h3_requests.specs.Marks.{code_at, mark_at}
use Rattle.h3_requests.specs.Over.{ways_in}
use Rattle.h3_requests.proofs.Ways.{over_known, over_there}
use Rattle.h3_requests.proofs.over.OverStreams.contains.Goals as goal

pub returns-clause-value : goal.returns-clause-value
returns-clause-value c = over_there (ways_in c.self.inside.ways) (mark_at c.self.inside.groups) (mark_at c.self.inside.marks) (code_at c.self.inside.codes) c.args.self.now c.into_inner.result c.args.id c.get_if_any.result c.self.view_is c.into_inner.ensures.value c.into_inner.ensures.bound c.get_if_any.ensures c.self.invariant.0

pub returns-clause-over : goal.returns-clause-over
returns-clause-over c = over_known (ways_in c.self.inside.ways) (mark_at c.self.inside.groups) (mark_at c.self.inside.marks) (code_at c.self.inside.codes) c.args.self.now c.into_inner.result c.args.id c.self.view_is c.into_inner.ensures.value c.into_inner.ensures.bound c.self.invariant.0
