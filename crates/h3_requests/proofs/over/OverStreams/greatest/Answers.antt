-- The greatest that is marked.
use Rattle.h3_requests.specs.Marks.{code_at, mark_at}
use Rattle.h3_requests.specs.Over.{ways_in}
use Rattle.h3_requests.proofs.Seeking.{all_over, greatest_marked}
use Rattle.h3_requests.proofs.over.OverStreams.greatest.Goals as goal

pub returns-clause-value : goal.returns-clause-value
returns-clause-value c =
    greatest_marked (ways_in c.self.inside.ways) (mark_at c.self.inside.groups) (mark_at c.self.inside.marks) (code_at c.self.inside.codes) c.args.self.now c.greatest.result c.self.view_is c.self.invariant.0 c.greatest.ensures.fits c.greatest.ensures.value

pub returns-clause-over : goal.returns-clause-over
returns-clause-over c = all_over (ways_in c.self.inside.ways) (mark_at c.self.inside.groups) (mark_at c.self.inside.marks) (code_at c.self.inside.codes) c.args.self.now c.self.view_is c.self.invariant.0
