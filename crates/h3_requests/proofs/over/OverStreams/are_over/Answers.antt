-- Each way is one in which streams are over.
use Rattle.h3_requests.specs.Marks.{code_at, mark_at}
use Rattle.h3_requests.specs.Over.{ways_in}
use Rattle.h3_requests.proofs.Seeking.{all_over}
use Rattle.h3_requests.proofs.over.OverStreams.are_over.Goals as goal

pub returns : goal.returns
returns c = all_over (ways_in c.self.inside.ways) (mark_at c.self.inside.groups) (mark_at c.self.inside.marks) (code_at c.self.inside.codes) c.args.self.now c.self.view_is c.self.invariant.0
