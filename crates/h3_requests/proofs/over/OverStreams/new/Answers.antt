-- Nothing is marked.
use Rattle.h3_requests.specs.Marks.{code_at, mark_at}
use Rattle.h3_requests.specs.Over.{ways_in}
use Rattle.h3_requests.proofs.Ways.{none_marked}
use Rattle.h3_requests.proofs.over.OverStreams.new.Goals as goal

pub returns : goal.returns
returns c = none_marked (ways_in c.new-3.result) (mark_at c.new-2.result) (mark_at c.new.result) (code_at c.new-4.result) c.new.ensures.none
