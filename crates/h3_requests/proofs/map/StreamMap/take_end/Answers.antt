-- The stream is not under way, so what is stored of it is what is over.
use Rattle.h3_requests.specs.Over.{with_end_taken}
use Rattle.h3_requests.proofs.Found.{distinct_in, over_set}
use Rattle.h3_requests.proofs.map.StreamMap.take_end.Goals as goal

pub returns-clause-taken : goal.returns-clause-taken
returns-clause-taken c = λ taken. over_set with_end_taken c.args.self.now.under_way c.args.self.now.over c.take_end.new.self c.args.id c.take_end.ensures.number c.requires (c.take_end.ensures.taken taken)

pub returns-clause-distinct : goal.returns-clause-distinct
returns-clause-distinct c = distinct_in (record { under_way = c.args.self.now.under_way; over = c.take_end.new.self })
