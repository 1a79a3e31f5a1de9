-- A known way, or a new one.
use Rattle.h3_requests.proofs.Ways.{none_more}
use Rattle.h3_requests.proofs.over.way_of.Goals as goal

pub returns-then-known-gt0-clause-adds : goal.returns-then-known-gt0-clause-adds
returns-then-known-gt0-clause-adds c = none_more c.args.ways.now.items
