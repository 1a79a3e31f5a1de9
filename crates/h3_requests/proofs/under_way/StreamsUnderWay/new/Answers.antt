-- Nothing stands there.
use Rattle.h3_requests.specs.Row.{held_at}
use Rattle.h3_requests.proofs.Beside.{none_beside}
use Rattle.h3_requests.proofs.under_way.StreamsUnderWay.new.Goals as goal

pub returns : goal.returns
returns c = none_beside (held_at c.new.result) c.new-2.result.streams.entries c.new.ensures c.new-2.ensures
