-- Nothing is stored.
use Rattle.h3_requests.proofs.Found.{none_stored}
use Rattle.h3_requests.proofs.map.StreamMap.new.Goals as goal

pub returns : goal.returns
returns c = none_stored (record { under_way = c.new.result; over = c.new-2.result }) c.new.ensures c.new-2.ensures
