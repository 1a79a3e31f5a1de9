-- A stream that is over goes to those that are.
use Rattle.std.proofs.Common.{sym}
use Rattle.h3_requests.proofs.Found.{retired}
use Rattle.h3_requests.proofs.map.StreamMap.retire.Goals as goal

pub returns-then-put : goal.returns-then-put
returns-then-put c =
    let was = rw c.into_inner-number.ensures.value at c.in-Some.ensures in
    let gone = rw c.into_inner-number.ensures.value at c.retire.ensures in
    retired c.args.self.now.under_way c.retire.new.self c.args.self.now.over c.put.new.self c.args.id c.in-Some.stream.now (sym was) (c.put.ensures.put c.if-put.true) gone
