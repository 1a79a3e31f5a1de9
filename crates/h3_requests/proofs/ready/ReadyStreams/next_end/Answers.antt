-- Nothing waits but in one class.
use Rattle.h3_requests.specs.Waiting.{is_waiting}
use Rattle.h3_requests.proofs.Ordered.{least_plain, plain_ends}
use Rattle.h3_requests.proofs.ready.ReadyStreams.next_end.Goals as goal

pub returns : goal.returns
returns c = least_plain (is_waiting c.args.self.now.ends) c.args.from c.next.result (plain_ends c.args.self.now c.requires c.if-self.false) c.next.ensures
