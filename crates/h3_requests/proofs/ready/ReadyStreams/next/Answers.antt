-- Nothing waits but in one class.
use Rattle.h3_requests.specs.Ready.{is_ready}
use Rattle.h3_requests.proofs.Ordered.{least_plain, plain_bytes}
use Rattle.h3_requests.proofs.ready.ReadyStreams.next.Goals as goal

pub returns : goal.returns
returns c = least_plain (is_ready c.args.self.now) c.args.from c.next.result (plain_bytes c.args.self.now c.requires c.if-self.false) c.next.ensures
