-- The stream waits for as much as before.
use Rattle.std.proofs.Common.{rules}
use Rattle.h3_connection.specs.Delivering.{kept}
use Rattle.h3_requests.proofs.Sendable.{written}
use Rattle.h3_requests.proofs.Received.{received_there}
use Rattle.h3_requests.specs.Stored.{streams_in}
use Rattle.h3_requests.proofs.streams.RequestStreams.deliver_there.Goals as goal

pub invariant_of-self-2 : goal.invariant_of-self-2
invariant_of-self-2 c = written _ _ _ _ c.args.id c.in-Some.stream.now _ (c.get_mut.follows.holds _) (search rules) (search rules) (search rules) c.self.invariant

pub returns-clause-ok : goal.returns-clause-ok
returns-clause-ok c =
    received_there c.deliver.result c.args.self.now (streams_in c.self.inside.streams) _ c.args.id c.in-Some.stream.now _ (λ i. kept i c.args.bytes) c.self.view_is (c.get_mut.follows.holds _) (search rules) c.deliver.ensures.ok
