-- The stream waits for as much as before, and the counts say that not too many wait.
use Rattle.std.proofs.Common.{rules}
use Rattle.h3_connection.specs.State.{RequestState}
use Rattle.h3_requests.proofs.ReadingBodies.{begins_there}
use Rattle.h3_requests.proofs.Sendable.{written}
use Rattle.h3_requests.specs.Stored.{streams_in}
use Rattle.h3_requests.proofs.streams.RequestStreams.begin_body.Goals as goal

pub invariant_of-self-2 : goal.invariant_of-self-2
invariant_of-self-2 c = written _ _ _ _ c.args.id c.in-Some.stream.now _ (c.get_mut.follows.holds _) (search rules) (search rules) (search rules) c.self.invariant

pub returns-clause-begins : goal.returns-clause-begins
returns-clause-begins c =
    let before : RequestState = record { incoming = c.stream.inside.incoming; outgoing = c.stream.inside.outgoing } in
    let now : RequestState = record { incoming = c.begin_body.new.self; outgoing = c.stream.inside.outgoing } in
    begins_there _ c.args.self.now (streams_in c.self.inside.streams) _ c.args.limit c.args.inserted c.args.id before c.begin_body.new.self c.args.bytes.now c.begin_body.result c.self.view_is c.self.invariant.counted
    (c.get_mut.follows.holds now) (search rules) (search rules) c.begin_body.ensures.begins c.begin_body.ensures.waits
