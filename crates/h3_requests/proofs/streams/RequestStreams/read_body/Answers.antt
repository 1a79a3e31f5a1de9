-- The stream waits for as much as before, and the counts say whether too many wait.
use Rattle.std.proofs.Common.{rules}
use Rattle.h3_connection.specs.State.{RequestState}
use Rattle.h3_requests.proofs.ReadingBodies.{none_where_many, piece_there, place_there}
use Rattle.h3_requests.proofs.Sendable.{written}
use Rattle.h3_requests.specs.Stored.{streams_in}
use Rattle.h3_requests.proofs.streams.RequestStreams.read_body.Goals as goal

pub returns-then-above-limit-clause-place : goal.returns-then-above-limit-clause-place
returns-then-above-limit-clause-place c =
    none_where_many _ c.args.self.now (streams_in c.self.inside.streams) c.args.limit c.args.inserted c.args.id c.args.bytes.now c.self.view_is c.self.invariant.counted (search rules)

pub invariant_of-self-2 : goal.invariant_of-self-2
invariant_of-self-2 c = written _ _ _ _ c.args.id c.in-Some.stream.now _ (c.get_mut.follows.holds _) (search rules) (search rules) (search rules) c.self.invariant

pub returns-clause-place : goal.returns-clause-place
returns-clause-place c =
    let before : RequestState = record { incoming = c.stream.inside.incoming; outgoing = c.stream.inside.outgoing } in
    let now : RequestState = record { incoming = c.read_body.new.self; outgoing = c.stream.inside.outgoing } in
    place_there _ c.args.self.now (streams_in c.self.inside.streams) _ c.args.limit c.args.inserted c.args.id before now c.args.bytes.now c.read_body.result c.self.view_is c.self.invariant.counted (c.get_mut.follows.holds now)
    (search rules) (search rules) c.read_body.ensures.place

pub returns-clause-reads : goal.returns-clause-reads
returns-clause-reads c =
    let before : RequestState = record { incoming = c.stream.inside.incoming; outgoing = c.stream.inside.outgoing } in
    let now : RequestState = record { incoming = c.read_body.new.self; outgoing = c.stream.inside.outgoing } in
    piece_there _ c.args.self.now (streams_in c.self.inside.streams) _ c.args.limit c.args.inserted c.args.id before c.read_body.new.self c.args.bytes.now c.read_body.result c.self.view_is c.self.invariant.counted
    (c.get_mut.follows.holds now) (search rules) (search rules) c.read_body.ensures.place c.read_body.ensures.reads c.read_body.ensures.waits
