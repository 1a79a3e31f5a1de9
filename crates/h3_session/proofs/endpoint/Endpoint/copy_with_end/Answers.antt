use Rattle.std.proofs.Common.{rules}
use Rattle.h3_connection.specs.WaitingPieces.{bytes_of}
use Rattle.h3_session.proofs.Copying.{puts_request, request_ends, within_waiting}
use Rattle.h3_session.proofs.endpoint.Endpoint.copy_with_end.Goals as goal

pub ends_behind-requires : goal.ends_behind-requires
ends_behind-requires c = within_waiting (bytes_of c.in-Some.stream.now.pieces) c.args.out.now c.copy_to-count.new.out c.copy_to-count.result.0 c.copy_to-count.ensures.copied

pub returns-clause-copied : goal.returns-clause-copied
returns-clause-copied c =
    puts_request c.args.self.now c.args.id c.copy_to-count.result.0 c.copy_to-count.result.1 c.in-Some.stream.now c.args.out.now c.copy_to-count.new.out (search rules) c.copy_to-count.ensures.copied c.copy_to-count.ensures.past

pub returns-clause-ends : goal.returns-clause-ends
returns-clause-ends c =
    request_ends c.args.self.now c.args.id c.copy_to-count.result.0 c.copy_to-count.result.1 c.in-Some.stream.now c.ends_behind.result (search rules)
    (within_waiting (bytes_of c.in-Some.stream.now.pieces) c.args.out.now c.copy_to-count.new.out c.copy_to-count.result.0 c.copy_to-count.ensures.copied) c.ends_behind.ensures
