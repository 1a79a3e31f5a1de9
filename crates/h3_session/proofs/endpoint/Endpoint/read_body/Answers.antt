-- With nothing kept, what is read on a request stream is its receiver's.
use Rattle.std.proofs.Common.{rules}
use Rattle.h3_session.proofs.ReadingBodies.{place_at_once}
use Rattle.h3_session.proofs.endpoint.Endpoint.read_body.Goals as goal

pub returns-clause-place : goal.returns-clause-place
returns-clause-place c =
    place_at_once c.args.self.now c.args.id c.args.bytes.now c.read_at_once.result (search rules) (search rules) (search rules) c.read_at_once.ensures.place
