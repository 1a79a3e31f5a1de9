-- The limit is what was announced, and the insertions that it counts by are those of the decoder.
use Rattle.std.proofs.Common.{rules}
use Rattle.h3_session.proofs.ReadingBodies.{place_same}
use Rattle.h3_session.proofs.endpoint.Endpoint.read_at_once.Goals as goal

pub returns-clause-place : goal.returns-clause-place
returns-clause-place c =
    place_same _ c.args.self.now.announced.limits.blocked _ c.args.self.now.decoding.decoder.table.inserted c.args.id _ c.args.self.now.requests c.args.bytes.now c.read_body.result (search rules) (search rules) (search rules)
    c.read_body.ensures.place
