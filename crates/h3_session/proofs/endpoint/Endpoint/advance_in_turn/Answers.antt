-- The turn is over, and the bytes go.
use Rattle.h3_session.proofs.Ordering.{advances}
use Rattle.h3_session.proofs.endpoint.Endpoint.advance_in_turn.Goals as goal

pub returns : goal.returns
returns c = advances c.args.self.now c.end_turn.new.self c.take_bytes.new.self c.args.id c.args.count c.end_turn.ensures c.take_bytes.ensures
