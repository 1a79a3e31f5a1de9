use Rattle.std.proofs.Common.{subst}
use Rattle.h3_session.specs.Turns.{TakesBytes}
use Rattle.h3_session.proofs.endpoint.Endpoint.take_bytes.Goals as goal

pub returns : goal.returns
returns c = subst (λ s. TakesBytes s c.advance_own.new.self c.args.id c.args.count) (c.advance_request.ensures.none c.if-advance_request.false) c.advance_own.ensures
