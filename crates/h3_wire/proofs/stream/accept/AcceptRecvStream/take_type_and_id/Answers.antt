use Rattle.h3_frames.specs.PieceLaws.{rest_then}
use Rattle.h3_wire.proofs.stream.accept.AcceptRecvStream.take_type_and_id.Goals as goal

pub returns-clause-rest : goal.returns-clause-rest
returns-clause-rest g c = rest_then _ _ _ c.take_type.ensures.rest c.take_id.ensures.rest
