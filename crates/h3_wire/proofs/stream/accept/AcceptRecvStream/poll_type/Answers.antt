use Rattle.std.proofs.Common.{refl}
use Rattle.h3_wire.proofs.GivenPieces.{passes_is}
use Rattle.h3_wire.proofs.stream.accept.AcceptRecvStream.poll_type.Goals as goal

pub returns-clause-pieces : goal.returns-clause-pieces
returns-clause-pieces g c = passes_is g.S.RecvStream.answers _ _ _ _ _ refl c.poll_start.ensures.pieces
