use Rattle.h3_wire.proofs.ReadingOn.{polls_read}
use Rattle.std.proofs.Common.{refl}
use Rattle.h3_wire.proofs.GivenPieces.{passes_is}
use Rattle.h3_wire.proofs.frame.FrameStream.poll_next.Goals as goal

pub returns-clause-reads : goal.returns-clause-reads
returns-clause-reads g c = polls_read g.S.RecvStream.rest g.S.RecvStream.answers c.poll_frame.result _ _ c.requires.closed c.poll_frame.ensures.polls

pub returns-clause-pieces : goal.returns-clause-pieces
returns-clause-pieces g c = passes_is g.S.RecvStream.answers _ _ _ _ _ refl c.poll_frame.ensures.pieces
