use Rattle.h3_wire.proofs.ReadingOn.{data_read, data_fewer}
use Rattle.h3_wire.proofs.frame.FrameStream.poll_data.Goals as goal

pub returns-clause-reads : goal.returns-clause-reads
returns-clause-reads g c = data_read g.S.RecvStream.rest g.S.RecvStream.answers c.poll_payload.result _ _ c.poll_payload.ensures.polls

pub returns-clause-fewer : goal.returns-clause-fewer
returns-clause-fewer g c = data_fewer g.S.RecvStream.rest g.S.RecvStream.answers c.poll_payload.result _ _ c.poll_payload.ensures.polls
