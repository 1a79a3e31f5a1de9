use Rattle.h3_session.proofs.Datagrams.{shows_refusal}
use Rattle.h3_session.proofs.endpoint.Endpoint.datagram_head.Goals as goal

pub returns-in-Some : goal.returns-in-Some
returns-in-Some c = shows_refusal c.args.self.now c.args.id c.in-Some.error c.in-Some.ensures.value
