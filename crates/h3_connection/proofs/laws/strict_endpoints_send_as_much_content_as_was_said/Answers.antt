use Rattle.h3_connection.proofs.SentAsSaid.{heads_say, peers_expect, sends_as_much}
use Rattle.h3_connection.proofs.laws.strict_endpoints_send_as_much_content_as_was_said.Goals as goal

pub returns-clause-heads : goal.returns-clause-heads
returns-clause-heads c = heads_say

pub returns-clause-peers : goal.returns-clause-peers
returns-clause-peers c = peers_expect

pub returns-clause-sent : goal.returns-clause-sent
returns-clause-sent c = sends_as_much
