use Rattle.std.proofs.Common.{[], ◌∙◌}
use Rattle.h3_connection.proofs.UnknownFrames.{pull_unknown}
use Rattle.h3_connection.proofs.UnknownDelivered.{endpoint_unknown, peer_unknown, deliver_unknown, deliver_nothing}
use Rattle.h3_connection.proofs.laws.unknown_frames_give_nothing.Goals as goal

pub returns-clause-stream : goal.returns-clause-stream
returns-clause-stream c = pull_unknown

pub returns-clause-pulled : goal.returns-clause-pulled
returns-clause-pulled c = endpoint_unknown

pub returns-clause-peer : goal.returns-clause-peer
returns-clause-peer c = peer_unknown

pub returns-clause-delivered : goal.returns-clause-delivered
returns-clause-delivered c = deliver_unknown

pub returns-clause-alone : goal.returns-clause-alone
returns-clause-alone c = λ e id bytes reads empty b. deliver_unknown e id bytes [] reads empty b ∙ deliver_nothing e id reads empty
