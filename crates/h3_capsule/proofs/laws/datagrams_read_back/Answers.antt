use Rattle.h3_capsule.proofs.ReadsBack.{datagram_back}
use Rattle.h3_capsule.proofs.laws.datagrams_read_back.Goals as goal

pub returns : goal.returns
returns c = datagram_back
