use Rattle.h3_session.proofs.Datagrams.{read_back}
use Rattle.h3_session.proofs.laws.datagrams_read_back.Goals as goal

pub returns : goal.returns
returns c = λ sender peer id head payload below given takes. read_back sender peer id head payload c.datagrams_read_back.ensures below given takes
