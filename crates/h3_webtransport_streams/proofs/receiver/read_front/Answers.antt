-- No more bytes are used than there are.
use Rattle.h3_webtransport_streams.proofs.Reading.{within}
use Rattle.h3_webtransport_streams.proofs.receiver.read_front.Goals as goal

pub returns-clause-within : goal.returns-clause-within
returns-clause-within c = within _ _ _ _ _ c.read-used.ensures
