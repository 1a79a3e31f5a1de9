use Rattle.std.proofs.Common.{sym}
use Rattle.h3_session.proofs.endpoint.Endpoint.pull_stored.Goals as goal

pub returns-clause-list : goal.returns-clause-list
returns-clause-list c = rw (sym c.self.view_is) c.pull_stream.ensures.list
