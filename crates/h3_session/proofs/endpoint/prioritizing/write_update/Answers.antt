-- The control stream alone has changed.
use Rattle.h3_session.proofs.TellingPriorities.{written_there}
use Rattle.h3_session.proofs.endpoint.prioritizing.write_update.Goals as goal

pub returns-clause-ok : goal.returns-clause-ok
returns-clause-ok c = written_there _ _ _ c.args.id c.args.priority c.streams.view_is c.in-Ok.ensures.ok
