use Rattle.h3_session.proofs.BeginningWith.{begins_with}
use Rattle.h3_session.proofs.endpoint.Endpoint.begin_with.Goals as goal

pub returns : goal.returns
returns c = begins_with c.write_start.result _ _ c.write_start.new.streams c.args.further.now c.self.view_is c.write_start.ensures
