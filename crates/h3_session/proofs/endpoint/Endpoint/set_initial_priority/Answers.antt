-- A rule refuses it, or else the priority is said.
use Rattle.h3_session.proofs.OrderingCalls.{initial_judged, initial_said}
use Rattle.h3_session.proofs.endpoint.Endpoint.set_initial_priority.Goals as goal

pub returns-in-Err : goal.returns-in-Err
returns-in-Err c = initial_judged c.args.self.now c.args.id c.args.priority c.in-Err.refusal c.in-Err.ensures.err

pub returns-in-Ok : goal.returns-in-Ok
returns-in-Ok c = initial_said c.args.self.now c.say_priority.new.self c.args.id c.args.priority c.say_priority.result c.in-Ok.ensures.ok c.say_priority.ensures.said
