-- It is refused with nothing changed, or it is said.
use Rattle.h3_session.proofs.OrderingCalls.{changes_requests, changes_turns, said_now, said_refused}
use Rattle.h3_session.proofs.endpoint.Endpoint.say_priority.Goals as goal

pub returns-in-Err-clause-said : goal.returns-in-Err-clause-said
returns-in-Err-clause-said c =
    said_refused c.args.self.now c.prioritize.new.self c.args.id c.args.source c.args.priority c.in-Err.refusal c.prioritize.ensures.rest c.in-Err.ensures.why c.in-Err.ensures.err

pub returns-in-Err-clause-rest : goal.returns-in-Err-clause-rest
returns-in-Err-clause-rest c = changes_requests c.args.self.now c.prioritize.new.self c.prioritize.ensures.rest

pub returns-in-Ok-clause-said : goal.returns-in-Ok-clause-said
returns-in-Ok-clause-said c =
    said_now c.args.self.now c.prioritize.new.self c.begin_rounds.new.self c.args.id c.args.source c.args.priority c.prioritize.ensures.rest c.in-Ok.ensures.taken c.in-Ok.ensures.ok
    c.begin_rounds.ensures

pub returns-in-Ok-clause-rest : goal.returns-in-Ok-clause-rest
returns-in-Ok-clause-rest c = changes_turns c.args.self.now c.prioritize.new.self c.begin_rounds.new.self _ c.prioritize.ensures.rest c.begin_rounds.ensures
