use Rattle.h3_session.proofs.MemorySteps.{calls_run}
use Rattle.h3_session.proofs.Runs.{answers_each, runs_to}
use Rattle.h3_session.proofs.laws.calls_are_steps_of_two_endpoints.Goals as goal

pub returns-clause-steps : goal.returns-clause-steps
returns-clause-steps c = calls_run

pub returns-clause-each : goal.returns-clause-each
returns-clause-each c = answers_each

pub returns-clause-whole : goal.returns-clause-whole
returns-clause-whole c = runs_to
