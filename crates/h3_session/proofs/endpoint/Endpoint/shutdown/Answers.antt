-- What is named is what is told of the last id.
use Rattle.h3_connection.specs.Shutdown.{last_taken}
use Rattle.h3_connection.specs.Answers.{call_refused}
use Rattle.h3_session.proofs.Draining.{goes_bounded}
use Rattle.h3_session.proofs.endpoint.Endpoint.shutdown.Goals as goal

pub returns : goal.returns
returns c = goes_bounded (λ e. last_taken e.side e) c.args.self.now c.goaway_once.new.self c.last_taken-id.result (call_refused c.goaway_once.result) c.last_taken-id.ensures c.goaway_once.ensures.fits c.goaway_once.ensures.goes
