use Rattle.h3_headline.proofs.Accepted.{accepted}
use Rattle.h3_headline.proofs.parts.ordered_sends_are_accepted.Goals as goal

pub returns-clause-run : goal.returns-clause-run
returns-clause-run c = λ setup before given w new e a run happens order. accepted setup w new e a happens.step order

pub returns-clause-step : goal.returns-clause-step
returns-clause-step c = accepted
