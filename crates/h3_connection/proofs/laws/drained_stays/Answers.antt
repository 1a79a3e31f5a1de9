use Rattle.h3_connection.proofs.DrainedStays.{drained_stays, served_stays}
use Rattle.h3_connection.proofs.laws.drained_stays.Goals as goal

pub returns-clause-served : goal.returns-clause-served
returns-clause-served c = served_stays

pub returns-clause-drained : goal.returns-clause-drained
returns-clause-drained c = drained_stays
