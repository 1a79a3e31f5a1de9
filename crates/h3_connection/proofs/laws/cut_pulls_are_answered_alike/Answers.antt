use Rattle.h3_connection.proofs.PullCuts.{cut_pulled}
use Rattle.h3_connection.proofs.RequestCuts.{request_cut}
use Rattle.h3_connection.proofs.JoinedPulls.{joined_alike}
use Rattle.h3_connection.proofs.laws.cut_pulls_are_answered_alike.Goals as goal

pub returns-clause-delivered : goal.returns-clause-delivered
returns-clause-delivered c = request_cut

pub returns-clause-one : goal.returns-clause-one
returns-clause-one c = cut_pulled

pub returns-clause-joined : goal.returns-clause-joined
returns-clause-joined c = joined_alike
