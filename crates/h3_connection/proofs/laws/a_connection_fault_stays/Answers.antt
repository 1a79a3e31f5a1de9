use Rattle.std.proofs.Common.{ap}
use Rattle.h3_connection.specs.CallLists.{endpoint_after}
use Rattle.h3_connection.proofs.Closed.{all_stay, taken_closed, pull_closed, arrives_closed, pulls_closed}
use Rattle.h3_connection.proofs.laws.a_connection_fault_stays.Goals as goal

pub returns-clause-pulled : goal.returns-clause-pulled
returns-clause-pulled c = λ e calls id code is. ap (λ p. p.0) (pull_closed (endpoint_after e calls).closed code (endpoint_after e calls) _ (all_stay e calls code is))

pub returns-clause-delivered : goal.returns-clause-delivered
returns-clause-delivered c = λ e calls id code bytes is. ap (λ p. p.0) (taken_closed (endpoint_after e calls).closed code _ (endpoint_after e calls) _ (all_stay e calls code is))

pub returns-clause-pulls_kept : goal.returns-clause-pulls_kept
returns-clause-pulls_kept c = pulls_closed

pub returns-clause-arrives_kept : goal.returns-clause-arrives_kept
returns-clause-arrives_kept c = arrives_closed
