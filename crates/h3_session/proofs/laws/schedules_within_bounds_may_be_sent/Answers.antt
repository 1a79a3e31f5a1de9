use Rattle.h3_session.proofs.Sendables.{plain_are_sendable, small_are_sendable}
use Rattle.h3_session.proofs.laws.schedules_within_bounds_may_be_sent.Goals as goal

pub returns-clause-any : goal.returns-clause-any
returns-clause-any c = small_are_sendable

pub returns-clause-plain : goal.returns-clause-plain
returns-clause-plain c = λ setup events typed small plain. plain_are_sendable setup events plain.taken (small_are_sendable events typed small)
