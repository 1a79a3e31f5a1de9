use Rattle.h3_connection.specs.CallLists.{endpoint_after}
use Rattle.h3_connection.proofs.EndStays.{begins_over, over_after, pulls_end, session_pulls_end}
use Rattle.h3_connection.proofs.EndOverLists.{end_stays_after}
use Rattle.h3_connection.proofs.laws.the_end_stays.Goals as goal

pub returns-clause-begins : goal.returns-clause-begins
returns-clause-begins c = begins_over

pub returns-clause-stays : goal.returns-clause-stays
returns-clause-stays c = λ e calls id b open_still h p. let a = over_after e calls id b h open_still p in pulls_end (endpoint_after e calls) id a.0 a.1 a.2

pub returns-clause-session : goal.returns-clause-session
returns-clause-session c = λ e id open_still h. session_pulls_end e id h open_still

pub returns-clause-calls : goal.returns-clause-calls
returns-clause-calls c = λ side own before between id goes later is. end_stays_after side own before between id goes later is
