use Rattle.h3_connection.specs.Endpoint.{new_endpoint}
use Rattle.h3_connection.proofs.Bounded.{calls_on, call_on, arrives_on, pulls_on, new_on, shown_tries}
use Rattle.h3_connection.proofs.StoppedBounds.{asked, reads_part, kept_bounded, lost_bounded, cut_bounded}
use Rattle.h3_connection.proofs.laws.tries_and_waiting_streams_are_bounded.Goals as goal

pub returns-clause-calls : goal.returns-clause-calls
returns-clause-calls c = λ side own calls. calls_on (new_endpoint side own) calls (new_on side own)

pub returns-clause-call : goal.returns-clause-call
returns-clause-call c = call_on

pub returns-clause-arrives : goal.returns-clause-arrives
returns-clause-arrives c = arrives_on

pub returns-clause-pulls : goal.returns-clause-pulls
returns-clause-pulls c = pulls_on

pub returns-clause-tries : goal.returns-clause-tries
returns-clause-tries c = shown_tries

pub returns-clause-waiting : goal.returns-clause-waiting
returns-clause-waiting c = λ e h. h.waiting

pub returns-clause-part : goal.returns-clause-part
returns-clause-part c = λ e after arrivals h read. reads_part read h

pub returns-clause-asked : goal.returns-clause-asked
returns-clause-asked c = asked

pub returns-clause-kept : goal.returns-clause-kept
returns-clause-kept c = kept_bounded

pub returns-clause-lost : goal.returns-clause-lost
returns-clause-lost c = lost_bounded

pub returns-clause-cut_off : goal.returns-clause-cut_off
returns-clause-cut_off c = cut_bounded
