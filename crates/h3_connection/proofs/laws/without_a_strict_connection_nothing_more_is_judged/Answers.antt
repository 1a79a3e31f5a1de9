use Rattle.h3_connection.specs.StrictConnectionLaws.{announces_any, any_place, any_session, begins_any, checks_none, control_taken, fault_as_found, knows_all, none_refused}
use Rattle.h3_connection.proofs.laws.without_a_strict_connection_nothing_more_is_judged.Goals as goal

pub returns-clause-settings : goal.returns-clause-settings
returns-clause-settings c = none_refused

pub returns-clause-control : goal.returns-clause-control
returns-clause-control c = control_taken

pub returns-clause-fault : goal.returns-clause-fault
returns-clause-fault c = fault_as_found

pub returns-clause-stream : goal.returns-clause-stream
returns-clause-stream c = any_session

pub returns-clause-place : goal.returns-clause-place
returns-clause-place c = any_place

pub returns-clause-decoder : goal.returns-clause-decoder
returns-clause-decoder c = checks_none

pub returns-clause-begins : goal.returns-clause-begins
returns-clause-begins c = begins_any

pub returns-clause-announces : goal.returns-clause-announces
returns-clause-announces c = announces_any

pub returns-clause-kinds : goal.returns-clause-kinds
returns-clause-kinds c = knows_all

pub returns-clause-sessions : goal.returns-clause-sessions
returns-clause-sessions c = knows_all
