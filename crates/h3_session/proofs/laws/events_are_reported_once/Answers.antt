use Rattle.h3_session.proofs.Events.{all_reported, ends, settings_came, tells_last}
use Rattle.h3_session.proofs.laws.events_are_reported_once.Goals as goal

pub returns-clause-ends : goal.returns-clause-ends
returns-clause-ends c = ends

pub returns-clause-all : goal.returns-clause-all
returns-clause-all c = all_reported

pub returns-clause-settings : goal.returns-clause-settings
returns-clause-settings c = settings_came

pub returns-clause-goaway : goal.returns-clause-goaway
returns-clause-goaway c = tells_last
