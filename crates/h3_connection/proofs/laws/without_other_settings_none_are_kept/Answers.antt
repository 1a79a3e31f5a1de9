use Rattle.h3_connection.specs.OtherSettingsLaws.{none_kept, none_read_of, none_shown}
use Rattle.h3_connection.proofs.laws.without_other_settings_none_are_kept.Goals as goal

pub returns-clause-kept : goal.returns-clause-kept
returns-clause-kept c = none_kept

pub returns-clause-read : goal.returns-clause-read
returns-clause-read c = none_read_of

pub returns-clause-shown : goal.returns-clause-shown
returns-clause-shown c e id none = none_shown e.peer.settings e.peer.others id none
