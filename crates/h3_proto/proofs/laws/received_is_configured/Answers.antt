use Rattle.h3_proto.proofs.KeptSettings.{own_settings, own_settings_with_table, own_table}
use Rattle.h3_proto.proofs.laws.received_is_configured.Goals as goal

pub returns-clause-alone : goal.returns-clause-alone
returns-clause-alone c = own_settings

pub returns-clause-with_table : goal.returns-clause-with_table
returns-clause-with_table c = own_settings_with_table

pub returns-clause-table : goal.returns-clause-table
returns-clause-table c = own_table
