use Rattle.h3_proto.specs.ReceivedLaws.{announced_received_with_table}
use Rattle.h3_proto.proofs.KeptSettings.{announced_received}
use Rattle.h3_proto.proofs.laws.announced_is_received.Goals as goal

pub returns-clause-alone : goal.returns-clause-alone
returns-clause-alone c = announced_received

pub returns-clause-with_table : goal.returns-clause-with_table
returns-clause-with_table c = announced_received_with_table
