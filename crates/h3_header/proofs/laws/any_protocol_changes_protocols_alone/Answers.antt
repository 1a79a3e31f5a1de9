use Rattle.h3_header.proofs.AnyProtocolLaws.{heads_stay, tokens_read_back, without_protocol}
use Rattle.h3_header.proofs.laws.any_protocol_changes_protocols_alone.Goals as goal

pub returns-clause-others : goal.returns-clause-others
returns-clause-others c = without_protocol

pub returns-clause-stays : goal.returns-clause-stays
returns-clause-stays c = heads_stay

pub returns-clause-tokens_read_back : goal.returns-clause-tokens_read_back
returns-clause-tokens_read_back c = tokens_read_back
