use Rattle.h3_connection.proofs.NoContent.{remembers_head, hands_out_none}
use Rattle.h3_connection.proofs.laws.a_response_to_head_has_no_content.Goals as goal

pub returns-clause-asked : goal.returns-clause-asked
returns-clause-asked c = remembers_head

pub returns-clause-none : goal.returns-clause-none
returns-clause-none c = hands_out_none
