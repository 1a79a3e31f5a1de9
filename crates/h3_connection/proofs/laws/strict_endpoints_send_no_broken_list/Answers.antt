use Rattle.h3_connection.proofs.WellSent.{sends_well_formed_heads, sends_well_formed_trailers}
use Rattle.h3_connection.proofs.laws.strict_endpoints_send_no_broken_list.Goals as goal

pub returns-clause-heads : goal.returns-clause-heads
returns-clause-heads c = sends_well_formed_heads

pub returns-clause-trailers : goal.returns-clause-trailers
returns-clause-trailers c = sends_well_formed_trailers
