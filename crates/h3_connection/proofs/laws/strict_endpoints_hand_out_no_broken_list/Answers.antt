use Rattle.h3_connection.proofs.WellFormed.{pulls_well_formed}
use Rattle.h3_connection.proofs.laws.strict_endpoints_hand_out_no_broken_list.Goals as goal

pub returns : goal.returns
returns c = pulls_well_formed
