use Rattle.h3_session.proofs.WellSentLists.{sends_well_formed_lists, sends_well_formed_trailer_lists}
use Rattle.h3_session.proofs.laws.strict_endpoints_send_no_broken_field_list.Goals as goal

pub returns-clause-heads : goal.returns-clause-heads
returns-clause-heads c = sends_well_formed_lists

pub returns-clause-trailers : goal.returns-clause-trailers
returns-clause-trailers c = sends_well_formed_trailer_lists
