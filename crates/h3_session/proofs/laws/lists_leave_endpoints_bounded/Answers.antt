use Rattle.h3_session.proofs.ListedBounds.{fields_bounded, same_bounded, trailer_bounded}
use Rattle.h3_session.proofs.laws.lists_leave_endpoints_bounded.Goals as goal

pub returns-clause-fields : goal.returns-clause-fields
returns-clause-fields c = fields_bounded c.tries_and_waiting_streams_are_bounded.ensures.cut_off

pub returns-clause-trailer : goal.returns-clause-trailer
returns-clause-trailer c = trailer_bounded c.tries_and_waiting_streams_are_bounded.ensures.cut_off

pub returns-clause-same : goal.returns-clause-same
returns-clause-same c = same_bounded
