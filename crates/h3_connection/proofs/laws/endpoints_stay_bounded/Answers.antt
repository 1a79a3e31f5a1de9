use Rattle.h3_connection.proofs.StandsBounds.{made_bounded, received_bounded, pulled_bounded, opened_bounded, head_bounded, body_bounded, trailer_bounded, finish_bounded, reset_bounded, goaway_bounded, cancel_bounded, advance_bounded, end_bounded}
use Rattle.h3_connection.proofs.laws.endpoints_stay_bounded.Goals as goal

pub returns-clause-made : goal.returns-clause-made
returns-clause-made c = made_bounded

pub returns-clause-received : goal.returns-clause-received
returns-clause-received c = received_bounded

pub returns-clause-pulled : goal.returns-clause-pulled
returns-clause-pulled c = pulled_bounded

pub returns-clause-opened : goal.returns-clause-opened
returns-clause-opened c = opened_bounded

pub returns-clause-head : goal.returns-clause-head
returns-clause-head c = head_bounded

pub returns-clause-body : goal.returns-clause-body
returns-clause-body c = body_bounded

pub returns-clause-trailer : goal.returns-clause-trailer
returns-clause-trailer c = trailer_bounded

pub returns-clause-finished : goal.returns-clause-finished
returns-clause-finished c = finish_bounded

pub returns-clause-reset : goal.returns-clause-reset
returns-clause-reset c = reset_bounded

pub returns-clause-goaway : goal.returns-clause-goaway
returns-clause-goaway c = goaway_bounded

pub returns-clause-canceled : goal.returns-clause-canceled
returns-clause-canceled c = cancel_bounded

pub returns-clause-advanced : goal.returns-clause-advanced
returns-clause-advanced c = advance_bounded

pub returns-clause-end : goal.returns-clause-end
returns-clause-end c = end_bounded
