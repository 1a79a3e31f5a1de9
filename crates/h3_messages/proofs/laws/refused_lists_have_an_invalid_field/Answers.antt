use Rattle.h3_messages.specs.InvalidFieldLaws.{invalid_of_refused, no_invalid_of_head, spaced_of_request, spaced_of_response, spaced_of_trailer}
use Rattle.h3_messages.proofs.laws.refused_lists_have_an_invalid_field.Goals as goal

pub returns-clause-read : goal.returns-clause-read
returns-clause-read c = invalid_of_refused

pub returns-clause-head : goal.returns-clause-head
returns-clause-head c = no_invalid_of_head

pub returns-clause-request : goal.returns-clause-request
returns-clause-request c = spaced_of_request

pub returns-clause-response : goal.returns-clause-response
returns-clause-response c = spaced_of_response

pub returns-clause-trailer : goal.returns-clause-trailer
returns-clause-trailer c = spaced_of_trailer
