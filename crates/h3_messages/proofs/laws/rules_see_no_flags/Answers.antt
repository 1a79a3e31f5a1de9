use Rattle.h3_messages.specs.FlagLaws.{requests_alike, responses_alike, trailers_alike, own_requests_alike, own_answers_alike, own_trailers_alike, awaited_alike, answered_alike, request_content_alike, response_content_alike, own_request_content_alike, own_response_content_alike}
use Rattle.h3_messages.proofs.laws.rules_see_no_flags.Goals as goal

pub returns-clause-request : goal.returns-clause-request
returns-clause-request c = requests_alike

pub returns-clause-response : goal.returns-clause-response
returns-clause-response c = responses_alike

pub returns-clause-trailer : goal.returns-clause-trailer
returns-clause-trailer c = trailers_alike

pub returns-clause-own_request : goal.returns-clause-own_request
returns-clause-own_request c = own_requests_alike

pub returns-clause-own_answer : goal.returns-clause-own_answer
returns-clause-own_answer c = own_answers_alike

pub returns-clause-own_trailer : goal.returns-clause-own_trailer
returns-clause-own_trailer c = own_trailers_alike

pub returns-clause-asked : goal.returns-clause-asked
returns-clause-asked c = awaited_alike

pub returns-clause-content_of_request : goal.returns-clause-content_of_request
returns-clause-content_of_request c = request_content_alike

pub returns-clause-content_of_response : goal.returns-clause-content_of_response
returns-clause-content_of_response c = response_content_alike

pub returns-clause-request_content : goal.returns-clause-request_content
returns-clause-request_content c = own_request_content_alike

pub returns-clause-response_content : goal.returns-clause-response_content
returns-clause-response_content c = own_response_content_alike

pub returns-clause-answered : goal.returns-clause-answered
returns-clause-answered c = answered_alike
