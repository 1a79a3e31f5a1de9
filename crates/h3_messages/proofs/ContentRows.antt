-- Worked rows of content, computed by the definitions.
use Rattle.std.specs.Prelude.{◌≡◌, true, false, [], ◌∷◌, codes, refl}
use Rattle.h3_messages.specs.Content.{answered_by, asked_by, content_of_request, content_behind_response, left_behind, is_exceeded, may_end, takes_trailer, until_answered}
use Rattle.h3_messages.specs.declared.content.Content.TheVariants.{Unsaid, Exactly, NoContent, Tunnel, Unanswered, Exceeded}
use Rattle.h3_messages.specs.declared.content.Asked.TheVariants.{Other}
use Rattle.h3_messages.proofs.Written.{field}

pub length_5 : content_behind_response Unsaid (field (codes ":status") (codes "200") ∷ field (codes "content-length") (codes "5") ∷ []) ≡ Exactly 5
length_5 = refl

pub head_has_none : content_behind_response NoContent (field (codes ":status") (codes "200") ∷ field (codes "content-length") (codes "5") ∷ []) ≡ NoContent
head_has_none = refl

pub connect_is_tunnel : content_behind_response Tunnel (field (codes ":status") (codes "200") ∷ field (codes "content-length") (codes "5") ∷ []) ≡ Tunnel
connect_is_tunnel = refl

pub not_modified_has_none : content_behind_response Unsaid (field (codes ":status") (codes "304") ∷ field (codes "content-length") (codes "5") ∷ []) ≡ NoContent
not_modified_has_none = refl

pub request_unsaid : content_of_request (field (codes ":method") (codes "GET") ∷ field (codes ":scheme") (codes "https") ∷ field (codes ":authority") (codes "a") ∷ field (codes ":path") (codes "/") ∷ []) ≡ Unsaid
request_unsaid = refl

-- of three bytes two came, and two more are one too many: 9114 4.1.2
pub too_much : left_behind (left_behind (Exactly 3) 2) 2 ≡ Exceeded
too_much = refl

pub reached : may_end (left_behind (left_behind (Exactly 3) 2) 1) ≡ true
reached = refl

pub not_reached : may_end (left_behind (Exactly 3) 2) ≡ false
not_reached = refl

pub none_for_head : is_exceeded (left_behind NoContent 1) ≡ true
none_for_head = refl

pub an_empty_one_is_none : left_behind NoContent 0 ≡ NoContent
an_empty_one_is_none = refl

-- methods are case-sensitive: 9110 9.1
pub get_in_small_letters : asked_by (codes "head") ≡ Other
get_in_small_letters = refl

-- a content-length that is no number says nothing
pub no_length : content_of_request (field (codes "content-length") (codes "5x") ∷ []) ≡ Unsaid
no_length = refl

-- a refused CONNECT is answered as any other: 9114 4.1.2
pub refused_connect : content_behind_response Tunnel (field (codes ":status") (codes "403") ∷ field (codes "content-length") (codes "5") ∷ []) ≡ Exactly 5
refused_connect = refl

-- 9114 4.4
pub no_trailer_in_a_tunnel : takes_trailer Tunnel ≡ false
no_trailer_in_a_tunnel = refl

-- a CONNECT that was read, and not answered: 9114 4.4
pub a_trailer_until_it_is_answered : takes_trailer (until_answered (content_of_request (field (codes ":method") (codes "CONNECT") ∷ field (codes ":authority") (codes "a:443") ∷ []))) ≡ true
a_trailer_until_it_is_answered = refl

pub any_bytes_until_it_is_answered : left_behind Unanswered 5 ≡ Unanswered
any_bytes_until_it_is_answered = refl

-- another request is not answered by its response: 9110 9.3.6
pub others_are_no_tunnel : until_answered (content_of_request (field (codes ":method") (codes "POST") ∷ field (codes "content-length") (codes "5") ∷ [])) ≡ Exactly 5
others_are_no_tunnel = refl

pub answered_tunnel : answered_by Unanswered (field (codes ":status") (codes "200") ∷ []) ≡ Tunnel
answered_tunnel = refl

pub last_answered_tunnel : answered_by Unanswered (field (codes ":status") (codes "299") ∷ []) ≡ Tunnel
last_answered_tunnel = refl

-- an interim response is no answer: 9110 15.2
pub interim_is_no_answer : answered_by Unanswered (field (codes ":status") (codes "103") ∷ []) ≡ Unanswered
interim_is_no_answer = refl

pub refused_is_no_tunnel : answered_by Unanswered (field (codes ":status") (codes "403") ∷ []) ≡ Unsaid
refused_is_no_tunnel = refl

pub redirected_is_no_tunnel : answered_by Unanswered (field (codes ":status") (codes "300") ∷ []) ≡ Unsaid
redirected_is_no_tunnel = refl

-- what is left of another request stays: 9114 4.1.2
pub answer_leaves_content : answered_by (Exactly 5) (field (codes ":status") (codes "200") ∷ []) ≡ Exactly 5
answer_leaves_content = refl
