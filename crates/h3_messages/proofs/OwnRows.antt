-- Worked rows of messages that are sent: a field list and the rule that it breaks for its sender, and how much content follows it, computed by the
-- definitions. Each row names the RFC section that asks it.
use Rattle.std.specs.Prelude.{◌≡◌, true, [], ◌∷◌, codes, Some, None, refl}
use Rattle.h3_messages.specs.Messages.{violation_of_request, violation_of_response, violation_of_trailer}
use Rattle.h3_messages.specs.OwnMessages.{content_of_own_request, content_of_own_response, violation_of_own_answer, violation_of_own_request, violation_of_own_response, violation_of_own_trailer}
use Rattle.h3_messages.specs.declared.content.Content.TheVariants.{Unsaid, Exactly, NoContent, Tunnel}
use Rattle.h3_messages.specs.declared.violation.Violation.TheVariants.{ConnectionField, ContentLength, TrailerField, Status}
use Rattle.h3_messages.proofs.Written.{field}

-- TRACE: 9110 9.3.8
pub trace : violation_of_own_request true (field (codes ":method") (codes "TRACE") ∷ field (codes ":scheme") (codes "https") ∷ field (codes ":authority") (codes "a") ∷ field (codes ":path") (codes "/") ∷ []) ≡ None
unfolding violation_of_request
trace = refl

-- TRACE with length 0: 9110 9.3.8
pub trace_with_no_length : violation_of_own_request true (field (codes ":method") (codes "TRACE") ∷ field (codes ":scheme") (codes "https") ∷ field (codes ":authority") (codes "a") ∷ field (codes ":path") (codes "/") ∷ field (codes "content-length") (codes "0") ∷ []) ≡ None
unfolding violation_of_request
trace_with_no_length = refl

-- TRACE with length 5: 9110 9.3.8
pub trace_with_length : violation_of_own_request true (field (codes ":method") (codes "TRACE") ∷ field (codes ":scheme") (codes "https") ∷ field (codes ":authority") (codes "a") ∷ field (codes ":path") (codes "/") ∷ field (codes "content-length") (codes "5") ∷ []) ≡ Some ContentLength
unfolding violation_of_request
trace_with_length = refl

-- POST with length 5: 9110 8.6
pub post_with_length : violation_of_own_request true (field (codes ":method") (codes "POST") ∷ field (codes ":scheme") (codes "https") ∷ field (codes ":authority") (codes "a") ∷ field (codes ":path") (codes "/") ∷ field (codes "content-length") (codes "5") ∷ []) ≡ None
unfolding violation_of_request
post_with_length = refl

-- 204: 9110 15.3.5
pub no_content : violation_of_own_response (field (codes ":status") (codes "204") ∷ []) ≡ None
unfolding violation_of_response
no_content = refl

-- 204 with length 0: 9110 8.6
pub no_content_with_no_length : violation_of_own_response (field (codes ":status") (codes "204") ∷ field (codes "content-length") (codes "0") ∷ []) ≡ Some ContentLength
unfolding violation_of_response
no_content_with_no_length = refl

-- 204 with length 5: 9110 8.6
pub no_content_with_length : violation_of_own_response (field (codes ":status") (codes "204") ∷ field (codes "content-length") (codes "5") ∷ []) ≡ Some ContentLength
unfolding violation_of_response
no_content_with_length = refl

-- 205: 9110 15.3.6
pub reset_content : violation_of_own_response (field (codes ":status") (codes "205") ∷ []) ≡ None
unfolding violation_of_response
reset_content = refl

-- 205 with length 0: 9110 15.3.6
pub reset_content_with_no_length : violation_of_own_response (field (codes ":status") (codes "205") ∷ field (codes "content-length") (codes "0") ∷ []) ≡ None
unfolding violation_of_response
reset_content_with_no_length = refl

-- 205 with length 5: 9110 15.3.6
pub reset_content_with_length : violation_of_own_response (field (codes ":status") (codes "205") ∷ field (codes "content-length") (codes "5") ∷ []) ≡ Some ContentLength
unfolding violation_of_response
reset_content_with_length = refl

-- 304 with length 5: 9110 8.6
pub not_modified_with_length : violation_of_own_response (field (codes ":status") (codes "304") ∷ field (codes "content-length") (codes "5") ∷ []) ≡ None
unfolding violation_of_response
not_modified_with_length = refl

-- 103 with length 0: 9110 8.6
pub interim_with_length : violation_of_own_response (field (codes ":status") (codes "103") ∷ field (codes "content-length") (codes "0") ∷ []) ≡ Some ContentLength
unfolding violation_of_response
interim_with_length = refl

-- 101: 9114 4.5
pub switching : violation_of_own_response (field (codes ":status") (codes "101") ∷ []) ≡ Some Status
unfolding violation_of_response
switching = refl

-- 200 to CONNECT: 9110 9.3.6
pub tunnel : violation_of_own_answer (Some Tunnel) (field (codes ":status") (codes "200") ∷ []) ≡ None
unfolding violation_of_response
tunnel = refl

-- 200 to CONNECT with length 5: 9110 8.6
pub tunnel_with_length : violation_of_own_answer (Some Tunnel) (field (codes ":status") (codes "200") ∷ field (codes "content-length") (codes "5") ∷ []) ≡ Some ContentLength
unfolding violation_of_response
tunnel_with_length = refl

-- 200 to CONNECT with length 0: 9110 8.6
pub tunnel_with_no_length : violation_of_own_answer (Some Tunnel) (field (codes ":status") (codes "200") ∷ field (codes "content-length") (codes "0") ∷ []) ≡ Some ContentLength
unfolding violation_of_response
tunnel_with_no_length = refl

-- 299 to CONNECT with length 5: 9110 8.6
pub last_tunnel_with_length : violation_of_own_answer (Some Tunnel) (field (codes ":status") (codes "299") ∷ field (codes "content-length") (codes "5") ∷ []) ≡ Some ContentLength
unfolding violation_of_response
last_tunnel_with_length = refl

-- 205 to CONNECT with length 0: 9110 8.6
pub reset_tunnel_with_no_length : violation_of_own_answer (Some Tunnel) (field (codes ":status") (codes "205") ∷ field (codes "content-length") (codes "0") ∷ []) ≡ Some ContentLength
unfolding violation_of_response
reset_tunnel_with_no_length = refl

-- 403 to CONNECT with length 5: 9110 8.6
pub refused_connect_with_length : violation_of_own_answer (Some Tunnel) (field (codes ":status") (codes "403") ∷ field (codes "content-length") (codes "5") ∷ []) ≡ None
unfolding violation_of_response
refused_connect_with_length = refl

-- 300 to CONNECT with length 5: 9110 8.6
pub redirected_connect_with_length : violation_of_own_answer (Some Tunnel) (field (codes ":status") (codes "300") ∷ field (codes "content-length") (codes "5") ∷ []) ≡ None
unfolding violation_of_response
redirected_connect_with_length = refl

-- 200 to GET with length 5: 9110 8.6
pub answer_with_length : violation_of_own_answer (Some Unsaid) (field (codes ":status") (codes "200") ∷ field (codes "content-length") (codes "5") ∷ []) ≡ None
unfolding violation_of_response
answer_with_length = refl

-- 200 to HEAD with length 5: 9110 8.6
pub answer_to_head_with_length : violation_of_own_answer (Some NoContent) (field (codes ":status") (codes "200") ∷ field (codes "content-length") (codes "5") ∷ []) ≡ None
unfolding violation_of_response
answer_to_head_with_length = refl

-- 200 with length 5, where it is not known what was asked: 9110 8.6
pub unasked_with_length : violation_of_own_answer None (field (codes ":status") (codes "200") ∷ field (codes "content-length") (codes "5") ∷ []) ≡ None
unfolding violation_of_response
unasked_with_length = refl

-- 101 to CONNECT: 9114 4.5
pub switching_tunnel : violation_of_own_answer (Some Tunnel) (field (codes ":status") (codes "101") ∷ []) ≡ Some Status
unfolding violation_of_response
switching_tunnel = refl

-- a trailer with authorization: 9110 6.5.1
pub trailer_with_authorization : violation_of_own_trailer (field (codes "x") (codes "1") ∷ field (codes "authorization") (codes "1") ∷ []) ≡ Some TrailerField
unfolding violation_of_trailer
trailer_with_authorization = refl

-- a trailer with proxy-authorization: 9110 6.5.1
pub trailer_with_proxy_authorization : violation_of_own_trailer (field (codes "x") (codes "1") ∷ field (codes "proxy-authorization") (codes "1") ∷ []) ≡ Some TrailerField
unfolding violation_of_trailer
trailer_with_proxy_authorization = refl

-- a trailer with www-authenticate: 9110 6.5.1
pub trailer_with_www_authenticate : violation_of_own_trailer (field (codes "x") (codes "1") ∷ field (codes "www-authenticate") (codes "1") ∷ []) ≡ Some TrailerField
unfolding violation_of_trailer
trailer_with_www_authenticate = refl

-- a trailer with proxy-authenticate: 9110 6.5.1
pub trailer_with_proxy_authenticate : violation_of_own_trailer (field (codes "x") (codes "1") ∷ field (codes "proxy-authenticate") (codes "1") ∷ []) ≡ Some TrailerField
unfolding violation_of_trailer
trailer_with_proxy_authenticate = refl

-- a trailer with cookie: 9110 6.5.1
pub trailer_with_cookie : violation_of_own_trailer (field (codes "x") (codes "1") ∷ field (codes "cookie") (codes "1") ∷ []) ≡ Some TrailerField
unfolding violation_of_trailer
trailer_with_cookie = refl

-- a trailer with set-cookie: 9110 6.5.1
pub trailer_with_set_cookie : violation_of_own_trailer (field (codes "x") (codes "1") ∷ field (codes "set-cookie") (codes "1") ∷ []) ≡ Some TrailerField
unfolding violation_of_trailer
trailer_with_set_cookie = refl

-- a trailer with cache-control: 9110 6.5.1
pub trailer_with_cache_control : violation_of_own_trailer (field (codes "x") (codes "1") ∷ field (codes "cache-control") (codes "1") ∷ []) ≡ Some TrailerField
unfolding violation_of_trailer
trailer_with_cache_control = refl

-- a trailer with expect: 9110 6.5.1
pub trailer_with_expect : violation_of_own_trailer (field (codes "x") (codes "1") ∷ field (codes "expect") (codes "1") ∷ []) ≡ Some TrailerField
unfolding violation_of_trailer
trailer_with_expect = refl

-- a trailer with max-forwards: 9110 6.5.1
pub trailer_with_max_forwards : violation_of_own_trailer (field (codes "x") (codes "1") ∷ field (codes "max-forwards") (codes "1") ∷ []) ≡ Some TrailerField
unfolding violation_of_trailer
trailer_with_max_forwards = refl

-- a trailer with pragma: 9110 6.5.1
pub trailer_with_pragma : violation_of_own_trailer (field (codes "x") (codes "1") ∷ field (codes "pragma") (codes "1") ∷ []) ≡ Some TrailerField
unfolding violation_of_trailer
trailer_with_pragma = refl

-- a trailer with range: 9110 6.5.1
pub trailer_with_range : violation_of_own_trailer (field (codes "x") (codes "1") ∷ field (codes "range") (codes "1") ∷ []) ≡ Some TrailerField
unfolding violation_of_trailer
trailer_with_range = refl

-- a trailer with if-match: 9110 6.5.1
pub trailer_with_if_match : violation_of_own_trailer (field (codes "x") (codes "1") ∷ field (codes "if-match") (codes "1") ∷ []) ≡ Some TrailerField
unfolding violation_of_trailer
trailer_with_if_match = refl

-- a trailer with if-none-match: 9110 6.5.1
pub trailer_with_if_none_match : violation_of_own_trailer (field (codes "x") (codes "1") ∷ field (codes "if-none-match") (codes "1") ∷ []) ≡ Some TrailerField
unfolding violation_of_trailer
trailer_with_if_none_match = refl

-- a trailer with if-modified-since: 9110 6.5.1
pub trailer_with_if_modified_since : violation_of_own_trailer (field (codes "x") (codes "1") ∷ field (codes "if-modified-since") (codes "1") ∷ []) ≡ Some TrailerField
unfolding violation_of_trailer
trailer_with_if_modified_since = refl

-- a trailer with if-unmodified-since: 9110 6.5.1
pub trailer_with_if_unmodified_since : violation_of_own_trailer (field (codes "x") (codes "1") ∷ field (codes "if-unmodified-since") (codes "1") ∷ []) ≡ Some TrailerField
unfolding violation_of_trailer
trailer_with_if_unmodified_since = refl

-- a trailer with if-range: 9110 6.5.1
pub trailer_with_if_range : violation_of_own_trailer (field (codes "x") (codes "1") ∷ field (codes "if-range") (codes "1") ∷ []) ≡ Some TrailerField
unfolding violation_of_trailer
trailer_with_if_range = refl

-- a trailer with age: 9110 6.5.1
pub trailer_with_age : violation_of_own_trailer (field (codes "x") (codes "1") ∷ field (codes "age") (codes "1") ∷ []) ≡ Some TrailerField
unfolding violation_of_trailer
trailer_with_age = refl

-- a trailer with date: 9110 6.5.1
pub trailer_with_date : violation_of_own_trailer (field (codes "x") (codes "1") ∷ field (codes "date") (codes "1") ∷ []) ≡ Some TrailerField
unfolding violation_of_trailer
trailer_with_date = refl

-- a trailer with expires: 9110 6.5.1
pub trailer_with_expires : violation_of_own_trailer (field (codes "x") (codes "1") ∷ field (codes "expires") (codes "1") ∷ []) ≡ Some TrailerField
unfolding violation_of_trailer
trailer_with_expires = refl

-- a trailer with location: 9110 6.5.1
pub trailer_with_location : violation_of_own_trailer (field (codes "x") (codes "1") ∷ field (codes "location") (codes "1") ∷ []) ≡ Some TrailerField
unfolding violation_of_trailer
trailer_with_location = refl

-- a trailer with retry-after: 9110 6.5.1
pub trailer_with_retry_after : violation_of_own_trailer (field (codes "x") (codes "1") ∷ field (codes "retry-after") (codes "1") ∷ []) ≡ Some TrailerField
unfolding violation_of_trailer
trailer_with_retry_after = refl

-- a trailer with vary: 9110 6.5.1
pub trailer_with_vary : violation_of_own_trailer (field (codes "x") (codes "1") ∷ field (codes "vary") (codes "1") ∷ []) ≡ Some TrailerField
unfolding violation_of_trailer
trailer_with_vary = refl

-- a trailer with content-encoding: 9110 6.5.1
pub trailer_with_content_encoding : violation_of_own_trailer (field (codes "x") (codes "1") ∷ field (codes "content-encoding") (codes "1") ∷ []) ≡ Some TrailerField
unfolding violation_of_trailer
trailer_with_content_encoding = refl

-- a trailer with content-type: 9110 6.5.1
pub trailer_with_content_type : violation_of_own_trailer (field (codes "x") (codes "1") ∷ field (codes "content-type") (codes "1") ∷ []) ≡ Some TrailerField
unfolding violation_of_trailer
trailer_with_content_type = refl

-- a trailer with content-range: 9110 6.5.1
pub trailer_with_content_range : violation_of_own_trailer (field (codes "x") (codes "1") ∷ field (codes "content-range") (codes "1") ∷ []) ≡ Some TrailerField
unfolding violation_of_trailer
trailer_with_content_range = refl

-- a trailer with trailer: 9110 6.5.1
pub trailer_with_trailer : violation_of_own_trailer (field (codes "x") (codes "1") ∷ field (codes "trailer") (codes "1") ∷ []) ≡ Some TrailerField
unfolding violation_of_trailer
trailer_with_trailer = refl

-- a trailer with content-length: 9110 6.5.1
pub trailer_with_content_length : violation_of_own_trailer (field (codes "x") (codes "1") ∷ field (codes "content-length") (codes "1") ∷ []) ≡ Some TrailerField
unfolding violation_of_trailer
trailer_with_content_length = refl

-- a trailer with host: 9110 6.5.1
pub trailer_with_host : violation_of_own_trailer (field (codes "x") (codes "1") ∷ field (codes "host") (codes "1") ∷ []) ≡ Some TrailerField
unfolding violation_of_trailer
trailer_with_host = refl

-- a trailer with x: 9110 6.5.1
pub trailer_with_x : violation_of_own_trailer (field (codes "x") (codes "1") ∷ []) ≡ None
unfolding violation_of_trailer
trailer_with_x = refl

-- a trailer with grpc-status: 9110 6.5.1
pub trailer_with_grpc_status : violation_of_own_trailer (field (codes "grpc-status") (codes "1") ∷ []) ≡ None
unfolding violation_of_trailer
trailer_with_grpc_status = refl

-- a trailer with server-timing: 9110 6.5.1
pub trailer_with_server_timing : violation_of_own_trailer (field (codes "server-timing") (codes "1") ∷ []) ≡ None
unfolding violation_of_trailer
trailer_with_server_timing = refl

-- a trailer with content-digest: 9110 6.5.1
pub trailer_with_content_digest : violation_of_own_trailer (field (codes "content-digest") (codes "1") ∷ []) ≡ None
unfolding violation_of_trailer
trailer_with_content_digest = refl

-- a trailer with dates: 9110 6.5.1
pub trailer_with_dates : violation_of_own_trailer (field (codes "dates") (codes "1") ∷ []) ≡ None
unfolding violation_of_trailer
trailer_with_dates = refl

-- a trailer with if-: 9110 6.5.1
pub trailer_with_if_and_a_dash : violation_of_own_trailer (field (codes "if-") (codes "1") ∷ []) ≡ None
unfolding violation_of_trailer
trailer_with_if_and_a_dash = refl

-- a trailer with etag: 9110 6.5.1
pub trailer_with_etag : violation_of_own_trailer (field (codes "etag") (codes "1") ∷ []) ≡ None
unfolding violation_of_trailer
trailer_with_etag = refl

-- a trailer with te, and age: 9114 4.2
pub trailer_with_te : violation_of_own_trailer (field (codes "age") (codes "1") ∷ field (codes "te") (codes "trailers") ∷ []) ≡ Some ConnectionField
unfolding violation_of_trailer
trailer_with_te = refl

-- behind TRACE: 9110 9.3.8
pub nothing_behind_trace : content_of_own_request (field (codes ":method") (codes "TRACE") ∷ field (codes ":scheme") (codes "https") ∷ field (codes ":authority") (codes "a") ∷ field (codes ":path") (codes "/") ∷ []) ≡ Exactly 0
nothing_behind_trace = refl

-- behind GET: 9110 9.3.1
pub something_behind_get : content_of_own_request (field (codes ":method") (codes "GET") ∷ field (codes ":scheme") (codes "https") ∷ field (codes ":authority") (codes "a") ∷ field (codes ":path") (codes "/") ∷ []) ≡ Unsaid
something_behind_get = refl

-- behind 205: 9110 15.3.6
pub nothing_behind_205 : content_of_own_response Unsaid (field (codes ":status") (codes "205") ∷ []) ≡ Exactly 0
nothing_behind_205 = refl

-- behind 205 to HEAD: 9110 9.3.2
pub none_behind_205_to_head : content_of_own_response NoContent (field (codes ":status") (codes "205") ∷ []) ≡ NoContent
none_behind_205_to_head = refl

-- behind 205 to CONNECT: 9110 9.3.6
pub tunnel_behind_205 : content_of_own_response Tunnel (field (codes ":status") (codes "205") ∷ []) ≡ Tunnel
tunnel_behind_205 = refl

-- behind 200: 9110 15.3.1
pub something_behind_200 : content_of_own_response Unsaid (field (codes ":status") (codes "200") ∷ []) ≡ Unsaid
something_behind_200 = refl

-- behind 103: 9110 15.2
pub interim_leaves_what_was_awaited : content_of_own_response Tunnel (field (codes ":status") (codes "103") ∷ []) ≡ Tunnel
interim_leaves_what_was_awaited = refl
