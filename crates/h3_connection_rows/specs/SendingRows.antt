-- Worked rows of content that is sent: a strict endpoint holds it against content-length (RFC 9114, section 4.1.2).
use Rattle.std.specs.Prelude.{ℕ, List, [], ◌∷◌, codes}
use Rattle.h3_proto.specs.declared.stream.Side.TheVariants.{Client, Server}
use Rattle.h3_connection.specs.declared.event.Fault.TheVariants as fault
use Rattle.h3_connection.specs.declared.event.Item.TheVariants as item
use Rattle.h3_connection.specs.declared.event.Pull.TheVariants as pulls
use Rattle.h3_connection.specs.declared.event.Refusal.TheVariants as refusal
use Rattle.h3_connection.specs.declared.event.Malformation.TheVariants as malformation
use Rattle.h3_connection.specs.declared.event.StreamFault.TheVariants as stream_fault
use Rattle.h3_connection.specs.Endpoint.{EndpointHistory, new_endpoint}
use Rattle.h3_connection.specs.CallLists.{Call, Result}
use Rattle.h3_connection.specs.CallLists.Call.{OpenRequest, SendHead, SendBody, SendTrailer, Finish, Reset, Deliver, PullStream}
use Rattle.h3_connection.specs.CallLists.Result.{Opened, Done, Refused, Pulled}
use Rattle.h3_connection_rows.specs.Worked.{hex, field, head, plain, strict}

abbrev pub post_of : ℕ → List ℕ → Call
post_of id size =
    SendHead id (head (
    field (codes ":method") (codes "POST") ∷ field (codes ":scheme") (codes "https") ∷ field (codes ":authority") (codes "a") ∷ field (codes ":path") (codes "/") ∷
    field (codes "content-length") size ∷ []))

abbrev pub trailer_on : ℕ → Call
trailer_on id = SendTrailer id (head (field (codes "x") (codes "1") ∷ []))

-- more or less than was said
abbrev pub not_as_said : Result
not_as_said = Refused (refusal.Malformed malformation.ContentLength)

abbrev pub strict_client : EndpointHistory
strict_client = new_endpoint Client (strict 1000)

abbrev pub plain_client : EndpointHistory
plain_client = new_endpoint Client (plain 1000 0 0)

-- a request of three bytes: no more goes out, and the end and a trailer behind all of them
abbrev pub request_counted : List Call
request_counted =
    OpenRequest ∷
    post_of 0 (codes "3") ∷
    SendBody 0 (codes "ab") ∷
    SendBody 0 (codes "cd") ∷
    Finish 0 ∷
    trailer_on 0 ∷
    SendBody 0 (codes "c") ∷
    SendBody 0 (codes "d") ∷
    SendBody 0 [] ∷
    trailer_on 0 ∷
    Finish 0 ∷
    Finish 0 ∷
    []

abbrev pub request_counted_answers : List Result
request_counted_answers =
    Opened 0 ∷
    Done ∷
    Done ∷
    not_as_said ∷
    not_as_said ∷
    not_as_said ∷
    Done ∷
    not_as_said ∷
    Done ∷
    Done ∷
    Done ∷
    Refused refusal.OutOfOrder ∷
    []

abbrev pub request_uncounted_answers : List Result
request_uncounted_answers =
    Opened 0 ∷
    Done ∷
    Done ∷
    Done ∷
    Done ∷
    Refused refusal.OutOfOrder ∷
    Refused refusal.OutOfOrder ∷
    Refused refusal.OutOfOrder ∷
    Refused refusal.OutOfOrder ∷
    Refused refusal.OutOfOrder ∷
    Refused refusal.OutOfOrder ∷
    Refused refusal.OutOfOrder ∷
    []

-- a tunnel takes any bytes, and no trailer (4.4); a reset may come before all was sent
abbrev pub tunnel_and_reset : List Call
tunnel_and_reset =
    OpenRequest ∷
    SendHead 0 (head (field (codes ":method") (codes "CONNECT") ∷ field (codes ":authority") (codes "a:1") ∷ [])) ∷
    SendBody 0 (codes "ab") ∷
    trailer_on 0 ∷
    Finish 0 ∷
    OpenRequest ∷
    post_of 4 (codes "3") ∷
    SendBody 4 (codes "ab") ∷
    Reset 4 ∷
    []

abbrev pub tunnel_and_reset_answers : List Result
tunnel_and_reset_answers =
    Opened 0 ∷
    Done ∷
    Done ∷
    Refused (refusal.Malformed malformation.Connect) ∷
    Done ∷
    Opened 4 ∷
    Done ∷
    Done ∷
    Done ∷
    []

abbrev pub strict_server : EndpointHistory
strict_server = new_endpoint Server (strict 1000)

abbrev pub status_of : ℕ → List ℕ → List ℕ → Call
status_of id status size = SendHead id (head (field (codes ":status") status ∷ field (codes "content-length") size ∷ []))

abbrev pub asked_by : List ℕ → Result
asked_by method =
    Pulled (pulls.Item (item.Head (head (
    field (codes ":method") method ∷ field (codes ":scheme") (codes "https") ∷ field (codes ":authority") (codes "a") ∷ field (codes ":path") (codes "/") ∷ []))))

-- Responses to GET, also behind an interim one; to HEAD, which have no content (RFC 9110, 9.3.2); with status 304, which have none (6.4.1); to
-- CONNECT, a tunnel's (9.3.6) with no length (8.6); and one that goes out before it is known what was asked.
abbrev pub response_counted : List Call
response_counted =
    Deliver 0 (hex (codes "01080000d1d7500161c1")) ∷
    PullStream 0 ∷
    SendHead 0 (head (field (codes ":status") (codes "103") ∷ [])) ∷
    status_of 0 (codes "200") (codes "2") ∷
    SendBody 0 (codes "abc") ∷
    Finish 0 ∷
    SendBody 0 (codes "ab") ∷
    Finish 0 ∷
    Deliver 4 (hex (codes "01080000d2d7500161c1")) ∷
    PullStream 4 ∷
    status_of 4 (codes "200") (codes "2") ∷
    SendBody 4 (codes "ab") ∷
    Finish 4 ∷
    Deliver 8 (hex (codes "01080000d1d7500161c1")) ∷
    PullStream 8 ∷
    status_of 8 (codes "304") (codes "2") ∷
    SendBody 8 (codes "ab") ∷
    Finish 8 ∷
    Deliver 12 (hex (codes "01080000cf5003613a31")) ∷
    PullStream 12 ∷
    status_of 12 (codes "200") (codes "2") ∷
    SendHead 12 (head (field (codes ":status") (codes "200") ∷ [])) ∷
    SendBody 12 (codes "abc") ∷
    Finish 12 ∷
    Deliver 16 (hex (codes "01080000d1d7500161c1")) ∷
    status_of 16 (codes "200") (codes "2") ∷
    SendBody 16 (codes "abc") ∷
    Finish 16 ∷
    []

abbrev pub response_counted_answers : List Result
response_counted_answers =
    Done ∷
    asked_by (codes "GET") ∷
    Done ∷
    Done ∷
    not_as_said ∷
    not_as_said ∷
    Done ∷
    Done ∷
    Done ∷
    asked_by (codes "HEAD") ∷
    Done ∷
    not_as_said ∷
    Done ∷
    Done ∷
    asked_by (codes "GET") ∷
    Done ∷
    not_as_said ∷
    Done ∷
    Done ∷
    Pulled (pulls.Item (item.Head (head (field (codes ":method") (codes "CONNECT") ∷ field (codes ":authority") (codes "a:1") ∷ [])))) ∷
    not_as_said ∷
    Done ∷
    Done ∷
    Done ∷
    Done ∷
    Done ∷
    Done ∷
    Done ∷
    []

-- Before a server knows what was asked, 2xx may be the answer to CONNECT, behind which no trailer comes (RFC 9114, 4.4). Behind another status, or once
-- it is known that GET was asked, one may, also where the request was given up since.
abbrev pub answered_early : List Call
answered_early =
    Deliver 0 (hex (codes "01080000d1d7500161c1")) ∷
    SendHead 0 (head (field (codes ":status") (codes "200") ∷ [])) ∷
    SendBody 0 (codes "abc") ∷
    trailer_on 0 ∷
    Finish 0 ∷
    Deliver 4 (hex (codes "01080000d1d7500161c1")) ∷
    SendHead 4 (head (field (codes ":status") (codes "404") ∷ [])) ∷
    trailer_on 4 ∷
    Deliver 8 (hex (codes "01080000d1d7500161c101050000214100")) ∷
    PullStream 8 ∷
    PullStream 8 ∷
    SendHead 8 (head (field (codes ":status") (codes "200") ∷ [])) ∷
    trailer_on 8 ∷
    []

abbrev pub answered_early_answers : List Result
answered_early_answers =
    Done ∷
    Done ∷
    Done ∷
    Refused (refusal.Malformed malformation.Connect) ∷
    Done ∷
    Done ∷
    Done ∷
    Done ∷
    Done ∷
    asked_by (codes "GET") ∷
    Pulled (pulls.Fault (fault.Stream (stream_fault.Malformed malformation.Name))) ∷
    Done ∷
    Done ∷
    []
