-- A worked pair of programs: a client sends a request and a server answers it, as on the first page of the documents, and what these calls stand for.
-- Bytes are in flight while the server sends, and come in other pieces than they were taken in.
use Rattle.std.specs.Prelude.{ℕ, true, List, [], ◌∷◌, ◌++◌, codes, drop, take, Option, Some, None}
use Rattle.h3_field.specs.Field.{Field, plain_field}
use Rattle.h3_header.specs.Head.{head_fields}
use Rattle.h3_proto.specs.declared.stream.Side.TheVariants.{Client, Server}
use Rattle.h3_connection.specs.Endpoint.{bytes_waiting}
use Rattle.h3_connection.specs.declared.lists.ListItem.TheVariants as listed
use Rattle.h3_connection.specs.declared.lists.ListPull.{ListPull}
use Rattle.h3_connection.specs.declared.lists.ListPull.TheVariants as list
use Rattle.h3_world.specs.Ends.{ends_after, new_ends}
use Rattle.h3_world.specs.WorkedHeads.{home, no_tables}
use Rattle.h3_world.specs.declared.event.Answer.{Answer}
use Rattle.h3_world.specs.declared.event.Answer.TheVariants as answer
use Rattle.h3_world.specs.declared.event.Event.{Event}
use Rattle.h3_world.specs.declared.event.Event.TheVariants as event
use Rattle.h3_headline.specs.Messages.{MessageContent}
use Rattle.h3_headline.specs.Messages.MessageContent.{Byte, FieldSection}
use Rattle.h3_headline.specs.Messages.SectionKind.{OfHead}
use Rattle.h3_session.specs.OpeningAt.{to_open}
use Rattle.h3_c.specs.Does.CallOfC.{EndTaken, Finish, NextToSend, OpenRequest, Pull, SendHead}
use Rattle.h3_c.specs.Items.{shown}
use Rattle.h3_c.specs.Numbers.{ok}
use Rattle.h3_c.specs.Programs.{Act, Announce, Bytes, Call, End, Take, carrying, event_of, opened_events}
use Rattle.h3_proto.specs.declared.stream.Side.{Side}
use Rattle.h3_c.specs.Rows.{row_of, sizes_of}
use Rattle.h3_c.specs.declared.numbers.Told.{Told}

-- the events that acts stand for, where none is refused
abbrev pub event_if : Option (Event × Told) → List Event → List Event
event_if None events = events
event_if (Some (e, n)) events = e ∷ events

abbrev pub schedule_of : List Act → List Event
schedule_of [] = []
schedule_of (act ∷ acts) = event_if (event_of act) (schedule_of acts)

abbrev pub request : List Field
request = head_fields home

abbrev pub response : List Field
response = plain_field (codes ":status") (codes "200") ∷ []

-- The client opens a stream, and sends a request of 21 bytes without a body. h3_next_to_send names the stream, and QUIC takes what h3_outgoing shows. It
-- comes in two pieces, with the end behind it
abbrev pub asking_events : List Event
asking_events = event.OpenRequest Client ∷ event.Fields Client 0 request ∷ event.Finish Client 0 ∷ []

abbrev pub request_bytes : List ℕ
request_bytes = bytes_waiting (ends_after (new_ends no_tables) asking_events).client 0

-- What is pulled, and shown to C.
abbrev pub pulls : ListPull → Act
pulls p = Call Server (Pull 0 (shown list.Pending) (shown p) ok)

abbrev pub pulls_back : ListPull → Act
pulls_back p = Call Client (Pull 0 (shown list.Pending) (shown p) ok)

abbrev pub asking : List Act
asking =
    Call Client (OpenRequest 0 0 ok) ∷ Call Client (SendHead 0 (sizes_of request) [] (row_of request) ok) ∷ Call Client (Finish 0 ok) ∷
    Call Client (NextToSend 0 0 0 ok) ∷ Take Client 0 request_bytes ∷ Call Client (EndTaken 0 ok) ∷
    Bytes Client 0 (take 10 request_bytes) ok ∷ Bytes Client 0 (drop 10 request_bytes) ok ∷ End Client 0 ok ∷
    pulls (list.Item (listed.Head request)) ∷ pulls (list.Item listed.End) ∷ []

-- the server answers: a frame of five bytes, which QUIC takes before the server sends one of four; and seven bytes come before the last two
abbrev pub answering_events : List Event
answering_events = event.Fields Server 0 response ∷ event.Body Server 0 (codes "hi") ∷ event.Finish Server 0 ∷ []

abbrev pub response_bytes : List ℕ
response_bytes =
    bytes_waiting (ends_after (new_ends no_tables) (asking_events ++ event.Deliver Client 0 21 ∷ answering_events)).server 0

abbrev pub answering : List Act
answering =
    Call Server (SendHead 0 (sizes_of response) [] (row_of response) ok) ∷ Take Server 0 (take 5 response_bytes) ∷
    Announce Server 0 (codes "hi") ok ∷ Call Server (Finish 0 ok) ∷ Take Server 0 (drop 5 response_bytes) ∷ Call Server (EndTaken 0 ok) ∷
    Bytes Server 0 (take 7 response_bytes) ok ∷ Bytes Server 0 (drop 7 response_bytes) ok ∷ End Server 0 ok ∷
    pulls_back (list.Item (listed.Head response)) ∷ pulls_back (list.Item (listed.Body (codes "hi"))) ∷ pulls_back (list.Item listed.End) ∷ []

abbrev pub exchange : List Act
exchange = asking ++ answering

-- the schedule that this is, and the answers that C learns
abbrev pub exchange_events : List Event
exchange_events =
    event.OpenRequest Client ∷ event.Fields Client 0 request ∷ event.Finish Client 0 ∷ event.Deliver Client 0 10 ∷ event.Deliver Client 0 11 ∷ event.DeliverEnd Client 0 ∷
    event.PullFields Server 0 ∷ event.PullFields Server 0 ∷ event.Fields Server 0 response ∷ event.Body Server 0 (codes "hi") ∷ event.Finish Server 0 ∷
    event.Deliver Server 0 7 ∷ event.Deliver Server 0 2 ∷ event.DeliverEnd Server 0 ∷ event.PullFields Client 0 ∷ event.PullFields Client 0 ∷ event.PullFields Client 0 ∷ []

abbrev pub exchange_answers : List Answer
exchange_answers =
    answer.Opened 0 ∷ answer.Done ∷ answer.Done ∷ answer.Delivered 10 ∷ answer.Delivered 11 ∷ answer.Done ∷
    answer.Listed (list.Item (listed.Head request)) ∷ answer.Listed (list.Item listed.End) ∷ answer.Done ∷ answer.Done ∷ answer.Done ∷
    answer.Delivered 7 ∷ answer.Delivered 2 ∷ answer.Done ∷ answer.Listed (list.Item (listed.Head response)) ∷ answer.Listed (list.Item (listed.Body (codes "hi"))) ∷ answer.Listed (list.Item listed.End) ∷ []

-- `h3_open_request_at` of 8, where none is open yet: the ids 0, 4 and 8 (RFC 9000, section 2.1)
abbrev pub opening : List Event
opening = opened_events Client (to_open 0 8)

abbrev pub opening_answers : List Answer
opening_answers = answer.Opened 0 ∷ answer.Opened 4 ∷ answer.Opened 8 ∷ []

abbrev pub request_sent : List MessageContent
request_sent = FieldSection OfHead true request ∷ []

abbrev pub response_sent : List MessageContent
response_sent = FieldSection OfHead true response ∷ Byte 104 ∷ Byte 105 ∷ []

-- a HEADERS frame with the section of `:status: 200` (RFC 9204, appendix A: index 25), and a DATA frame
abbrev pub response_frames : List ℕ
response_frames = 1 ∷ 3 ∷ 0 ∷ 0 ∷ 217 ∷ 0 ∷ 2 ∷ 104 ∷ 105 ∷ []

-- What is carried of the response: nothing, five bytes, nine, and two. Nothing is carried of another stream, or from the client.
abbrev pub none_carried : Side → ℕ → List ℕ
none_carried side id = []

abbrev pub head_carried : Side → ℕ → List ℕ
head_carried = carrying none_carried Server 0 (take 5 response_bytes)

abbrev pub all_carried : Side → ℕ → List ℕ
all_carried = carrying head_carried Server 0 (head_carried Server 0 ++ drop 5 response_bytes)

abbrev pub rest_carried : Side → ℕ → List ℕ
rest_carried = carrying all_carried Server 0 (drop 7 (all_carried Server 0))
