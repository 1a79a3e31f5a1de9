-- Worked rows of messages: heads, bodies, sessions, resets and cancellations.
use Rattle.std.specs.Prelude.{ℕ, List, [], ◌∷◌, codes, None}
use Rattle.h3_proto.specs.declared.stream.Side.TheVariants.{Client, Server}
use Rattle.h3_connection.specs.declared.event.Item.TheVariants as item
use Rattle.h3_connection.specs.declared.event.Pull.TheVariants as pulls
use Rattle.h3_connection.specs.declared.event.Refusal.TheVariants as refusal
use Rattle.h3_connection.specs.declared.event.Fault.TheVariants as fault
use Rattle.h3_connection.specs.declared.event.StreamFault.TheVariants as stream_fault
use Rattle.h3_connection.specs.declared.event.Malformation.TheVariants as malformation
use Rattle.h3_connection.specs.Endpoint.{EndpointHistory, new_endpoint}
use Rattle.h3_connection.specs.CallLists.{Call, Result}
use Rattle.h3_connection.specs.CallLists.Call.{OpenRequest, SendHead, SendBody, Finish, Reset, Goaway, Outgoing, Deliver, DeliverEnd, DeliverReset, PullStream, Cancel, Show}
use Rattle.h3_connection.specs.CallLists.Result.{Opened, Done, Refused, Waits, Pulled, Shown}
use Rattle.h3_connection_rows.specs.Worked.{hex, field, head, plain, strict}

abbrev pub response_with_a_body_sent_endpoint : EndpointHistory
response_with_a_body_sent_endpoint = new_endpoint Server (plain 1000 0 0)

abbrev pub response_with_a_body_sent : List Call
response_with_a_body_sent =
    Deliver 0 [] ∷
    SendHead 0 (head (field (codes ":status") (codes "200") ∷ [])) ∷
    SendBody 0 (hex (codes "6869")) ∷
    Outgoing 0 ∷
    []

abbrev pub response_with_a_body_sent_answers : List Result
response_with_a_body_sent_answers =
    Done ∷
    Done ∷
    Done ∷
    Waits (hex (codes "01030000d900026869")) ∷
    []

abbrev pub response_read_byte_by_byte_endpoint : EndpointHistory
response_read_byte_by_byte_endpoint = new_endpoint Client (plain 42 0 0)

abbrev pub response_read_byte_by_byte : List Call
response_read_byte_by_byte =
    OpenRequest ∷
    Deliver 0 (hex (codes "01")) ∷
    Deliver 0 (hex (codes "03")) ∷
    Deliver 0 (hex (codes "00")) ∷
    Deliver 0 (hex (codes "00")) ∷
    Deliver 0 (hex (codes "d9")) ∷
    Deliver 0 (hex (codes "00")) ∷
    Deliver 0 (hex (codes "02")) ∷
    Deliver 0 (hex (codes "68")) ∷
    Deliver 0 (hex (codes "69")) ∷
    DeliverEnd 0 ∷
    PullStream 0 ∷
    PullStream 0 ∷
    PullStream 0 ∷
    PullStream 0 ∷
    PullStream 0 ∷
    []

abbrev pub response_read_byte_by_byte_answers : List Result
response_read_byte_by_byte_answers =
    Opened 0 ∷
    Done ∷
    Done ∷
    Done ∷
    Done ∷
    Done ∷
    Done ∷
    Done ∷
    Done ∷
    Done ∷
    Done ∷
    Pulled (pulls.Item (item.Head (head (field (codes ":status") (codes "200") ∷ [])))) ∷
    Pulled (pulls.Item (item.Body (hex (codes "68")))) ∷
    Pulled (pulls.Item (item.Body (hex (codes "69")))) ∷
    Pulled (pulls.Item item.End) ∷
    Pulled (pulls.Item item.End) ∷
    []

abbrev pub section_above_the_own_size_endpoint : EndpointHistory
section_above_the_own_size_endpoint = new_endpoint Client (plain 41 0 0)

abbrev pub section_above_the_own_size : List Call
section_above_the_own_size =
    OpenRequest ∷
    Deliver 0 (hex (codes "01")) ∷
    Deliver 0 (hex (codes "03")) ∷
    Deliver 0 (hex (codes "00")) ∷
    Deliver 0 (hex (codes "00")) ∷
    Deliver 0 (hex (codes "d9")) ∷
    Deliver 0 (hex (codes "00")) ∷
    Deliver 0 (hex (codes "02")) ∷
    Deliver 0 (hex (codes "68")) ∷
    Deliver 0 (hex (codes "69")) ∷
    DeliverEnd 0 ∷
    PullStream 0 ∷
    PullStream 0 ∷
    PullStream 0 ∷
    PullStream 0 ∷
    []

abbrev pub section_above_the_own_size_answers : List Result
section_above_the_own_size_answers =
    Opened 0 ∷
    Done ∷
    Done ∷
    Done ∷
    Done ∷
    Done ∷
    Done ∷
    Done ∷
    Done ∷
    Done ∷
    Done ∷
    Pulled (pulls.Item (item.TooLarge 42)) ∷
    Pulled (pulls.Item (item.Body (hex (codes "68")))) ∷
    Pulled (pulls.Item (item.Body (hex (codes "69")))) ∷
    Pulled (pulls.Item item.End) ∷
    []

abbrev pub request_without_settings_endpoint : EndpointHistory
request_without_settings_endpoint = new_endpoint Client (plain 1000 0 0)

abbrev pub request_without_settings : List Call
request_without_settings =
    OpenRequest ∷
    SendHead 0 (head (field (codes ":method") (codes "GET") ∷ field (codes ":scheme") (codes "https") ∷ field (codes ":authority") (codes "www.example.com") ∷ field (codes ":path") (codes "/") ∷ [])) ∷
    Outgoing 0 ∷
    []

abbrev pub request_without_settings_answers : List Result
request_without_settings_answers =
    Opened 0 ∷
    Done ∷
    Waits (hex (codes "01130000d1d7508cf1e3c2e5f23a6ba0ab90f4ffc1")) ∷
    []

abbrev pub unknown_frame_skipped_endpoint : EndpointHistory
unknown_frame_skipped_endpoint = new_endpoint Client (plain 1000 0 0)

abbrev pub unknown_frame_skipped : List Call
unknown_frame_skipped =
    OpenRequest ∷
    Deliver 0 (hex (codes "2101ff4001030000d9")) ∷
    PullStream 0 ∷
    []

abbrev pub unknown_frame_skipped_answers : List Result
unknown_frame_skipped_answers =
    Opened 0 ∷
    Done ∷
    Pulled (pulls.Item (item.Head (head (field (codes ":status") (codes "200") ∷ [])))) ∷
    []

abbrev pub name_in_upper_case_endpoint : EndpointHistory
name_in_upper_case_endpoint = new_endpoint Client (plain 1000 0 0)

abbrev pub name_in_upper_case : List Call
name_in_upper_case =
    OpenRequest ∷
    Deliver 0 (hex (codes "01090000d923582d410131")) ∷
    PullStream 0 ∷
    Outgoing 10 ∷
    []

abbrev pub name_in_upper_case_answers : List Result
name_in_upper_case_answers =
    Opened 0 ∷
    Done ∷
    Pulled (pulls.Fault (fault.Stream (stream_fault.Malformed malformation.Name))) ∷
    Waits (hex (codes "0340")) ∷
    []

abbrev pub webtransport_sessions_endpoint : EndpointHistory
webtransport_sessions_endpoint = new_endpoint Server (plain 1000 0 0)

abbrev pub webtransport_sessions : List Call
webtransport_sessions =
    Deliver 0 (hex (codes "4041046869")) ∷
    PullStream 0 ∷
    PullStream 0 ∷
    PullStream 0 ∷
    Deliver 14 (hex (codes "40")) ∷
    Deliver 14 (hex (codes "54")) ∷
    Deliver 14 (hex (codes "80")) ∷
    Deliver 14 (hex (codes "00")) ∷
    Deliver 14 (hex (codes "00")) ∷
    Deliver 14 (hex (codes "04")) ∷
    PullStream 14 ∷
    PullStream 14 ∷
    []

abbrev pub webtransport_sessions_answers : List Result
webtransport_sessions_answers =
    Done ∷
    Pulled (pulls.Item (item.Session 4)) ∷
    Pulled (pulls.Item (item.Raw (hex (codes "6869")))) ∷
    Pulled (pulls.Pending) ∷
    Done ∷
    Done ∷
    Done ∷
    Done ∷
    Done ∷
    Done ∷
    Pulled (pulls.Item (item.Session 4)) ∷
    Pulled (pulls.Pending) ∷
    []

abbrev pub reset_ends_sending_endpoint : EndpointHistory
reset_ends_sending_endpoint = new_endpoint Client (plain 1000 0 0)

abbrev pub reset_ends_sending : List Call
reset_ends_sending =
    OpenRequest ∷
    SendBody 0 (hex (codes "6869")) ∷
    SendHead 0 (head (field (codes ":method") (codes "GET") ∷ field (codes ":scheme") (codes "https") ∷ field (codes ":authority") (codes "www.example.com") ∷ field (codes ":path") (codes "/") ∷ [])) ∷
    Reset 0 ∷
    Outgoing 0 ∷
    Reset 0 ∷
    Finish 0 ∷
    []

abbrev pub reset_ends_sending_answers : List Result
reset_ends_sending_answers =
    Opened 0 ∷
    Refused refusal.OutOfOrder ∷
    Done ∷
    Done ∷
    Waits [] ∷
    Refused refusal.Ended ∷
    Refused refusal.OutOfOrder ∷
    []

abbrev pub reset_delivered_endpoint : EndpointHistory
reset_delivered_endpoint = new_endpoint Server (plain 1000 0 0)

abbrev pub reset_delivered : List Call
reset_delivered =
    Deliver 0 [] ∷
    DeliverReset 0 268 ∷
    PullStream 0 ∷
    Cancel 0 ∷
    Outgoing 11 ∷
    Deliver 0 (hex (codes "01")) ∷
    []

abbrev pub reset_delivered_answers : List Result
reset_delivered_answers =
    Done ∷
    Done ∷
    Pulled (pulls.Fault (fault.Stream (stream_fault.Reset 268))) ∷
    Refused refusal.Ended ∷
    Waits (hex (codes "0340")) ∷
    Refused refusal.AfterEnd ∷
    []

abbrev pub goaways_sent_endpoint : EndpointHistory
goaways_sent_endpoint = new_endpoint Server (plain 1000 0 0)

abbrev pub goaways_sent : List Call
goaways_sent =
    Goaway 8 ∷
    Goaway 4 ∷
    Goaway 6 ∷
    Goaway 8 ∷
    []

abbrev pub goaways_sent_answers : List Result
goaways_sent_answers =
    Done ∷
    Done ∷
    Refused refusal.NotRequestId ∷
    Refused (refusal.Raised 4) ∷
    []

abbrev pub cancellations_refused_endpoint : EndpointHistory
cancellations_refused_endpoint = new_endpoint Client (plain 1000 0 0)

abbrev pub cancellations_refused : List Call
cancellations_refused =
    Cancel 2 ∷
    Cancel 0 ∷
    OpenRequest ∷
    Cancel 0 ∷
    Cancel 0 ∷
    []

abbrev pub cancellations_refused_answers : List Result
cancellations_refused_answers =
    Refused refusal.Critical ∷
    Refused refusal.NotOpen ∷
    Opened 0 ∷
    Done ∷
    Refused refusal.Ended ∷
    []

abbrev pub session_type_without_an_id_endpoint : EndpointHistory
session_type_without_an_id_endpoint = new_endpoint Server (plain 1000 0 0)

abbrev pub session_type_without_an_id : List Call
session_type_without_an_id =
    Deliver 14 (hex (codes "4054")) ∷
    PullStream 14 ∷
    DeliverEnd 14 ∷
    PullStream 14 ∷
    []

abbrev pub session_type_without_an_id_answers : List Result
session_type_without_an_id_answers =
    Done ∷
    Pulled (pulls.Pending) ∷
    Done ∷
    Pulled (pulls.NoMessages) ∷
    []

abbrev pub empty_authority_endpoint : EndpointHistory
empty_authority_endpoint = new_endpoint Server (plain 1000 0 0)

abbrev pub empty_authority : List Call
empty_authority =
    Deliver 0 (hex (codes "01060000d1d75000404104")) ∷
    PullStream 0 ∷
    PullStream 0 ∷
    []

abbrev pub empty_authority_answers : List Result
empty_authority_answers =
    Done ∷
    Pulled (pulls.Fault (fault.Stream (stream_fault.Malformed malformation.Value))) ∷
    Pulled (pulls.Fault (fault.Stream (stream_fault.Malformed malformation.Value))) ∷
    []

abbrev pub long_frame_heads_byte_by_byte_endpoint : EndpointHistory
long_frame_heads_byte_by_byte_endpoint = new_endpoint Client (plain 1000 0 0)

abbrev pub long_frame_heads_byte_by_byte : List Call
long_frame_heads_byte_by_byte =
    OpenRequest ∷
    Deliver 0 (hex (codes "c0")) ∷
    PullStream 0 ∷
    Deliver 0 (hex (codes "00")) ∷
    PullStream 0 ∷
    Deliver 0 (hex (codes "00")) ∷
    PullStream 0 ∷
    Deliver 0 (hex (codes "00")) ∷
    PullStream 0 ∷
    Deliver 0 (hex (codes "00")) ∷
    PullStream 0 ∷
    Deliver 0 (hex (codes "00")) ∷
    PullStream 0 ∷
    Deliver 0 (hex (codes "00")) ∷
    PullStream 0 ∷
    Deliver 0 (hex (codes "01")) ∷
    PullStream 0 ∷
    Deliver 0 (hex (codes "c0")) ∷
    PullStream 0 ∷
    Deliver 0 (hex (codes "00")) ∷
    PullStream 0 ∷
    Deliver 0 (hex (codes "00")) ∷
    PullStream 0 ∷
    Deliver 0 (hex (codes "00")) ∷
    PullStream 0 ∷
    Deliver 0 (hex (codes "00")) ∷
    PullStream 0 ∷
    Deliver 0 (hex (codes "00")) ∷
    PullStream 0 ∷
    Deliver 0 (hex (codes "00")) ∷
    PullStream 0 ∷
    Deliver 0 (hex (codes "03")) ∷
    PullStream 0 ∷
    Deliver 0 (hex (codes "00")) ∷
    PullStream 0 ∷
    Deliver 0 (hex (codes "00")) ∷
    PullStream 0 ∷
    Deliver 0 (hex (codes "d9")) ∷
    PullStream 0 ∷
    []

abbrev pub long_frame_heads_byte_by_byte_answers : List Result
long_frame_heads_byte_by_byte_answers =
    Opened 0 ∷
    Done ∷
    Pulled (pulls.Pending) ∷
    Done ∷
    Pulled (pulls.Pending) ∷
    Done ∷
    Pulled (pulls.Pending) ∷
    Done ∷
    Pulled (pulls.Pending) ∷
    Done ∷
    Pulled (pulls.Pending) ∷
    Done ∷
    Pulled (pulls.Pending) ∷
    Done ∷
    Pulled (pulls.Pending) ∷
    Done ∷
    Pulled (pulls.Pending) ∷
    Done ∷
    Pulled (pulls.Pending) ∷
    Done ∷
    Pulled (pulls.Pending) ∷
    Done ∷
    Pulled (pulls.Pending) ∷
    Done ∷
    Pulled (pulls.Pending) ∷
    Done ∷
    Pulled (pulls.Pending) ∷
    Done ∷
    Pulled (pulls.Pending) ∷
    Done ∷
    Pulled (pulls.Pending) ∷
    Done ∷
    Pulled (pulls.Pending) ∷
    Done ∷
    Pulled (pulls.Pending) ∷
    Done ∷
    Pulled (pulls.Pending) ∷
    Done ∷
    Pulled (pulls.Item (item.Head (head (field (codes ":status") (codes "200") ∷ [])))) ∷
    []

abbrev pub session_reset_endpoint : EndpointHistory
session_reset_endpoint = new_endpoint Server (plain 1000 0 0)

abbrev pub session_reset : List Call
session_reset =
    Deliver 14 (hex (codes "40540461")) ∷
    PullStream 14 ∷
    DeliverReset 14 9 ∷
    PullStream 14 ∷
    Cancel 14 ∷
    Outgoing 11 ∷
    Deliver 14 [] ∷
    []

abbrev pub session_reset_answers : List Result
session_reset_answers =
    Done ∷
    Pulled (pulls.Item (item.Session 4)) ∷
    Done ∷
    Pulled (pulls.Fault (fault.Stream (stream_fault.Reset 9))) ∷
    Refused refusal.NotOpen ∷
    Waits (hex (codes "03")) ∷
    Refused refusal.AfterEnd ∷
    []

abbrev pub interim_head_alone_endpoint : EndpointHistory
interim_head_alone_endpoint = new_endpoint Client (plain 1000 0 0)

abbrev pub interim_head_alone : List Call
interim_head_alone =
    OpenRequest ∷
    Deliver 0 (hex (codes "01030000d8")) ∷
    PullStream 0 ∷
    []

abbrev pub interim_head_alone_answers : List Result
interim_head_alone_answers =
    Opened 0 ∷
    Done ∷
    Pulled (pulls.Item (item.Interim (head (field (codes ":status") (codes "103") ∷ [])))) ∷
    []

abbrev pub empty_data_frames_endpoint : EndpointHistory
empty_data_frames_endpoint = new_endpoint Client (plain 1000 0 0)

abbrev pub empty_data_frames : List Call
empty_data_frames =
    OpenRequest ∷
    Deliver 0 (hex (codes "01030000d9000021010500000001610000")) ∷
    PullStream 0 ∷
    PullStream 0 ∷
    PullStream 0 ∷
    DeliverEnd 0 ∷
    PullStream 0 ∷
    []

abbrev pub empty_data_frames_answers : List Result
empty_data_frames_answers =
    Opened 0 ∷
    Done ∷
    Pulled (pulls.Item (item.Head (head (field (codes ":status") (codes "200") ∷ [])))) ∷
    Pulled (pulls.Item (item.Body (hex (codes "61")))) ∷
    Pulled (pulls.Pending) ∷
    Done ∷
    Pulled (pulls.Item item.End) ∷
    []

abbrev pub malformed_head_acknowledged_endpoint : EndpointHistory
malformed_head_acknowledged_endpoint = new_endpoint Server (plain 1000 64 1)

abbrev pub malformed_head_acknowledged : List Call
malformed_head_acknowledged =
    Deliver 6 (hex (codes "023f2163f2b0ff810f")) ∷
    Deliver 4 (hex (codes "0103028010")) ∷
    PullStream 4 ∷
    Outgoing 11 ∷
    PullStream 4 ∷
    Deliver 4 (hex (codes "00")) ∷
    PullStream 4 ∷
    Show ∷
    []

abbrev pub malformed_head_acknowledged_answers : List Result
malformed_head_acknowledged_answers =
    Done ∷
    Done ∷
    Pulled (pulls.Fault (fault.Stream (stream_fault.Malformed malformation.WrongSide))) ∷
    Waits (hex (codes "03018444")) ∷
    Pulled (pulls.Fault (fault.Stream (stream_fault.Malformed malformation.WrongSide))) ∷
    Done ∷
    Pulled (pulls.Fault (fault.Stream (stream_fault.Malformed malformation.WrongSide))) ∷
    Shown (None) (record { sending = 0; receiving = 36 }) 0 ∷
    []

abbrev pub large_section_acknowledged_endpoint : EndpointHistory
large_section_acknowledged_endpoint = new_endpoint Server (plain 77 64 1)

abbrev pub large_section_acknowledged : List Call
large_section_acknowledged =
    Deliver 6 (hex (codes "023f2163f2b0ff810f")) ∷
    Deliver 4 (hex (codes "01040280d110")) ∷
    PullStream 4 ∷
    Outgoing 11 ∷
    []

abbrev pub large_section_acknowledged_answers : List Result
large_section_acknowledged_answers =
    Done ∷
    Done ∷
    Pulled (pulls.Item (item.TooLarge 78)) ∷
    Waits (hex (codes "030184")) ∷
    []

abbrev pub interim_head_sent_endpoint : EndpointHistory
interim_head_sent_endpoint = new_endpoint Server (plain 1000 0 0)

abbrev pub interim_head_sent : List Call
interim_head_sent =
    Deliver 0 [] ∷
    SendHead 0 (head (field (codes ":status") (codes "103") ∷ [])) ∷
    SendBody 0 (hex (codes "6869")) ∷
    Finish 0 ∷
    SendHead 0 (head (field (codes ":status") (codes "200") ∷ [])) ∷
    SendHead 0 (head (field (codes ":status") (codes "103") ∷ [])) ∷
    Outgoing 0 ∷
    []

abbrev pub interim_head_sent_answers : List Result
interim_head_sent_answers =
    Done ∷
    Done ∷
    Refused refusal.OutOfOrder ∷
    Refused refusal.OutOfOrder ∷
    Done ∷
    Refused refusal.OutOfOrder ∷
    Waits (hex (codes "01030000d801030000d9")) ∷
    []

abbrev pub interim_head_read_endpoint : EndpointHistory
interim_head_read_endpoint = new_endpoint Client (plain 1000 0 0)

abbrev pub interim_head_read : List Call
interim_head_read =
    OpenRequest ∷
    Deliver 0 (hex (codes "01030000d801030000d9")) ∷
    PullStream 0 ∷
    PullStream 0 ∷
    PullStream 0 ∷
    []

abbrev pub interim_head_read_answers : List Result
interim_head_read_answers =
    Opened 0 ∷
    Done ∷
    Pulled (pulls.Item (item.Interim (head (field (codes ":status") (codes "103") ∷ [])))) ∷
    Pulled (pulls.Item (item.Head (head (field (codes ":status") (codes "200") ∷ [])))) ∷
    Pulled (pulls.Pending) ∷
    []

abbrev pub end_behind_an_interim_head_endpoint : EndpointHistory
end_behind_an_interim_head_endpoint = new_endpoint Client (plain 1000 0 0)

abbrev pub end_behind_an_interim_head : List Call
end_behind_an_interim_head =
    OpenRequest ∷
    Deliver 0 (hex (codes "01030000d8")) ∷
    DeliverEnd 0 ∷
    PullStream 0 ∷
    PullStream 0 ∷
    []

abbrev pub end_behind_an_interim_head_answers : List Result
end_behind_an_interim_head_answers =
    Opened 0 ∷
    Done ∷
    Done ∷
    Pulled (pulls.Item (item.Interim (head (field (codes ":status") (codes "103") ∷ [])))) ∷
    Pulled (pulls.Fault (fault.Stream (stream_fault.Malformed malformation.NoHead))) ∷
    []

abbrev pub interim_head_above_the_own_size_endpoint : EndpointHistory
interim_head_above_the_own_size_endpoint = new_endpoint Client (plain 41 0 0)

abbrev pub interim_head_above_the_own_size : List Call
interim_head_above_the_own_size =
    OpenRequest ∷
    Deliver 0 (hex (codes "01030000d801030000d900026869")) ∷
    PullStream 0 ∷
    PullStream 0 ∷
    PullStream 0 ∷
    []

abbrev pub interim_head_above_the_own_size_answers : List Result
interim_head_above_the_own_size_answers =
    Opened 0 ∷
    Done ∷
    Pulled (pulls.Item (item.TooLarge 42)) ∷
    Pulled (pulls.Item (item.TooLarge 42)) ∷
    Pulled (pulls.Item (item.Body (hex (codes "6869")))) ∷
    []

abbrev pub interim_head_in_a_trailers_place_endpoint : EndpointHistory
interim_head_in_a_trailers_place_endpoint = new_endpoint Client (plain 1000 0 0)

abbrev pub interim_head_in_a_trailers_place : List Call
interim_head_in_a_trailers_place =
    OpenRequest ∷
    Deliver 0 (hex (codes "01030000d901030000d8")) ∷
    PullStream 0 ∷
    PullStream 0 ∷
    []

abbrev pub interim_head_in_a_trailers_place_answers : List Result
interim_head_in_a_trailers_place_answers =
    Opened 0 ∷
    Done ∷
    Pulled (pulls.Item (item.Head (head (field (codes ":status") (codes "200") ∷ [])))) ∷
    Pulled (pulls.Fault (fault.Stream (stream_fault.Malformed malformation.PseudoInTrailer))) ∷
    []

-- A strict server counts content (RFC 9114, 4.1.2): as much as was said, more, and less. Until CONNECT is answered a trailer may come, and behind a 2xx
-- response only DATA (4.4).
abbrev pub content_counted_endpoint : EndpointHistory
content_counted_endpoint = new_endpoint Server (strict 1000)

abbrev pub content_counted : List Call
content_counted =
    Deliver 0 (hex (codes "010b0000d4d7500161c154013200026869")) ∷
    DeliverEnd 0 ∷
    PullStream 0 ∷
    PullStream 0 ∷
    PullStream 0 ∷
    Deliver 4 (hex (codes "010b0000d4d7500161c154013100026869")) ∷
    PullStream 4 ∷
    PullStream 4 ∷
    Deliver 8 (hex (codes "010b0000d4d7500161c154013500026869")) ∷
    DeliverEnd 8 ∷
    PullStream 8 ∷
    PullStream 8 ∷
    PullStream 8 ∷
    Deliver 12 (hex (codes "01080000cf5003613a31000268690106000021780131")) ∷
    PullStream 12 ∷
    PullStream 12 ∷
    PullStream 12 ∷
    Deliver 16 (hex (codes "01080000cf5003613a31000268690106000021780131")) ∷
    PullStream 16 ∷
    SendHead 16 (head (field (codes ":status") (codes "103") ∷ [])) ∷
    SendHead 16 (head (field (codes ":status") (codes "403") ∷ [])) ∷
    PullStream 16 ∷
    PullStream 16 ∷
    Deliver 20 (hex (codes "01080000cf5003613a31000268690106000021780131")) ∷
    PullStream 20 ∷
    SendHead 20 (head (field (codes ":status") (codes "200") ∷ [])) ∷
    PullStream 20 ∷
    PullStream 20 ∷
    []

abbrev pub content_counted_answers : List Result
content_counted_answers =
    Done ∷
    Done ∷
    Pulled (pulls.Item (item.Head (head (field (codes ":method") (codes "POST") ∷ field (codes ":scheme") (codes "https") ∷ field (codes ":authority") (codes "a") ∷ field (codes ":path") (codes "/") ∷ field (codes "content-length") (codes "2") ∷ [])))) ∷
    Pulled (pulls.Item (item.Body (hex (codes "6869")))) ∷
    Pulled (pulls.Item item.End) ∷
    Done ∷
    Pulled (pulls.Item (item.Head (head (field (codes ":method") (codes "POST") ∷ field (codes ":scheme") (codes "https") ∷ field (codes ":authority") (codes "a") ∷ field (codes ":path") (codes "/") ∷ field (codes "content-length") (codes "1") ∷ [])))) ∷
    Pulled (pulls.Fault (fault.Stream (stream_fault.Malformed malformation.ContentLength))) ∷
    Done ∷
    Done ∷
    Pulled (pulls.Item (item.Head (head (field (codes ":method") (codes "POST") ∷ field (codes ":scheme") (codes "https") ∷ field (codes ":authority") (codes "a") ∷ field (codes ":path") (codes "/") ∷ field (codes "content-length") (codes "5") ∷ [])))) ∷
    Pulled (pulls.Item (item.Body (hex (codes "6869")))) ∷
    Pulled (pulls.Fault (fault.Stream (stream_fault.Malformed malformation.ContentLength))) ∷
    Done ∷
    Pulled (pulls.Item (item.Head (head (field (codes ":method") (codes "CONNECT") ∷ field (codes ":authority") (codes "a:1") ∷ [])))) ∷
    Pulled (pulls.Item (item.Body (hex (codes "6869")))) ∷
    Pulled (pulls.Item (item.Trailer (head (field (codes "x") (codes "1") ∷ [])))) ∷
    Done ∷
    Pulled (pulls.Item (item.Head (head (field (codes ":method") (codes "CONNECT") ∷ field (codes ":authority") (codes "a:1") ∷ [])))) ∷
    Done ∷
    Done ∷
    Pulled (pulls.Item (item.Body (hex (codes "6869")))) ∷
    Pulled (pulls.Item (item.Trailer (head (field (codes "x") (codes "1") ∷ [])))) ∷
    Done ∷
    Pulled (pulls.Item (item.Head (head (field (codes ":method") (codes "CONNECT") ∷ field (codes ":authority") (codes "a:1") ∷ [])))) ∷
    Done ∷
    Pulled (pulls.Item (item.Body (hex (codes "6869")))) ∷
    Pulled (pulls.Fault (fault.Connection 0x105)) ∷
    []

-- A strict client counts the content of a response (RFC 9114, 4.1.2): as much as was said, and less; none behind HEAD, whatever is said (RFC 9110,
-- 9.3.2), also behind an interim response (15.2); none with 304 (6.4.1); and behind CONNECT a tunnel's (RFC 9114, 4.4).
abbrev pub response_content_counted_endpoint : EndpointHistory
response_content_counted_endpoint = new_endpoint Client (strict 1000)

abbrev pub head_with : ℕ → List ℕ → Call
head_with id method = SendHead id (head (field (codes ":method") method ∷ field (codes ":scheme") (codes "https") ∷ field (codes ":authority") (codes "a") ∷ field (codes ":path") (codes "/") ∷ []))

abbrev pub response_content_counted : List Call
response_content_counted =
    OpenRequest ∷
    head_with 0 (codes "GET") ∷
    Deliver 0 (hex (codes "01060000d954013200026869")) ∷
    DeliverEnd 0 ∷
    PullStream 0 ∷
    PullStream 0 ∷
    PullStream 0 ∷
    OpenRequest ∷
    head_with 4 (codes "GET") ∷
    Deliver 4 (hex (codes "01060000d954013500026869")) ∷
    DeliverEnd 4 ∷
    PullStream 4 ∷
    PullStream 4 ∷
    PullStream 4 ∷
    OpenRequest ∷
    head_with 8 (codes "HEAD") ∷
    Deliver 8 (hex (codes "01030000d801060000d9540135")) ∷
    DeliverEnd 8 ∷
    PullStream 8 ∷
    PullStream 8 ∷
    PullStream 8 ∷
    OpenRequest ∷
    head_with 12 (codes "HEAD") ∷
    Deliver 12 (hex (codes "01060000d954013200026869")) ∷
    PullStream 12 ∷
    PullStream 12 ∷
    OpenRequest ∷
    head_with 16 (codes "GET") ∷
    Deliver 16 (hex (codes "01060000da54013200026869")) ∷
    PullStream 16 ∷
    PullStream 16 ∷
    OpenRequest ∷
    SendHead 20 (head (field (codes ":method") (codes "CONNECT") ∷ field (codes ":authority") (codes "a:1") ∷ [])) ∷
    Deliver 20 (hex (codes "01060000d95401350002686901060000217801310000")) ∷
    PullStream 20 ∷
    PullStream 20 ∷
    PullStream 20 ∷
    []

abbrev pub ok_with : List ℕ → Result
ok_with size = Pulled (pulls.Item (item.Head (head (field (codes ":status") (codes "200") ∷ field (codes "content-length") size ∷ []))))

abbrev pub too_much_or_little : Result
too_much_or_little = Pulled (pulls.Fault (fault.Stream (stream_fault.Malformed malformation.ContentLength)))

abbrev pub response_content_counted_answers : List Result
response_content_counted_answers =
    Opened 0 ∷
    Done ∷
    Done ∷
    Done ∷
    ok_with (codes "2") ∷
    Pulled (pulls.Item (item.Body (hex (codes "6869")))) ∷
    Pulled (pulls.Item item.End) ∷
    Opened 4 ∷
    Done ∷
    Done ∷
    Done ∷
    ok_with (codes "5") ∷
    Pulled (pulls.Item (item.Body (hex (codes "6869")))) ∷
    too_much_or_little ∷
    Opened 8 ∷
    Done ∷
    Done ∷
    Done ∷
    Pulled (pulls.Item (item.Interim (head (field (codes ":status") (codes "103") ∷ [])))) ∷
    ok_with (codes "5") ∷
    Pulled (pulls.Item item.End) ∷
    Opened 12 ∷
    Done ∷
    Done ∷
    ok_with (codes "2") ∷
    too_much_or_little ∷
    Opened 16 ∷
    Done ∷
    Done ∷
    Pulled (pulls.Item (item.Head (head (field (codes ":status") (codes "304") ∷ field (codes "content-length") (codes "2") ∷ [])))) ∷
    too_much_or_little ∷
    Opened 20 ∷
    Done ∷
    Done ∷
    ok_with (codes "5") ∷
    Pulled (pulls.Item (item.Body (hex (codes "6869")))) ∷
    Pulled (pulls.Fault (fault.Connection 0x105)) ∷
    []
