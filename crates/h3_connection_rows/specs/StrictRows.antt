-- Worked rows of endpoints that ask for a strict connection: what closes it, and what does not.
use Rattle.std.specs.Prelude.{ℕ, true, List, [], ◌∷◌, codes}
use Rattle.h3_field.specs.Field.{Field}
use Rattle.h3_header.specs.Head.{Head}
use Rattle.h3_proto.specs.Config.{no_choices, no_extensions}
use Rattle.h3_proto.specs.declared.stream.Side.TheVariants.{Client, Server}
use Rattle.h3_connection.specs.declared.event.Fault.TheVariants as fault
use Rattle.h3_connection.specs.declared.event.Item.TheVariants as item
use Rattle.h3_connection.specs.declared.event.Pull.TheVariants as pulls
use Rattle.h3_connection.specs.declared.event.Refusal.TheVariants as refusal
use Rattle.h3_connection.specs.declared.setup.Announced.{Announced}
use Rattle.h3_connection.specs.Endpoint.{EndpointHistory, new_endpoint}
use Rattle.h3_connection.specs.CallLists.{Call, Result}
use Rattle.h3_connection.specs.CallLists.Call.{OpenRequest, SendHead, SendBody, Deliver, PullStream}
use Rattle.h3_connection.specs.CallLists.Result.{Opened, Done, Refused, Pulled}
use Rattle.h3_connection_rows.specs.Worked.{hex, field, head, plain, limited_shortly}

-- sessions and datagrams are announced together, or neither
abbrev pub closing : ℕ → Announced
closing sessions =
    record (plain 1000 0 0) {
      settings = (6, 1000) ∷ (8, 0) ∷ (0x2b603742, sessions) ∷ (0x33, sessions) ∷ (0x2b603743, 0) ∷ (1, 0) ∷ (7, 0) ∷ [];
      choices = record no_choices { extensions = record no_extensions { strict_connection = true } };
    }

-- instructions of at most eight bytes
abbrev pub closing_shortly : Announced
closing_shortly = record limited_shortly { choices = record limited_shortly.choices { extensions = record no_extensions { strict_connection = true } } }

-- with a table, for which two streams may wait
abbrev pub closing_with_table : Announced
closing_with_table = record (plain 1000 4096 2) { choices = record no_choices { extensions = record no_extensions { strict_connection = true } } }

-- GET https a /, and one more field
abbrev pub request_with : List Field → Head
request_with more = head (field (codes ":method") (codes "GET") ∷ field (codes ":scheme") (codes "https") ∷ field (codes ":authority") (codes "a") ∷ field (codes ":path") (codes "/") ∷ more)

-- A frame of an unknown type comes first: its head is enough
abbrev pub unknown_frame_first_endpoint : EndpointHistory
unknown_frame_first_endpoint = new_endpoint Client (closing 0)

abbrev pub unknown_frame_first : List Call
unknown_frame_first =
    Deliver 3 (hex (codes "0021")) ∷
    Deliver 3 (hex (codes "05")) ∷
    []

abbrev pub unknown_frame_first_answers : List Result
unknown_frame_first_answers =
    Done ∷
    Refused (refusal.Connection 266) ∷
    []

-- and behind the settings it is skipped
abbrev pub settings_first_endpoint : EndpointHistory
settings_first_endpoint = new_endpoint Server (closing 0)

abbrev pub settings_first : List Call
settings_first =
    Deliver 2 (hex (codes "000400210121")) ∷
    Deliver 2 (hex (codes "2105")) ∷
    []

abbrev pub settings_first_answers : List Result
settings_first_answers =
    Done ∷
    Done ∷
    []

-- the type of the settings in two bytes
abbrev pub long_type_of_settings_endpoint : EndpointHistory
long_type_of_settings_endpoint = new_endpoint Server (closing 0)

abbrev pub long_type_of_settings : List Call
long_type_of_settings =
    Deliver 2 (hex (codes "004004")) ∷
    Deliver 2 (hex (codes "002100")) ∷
    []

abbrev pub long_type_of_settings_answers : List Result
long_type_of_settings_answers =
    Done ∷
    Done ∷
    []

-- Setting 8 is 2: a client closes
abbrev pub connect_of_two_at_a_client_endpoint : EndpointHistory
connect_of_two_at_a_client_endpoint = new_endpoint Client (closing 0)

abbrev pub connect_of_two_at_a_client : List Call
connect_of_two_at_a_client =
    Deliver 3 (hex (codes "0004020802")) ∷
    []

abbrev pub connect_of_two_at_a_client_answers : List Result
connect_of_two_at_a_client_answers =
    Refused (refusal.Connection 265) ∷
    []

-- and a server does not
abbrev pub connect_of_two_at_a_server_endpoint : EndpointHistory
connect_of_two_at_a_server_endpoint = new_endpoint Server (closing 0)

abbrev pub connect_of_two_at_a_server : List Call
connect_of_two_at_a_server =
    Deliver 2 (hex (codes "0004020802")) ∷
    Deliver 2 (hex (codes "0701")) ∷
    []

abbrev pub connect_of_two_at_a_server_answers : List Result
connect_of_two_at_a_server_answers =
    Done ∷
    Done ∷
    []

-- Setting 0x33 is 2
abbrev pub datagrams_of_two_endpoint : EndpointHistory
datagrams_of_two_endpoint = new_endpoint Server (closing 0)

abbrev pub datagrams_of_two : List Call
datagrams_of_two =
    Deliver 2 (hex (codes "00040233")) ∷
    Deliver 2 (hex (codes "02")) ∷
    []

abbrev pub datagrams_of_two_answers : List Result
datagrams_of_two_answers =
    Done ∷
    Refused (refusal.Connection 265) ∷
    []

-- and is judged before what follows the settings
abbrev pub refused_before_later_faults_endpoint : EndpointHistory
refused_before_later_faults_endpoint = new_endpoint Server (closing 0)

abbrev pub refused_before_later_faults : List Call
refused_before_later_faults =
    Deliver 2 (hex (codes "00040233020200")) ∷
    []

abbrev pub refused_before_later_faults_answers : List Result
refused_before_later_faults_answers =
    Refused (refusal.Connection 265) ∷
    []

-- Sessions of WebTransport without datagrams, at an endpoint that announces them
abbrev pub sessions_alone_endpoint : EndpointHistory
sessions_alone_endpoint = new_endpoint Server (closing 1)

abbrev pub sessions_alone : List Call
sessions_alone =
    Deliver 2 (hex (codes "000405ab60374201")) ∷
    []

abbrev pub sessions_alone_answers : List Result
sessions_alone_answers =
    Refused (refusal.Connection 265) ∷
    []

-- and with datagrams
abbrev pub sessions_with_datagrams_endpoint : EndpointHistory
sessions_with_datagrams_endpoint = new_endpoint Server (closing 1)

abbrev pub sessions_with_datagrams : List Call
sessions_with_datagrams =
    Deliver 2 (hex (codes "000407ab603742013301")) ∷
    []

abbrev pub sessions_with_datagrams_answers : List Result
sessions_with_datagrams_answers =
    Done ∷
    []

-- and where none are announced
abbrev pub sessions_alone_elsewhere_endpoint : EndpointHistory
sessions_alone_elsewhere_endpoint = new_endpoint Server (closing 0)

abbrev pub sessions_alone_elsewhere : List Call
sessions_alone_elsewhere =
    Deliver 2 (hex (codes "000405ab60374201")) ∷
    []

abbrev pub sessions_alone_elsewhere_answers : List Result
sessions_alone_elsewhere_answers =
    Done ∷
    []

-- The id of a session is no request's, on a stream of its own
abbrev pub session_of_no_request_endpoint : EndpointHistory
session_of_no_request_endpoint = new_endpoint Server (closing 1)

abbrev pub session_of_no_request : List Call
session_of_no_request =
    Deliver 14 (hex (codes "405400")) ∷
    Deliver 18 (hex (codes "405401")) ∷
    []

abbrev pub session_of_no_request_answers : List Result
session_of_no_request_answers =
    Done ∷
    Refused (refusal.Connection 264) ∷
    []

-- and on a request stream
abbrev pub session_in_a_request_stream_endpoint : EndpointHistory
session_in_a_request_stream_endpoint = new_endpoint Server (closing 1)

abbrev pub session_in_a_request_stream : List Call
session_in_a_request_stream =
    Deliver 0 (hex (codes "404102")) ∷
    PullStream 0 ∷
    []

abbrev pub session_in_a_request_stream_answers : List Result
session_in_a_request_stream_answers =
    Done ∷
    Pulled (pulls.Fault (fault.Connection 264)) ∷
    []

-- No request begins behind a GOAWAY
abbrev pub request_behind_a_goaway_endpoint : EndpointHistory
request_behind_a_goaway_endpoint = new_endpoint Client (closing 0)

abbrev pub request_behind_a_goaway : List Call
request_behind_a_goaway =
    OpenRequest ∷
    OpenRequest ∷
    Deliver 3 (hex (codes "0004000701")) ∷
    Deliver 3 (hex (codes "08")) ∷
    SendHead 0 (head (field (codes ":method") (codes "GET") ∷ field (codes ":scheme") (codes "https") ∷ field (codes ":authority") (codes "a") ∷ field (codes ":path") (codes "/") ∷ [])) ∷
    SendBody 0 [] ∷
    []

abbrev pub request_behind_a_goaway_answers : List Result
request_behind_a_goaway_answers =
    Opened 0 ∷
    Opened 4 ∷
    Done ∷
    Done ∷
    Refused (refusal.GoingAway 8) ∷
    Refused refusal.OutOfOrder ∷
    []

-- but at an endpoint that does not ask for that
abbrev pub request_behind_a_goaway_loosely_endpoint : EndpointHistory
request_behind_a_goaway_loosely_endpoint = new_endpoint Client (plain 1000 0 0)

abbrev pub request_behind_a_goaway_loosely : List Call
request_behind_a_goaway_loosely =
    OpenRequest ∷
    Deliver 3 (hex (codes "00040007")) ∷
    Deliver 3 (hex (codes "0108")) ∷
    SendHead 0 (head (field (codes ":method") (codes "GET") ∷ field (codes ":scheme") (codes "https") ∷ field (codes ":authority") (codes "a") ∷ field (codes ":path") (codes "/") ∷ [])) ∷
    SendHead 0 (head (field (codes ":method") (codes "GET") ∷ field (codes ":scheme") (codes "https") ∷ field (codes ":authority") (codes "a") ∷ field (codes ":path") (codes "/") ∷ [])) ∷
    []

abbrev pub request_behind_a_goaway_loosely_answers : List Result
request_behind_a_goaway_loosely_answers =
    Opened 0 ∷
    Done ∷
    Done ∷
    Done ∷
    Refused refusal.OutOfOrder ∷
    []

-- and a stream on which one began tells its order
abbrev pub begun_before_a_goaway_endpoint : EndpointHistory
begun_before_a_goaway_endpoint = new_endpoint Client (closing 0)

abbrev pub begun_before_a_goaway : List Call
begun_before_a_goaway =
    OpenRequest ∷
    SendHead 0 (head (field (codes ":method") (codes "GET") ∷ field (codes ":scheme") (codes "https") ∷ field (codes ":authority") (codes "a") ∷ field (codes ":path") (codes "/") ∷ [])) ∷
    Deliver 3 (hex (codes "0004000701")) ∷
    Deliver 3 (hex (codes "08")) ∷
    SendHead 0 (head (field (codes ":method") (codes "GET") ∷ field (codes ":scheme") (codes "https") ∷ field (codes ":authority") (codes "a") ∷ field (codes ":path") (codes "/") ∷ [])) ∷
    SendBody 0 (hex (codes "61")) ∷
    []

abbrev pub begun_before_a_goaway_answers : List Result
begun_before_a_goaway_answers =
    Opened 0 ∷
    Done ∷
    Done ∷
    Done ∷
    Refused refusal.OutOfOrder ∷
    Done ∷
    []

-- An instruction above the limit is an error of its stream
abbrev pub long_instruction_endpoint : EndpointHistory
long_instruction_endpoint = new_endpoint Server closing_shortly

abbrev pub long_instruction : List Call
long_instruction =
    Deliver 6 (hex (codes "023fbd01c0")) ∷
    Deliver 6 (hex (codes "0f")) ∷
    []

abbrev pub long_instruction_answers : List Result
long_instruction_answers =
    Done ∷
    Refused (refusal.Connection 513) ∷
    []

-- of the decoder stream too, once the settings came
abbrev pub long_reply_endpoint : EndpointHistory
long_reply_endpoint = new_endpoint Server closing_shortly

abbrev pub long_reply : List Call
long_reply =
    Deliver 10 (hex (codes "033f80808080808080")) ∷
    Deliver 2 (hex (codes "000400")) ∷
    Deliver 10 (hex (codes "80")) ∷
    []

abbrev pub long_reply_answers : List Result
long_reply_answers =
    Done ∷
    Refused (refusal.Connection 514) ∷
    Refused (refusal.Connection 514) ∷
    []

-- Of two entries a section of the count 1 may name the first, and not the second
abbrev pub entry_at_the_count_endpoint : EndpointHistory
entry_at_the_count_endpoint = new_endpoint Server closing_with_table

abbrev pub entry_at_the_count : List Call
entry_at_the_count =
    Deliver 6 (hex (codes "023fe11f4161016241630164")) ∷
    Deliver 0 (hex (codes "01090200d1d750811fc180")) ∷
    PullStream 0 ∷
    Deliver 4 (hex (codes "01090200d1d750811fc110")) ∷
    PullStream 4 ∷
    []

abbrev pub entry_at_the_count_answers : List Result
entry_at_the_count_answers =
    Done ∷
    Done ∷
    Pulled (pulls.Item (item.Head (request_with (field (codes "a") (codes "b") ∷ [])))) ∷
    Done ∷
    Pulled (pulls.Fault (fault.Connection 512)) ∷
    []

-- and a larger count is taken
abbrev pub larger_count_endpoint : EndpointHistory
larger_count_endpoint = new_endpoint Server closing_with_table

abbrev pub larger_count : List Call
larger_count =
    Deliver 6 (hex (codes "023fe11f4161016241630164")) ∷
    Deliver 0 (hex (codes "01090300d1d750811fc181")) ∷
    PullStream 0 ∷
    []

abbrev pub larger_count_answers : List Result
larger_count_answers =
    Done ∷
    Done ∷
    Pulled (pulls.Item (item.Head (request_with (field (codes "a") (codes "b") ∷ [])))) ∷
    []

-- An endpoint that does not ask for that hands out the second
abbrev pub entry_at_the_count_loosely_endpoint : EndpointHistory
entry_at_the_count_loosely_endpoint = new_endpoint Server (plain 1000 4096 2)

abbrev pub entry_at_the_count_loosely : List Call
entry_at_the_count_loosely =
    Deliver 6 (hex (codes "023fe11f4161016241630164")) ∷
    Deliver 0 (hex (codes "01090200d1d750811fc110")) ∷
    PullStream 0 ∷
    []

abbrev pub entry_at_the_count_loosely_answers : List Result
entry_at_the_count_loosely_answers =
    Done ∷
    Done ∷
    Pulled (pulls.Item (item.Head (request_with (field (codes "c") (codes "d") ∷ [])))) ∷
    []

-- Without a table the encoded count and the sign are 0, and the base may be any
abbrev pub count_without_a_table_endpoint : EndpointHistory
count_without_a_table_endpoint = new_endpoint Server (closing 0)

abbrev pub count_without_a_table : List Call
count_without_a_table =
    Deliver 0 (hex (codes "01080005d1d750811fc1")) ∷
    PullStream 0 ∷
    Deliver 4 (hex (codes "01080100d1d750811fc1")) ∷
    PullStream 4 ∷
    []

abbrev pub count_without_a_table_answers : List Result
count_without_a_table_answers =
    Done ∷
    Pulled (pulls.Item (item.Head (request_with []))) ∷
    Done ∷
    Pulled (pulls.Fault (fault.Connection 512)) ∷
    []

abbrev pub sign_without_a_table_endpoint : EndpointHistory
sign_without_a_table_endpoint = new_endpoint Server (closing 0)

abbrev pub sign_without_a_table : List Call
sign_without_a_table =
    Deliver 0 (hex (codes "01080080d1d750811fc1")) ∷
    PullStream 0 ∷
    []

abbrev pub sign_without_a_table_answers : List Result
sign_without_a_table_answers =
    Done ∷
    Pulled (pulls.Fault (fault.Connection 512)) ∷
    []

-- WebTransport is not announced: 0x41 is a frame of unknown type, with a length, in front of a request
abbrev pub session_frame_not_announced_endpoint : EndpointHistory
session_frame_not_announced_endpoint = new_endpoint Server (closing 0)

abbrev pub session_frame_not_announced : List Call
session_frame_not_announced =
    Deliver 0 (hex (codes "40410461626364")) ∷
    Deliver 0 (hex (codes "01080000d1d7c1500161")) ∷
    PullStream 0 ∷
    []

abbrev pub session_frame_not_announced_answers : List Result
session_frame_not_announced_answers =
    Done ∷
    Done ∷
    Pulled (pulls.Item (item.Head (head (field (codes ":method") (codes "GET") ∷ field (codes ":scheme") (codes "https") ∷ field (codes ":path") (codes "/") ∷ field (codes ":authority") (codes "a") ∷ [])))) ∷
    []

-- and of a response
abbrev pub session_frame_in_a_response_endpoint : EndpointHistory
session_frame_in_a_response_endpoint = new_endpoint Client (closing 0)

abbrev pub session_frame_in_a_response : List Call
session_frame_in_a_response =
    OpenRequest ∷
    Deliver 0 (hex (codes "40410461626364")) ∷
    Deliver 0 (hex (codes "01030000d9")) ∷
    PullStream 0 ∷
    []

abbrev pub session_frame_in_a_response_answers : List Result
session_frame_in_a_response_answers =
    Opened 0 ∷
    Done ∷
    Done ∷
    Pulled (pulls.Item (item.Head (head (field (codes ":status") (codes "200") ∷ [])))) ∷
    []

-- and behind the settings
abbrev pub session_frame_on_the_control_stream_endpoint : EndpointHistory
session_frame_on_the_control_stream_endpoint = new_endpoint Server (closing 0)

abbrev pub session_frame_on_the_control_stream : List Call
session_frame_on_the_control_stream =
    Deliver 2 (hex (codes "00040040410461626364")) ∷
    Deliver 2 (hex (codes "0701004041046162")) ∷
    Deliver 2 (hex (codes "63640701")) ∷
    Deliver 2 (hex (codes "04")) ∷
    []

abbrev pub session_frame_on_the_control_stream_answers : List Result
session_frame_on_the_control_stream_answers =
    Done ∷
    Done ∷
    Done ∷
    Refused (refusal.Connection 264) ∷
    []

-- and 0x54 is a stream of unknown type
abbrev pub session_stream_not_announced_endpoint : EndpointHistory
session_stream_not_announced_endpoint = new_endpoint Server (closing 0)

abbrev pub session_stream_not_announced : List Call
session_stream_not_announced =
    Deliver 14 (hex (codes "40540161626364")) ∷
    PullStream 14 ∷
    []

abbrev pub session_stream_not_announced_answers : List Result
session_stream_not_announced_answers =
    Done ∷
    Pulled pulls.NoMessages ∷
    []

-- but at an endpoint that does not ask for that a session begins
abbrev pub session_frame_loosely_endpoint : EndpointHistory
session_frame_loosely_endpoint = new_endpoint Server (plain 1000 0 0)

abbrev pub session_frame_loosely : List Call
session_frame_loosely =
    Deliver 0 (hex (codes "40410461626364")) ∷
    PullStream 0 ∷
    PullStream 0 ∷
    []

abbrev pub session_frame_loosely_answers : List Result
session_frame_loosely_answers =
    Done ∷
    Pulled (pulls.Item (item.Session 4)) ∷
    Pulled (pulls.Item (item.Raw (hex (codes "61626364")))) ∷
    []
