-- Worked rows of faults of the connection.
use Rattle.std.specs.Prelude.{List, [], ◌∷◌, codes, Some, None}
use Rattle.h3_proto.specs.declared.stream.Side.TheVariants.{Client, Server}
use Rattle.h3_connection.specs.declared.event.Item.TheVariants as item
use Rattle.h3_connection.specs.declared.event.Pull.TheVariants as pulls
use Rattle.h3_connection.specs.declared.event.Refusal.TheVariants as refusal
use Rattle.h3_connection.specs.declared.event.Fault.TheVariants as fault
use Rattle.h3_connection.specs.declared.event.StreamFault.TheVariants as stream_fault
use Rattle.h3_connection.specs.declared.event.Malformation.TheVariants as malformation
use Rattle.h3_connection.specs.Endpoint.{EndpointHistory, new_endpoint}
use Rattle.h3_connection.specs.CallLists.{Call, Result}
use Rattle.h3_connection.specs.CallLists.Call.{OpenRequest, Outgoing, Deliver, DeliverEnd, PullStream, Cancel, Show}
use Rattle.h3_connection.specs.CallLists.Result.{Opened, Done, Refused, Waits, Pulled, Shown}
use Rattle.h3_connection_rows.specs.Worked.{hex, field, head, limited, plain}

abbrev pub body_before_the_head_endpoint : EndpointHistory
body_before_the_head_endpoint = new_endpoint Client (plain 1000 0 0)

abbrev pub body_before_the_head : List Call
body_before_the_head =
    OpenRequest ∷
    Deliver 0 (hex (codes "000161")) ∷
    PullStream 0 ∷
    []

abbrev pub body_before_the_head_answers : List Result
body_before_the_head_answers =
    Opened 0 ∷
    Done ∷
    Pulled (pulls.Fault (fault.Connection 261)) ∷
    []

abbrev pub end_inside_a_frame_endpoint : EndpointHistory
end_inside_a_frame_endpoint = new_endpoint Client (plain 1000 0 0)

abbrev pub end_inside_a_frame : List Call
end_inside_a_frame =
    OpenRequest ∷
    Deliver 0 (hex (codes "01030000")) ∷
    DeliverEnd 0 ∷
    PullStream 0 ∷
    []

abbrev pub end_inside_a_frame_answers : List Result
end_inside_a_frame_answers =
    Opened 0 ∷
    Done ∷
    Done ∷
    Pulled (pulls.Fault (fault.Connection 262)) ∷
    []

abbrev pub end_without_a_head_endpoint : EndpointHistory
end_without_a_head_endpoint = new_endpoint Client (plain 1000 0 0)

abbrev pub end_without_a_head : List Call
end_without_a_head =
    OpenRequest ∷
    DeliverEnd 0 ∷
    PullStream 0 ∷
    []

abbrev pub end_without_a_head_answers : List Result
end_without_a_head_answers =
    Opened 0 ∷
    Done ∷
    Pulled (pulls.Fault (fault.Stream (stream_fault.Malformed malformation.NoHead))) ∷
    []

abbrev pub goaway_before_settings_endpoint : EndpointHistory
goaway_before_settings_endpoint = new_endpoint Client (plain 1000 0 0)

abbrev pub goaway_before_settings : List Call
goaway_before_settings =
    Deliver 3 (hex (codes "00070104")) ∷
    OpenRequest ∷
    []

abbrev pub goaway_before_settings_answers : List Result
goaway_before_settings_answers =
    Refused (refusal.Connection 266) ∷
    Refused (refusal.Closed 266) ∷
    []

abbrev pub settings_refused_endpoint : EndpointHistory
settings_refused_endpoint = new_endpoint Client (plain 1000 0 0)

abbrev pub settings_refused : List Call
settings_refused =
    Deliver 3 (hex (codes "0004020200")) ∷
    OpenRequest ∷
    []

abbrev pub settings_refused_answers : List Result
settings_refused_answers =
    Refused (refusal.Connection 265) ∷
    Refused (refusal.Closed 265) ∷
    []

abbrev pub goaway_too_long_endpoint : EndpointHistory
goaway_too_long_endpoint = new_endpoint Client (plain 1000 0 0)

abbrev pub goaway_too_long : List Call
goaway_too_long =
    Deliver 3 (hex (codes "00040007020009")) ∷
    OpenRequest ∷
    []

abbrev pub goaway_too_long_answers : List Result
goaway_too_long_answers =
    Refused (refusal.Connection 262) ∷
    Refused (refusal.Closed 262) ∷
    []

abbrev pub goaway_raised_endpoint : EndpointHistory
goaway_raised_endpoint = new_endpoint Client (plain 1000 0 0)

abbrev pub goaway_raised : List Call
goaway_raised =
    Deliver 3 (hex (codes "000400070104070108")) ∷
    OpenRequest ∷
    []

abbrev pub goaway_raised_answers : List Result
goaway_raised_answers =
    Refused (refusal.Connection 264) ∷
    Refused (refusal.Closed 264) ∷
    []

abbrev pub push_stream_at_a_client_endpoint : EndpointHistory
push_stream_at_a_client_endpoint = new_endpoint Client (plain 1000 0 0)

abbrev pub push_stream_at_a_client : List Call
push_stream_at_a_client =
    Deliver 15 (hex (codes "0100")) ∷
    []

abbrev pub push_stream_at_a_client_answers : List Result
push_stream_at_a_client_answers =
    Refused (refusal.Connection 264) ∷
    []

abbrev pub push_stream_at_a_server_endpoint : EndpointHistory
push_stream_at_a_server_endpoint = new_endpoint Server (plain 1000 0 0)

abbrev pub push_stream_at_a_server : List Call
push_stream_at_a_server =
    Deliver 14 (hex (codes "0100")) ∷
    []

abbrev pub push_stream_at_a_server_answers : List Result
push_stream_at_a_server_answers =
    Refused (refusal.Connection 259) ∷
    []

abbrev pub max_push_id_at_a_client_endpoint : EndpointHistory
max_push_id_at_a_client_endpoint = new_endpoint Client (plain 1000 0 0)

abbrev pub max_push_id_at_a_client : List Call
max_push_id_at_a_client =
    Deliver 3 (hex (codes "0004000d0100")) ∷
    []

abbrev pub max_push_id_at_a_client_answers : List Result
max_push_id_at_a_client_answers =
    Refused (refusal.Connection 261) ∷
    []

abbrev pub max_push_id_lowered_endpoint : EndpointHistory
max_push_id_lowered_endpoint = new_endpoint Server (plain 1000 0 0)

abbrev pub max_push_id_lowered : List Call
max_push_id_lowered =
    Deliver 2 (hex (codes "0004000d01050d0104")) ∷
    []

abbrev pub max_push_id_lowered_answers : List Result
max_push_id_lowered_answers =
    Refused (refusal.Connection 264) ∷
    []

abbrev pub cancel_push_at_a_client_endpoint : EndpointHistory
cancel_push_at_a_client_endpoint = new_endpoint Client (plain 1000 0 0)

abbrev pub cancel_push_at_a_client : List Call
cancel_push_at_a_client =
    Deliver 3 (hex (codes "000400030100")) ∷
    []

abbrev pub cancel_push_at_a_client_answers : List Result
cancel_push_at_a_client_answers =
    Refused (refusal.Connection 264) ∷
    []

abbrev pub cancel_push_at_a_server_endpoint : EndpointHistory
cancel_push_at_a_server_endpoint = new_endpoint Server (plain 1000 0 0)

abbrev pub cancel_push_at_a_server : List Call
cancel_push_at_a_server =
    Deliver 2 (hex (codes "000400030100")) ∷
    []

abbrev pub cancel_push_at_a_server_answers : List Result
cancel_push_at_a_server_answers =
    Refused (refusal.Connection 264) ∷
    []

abbrev pub push_promise_at_a_client_endpoint : EndpointHistory
push_promise_at_a_client_endpoint = new_endpoint Client (plain 1000 0 0)

abbrev pub push_promise_at_a_client : List Call
push_promise_at_a_client =
    OpenRequest ∷
    Deliver 0 (hex (codes "050100")) ∷
    PullStream 0 ∷
    []

abbrev pub push_promise_at_a_client_answers : List Result
push_promise_at_a_client_answers =
    Opened 0 ∷
    Done ∷
    Pulled (pulls.Fault (fault.Connection 264)) ∷
    []

abbrev pub push_promise_at_a_server_endpoint : EndpointHistory
push_promise_at_a_server_endpoint = new_endpoint Server (plain 1000 0 0)

abbrev pub push_promise_at_a_server : List Call
push_promise_at_a_server =
    Deliver 0 (hex (codes "050100")) ∷
    PullStream 0 ∷
    []

abbrev pub push_promise_at_a_server_answers : List Result
push_promise_at_a_server_answers =
    Done ∷
    Pulled (pulls.Fault (fault.Connection 261)) ∷
    []

abbrev pub stream_of_a_server_endpoint : EndpointHistory
stream_of_a_server_endpoint = new_endpoint Client (plain 1000 0 0)

abbrev pub stream_of_a_server : List Call
stream_of_a_server =
    Deliver 1 (hex (codes "00")) ∷
    []

abbrev pub stream_of_a_server_answers : List Result
stream_of_a_server_answers =
    Refused (refusal.Connection 259) ∷
    []

abbrev pub second_control_stream_endpoint : EndpointHistory
second_control_stream_endpoint = new_endpoint Client (plain 1000 0 0)

abbrev pub second_control_stream : List Call
second_control_stream =
    Deliver 3 (hex (codes "00")) ∷
    Deliver 15 (hex (codes "00")) ∷
    []

abbrev pub second_control_stream_answers : List Result
second_control_stream_answers =
    Done ∷
    Refused (refusal.Connection 259) ∷
    []

abbrev pub control_stream_ended_endpoint : EndpointHistory
control_stream_ended_endpoint = new_endpoint Client (plain 1000 0 0)

abbrev pub control_stream_ended : List Call
control_stream_ended =
    Deliver 3 (hex (codes "000400")) ∷
    DeliverEnd 3 ∷
    []

abbrev pub control_stream_ended_answers : List Result
control_stream_ended_answers =
    Done ∷
    Refused (refusal.Connection 260) ∷
    []

abbrev pub stream_without_a_type_ended_endpoint : EndpointHistory
stream_without_a_type_ended_endpoint = new_endpoint Client (plain 1000 0 0)

abbrev pub stream_without_a_type_ended : List Call
stream_without_a_type_ended =
    Deliver 15 [] ∷
    DeliverEnd 15 ∷
    PullStream 15 ∷
    []

abbrev pub stream_without_a_type_ended_answers : List Result
stream_without_a_type_ended_answers =
    Done ∷
    Done ∷
    Pulled (pulls.NoMessages) ∷
    []

abbrev pub stream_of_unknown_type_endpoint : EndpointHistory
stream_of_unknown_type_endpoint = new_endpoint Client (plain 1000 0 0)

abbrev pub stream_of_unknown_type : List Call
stream_of_unknown_type =
    Deliver 15 (hex (codes "21010203")) ∷
    PullStream 15 ∷
    []

abbrev pub stream_of_unknown_type_answers : List Result
stream_of_unknown_type_answers =
    Done ∷
    Pulled (pulls.NoMessages) ∷
    []

abbrev pub second_control_stream_unread_endpoint : EndpointHistory
second_control_stream_unread_endpoint = new_endpoint Client (plain 1000 0 0)

abbrev pub second_control_stream_unread : List Call
second_control_stream_unread =
    Deliver 3 (hex (codes "00")) ∷
    Deliver 15 (hex (codes "0004020605")) ∷
    Show ∷
    PullStream 0 ∷
    Cancel 0 ∷
    []

abbrev pub second_control_stream_unread_answers : List Result
second_control_stream_unread_answers =
    Done ∷
    Refused (refusal.Connection 259) ∷
    Shown (None) (record { sending = 0; receiving = 0 }) 0 ∷
    Pulled (pulls.Fault (fault.Connection 259)) ∷
    Refused (refusal.Closed 259) ∷
    []

abbrev pub control_fault_before_decoder_fault_endpoint : EndpointHistory
control_fault_before_decoder_fault_endpoint = new_endpoint Client (plain 1000 0 0)

abbrev pub control_fault_before_decoder_fault : List Call
control_fault_before_decoder_fault =
    Deliver 11 (hex (codes "0380")) ∷
    Deliver 3 (hex (codes "0004000400")) ∷
    []

abbrev pub control_fault_before_decoder_fault_answers : List Result
control_fault_before_decoder_fault_answers =
    Done ∷
    Refused (refusal.Connection 261) ∷
    []

abbrev pub two_trailers_endpoint : EndpointHistory
two_trailers_endpoint = new_endpoint Client (plain 1000 0 0)

abbrev pub two_trailers : List Call
two_trailers =
    OpenRequest ∷
    Deliver 0 (hex (codes "01030000d9010200000109")) ∷
    PullStream 0 ∷
    PullStream 0 ∷
    Deliver 0 (hex (codes "000000000000000000")) ∷
    PullStream 0 ∷
    []

abbrev pub two_trailers_answers : List Result
two_trailers_answers =
    Opened 0 ∷
    Done ∷
    Pulled (pulls.Item (item.Head (head (field (codes ":status") (codes "200") ∷ [])))) ∷
    Pulled (pulls.Item (item.Trailer (head ([])))) ∷
    Done ∷
    Pulled (pulls.Fault (fault.Connection 261)) ∷
    []

abbrev pub settings_before_a_fault_endpoint : EndpointHistory
settings_before_a_fault_endpoint = new_endpoint Client (plain 1000 0 0)

abbrev pub settings_before_a_fault : List Call
settings_before_a_fault =
    Deliver 11 (hex (codes "0380")) ∷
    Deliver 3 (hex (codes "0004050140dc07020d0100")) ∷
    Show ∷
    Outgoing 6 ∷
    []

abbrev pub settings_before_a_fault_answers : List Result
settings_before_a_fault_answers =
    Done ∷
    Refused (refusal.Connection 261) ∷
    Shown (Some (record { capacity = 220; blocked = 2; section = 4611686018427387903 })) (record { sending = 0; receiving = 0 }) 0 ∷
    Waits (hex (codes "023fbd01")) ∷
    []

abbrev pub increment_before_a_fault_endpoint : EndpointHistory
increment_before_a_fault_endpoint = new_endpoint Server (plain 1000 64 1)

abbrev pub increment_before_a_fault : List Call
increment_before_a_fault =
    Deliver 6 (hex (codes "023f2163f2b0ff810f3fffff")) ∷
    Deliver 6 (hex (codes "ffffffffffffffff")) ∷
    Outgoing 11 ∷
    []

abbrev pub increment_before_a_fault_answers : List Result
increment_before_a_fault_answers =
    Done ∷
    Refused (refusal.Connection 513) ∷
    Waits (hex (codes "0301")) ∷
    []

abbrev pub bad_name_of_an_unfinished_instruction_endpoint : EndpointHistory
bad_name_of_an_unfinished_instruction_endpoint = new_endpoint Server (plain 1000 64 1)

abbrev pub bad_name_of_an_unfinished_instruction : List Call
bad_name_of_an_unfinished_instruction =
    Deliver 6 (hex (codes "023f2161ff05")) ∷
    Deliver 6 (hex (codes "01020304")) ∷
    Deliver 6 (hex (codes "05")) ∷
    []

abbrev pub bad_name_of_an_unfinished_instruction_answers : List Result
bad_name_of_an_unfinished_instruction_answers =
    Done ∷
    Done ∷
    Refused (refusal.Connection 513) ∷
    []

abbrev pub body_behind_an_interim_head_endpoint : EndpointHistory
body_behind_an_interim_head_endpoint = new_endpoint Client (plain 1000 0 0)

abbrev pub body_behind_an_interim_head : List Call
body_behind_an_interim_head =
    OpenRequest ∷
    Deliver 0 (hex (codes "01030000d8000161")) ∷
    PullStream 0 ∷
    PullStream 0 ∷
    []

abbrev pub body_behind_an_interim_head_answers : List Result
body_behind_an_interim_head_answers =
    Opened 0 ∷
    Done ∷
    Pulled (pulls.Item (item.Interim (head (field (codes ":status") (codes "103") ∷ [])))) ∷
    Pulled (pulls.Fault (fault.Connection 261)) ∷
    []

abbrev pub settings_above_the_limit_endpoint : EndpointHistory
settings_above_the_limit_endpoint = new_endpoint Client limited

abbrev pub settings_above_the_limit : List Call
settings_above_the_limit =
    Deliver 3 (hex (codes "000440c8060401020304")) ∷
    Deliver 3 (hex (codes "05")) ∷
    []

abbrev pub settings_above_the_limit_answers : List Result
settings_above_the_limit_answers =
    Refused (refusal.Connection 263) ∷
    Refused (refusal.Connection 263) ∷
    []

abbrev pub settings_above_the_limit_in_two_endpoint : EndpointHistory
settings_above_the_limit_in_two_endpoint = new_endpoint Client limited

abbrev pub settings_above_the_limit_in_two : List Call
settings_above_the_limit_in_two =
    Deliver 3 (hex (codes "000440")) ∷
    Deliver 3 (hex (codes "c8060401020304")) ∷
    []

abbrev pub settings_above_the_limit_in_two_answers : List Result
settings_above_the_limit_in_two_answers =
    Done ∷
    Refused (refusal.Connection 263) ∷
    []

abbrev pub goaway_above_the_limit_endpoint : EndpointHistory
goaway_above_the_limit_endpoint = new_endpoint Server limited

abbrev pub goaway_above_the_limit : List Call
goaway_above_the_limit =
    Deliver 2 (hex (codes "000400210107")) ∷
    Deliver 2 (hex (codes "07c0000000400000")) ∷
    Deliver 2 (hex (codes "00")) ∷
    []

abbrev pub goaway_above_the_limit_answers : List Result
goaway_above_the_limit_answers =
    Done ∷
    Done ∷
    Refused (refusal.Connection 263) ∷
    []

abbrev pub settings_at_the_limit_endpoint : EndpointHistory
settings_at_the_limit_endpoint = new_endpoint Client limited

abbrev pub settings_at_the_limit : List Call
settings_at_the_limit =
    Deliver 3 (hex (codes "0021406500")) ∷
    Deliver 3 (hex (codes "00044064")) ∷
    []

abbrev pub settings_at_the_limit_answers : List Result
settings_at_the_limit_answers =
    Done ∷
    Done ∷
    []
