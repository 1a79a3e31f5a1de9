-- Worked rows of dynamic tables in use.
use Rattle.std.specs.Prelude.{List, [], ◌∷◌, codes, None}
use Rattle.h3_proto.specs.declared.stream.Side.TheVariants.{Client, Server}
use Rattle.h3_connection.specs.declared.event.Item.TheVariants as item
use Rattle.h3_connection.specs.declared.event.Pull.TheVariants as pulls
use Rattle.h3_connection.specs.declared.event.Refusal.TheVariants as refusal
use Rattle.h3_connection.specs.declared.event.Fault.TheVariants as fault
use Rattle.h3_connection.specs.declared.event.StreamFault.TheVariants as stream_fault
use Rattle.h3_connection.specs.Endpoint.{EndpointHistory, new_endpoint}
use Rattle.h3_connection.specs.CallLists.{Call, Result}
use Rattle.h3_connection.specs.CallLists.Call.{OpenRequest, SendHead, Outgoing, Deliver, DeliverReset, PullStream, Cancel, Show}
use Rattle.h3_connection.specs.CallLists.Result.{Opened, Done, Refused, Waits, Pulled, Shown}
use Rattle.h3_connection_rows.specs.Worked.{hex, field, head, plain}

abbrev pub settings_then_table_in_use_endpoint : EndpointHistory
settings_then_table_in_use_endpoint = new_endpoint Client (plain 1000 0 0)

abbrev pub settings_then_table_in_use : List Call
settings_then_table_in_use =
    OpenRequest ∷
    OpenRequest ∷
    OpenRequest ∷
    Deliver 3 (hex (codes "0004050140dc0702")) ∷
    Outgoing 6 ∷
    SendHead 0 (head (field (codes ":method") (codes "GET") ∷ field (codes ":scheme") (codes "https") ∷ field (codes ":authority") (codes "www.example.com") ∷ field (codes ":path") (codes "/sample/path") ∷ [])) ∷
    Outgoing 6 ∷
    Outgoing 0 ∷
    SendHead 4 (head (field (codes ":method") (codes "GET") ∷ field (codes ":scheme") (codes "https") ∷ field (codes ":authority") (codes "www.example.com") ∷ field (codes ":path") (codes "/sample/path") ∷ [])) ∷
    SendHead 8 (head (field (codes ":method") (codes "GET") ∷ field (codes ":scheme") (codes "https") ∷ field (codes ":authority") (codes "www.example.com") ∷ field (codes ":path") (codes "/sample/path") ∷ [])) ∷
    Outgoing 4 ∷
    Outgoing 8 ∷
    []

abbrev pub settings_then_table_in_use_answers : List Result
settings_then_table_in_use_answers =
    Opened 0 ∷
    Opened 4 ∷
    Opened 8 ∷
    Done ∷
    Waits (hex (codes "023fbd01")) ∷
    Done ∷
    Waits (hex (codes "023fbd01c08cf1e3c2e5f23a6ba0ab90f4ffc1896103a6ba0ac5634cff")) ∷
    Waits (hex (codes "01060381d1d71011")) ∷
    Done ∷
    Done ∷
    Waits (hex (codes "01060300d1d78180")) ∷
    Waits (hex (codes "011d0000d1d7508cf1e3c2e5f23a6ba0ab90f4ff51896103a6ba0ac5634cff")) ∷
    []

abbrev pub canceled_without_an_increment_endpoint : EndpointHistory
canceled_without_an_increment_endpoint = new_endpoint Server (plain 1000 0 0)

abbrev pub canceled_without_an_increment : List Call
canceled_without_an_increment =
    Deliver 0 [] ∷
    Deliver 4 [] ∷
    Deliver 2 (hex (codes "000405014040070a")) ∷
    SendHead 0 (head (field (codes ":status") (codes "200") ∷ field (codes "x-a") (codes "1") ∷ [])) ∷
    Outgoing 7 ∷
    Outgoing 0 ∷
    Deliver 10 (hex (codes "0340")) ∷
    SendHead 4 (head (field (codes ":status") (codes "200") ∷ field (codes "x-b") (codes "2") ∷ [])) ∷
    Outgoing 4 ∷
    []

abbrev pub canceled_without_an_increment_answers : List Result
canceled_without_an_increment_answers =
    Done ∷
    Done ∷
    Done ∷
    Done ∷
    Waits (hex (codes "023f2163f2b0ff810f")) ∷
    Waits (hex (codes "01040280d910")) ∷
    Done ∷
    Done ∷
    Waits (hex (codes "01090000d92bf2b47f8117")) ∷
    []

abbrev pub increment_and_acknowledgment_read_endpoint : EndpointHistory
increment_and_acknowledgment_read_endpoint = new_endpoint Server (plain 1000 0 0)

abbrev pub increment_and_acknowledgment_read : List Call
increment_and_acknowledgment_read =
    Deliver 0 [] ∷
    Deliver 4 [] ∷
    Deliver 2 (hex (codes "000405014040070a")) ∷
    SendHead 0 (head (field (codes ":status") (codes "200") ∷ field (codes "x-a") (codes "1") ∷ [])) ∷
    Outgoing 7 ∷
    Outgoing 0 ∷
    Deliver 10 (hex (codes "030180")) ∷
    SendHead 4 (head (field (codes ":status") (codes "200") ∷ field (codes "x-b") (codes "2") ∷ [])) ∷
    Outgoing 7 ∷
    Outgoing 4 ∷
    []

abbrev pub increment_and_acknowledgment_read_answers : List Result
increment_and_acknowledgment_read_answers =
    Done ∷
    Done ∷
    Done ∷
    Done ∷
    Waits (hex (codes "023f2163f2b0ff810f")) ∷
    Waits (hex (codes "01040280d910")) ∷
    Done ∷
    Done ∷
    Waits (hex (codes "023f2163f2b0ff810f63f2b47f8117")) ∷
    Waits (hex (codes "01040380d910")) ∷
    []

abbrev pub head_waits_for_insertions_endpoint : EndpointHistory
head_waits_for_insertions_endpoint = new_endpoint Server (plain 1000 220 2)

abbrev pub head_waits_for_insertions : List Call
head_waits_for_insertions =
    Deliver 4 (hex (codes "01060381d1d71011")) ∷
    PullStream 4 ∷
    Deliver 6 (hex (codes "023fbd01c00f7777772e6578616d706c652e636f6dc10c2f73616d706c652f70617468")) ∷
    PullStream 4 ∷
    Outgoing 11 ∷
    []

abbrev pub head_waits_for_insertions_answers : List Result
head_waits_for_insertions_answers =
    Done ∷
    Pulled (pulls.Waiting 2) ∷
    Done ∷
    Pulled (pulls.Item (item.Head (head (field (codes ":method") (codes "GET") ∷ field (codes ":scheme") (codes "https") ∷ field (codes ":authority") (codes "www.example.com") ∷ field (codes ":path") (codes "/sample/path") ∷ [])))) ∷
    Waits (hex (codes "030284")) ∷
    []

abbrev pub canceled_while_it_waits_endpoint : EndpointHistory
canceled_while_it_waits_endpoint = new_endpoint Server (plain 1000 220 2)

abbrev pub canceled_while_it_waits : List Call
canceled_while_it_waits =
    Deliver 4 (hex (codes "01060381d1d71011")) ∷
    PullStream 4 ∷
    Cancel 4 ∷
    Outgoing 11 ∷
    PullStream 4 ∷
    PullStream 4 ∷
    []

abbrev pub canceled_while_it_waits_answers : List Result
canceled_while_it_waits_answers =
    Done ∷
    Pulled (pulls.Waiting 2) ∷
    Done ∷
    Waits (hex (codes "0344")) ∷
    Pulled (pulls.Fault (fault.Stream stream_fault.Canceled)) ∷
    Pulled (pulls.Fault (fault.Stream stream_fault.Canceled)) ∷
    []

abbrev pub no_stream_may_wait_endpoint : EndpointHistory
no_stream_may_wait_endpoint = new_endpoint Server (plain 1000 220 0)

abbrev pub no_stream_may_wait : List Call
no_stream_may_wait =
    Deliver 4 (hex (codes "01060381d1d71011")) ∷
    PullStream 4 ∷
    []

abbrev pub no_stream_may_wait_answers : List Result
no_stream_may_wait_answers =
    Done ∷
    Pulled (pulls.Fault (fault.Connection 512)) ∷
    []

abbrev pub one_stream_too_many_waits_endpoint : EndpointHistory
one_stream_too_many_waits_endpoint = new_endpoint Server (plain 1000 220 1)

abbrev pub one_stream_too_many_waits : List Call
one_stream_too_many_waits =
    Deliver 0 (hex (codes "01060381d1d71011")) ∷
    Deliver 4 (hex (codes "01060381d1d71011")) ∷
    PullStream 0 ∷
    PullStream 0 ∷
    Show ∷
    PullStream 4 ∷
    PullStream 0 ∷
    Show ∷
    []

abbrev pub one_stream_too_many_waits_answers : List Result
one_stream_too_many_waits_answers =
    Done ∷
    Done ∷
    Pulled (pulls.Waiting 2) ∷
    Pulled (pulls.Waiting 2) ∷
    Shown (None) (record { sending = 0; receiving = 0 }) 1 ∷
    Pulled (pulls.Fault (fault.Connection 512)) ∷
    Pulled (pulls.Fault (fault.Connection 512)) ∷
    Shown (None) (record { sending = 0; receiving = 0 }) 1 ∷
    []

abbrev pub section_missing_at_its_second_try_endpoint : EndpointHistory
section_missing_at_its_second_try_endpoint = new_endpoint Server (plain 1000 64 1)

abbrev pub section_missing_at_its_second_try : List Call
section_missing_at_its_second_try =
    Deliver 0 (hex (codes "01040280d110")) ∷
    PullStream 0 ∷
    Deliver 6 (hex (codes "023f2163f2b0ff810f63f2b0ff810f63f2b0ff810f")) ∷
    PullStream 0 ∷
    []

abbrev pub section_missing_at_its_second_try_answers : List Result
section_missing_at_its_second_try_answers =
    Done ∷
    Pulled (pulls.Waiting 1) ∷
    Done ∷
    Pulled (pulls.Fault (fault.Connection 512)) ∷
    []

abbrev pub acknowledged_and_then_canceled_endpoint : EndpointHistory
acknowledged_and_then_canceled_endpoint = new_endpoint Server (plain 1000 64 1)

abbrev pub acknowledged_and_then_canceled : List Call
acknowledged_and_then_canceled =
    Deliver 4 (hex (codes "01040280d110")) ∷
    PullStream 4 ∷
    Deliver 6 (hex (codes "023f2163f2b0ff810f")) ∷
    PullStream 4 ∷
    PullStream 4 ∷
    Outgoing 11 ∷
    []

abbrev pub acknowledged_and_then_canceled_answers : List Result
acknowledged_and_then_canceled_answers =
    Done ∷
    Pulled (pulls.Waiting 1) ∷
    Done ∷
    Pulled (pulls.Item (item.Head (head (field (codes ":method") (codes "GET") ∷ field (codes "x-a") (codes "1") ∷ [])))) ∷
    Pulled (pulls.Pending) ∷
    Waits (hex (codes "030184")) ∷
    []

abbrev pub canceled_stream_makes_room_endpoint : EndpointHistory
canceled_stream_makes_room_endpoint = new_endpoint Server (plain 1000 220 1)

abbrev pub canceled_stream_makes_room : List Call
canceled_stream_makes_room =
    Deliver 0 (hex (codes "01060381d1d71011")) ∷
    Deliver 4 (hex (codes "01060381d1d71011")) ∷
    PullStream 0 ∷
    Cancel 0 ∷
    PullStream 4 ∷
    DeliverReset 4 7 ∷
    Deliver 8 (hex (codes "01060381d1d71011")) ∷
    PullStream 8 ∷
    Show ∷
    []

abbrev pub canceled_stream_makes_room_answers : List Result
canceled_stream_makes_room_answers =
    Done ∷
    Done ∷
    Pulled (pulls.Waiting 2) ∷
    Done ∷
    Pulled (pulls.Waiting 2) ∷
    Done ∷
    Done ∷
    Pulled (pulls.Waiting 2) ∷
    Shown (None) (record { sending = 0; receiving = 0 }) 1 ∷
    []

abbrev pub waits_for_all_insertions_endpoint : EndpointHistory
waits_for_all_insertions_endpoint = new_endpoint Server (plain 1000 220 2)

abbrev pub waits_for_all_insertions : List Call
waits_for_all_insertions =
    Deliver 4 (hex (codes "01060381d1d71011")) ∷
    PullStream 4 ∷
    Deliver 6 (hex (codes "023fbd01c00f7777772e6578616d706c652e636f6d")) ∷
    PullStream 4 ∷
    Deliver 6 (hex (codes "c10c2f73616d706c652f70617468")) ∷
    Outgoing 11 ∷
    PullStream 4 ∷
    Outgoing 11 ∷
    []

abbrev pub waits_for_all_insertions_answers : List Result
waits_for_all_insertions_answers =
    Done ∷
    Pulled (pulls.Waiting 2) ∷
    Done ∷
    Pulled (pulls.Waiting 2) ∷
    Done ∷
    Waits (hex (codes "030101")) ∷
    Pulled (pulls.Item (item.Head (head (field (codes ":method") (codes "GET") ∷ field (codes ":scheme") (codes "https") ∷ field (codes ":authority") (codes "www.example.com") ∷ field (codes ":path") (codes "/sample/path") ∷ [])))) ∷
    Waits (hex (codes "03010184")) ∷
    []

abbrev pub settings_in_pieces_endpoint : EndpointHistory
settings_in_pieces_endpoint = new_endpoint Client (plain 1000 0 0)

abbrev pub settings_in_pieces : List Call
settings_in_pieces =
    Deliver 11 (hex (codes "033f00")) ∷
    Deliver 3 (hex (codes "0004040140dc07010d0100")) ∷
    Show ∷
    Outgoing 6 ∷
    []

abbrev pub settings_in_pieces_answers : List Result
settings_in_pieces_answers =
    Done ∷
    Refused (refusal.Connection 262) ∷
    Shown (None) (record { sending = 0; receiving = 0 }) 0 ∷
    Waits (hex (codes "02")) ∷
    []

abbrev pub decoder_bytes_before_settings_endpoint : EndpointHistory
decoder_bytes_before_settings_endpoint = new_endpoint Client (plain 1000 0 0)

abbrev pub decoder_bytes_before_settings : List Call
decoder_bytes_before_settings =
    Deliver 11 (hex (codes "0380")) ∷
    Deliver 3 (hex (codes "0004")) ∷
    Deliver 3 (hex (codes "00")) ∷
    []

abbrev pub decoder_bytes_before_settings_answers : List Result
decoder_bytes_before_settings_answers =
    Done ∷
    Done ∷
    Refused (refusal.Connection 514) ∷
    []

abbrev pub interim_heads_in_the_table_endpoint : EndpointHistory
interim_heads_in_the_table_endpoint = new_endpoint Server (plain 1000 0 0)

abbrev pub interim_heads_in_the_table : List Call
interim_heads_in_the_table =
    Deliver 0 [] ∷
    Deliver 4 [] ∷
    Deliver 2 (hex (codes "000405014040070a")) ∷
    SendHead 0 (head (field (codes ":status") (codes "103") ∷ field (codes "x-a") (codes "1") ∷ [])) ∷
    SendHead 0 (head (field (codes ":status") (codes "103") ∷ field (codes "x-a") (codes "1") ∷ [])) ∷
    SendHead 0 (head (field (codes ":status") (codes "200") ∷ field (codes "x-a") (codes "1") ∷ [])) ∷
    Outgoing 7 ∷
    Outgoing 0 ∷
    []

abbrev pub interim_heads_in_the_table_answers : List Result
interim_heads_in_the_table_answers =
    Done ∷
    Done ∷
    Done ∷
    Done ∷
    Done ∷
    Done ∷
    Waits (hex (codes "023f2163f2b0ff810f")) ∷
    Waits (hex (codes "01040280d81001040200d88001040200d980")) ∷
    []

abbrev pub canceled_stream_without_the_table_endpoint : EndpointHistory
canceled_stream_without_the_table_endpoint = new_endpoint Server (plain 1000 0 0)

abbrev pub canceled_stream_without_the_table : List Call
canceled_stream_without_the_table =
    Deliver 0 [] ∷
    Deliver 4 [] ∷
    Deliver 8 [] ∷
    Deliver 2 (hex (codes "000405014040070a")) ∷
    Deliver 10 (hex (codes "0340")) ∷
    SendHead 0 (head (field (codes ":status") (codes "200") ∷ field (codes "x-a") (codes "1") ∷ [])) ∷
    Outgoing 0 ∷
    Outgoing 7 ∷
    SendHead 4 (head (field (codes ":status") (codes "200") ∷ field (codes "x-a") (codes "1") ∷ [])) ∷
    Outgoing 4 ∷
    Outgoing 7 ∷
    SendHead 8 (head (field (codes ":status") (codes "200") ∷ field (codes "x-a") (codes "1") ∷ [])) ∷
    Deliver 10 (hex (codes "0188")) ∷
    Outgoing 8 ∷
    []

abbrev pub canceled_stream_without_the_table_answers : List Result
canceled_stream_without_the_table_answers =
    Done ∷
    Done ∷
    Done ∷
    Done ∷
    Done ∷
    Done ∷
    Waits (hex (codes "01090000d92bf2b0ff810f")) ∷
    Waits (hex (codes "023f21")) ∷
    Done ∷
    Waits (hex (codes "01040280d910")) ∷
    Waits (hex (codes "023f2163f2b0ff810f")) ∷
    Done ∷
    Done ∷
    Waits (hex (codes "01040200d980")) ∷
    []

abbrev pub cancellation_releases_all_sections_endpoint : EndpointHistory
cancellation_releases_all_sections_endpoint = new_endpoint Server (plain 1000 0 0)

abbrev pub cancellation_releases_all_sections : List Call
cancellation_releases_all_sections =
    Deliver 0 [] ∷
    Deliver 4 [] ∷
    Deliver 2 (hex (codes "000405014040070a")) ∷
    SendHead 0 (head (field (codes ":status") (codes "103") ∷ field (codes "x-a") (codes "1") ∷ [])) ∷
    SendHead 0 (head (field (codes ":status") (codes "103") ∷ field (codes "x-a") (codes "1") ∷ [])) ∷
    SendHead 0 (head (field (codes ":status") (codes "200") ∷ field (codes "x-a") (codes "1") ∷ [])) ∷
    Outgoing 0 ∷
    Outgoing 7 ∷
    Deliver 10 (hex (codes "030140")) ∷
    SendHead 4 (head (field (codes ":status") (codes "200") ∷ field (codes "x-b") (codes "2") ∷ [])) ∷
    Outgoing 4 ∷
    Outgoing 7 ∷
    []

abbrev pub cancellation_releases_all_sections_answers : List Result
cancellation_releases_all_sections_answers =
    Done ∷
    Done ∷
    Done ∷
    Done ∷
    Done ∷
    Done ∷
    Waits (hex (codes "01040280d81001040200d88001040200d980")) ∷
    Waits (hex (codes "023f2163f2b0ff810f")) ∷
    Done ∷
    Done ∷
    Waits (hex (codes "01040380d910")) ∷
    Waits (hex (codes "023f2163f2b0ff810f63f2b47f8117")) ∷
    []
