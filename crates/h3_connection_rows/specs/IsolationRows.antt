-- Worked rows of one stream beside calls of others.
use Rattle.std.specs.Prelude.{List, [], ◌∷◌, codes}
use Rattle.h3_proto.specs.declared.stream.Side.TheVariants.{Server}
use Rattle.h3_connection.specs.declared.event.Item.TheVariants as item
use Rattle.h3_connection.specs.declared.event.Pull.TheVariants as pulls
use Rattle.h3_connection.specs.declared.event.Fault.TheVariants as fault
use Rattle.h3_connection.specs.declared.event.StreamFault.TheVariants as stream_fault
use Rattle.h3_connection.specs.declared.event.Malformation.TheVariants as malformation
use Rattle.h3_connection.specs.Endpoint.{EndpointHistory, new_endpoint}
use Rattle.h3_connection.specs.CallLists.{Call, Result}
use Rattle.h3_connection.specs.CallLists.Call.{Deliver, PullStream, Cancel}
use Rattle.h3_connection.specs.CallLists.Result.{Done, Pulled}
use Rattle.h3_connection_rows.specs.Worked.{hex, field, head, plain}

abbrev pub beside_a_malformed_head_at_0_endpoint : EndpointHistory
beside_a_malformed_head_at_0_endpoint = new_endpoint Server (plain 1000 220 2)

abbrev pub beside_a_malformed_head_at_0 : List Call
beside_a_malformed_head_at_0 =
    Deliver 0 (hex (codes "01090000d923582d410131")) ∷
    PullStream 0 ∷
    Deliver 4 (hex (codes "01060381d1d71011")) ∷
    PullStream 4 ∷
    Deliver 6 (hex (codes "023fbd01c00f7777772e6578616d706c652e636f6dc10c2f73616d706c652f70617468")) ∷
    PullStream 4 ∷
    []

abbrev pub beside_a_malformed_head_at_0_answers : List Result
beside_a_malformed_head_at_0_answers =
    Done ∷
    Pulled (pulls.Fault (fault.Stream (stream_fault.Malformed malformation.Name))) ∷
    Done ∷
    Pulled (pulls.Waiting 2) ∷
    Done ∷
    Pulled (pulls.Item (item.Head (head (field (codes ":method") (codes "GET") ∷ field (codes ":scheme") (codes "https") ∷ field (codes ":authority") (codes "www.example.com") ∷ field (codes ":path") (codes "/sample/path") ∷ [])))) ∷
    []

abbrev pub beside_an_unknown_stream_at_0_endpoint : EndpointHistory
beside_an_unknown_stream_at_0_endpoint = new_endpoint Server (plain 1000 220 2)

abbrev pub beside_an_unknown_stream_at_0 : List Call
beside_an_unknown_stream_at_0 =
    Deliver 14 (hex (codes "2107")) ∷
    Deliver 4 (hex (codes "01060381d1d71011")) ∷
    PullStream 4 ∷
    Deliver 6 (hex (codes "023fbd01c00f7777772e6578616d706c652e636f6dc10c2f73616d706c652f70617468")) ∷
    PullStream 4 ∷
    []

abbrev pub beside_an_unknown_stream_at_0_answers : List Result
beside_an_unknown_stream_at_0_answers =
    Done ∷
    Done ∷
    Pulled (pulls.Waiting 2) ∷
    Done ∷
    Pulled (pulls.Item (item.Head (head (field (codes ":method") (codes "GET") ∷ field (codes ":scheme") (codes "https") ∷ field (codes ":authority") (codes "www.example.com") ∷ field (codes ":path") (codes "/sample/path") ∷ [])))) ∷
    []

abbrev pub beside_a_cancellation_at_0_endpoint : EndpointHistory
beside_a_cancellation_at_0_endpoint = new_endpoint Server (plain 1000 220 2)

abbrev pub beside_a_cancellation_at_0 : List Call
beside_a_cancellation_at_0 =
    Deliver 8 [] ∷
    Cancel 8 ∷
    Deliver 4 (hex (codes "01060381d1d71011")) ∷
    PullStream 4 ∷
    Deliver 6 (hex (codes "023fbd01c00f7777772e6578616d706c652e636f6dc10c2f73616d706c652f70617468")) ∷
    PullStream 4 ∷
    []

abbrev pub beside_a_cancellation_at_0_answers : List Result
beside_a_cancellation_at_0_answers =
    Done ∷
    Done ∷
    Done ∷
    Pulled (pulls.Waiting 2) ∷
    Done ∷
    Pulled (pulls.Item (item.Head (head (field (codes ":method") (codes "GET") ∷ field (codes ":scheme") (codes "https") ∷ field (codes ":authority") (codes "www.example.com") ∷ field (codes ":path") (codes "/sample/path") ∷ [])))) ∷
    []

abbrev pub beside_settings_at_0_endpoint : EndpointHistory
beside_settings_at_0_endpoint = new_endpoint Server (plain 1000 220 2)

abbrev pub beside_settings_at_0 : List Call
beside_settings_at_0 =
    Deliver 2 (hex (codes "000400")) ∷
    Deliver 4 (hex (codes "01060381d1d71011")) ∷
    PullStream 4 ∷
    Deliver 6 (hex (codes "023fbd01c00f7777772e6578616d706c652e636f6dc10c2f73616d706c652f70617468")) ∷
    PullStream 4 ∷
    []

abbrev pub beside_settings_at_0_answers : List Result
beside_settings_at_0_answers =
    Done ∷
    Done ∷
    Pulled (pulls.Waiting 2) ∷
    Done ∷
    Pulled (pulls.Item (item.Head (head (field (codes ":method") (codes "GET") ∷ field (codes ":scheme") (codes "https") ∷ field (codes ":authority") (codes "www.example.com") ∷ field (codes ":path") (codes "/sample/path") ∷ [])))) ∷
    []

abbrev pub beside_all_of_them_at_0_endpoint : EndpointHistory
beside_all_of_them_at_0_endpoint = new_endpoint Server (plain 1000 220 2)

abbrev pub beside_all_of_them_at_0 : List Call
beside_all_of_them_at_0 =
    Deliver 0 (hex (codes "01090000d923582d410131")) ∷
    PullStream 0 ∷
    Deliver 14 (hex (codes "2107")) ∷
    Deliver 8 [] ∷
    Cancel 8 ∷
    Deliver 2 (hex (codes "000400")) ∷
    Deliver 4 (hex (codes "01060381d1d71011")) ∷
    PullStream 4 ∷
    Deliver 6 (hex (codes "023fbd01c00f7777772e6578616d706c652e636f6dc10c2f73616d706c652f70617468")) ∷
    PullStream 4 ∷
    []

abbrev pub beside_all_of_them_at_0_answers : List Result
beside_all_of_them_at_0_answers =
    Done ∷
    Pulled (pulls.Fault (fault.Stream (stream_fault.Malformed malformation.Name))) ∷
    Done ∷
    Done ∷
    Done ∷
    Done ∷
    Done ∷
    Pulled (pulls.Waiting 2) ∷
    Done ∷
    Pulled (pulls.Item (item.Head (head (field (codes ":method") (codes "GET") ∷ field (codes ":scheme") (codes "https") ∷ field (codes ":authority") (codes "www.example.com") ∷ field (codes ":path") (codes "/sample/path") ∷ [])))) ∷
    []

abbrev pub beside_a_malformed_head_at_1_endpoint : EndpointHistory
beside_a_malformed_head_at_1_endpoint = new_endpoint Server (plain 1000 220 2)

abbrev pub beside_a_malformed_head_at_1 : List Call
beside_a_malformed_head_at_1 =
    Deliver 4 (hex (codes "01060381d1d71011")) ∷
    Deliver 0 (hex (codes "01090000d923582d410131")) ∷
    PullStream 0 ∷
    PullStream 4 ∷
    Deliver 6 (hex (codes "023fbd01c00f7777772e6578616d706c652e636f6dc10c2f73616d706c652f70617468")) ∷
    PullStream 4 ∷
    []

abbrev pub beside_a_malformed_head_at_1_answers : List Result
beside_a_malformed_head_at_1_answers =
    Done ∷
    Done ∷
    Pulled (pulls.Fault (fault.Stream (stream_fault.Malformed malformation.Name))) ∷
    Pulled (pulls.Waiting 2) ∷
    Done ∷
    Pulled (pulls.Item (item.Head (head (field (codes ":method") (codes "GET") ∷ field (codes ":scheme") (codes "https") ∷ field (codes ":authority") (codes "www.example.com") ∷ field (codes ":path") (codes "/sample/path") ∷ [])))) ∷
    []

abbrev pub beside_an_unknown_stream_at_1_endpoint : EndpointHistory
beside_an_unknown_stream_at_1_endpoint = new_endpoint Server (plain 1000 220 2)

abbrev pub beside_an_unknown_stream_at_1 : List Call
beside_an_unknown_stream_at_1 =
    Deliver 4 (hex (codes "01060381d1d71011")) ∷
    Deliver 14 (hex (codes "2107")) ∷
    PullStream 4 ∷
    Deliver 6 (hex (codes "023fbd01c00f7777772e6578616d706c652e636f6dc10c2f73616d706c652f70617468")) ∷
    PullStream 4 ∷
    []

abbrev pub beside_an_unknown_stream_at_1_answers : List Result
beside_an_unknown_stream_at_1_answers =
    Done ∷
    Done ∷
    Pulled (pulls.Waiting 2) ∷
    Done ∷
    Pulled (pulls.Item (item.Head (head (field (codes ":method") (codes "GET") ∷ field (codes ":scheme") (codes "https") ∷ field (codes ":authority") (codes "www.example.com") ∷ field (codes ":path") (codes "/sample/path") ∷ [])))) ∷
    []

abbrev pub beside_a_cancellation_at_1_endpoint : EndpointHistory
beside_a_cancellation_at_1_endpoint = new_endpoint Server (plain 1000 220 2)

abbrev pub beside_a_cancellation_at_1 : List Call
beside_a_cancellation_at_1 =
    Deliver 4 (hex (codes "01060381d1d71011")) ∷
    Deliver 8 [] ∷
    Cancel 8 ∷
    PullStream 4 ∷
    Deliver 6 (hex (codes "023fbd01c00f7777772e6578616d706c652e636f6dc10c2f73616d706c652f70617468")) ∷
    PullStream 4 ∷
    []

abbrev pub beside_a_cancellation_at_1_answers : List Result
beside_a_cancellation_at_1_answers =
    Done ∷
    Done ∷
    Done ∷
    Pulled (pulls.Waiting 2) ∷
    Done ∷
    Pulled (pulls.Item (item.Head (head (field (codes ":method") (codes "GET") ∷ field (codes ":scheme") (codes "https") ∷ field (codes ":authority") (codes "www.example.com") ∷ field (codes ":path") (codes "/sample/path") ∷ [])))) ∷
    []

abbrev pub beside_settings_at_1_endpoint : EndpointHistory
beside_settings_at_1_endpoint = new_endpoint Server (plain 1000 220 2)

abbrev pub beside_settings_at_1 : List Call
beside_settings_at_1 =
    Deliver 4 (hex (codes "01060381d1d71011")) ∷
    Deliver 2 (hex (codes "000400")) ∷
    PullStream 4 ∷
    Deliver 6 (hex (codes "023fbd01c00f7777772e6578616d706c652e636f6dc10c2f73616d706c652f70617468")) ∷
    PullStream 4 ∷
    []

abbrev pub beside_settings_at_1_answers : List Result
beside_settings_at_1_answers =
    Done ∷
    Done ∷
    Pulled (pulls.Waiting 2) ∷
    Done ∷
    Pulled (pulls.Item (item.Head (head (field (codes ":method") (codes "GET") ∷ field (codes ":scheme") (codes "https") ∷ field (codes ":authority") (codes "www.example.com") ∷ field (codes ":path") (codes "/sample/path") ∷ [])))) ∷
    []

abbrev pub beside_all_of_them_at_1_endpoint : EndpointHistory
beside_all_of_them_at_1_endpoint = new_endpoint Server (plain 1000 220 2)

abbrev pub beside_all_of_them_at_1 : List Call
beside_all_of_them_at_1 =
    Deliver 4 (hex (codes "01060381d1d71011")) ∷
    Deliver 0 (hex (codes "01090000d923582d410131")) ∷
    PullStream 0 ∷
    Deliver 14 (hex (codes "2107")) ∷
    Deliver 8 [] ∷
    Cancel 8 ∷
    Deliver 2 (hex (codes "000400")) ∷
    PullStream 4 ∷
    Deliver 6 (hex (codes "023fbd01c00f7777772e6578616d706c652e636f6dc10c2f73616d706c652f70617468")) ∷
    PullStream 4 ∷
    []

abbrev pub beside_all_of_them_at_1_answers : List Result
beside_all_of_them_at_1_answers =
    Done ∷
    Done ∷
    Pulled (pulls.Fault (fault.Stream (stream_fault.Malformed malformation.Name))) ∷
    Done ∷
    Done ∷
    Done ∷
    Done ∷
    Pulled (pulls.Waiting 2) ∷
    Done ∷
    Pulled (pulls.Item (item.Head (head (field (codes ":method") (codes "GET") ∷ field (codes ":scheme") (codes "https") ∷ field (codes ":authority") (codes "www.example.com") ∷ field (codes ":path") (codes "/sample/path") ∷ [])))) ∷
    []

abbrev pub beside_a_malformed_head_at_2_endpoint : EndpointHistory
beside_a_malformed_head_at_2_endpoint = new_endpoint Server (plain 1000 220 2)

abbrev pub beside_a_malformed_head_at_2 : List Call
beside_a_malformed_head_at_2 =
    Deliver 4 (hex (codes "01060381d1d71011")) ∷
    PullStream 4 ∷
    Deliver 0 (hex (codes "01090000d923582d410131")) ∷
    PullStream 0 ∷
    Deliver 6 (hex (codes "023fbd01c00f7777772e6578616d706c652e636f6dc10c2f73616d706c652f70617468")) ∷
    PullStream 4 ∷
    []

abbrev pub beside_a_malformed_head_at_2_answers : List Result
beside_a_malformed_head_at_2_answers =
    Done ∷
    Pulled (pulls.Waiting 2) ∷
    Done ∷
    Pulled (pulls.Fault (fault.Stream (stream_fault.Malformed malformation.Name))) ∷
    Done ∷
    Pulled (pulls.Item (item.Head (head (field (codes ":method") (codes "GET") ∷ field (codes ":scheme") (codes "https") ∷ field (codes ":authority") (codes "www.example.com") ∷ field (codes ":path") (codes "/sample/path") ∷ [])))) ∷
    []

abbrev pub beside_an_unknown_stream_at_2_endpoint : EndpointHistory
beside_an_unknown_stream_at_2_endpoint = new_endpoint Server (plain 1000 220 2)

abbrev pub beside_an_unknown_stream_at_2 : List Call
beside_an_unknown_stream_at_2 =
    Deliver 4 (hex (codes "01060381d1d71011")) ∷
    PullStream 4 ∷
    Deliver 14 (hex (codes "2107")) ∷
    Deliver 6 (hex (codes "023fbd01c00f7777772e6578616d706c652e636f6dc10c2f73616d706c652f70617468")) ∷
    PullStream 4 ∷
    []

abbrev pub beside_an_unknown_stream_at_2_answers : List Result
beside_an_unknown_stream_at_2_answers =
    Done ∷
    Pulled (pulls.Waiting 2) ∷
    Done ∷
    Done ∷
    Pulled (pulls.Item (item.Head (head (field (codes ":method") (codes "GET") ∷ field (codes ":scheme") (codes "https") ∷ field (codes ":authority") (codes "www.example.com") ∷ field (codes ":path") (codes "/sample/path") ∷ [])))) ∷
    []

abbrev pub beside_a_cancellation_at_2_endpoint : EndpointHistory
beside_a_cancellation_at_2_endpoint = new_endpoint Server (plain 1000 220 2)

abbrev pub beside_a_cancellation_at_2 : List Call
beside_a_cancellation_at_2 =
    Deliver 4 (hex (codes "01060381d1d71011")) ∷
    PullStream 4 ∷
    Deliver 8 [] ∷
    Cancel 8 ∷
    Deliver 6 (hex (codes "023fbd01c00f7777772e6578616d706c652e636f6dc10c2f73616d706c652f70617468")) ∷
    PullStream 4 ∷
    []

abbrev pub beside_a_cancellation_at_2_answers : List Result
beside_a_cancellation_at_2_answers =
    Done ∷
    Pulled (pulls.Waiting 2) ∷
    Done ∷
    Done ∷
    Done ∷
    Pulled (pulls.Item (item.Head (head (field (codes ":method") (codes "GET") ∷ field (codes ":scheme") (codes "https") ∷ field (codes ":authority") (codes "www.example.com") ∷ field (codes ":path") (codes "/sample/path") ∷ [])))) ∷
    []

abbrev pub beside_settings_at_2_endpoint : EndpointHistory
beside_settings_at_2_endpoint = new_endpoint Server (plain 1000 220 2)

abbrev pub beside_settings_at_2 : List Call
beside_settings_at_2 =
    Deliver 4 (hex (codes "01060381d1d71011")) ∷
    PullStream 4 ∷
    Deliver 2 (hex (codes "000400")) ∷
    Deliver 6 (hex (codes "023fbd01c00f7777772e6578616d706c652e636f6dc10c2f73616d706c652f70617468")) ∷
    PullStream 4 ∷
    []

abbrev pub beside_settings_at_2_answers : List Result
beside_settings_at_2_answers =
    Done ∷
    Pulled (pulls.Waiting 2) ∷
    Done ∷
    Done ∷
    Pulled (pulls.Item (item.Head (head (field (codes ":method") (codes "GET") ∷ field (codes ":scheme") (codes "https") ∷ field (codes ":authority") (codes "www.example.com") ∷ field (codes ":path") (codes "/sample/path") ∷ [])))) ∷
    []

abbrev pub beside_all_of_them_at_2_endpoint : EndpointHistory
beside_all_of_them_at_2_endpoint = new_endpoint Server (plain 1000 220 2)

abbrev pub beside_all_of_them_at_2 : List Call
beside_all_of_them_at_2 =
    Deliver 4 (hex (codes "01060381d1d71011")) ∷
    PullStream 4 ∷
    Deliver 0 (hex (codes "01090000d923582d410131")) ∷
    PullStream 0 ∷
    Deliver 14 (hex (codes "2107")) ∷
    Deliver 8 [] ∷
    Cancel 8 ∷
    Deliver 2 (hex (codes "000400")) ∷
    Deliver 6 (hex (codes "023fbd01c00f7777772e6578616d706c652e636f6dc10c2f73616d706c652f70617468")) ∷
    PullStream 4 ∷
    []

abbrev pub beside_all_of_them_at_2_answers : List Result
beside_all_of_them_at_2_answers =
    Done ∷
    Pulled (pulls.Waiting 2) ∷
    Done ∷
    Pulled (pulls.Fault (fault.Stream (stream_fault.Malformed malformation.Name))) ∷
    Done ∷
    Done ∷
    Done ∷
    Done ∷
    Done ∷
    Pulled (pulls.Item (item.Head (head (field (codes ":method") (codes "GET") ∷ field (codes ":scheme") (codes "https") ∷ field (codes ":authority") (codes "www.example.com") ∷ field (codes ":path") (codes "/sample/path") ∷ [])))) ∷
    []

abbrev pub beside_a_malformed_head_at_3_endpoint : EndpointHistory
beside_a_malformed_head_at_3_endpoint = new_endpoint Server (plain 1000 220 2)

abbrev pub beside_a_malformed_head_at_3 : List Call
beside_a_malformed_head_at_3 =
    Deliver 4 (hex (codes "01060381d1d71011")) ∷
    PullStream 4 ∷
    Deliver 6 (hex (codes "023fbd01c00f7777772e6578616d706c652e636f6dc10c2f73616d706c652f70617468")) ∷
    Deliver 0 (hex (codes "01090000d923582d410131")) ∷
    PullStream 0 ∷
    PullStream 4 ∷
    []

abbrev pub beside_a_malformed_head_at_3_answers : List Result
beside_a_malformed_head_at_3_answers =
    Done ∷
    Pulled (pulls.Waiting 2) ∷
    Done ∷
    Done ∷
    Pulled (pulls.Fault (fault.Stream (stream_fault.Malformed malformation.Name))) ∷
    Pulled (pulls.Item (item.Head (head (field (codes ":method") (codes "GET") ∷ field (codes ":scheme") (codes "https") ∷ field (codes ":authority") (codes "www.example.com") ∷ field (codes ":path") (codes "/sample/path") ∷ [])))) ∷
    []

abbrev pub beside_an_unknown_stream_at_3_endpoint : EndpointHistory
beside_an_unknown_stream_at_3_endpoint = new_endpoint Server (plain 1000 220 2)

abbrev pub beside_an_unknown_stream_at_3 : List Call
beside_an_unknown_stream_at_3 =
    Deliver 4 (hex (codes "01060381d1d71011")) ∷
    PullStream 4 ∷
    Deliver 6 (hex (codes "023fbd01c00f7777772e6578616d706c652e636f6dc10c2f73616d706c652f70617468")) ∷
    Deliver 14 (hex (codes "2107")) ∷
    PullStream 4 ∷
    []

abbrev pub beside_an_unknown_stream_at_3_answers : List Result
beside_an_unknown_stream_at_3_answers =
    Done ∷
    Pulled (pulls.Waiting 2) ∷
    Done ∷
    Done ∷
    Pulled (pulls.Item (item.Head (head (field (codes ":method") (codes "GET") ∷ field (codes ":scheme") (codes "https") ∷ field (codes ":authority") (codes "www.example.com") ∷ field (codes ":path") (codes "/sample/path") ∷ [])))) ∷
    []

abbrev pub beside_a_cancellation_at_3_endpoint : EndpointHistory
beside_a_cancellation_at_3_endpoint = new_endpoint Server (plain 1000 220 2)

abbrev pub beside_a_cancellation_at_3 : List Call
beside_a_cancellation_at_3 =
    Deliver 4 (hex (codes "01060381d1d71011")) ∷
    PullStream 4 ∷
    Deliver 6 (hex (codes "023fbd01c00f7777772e6578616d706c652e636f6dc10c2f73616d706c652f70617468")) ∷
    Deliver 8 [] ∷
    Cancel 8 ∷
    PullStream 4 ∷
    []

abbrev pub beside_a_cancellation_at_3_answers : List Result
beside_a_cancellation_at_3_answers =
    Done ∷
    Pulled (pulls.Waiting 2) ∷
    Done ∷
    Done ∷
    Done ∷
    Pulled (pulls.Item (item.Head (head (field (codes ":method") (codes "GET") ∷ field (codes ":scheme") (codes "https") ∷ field (codes ":authority") (codes "www.example.com") ∷ field (codes ":path") (codes "/sample/path") ∷ [])))) ∷
    []

abbrev pub beside_settings_at_3_endpoint : EndpointHistory
beside_settings_at_3_endpoint = new_endpoint Server (plain 1000 220 2)

abbrev pub beside_settings_at_3 : List Call
beside_settings_at_3 =
    Deliver 4 (hex (codes "01060381d1d71011")) ∷
    PullStream 4 ∷
    Deliver 6 (hex (codes "023fbd01c00f7777772e6578616d706c652e636f6dc10c2f73616d706c652f70617468")) ∷
    Deliver 2 (hex (codes "000400")) ∷
    PullStream 4 ∷
    []

abbrev pub beside_settings_at_3_answers : List Result
beside_settings_at_3_answers =
    Done ∷
    Pulled (pulls.Waiting 2) ∷
    Done ∷
    Done ∷
    Pulled (pulls.Item (item.Head (head (field (codes ":method") (codes "GET") ∷ field (codes ":scheme") (codes "https") ∷ field (codes ":authority") (codes "www.example.com") ∷ field (codes ":path") (codes "/sample/path") ∷ [])))) ∷
    []

abbrev pub beside_all_of_them_at_3_endpoint : EndpointHistory
beside_all_of_them_at_3_endpoint = new_endpoint Server (plain 1000 220 2)

abbrev pub beside_all_of_them_at_3 : List Call
beside_all_of_them_at_3 =
    Deliver 4 (hex (codes "01060381d1d71011")) ∷
    PullStream 4 ∷
    Deliver 6 (hex (codes "023fbd01c00f7777772e6578616d706c652e636f6dc10c2f73616d706c652f70617468")) ∷
    Deliver 0 (hex (codes "01090000d923582d410131")) ∷
    PullStream 0 ∷
    Deliver 14 (hex (codes "2107")) ∷
    Deliver 8 [] ∷
    Cancel 8 ∷
    Deliver 2 (hex (codes "000400")) ∷
    PullStream 4 ∷
    []

abbrev pub beside_all_of_them_at_3_answers : List Result
beside_all_of_them_at_3_answers =
    Done ∷
    Pulled (pulls.Waiting 2) ∷
    Done ∷
    Done ∷
    Pulled (pulls.Fault (fault.Stream (stream_fault.Malformed malformation.Name))) ∷
    Done ∷
    Done ∷
    Done ∷
    Done ∷
    Pulled (pulls.Item (item.Head (head (field (codes ":method") (codes "GET") ∷ field (codes ":scheme") (codes "https") ∷ field (codes ":authority") (codes "www.example.com") ∷ field (codes ":path") (codes "/sample/path") ∷ [])))) ∷
    []

abbrev pub beside_a_malformed_head_at_4_endpoint : EndpointHistory
beside_a_malformed_head_at_4_endpoint = new_endpoint Server (plain 1000 220 2)

abbrev pub beside_a_malformed_head_at_4 : List Call
beside_a_malformed_head_at_4 =
    Deliver 4 (hex (codes "01060381d1d71011")) ∷
    PullStream 4 ∷
    Deliver 6 (hex (codes "023fbd01c00f7777772e6578616d706c652e636f6dc10c2f73616d706c652f70617468")) ∷
    PullStream 4 ∷
    Deliver 0 (hex (codes "01090000d923582d410131")) ∷
    PullStream 0 ∷
    []

abbrev pub beside_a_malformed_head_at_4_answers : List Result
beside_a_malformed_head_at_4_answers =
    Done ∷
    Pulled (pulls.Waiting 2) ∷
    Done ∷
    Pulled (pulls.Item (item.Head (head (field (codes ":method") (codes "GET") ∷ field (codes ":scheme") (codes "https") ∷ field (codes ":authority") (codes "www.example.com") ∷ field (codes ":path") (codes "/sample/path") ∷ [])))) ∷
    Done ∷
    Pulled (pulls.Fault (fault.Stream (stream_fault.Malformed malformation.Name))) ∷
    []

abbrev pub beside_an_unknown_stream_at_4_endpoint : EndpointHistory
beside_an_unknown_stream_at_4_endpoint = new_endpoint Server (plain 1000 220 2)

abbrev pub beside_an_unknown_stream_at_4 : List Call
beside_an_unknown_stream_at_4 =
    Deliver 4 (hex (codes "01060381d1d71011")) ∷
    PullStream 4 ∷
    Deliver 6 (hex (codes "023fbd01c00f7777772e6578616d706c652e636f6dc10c2f73616d706c652f70617468")) ∷
    PullStream 4 ∷
    Deliver 14 (hex (codes "2107")) ∷
    []

abbrev pub beside_an_unknown_stream_at_4_answers : List Result
beside_an_unknown_stream_at_4_answers =
    Done ∷
    Pulled (pulls.Waiting 2) ∷
    Done ∷
    Pulled (pulls.Item (item.Head (head (field (codes ":method") (codes "GET") ∷ field (codes ":scheme") (codes "https") ∷ field (codes ":authority") (codes "www.example.com") ∷ field (codes ":path") (codes "/sample/path") ∷ [])))) ∷
    Done ∷
    []

abbrev pub beside_a_cancellation_at_4_endpoint : EndpointHistory
beside_a_cancellation_at_4_endpoint = new_endpoint Server (plain 1000 220 2)

abbrev pub beside_a_cancellation_at_4 : List Call
beside_a_cancellation_at_4 =
    Deliver 4 (hex (codes "01060381d1d71011")) ∷
    PullStream 4 ∷
    Deliver 6 (hex (codes "023fbd01c00f7777772e6578616d706c652e636f6dc10c2f73616d706c652f70617468")) ∷
    PullStream 4 ∷
    Deliver 8 [] ∷
    Cancel 8 ∷
    []

abbrev pub beside_a_cancellation_at_4_answers : List Result
beside_a_cancellation_at_4_answers =
    Done ∷
    Pulled (pulls.Waiting 2) ∷
    Done ∷
    Pulled (pulls.Item (item.Head (head (field (codes ":method") (codes "GET") ∷ field (codes ":scheme") (codes "https") ∷ field (codes ":authority") (codes "www.example.com") ∷ field (codes ":path") (codes "/sample/path") ∷ [])))) ∷
    Done ∷
    Done ∷
    []

abbrev pub beside_settings_at_4_endpoint : EndpointHistory
beside_settings_at_4_endpoint = new_endpoint Server (plain 1000 220 2)

abbrev pub beside_settings_at_4 : List Call
beside_settings_at_4 =
    Deliver 4 (hex (codes "01060381d1d71011")) ∷
    PullStream 4 ∷
    Deliver 6 (hex (codes "023fbd01c00f7777772e6578616d706c652e636f6dc10c2f73616d706c652f70617468")) ∷
    PullStream 4 ∷
    Deliver 2 (hex (codes "000400")) ∷
    []

abbrev pub beside_settings_at_4_answers : List Result
beside_settings_at_4_answers =
    Done ∷
    Pulled (pulls.Waiting 2) ∷
    Done ∷
    Pulled (pulls.Item (item.Head (head (field (codes ":method") (codes "GET") ∷ field (codes ":scheme") (codes "https") ∷ field (codes ":authority") (codes "www.example.com") ∷ field (codes ":path") (codes "/sample/path") ∷ [])))) ∷
    Done ∷
    []

abbrev pub beside_all_of_them_at_4_endpoint : EndpointHistory
beside_all_of_them_at_4_endpoint = new_endpoint Server (plain 1000 220 2)

abbrev pub beside_all_of_them_at_4 : List Call
beside_all_of_them_at_4 =
    Deliver 4 (hex (codes "01060381d1d71011")) ∷
    PullStream 4 ∷
    Deliver 6 (hex (codes "023fbd01c00f7777772e6578616d706c652e636f6dc10c2f73616d706c652f70617468")) ∷
    PullStream 4 ∷
    Deliver 0 (hex (codes "01090000d923582d410131")) ∷
    PullStream 0 ∷
    Deliver 14 (hex (codes "2107")) ∷
    Deliver 8 [] ∷
    Cancel 8 ∷
    Deliver 2 (hex (codes "000400")) ∷
    []

abbrev pub beside_all_of_them_at_4_answers : List Result
beside_all_of_them_at_4_answers =
    Done ∷
    Pulled (pulls.Waiting 2) ∷
    Done ∷
    Pulled (pulls.Item (item.Head (head (field (codes ":method") (codes "GET") ∷ field (codes ":scheme") (codes "https") ∷ field (codes ":authority") (codes "www.example.com") ∷ field (codes ":path") (codes "/sample/path") ∷ [])))) ∷
    Done ∷
    Pulled (pulls.Fault (fault.Stream (stream_fault.Malformed malformation.Name))) ∷
    Done ∷
    Done ∷
    Done ∷
    Done ∷
    []
