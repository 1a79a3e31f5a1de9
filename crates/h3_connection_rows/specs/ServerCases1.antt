-- Hostile lists of calls of a server, with what the model of scripts/ answers to them. Made by scripts/gate/connection_cases.py.
use Rattle.std.specs.Prelude.{List, [], ◌∷◌, codes, Some, None}
use Rattle.h3_proto.specs.declared.stream.Side.TheVariants.{Server}
use Rattle.h3_connection.specs.declared.event.Item.TheVariants as item
use Rattle.h3_connection.specs.declared.event.Pull.TheVariants as pulls
use Rattle.h3_connection.specs.declared.event.Refusal.TheVariants as refusal
use Rattle.h3_connection.specs.declared.event.Fault.TheVariants as fault
use Rattle.h3_connection.specs.Endpoint.{EndpointHistory, new_endpoint}
use Rattle.h3_connection.specs.CallLists.{Call, Result}
use Rattle.h3_connection.specs.CallLists.Call.{OpenRequest, SendHead, SendBody, SendTrailer, Reset, Goaway, Outgoing, Deliver, DeliverEnd, DeliverReset, PullStream, Show}
use Rattle.h3_connection.specs.CallLists.Result.{Done, Refused, Waits, Pulled, Shown}
use Rattle.h3_connection_rows.specs.Worked.{hex, field, head, plain}

abbrev pub case_1_endpoint : EndpointHistory
case_1_endpoint = new_endpoint Server (plain 41 0 0)

abbrev pub case_1 : List Call
case_1 =
    Deliver 2 (hex (codes "0004094006")) ∷
    Deliver 2 (hex (codes "40500141900702070104")) ∷
    SendBody 4 (hex (codes "7879")) ∷
    Deliver 6 (hex (codes "02")) ∷
    Deliver 10 (hex (codes "03")) ∷
    Deliver 0 (hex (codes "012a")) ∷
    Deliver 0 (hex (codes "0000d1d750")) ∷
    Deliver 0 (hex (codes "8c")) ∷
    Deliver 0 (hex (codes "f1e3c2e5")) ∷
    Deliver 0 (hex (codes "f23a6ba0ab")) ∷
    Deliver 0 (hex (codes "90")) ∷
    Deliver 0 (hex (codes "f4ff")) ∷
    PullStream 4 ∷
    Deliver 0 (hex (codes "c1c5")) ∷
    Deliver 0 (hex (codes "2f")) ∷
    Deliver 0 (hex (codes "03")) ∷
    Deliver 0 (hex (codes "f2b507")) ∷
    Deliver 0 (hex (codes "aa62d8b543")) ∷
    Deliver 0 (hex (codes "a4")) ∷
    Deliver 0 (hex (codes "bf881d")) ∷
    Deliver 0 (hex (codes "522835")) ∷
    Deliver 0 (hex (codes "3b8e8b4b")) ∷
    Deliver 0 (hex (codes "c5")) ∷
    Deliver 0 (hex (codes "000362")) ∷
    PullStream 0 ∷
    Deliver 0 (hex (codes "63610108")) ∷
    Deliver 0 (hex (codes "00002bf2b4")) ∷
    Deliver 0 (hex (codes "7f8117")) ∷
    Goaway 3 ∷
    Deliver 4 (hex (codes "011c0000d4d7508cf1e3c2e5f23a6ba0ab90f4ff")) ∷
    Deliver 4 (hex (codes "c15281772b")) ∷
    Deliver 4 (hex (codes "f2b47f8117")) ∷
    Deliver 8 (hex (codes "01170000")) ∷
    Deliver 8 (hex (codes "d4")) ∷
    Deliver 8 (hex (codes "d7508cf1e3c2e5f23a6ba0ab90f4ff")) ∷
    PullStream 8 ∷
    Deliver 8 (hex (codes "c1c5528177")) ∷
    SendBody 12 (hex (codes "7879")) ∷
    DeliverEnd 8 ∷
    Show ∷
    OpenRequest ∷
    SendBody 8 [] ∷
    PullStream 8 ∷
    PullStream 0 ∷
    PullStream 4 ∷
    PullStream 12 ∷
    PullStream 0 ∷
    PullStream 0 ∷
    PullStream 4 ∷
    PullStream 8 ∷
    PullStream 12 ∷
    PullStream 14 ∷
    Outgoing 3 ∷
    Outgoing 7 ∷
    Outgoing 11 ∷
    Show ∷
    []

abbrev pub case_1_answers : List Result
case_1_answers =
    Done ∷
    Done ∷
    Refused refusal.NotOpen ∷
    Done ∷
    Done ∷
    Done ∷
    Done ∷
    Done ∷
    Done ∷
    Done ∷
    Done ∷
    Done ∷
    Pulled pulls.Pending ∷
    Done ∷
    Done ∷
    Done ∷
    Done ∷
    Done ∷
    Done ∷
    Done ∷
    Done ∷
    Done ∷
    Done ∷
    Done ∷
    Pulled (pulls.Item (item.TooLarge 313)) ∷
    Done ∷
    Done ∷
    Done ∷
    Refused refusal.NotRequestId ∷
    Done ∷
    Done ∷
    Done ∷
    Done ∷
    Done ∷
    Done ∷
    Pulled pulls.Pending ∷
    Done ∷
    Refused refusal.NotOpen ∷
    Done ∷
    Shown (Some (record { capacity = 400; blocked = 2; section = 80 })) (record { sending = 0; receiving = 0 }) 0 ∷
    Refused refusal.NotClient ∷
    Refused refusal.OutOfOrder ∷
    Pulled (pulls.Item (item.TooLarge 256)) ∷
    Pulled (pulls.Item (item.Body (hex (codes "62")))) ∷
    Pulled (pulls.Item (item.TooLarge 254)) ∷
    Pulled pulls.Pending ∷
    Pulled (pulls.Item (item.Body (hex (codes "6361")))) ∷
    Pulled (pulls.Item (item.Trailer (head (field (hex (codes "782d62")) (hex (codes "32")) ∷ [])))) ∷
    Pulled pulls.Pending ∷
    Pulled (pulls.Item item.End) ∷
    Pulled pulls.Pending ∷
    Pulled pulls.Pending ∷
    Waits (hex (codes "00041406290800ab603742003300ab6037430001000700")) ∷
    Waits (hex (codes "023ff102")) ∷
    Waits (hex (codes "03")) ∷
    Shown (Some (record { capacity = 400; blocked = 2; section = 80 })) (record { sending = 0; receiving = 0 }) 0 ∷
    []

abbrev pub case_2_endpoint : EndpointHistory
case_2_endpoint = new_endpoint Server (plain 1000 220 2)

abbrev pub case_2 : List Call
case_2 =
    Deliver 0 [] ∷
    Deliver 4 [] ∷
    Deliver 8 [] ∷
    Deliver 2 (hex (codes "0004050140400703")) ∷
    Deliver 10 (hex (codes "03")) ∷
    Deliver 10 [] ∷
    Deliver 10 (hex (codes "3fffffffffffffffff7f")) ∷
    Deliver 10 [] ∷
    SendHead 0 (head (field (hex (codes "3a737461747573")) (hex (codes "313939")) ∷ [])) ∷
    SendHead 8 (head (field (hex (codes "3a737461747573")) (hex (codes "313939")) ∷ field (hex (codes "636f6f6b6965")) [] ∷ field (hex (codes "616363657074")) (hex (codes "2a2f2a")) ∷ field (hex (codes "782d6c6f6e6765722d6e616d65")) (hex (codes "31")) ∷ field (hex (codes "782d6c6f6e6765722d6e616d65")) (hex (codes "31")) ∷ field (hex (codes "782d61")) (hex (codes "32")) ∷ [])) ∷
    Deliver 10 (hex (codes "48")) ∷
    SendHead 0 (head (field (hex (codes "3a737461747573")) (hex (codes "313939")) ∷ [])) ∷
    SendHead 0 (head (field (hex (codes "3a737461747573")) (hex (codes "313939")) ∷ [])) ∷
    SendHead 4 (head (field (hex (codes "3a737461747573")) (hex (codes "313939")) ∷ field (hex (codes "616363657074")) (hex (codes "2a2f2a")) ∷ field (hex (codes "616363657074")) (hex (codes "2a2f2a")) ∷ field (hex (codes "616363657074")) (hex (codes "2a2f2a")) ∷ field (hex (codes "616363657074")) (hex (codes "2a2f2a")) ∷ field (hex (codes "782d61")) (hex (codes "32")) ∷ [])) ∷
    Deliver 10 (hex (codes "80")) ∷
    Reset 4 ∷
    SendTrailer 8 (head ([])) ∷
    Deliver 10 (hex (codes "01")) ∷
    Reset 4 ∷
    Deliver 10 (hex (codes "44")) ∷
    SendTrailer 0 (head (field (hex (codes "616363657074")) (hex (codes "2a2f2a")) ∷ [])) ∷
    SendTrailer 4 (head (field (hex (codes "782d61")) (hex (codes "7a")) ∷ field (hex (codes "782d6c6f6e6765722d6e616d65")) (hex (codes "31")) ∷ [])) ∷
    SendHead 4 (head (field (hex (codes "3a737461747573")) (hex (codes "313939")) ∷ field (hex (codes "636f6f6b6965")) [] ∷ field (hex (codes "782d61")) (hex (codes "32")) ∷ [])) ∷
    Outgoing 0 ∷
    Outgoing 4 ∷
    Outgoing 8 ∷
    Outgoing 7 ∷
    Outgoing 11 ∷
    Show ∷
    []

abbrev pub case_2_answers : List Result
case_2_answers =
    Done ∷
    Done ∷
    Done ∷
    Done ∷
    Done ∷
    Done ∷
    Done ∷
    Done ∷
    Done ∷
    Done ∷
    Done ∷
    Done ∷
    Done ∷
    Done ∷
    Done ∷
    Done ∷
    Refused refusal.OutOfOrder ∷
    Done ∷
    Refused refusal.Ended ∷
    Done ∷
    Refused refusal.OutOfOrder ∷
    Refused refusal.OutOfOrder ∷
    Refused refusal.OutOfOrder ∷
    Waits (hex (codes "010302801001030200800103020080")) ∷
    Waits [] ∷
    Waits (hex (codes "0127020080c5dd2f03f2b507aa62d8b543a4bf810f2f03f2b507aa62d8b543a4bf810f2bf2b0ff8117")) ∷
    Waits (hex (codes "023f21d8830befff")) ∷
    Waits (hex (codes "03")) ∷
    Shown (Some (record { capacity = 64; blocked = 3; section = 4611686018427387903 })) (record { sending = 42; receiving = 0 }) 0 ∷
    []

abbrev pub case_3_endpoint : EndpointHistory
case_3_endpoint = new_endpoint Server (plain 1000 400 0)

abbrev pub case_3 : List Call
case_3 =
    Deliver 2 (hex (codes "000d0105210178")) ∷
    DeliverReset 2 268 ∷
    SendTrailer 0 (head (field (hex (codes "782d61")) (hex (codes "32")) ∷ [])) ∷
    Deliver 6 (hex (codes "023ff102")) ∷
    SendHead 8 (head (field (hex (codes "3a737461747573")) (hex (codes "323030")) ∷ field (hex (codes "782d6c6f6e6765722d6e616d65")) (hex (codes "31")) ∷ [])) ∷
    Deliver 0 (hex (codes "01130000d4d7508cf1e3c2e5f23a6ba0ab90f4ffc10004636161630002636301040000ff00")) ∷
    DeliverReset 0 268 ∷
    SendBody 0 (hex (codes "7879")) ∷
    Reset 30 ∷
    Deliver 4 (hex (codes "01140000d4d7508cf1e3c2e5f23a6ba0")) ∷
    Deliver 4 (hex (codes "ab90f4ffc1c509026162")) ∷
    PullStream 0 ∷
    DeliverEnd 4 ∷
    PullStream 4 ∷
    SendTrailer 8 (head (field (hex (codes "736572766572")) (hex (codes "73")) ∷ [])) ∷
    PullStream 4 ∷
    PullStream 12 ∷
    PullStream 0 ∷
    PullStream 0 ∷
    PullStream 4 ∷
    PullStream 8 ∷
    PullStream 12 ∷
    PullStream 14 ∷
    Outgoing 3 ∷
    Outgoing 7 ∷
    Outgoing 11 ∷
    Show ∷
    []

abbrev pub case_3_answers : List Result
case_3_answers =
    Refused (refusal.Connection 266) ∷
    Refused (refusal.Connection 266) ∷
    Refused (refusal.Closed 266) ∷
    Refused (refusal.Connection 266) ∷
    Refused (refusal.Closed 266) ∷
    Refused (refusal.Connection 266) ∷
    Refused (refusal.Connection 266) ∷
    Refused (refusal.Closed 266) ∷
    Refused (refusal.Closed 266) ∷
    Refused (refusal.Connection 266) ∷
    Refused (refusal.Connection 266) ∷
    Pulled (pulls.Fault (fault.Connection 266)) ∷
    Refused (refusal.Connection 266) ∷
    Pulled (pulls.Fault (fault.Connection 266)) ∷
    Refused (refusal.Closed 266) ∷
    Pulled (pulls.Fault (fault.Connection 266)) ∷
    Pulled (pulls.Fault (fault.Connection 266)) ∷
    Pulled (pulls.Fault (fault.Connection 266)) ∷
    Pulled (pulls.Fault (fault.Connection 266)) ∷
    Pulled (pulls.Fault (fault.Connection 266)) ∷
    Pulled (pulls.Fault (fault.Connection 266)) ∷
    Pulled (pulls.Fault (fault.Connection 266)) ∷
    Pulled (pulls.Fault (fault.Connection 266)) ∷
    Waits (hex (codes "0004160643e80800ab603742003300ab603743000141900700")) ∷
    Waits (hex (codes "02")) ∷
    Waits (hex (codes "03")) ∷
    Shown None (record { sending = 0; receiving = 0 }) 0 ∷
    []

abbrev pub case_4_endpoint : EndpointHistory
case_4_endpoint = new_endpoint Server (plain 60 64 3)

abbrev pub case_4 : List Call
case_4 =
    Deliver 2 (hex (codes "00040a014190070107800111700d0105")) ∷
    Deliver 18 (hex (codes "21616263")) ∷
    Deliver 6 (hex (codes "023f21c0831af1")) ∷
    PullStream 0 ∷
    Deliver 6 (hex (codes "ff")) ∷
    Deliver 4 (hex (codes "01")) ∷
    PullStream 8 ∷
    Show ∷
    Deliver 4 (hex (codes "360200d1d780c1")) ∷
    PullStream 0 ∷
    Deliver 4 (hex (codes "2f03f2b507aa62d8b543a4bf881d5228353b8e8b4b2bf2b0ff810f2f03f2b507aa62d8b543a4bf881d5228353b8e8b4b0000")) ∷
    PullStream 4 ∷
    DeliverReset 4 268 ∷
    Deliver 0 (hex (codes "01130280d1d710c12bf2b0ff810fdd2bf2b0ff81")) ∷
    Deliver 0 (hex (codes "17")) ∷
    PullStream 0 ∷
    DeliverEnd 0 ∷
    PullStream 0 ∷
    PullStream 0 ∷
    PullStream 0 ∷
    PullStream 4 ∷
    PullStream 8 ∷
    Outgoing 7 ∷
    Outgoing 11 ∷
    Show ∷
    []

abbrev pub case_4_answers : List Result
case_4_answers =
    Refused (refusal.Connection 265) ∷
    Refused (refusal.Connection 265) ∷
    Refused (refusal.Connection 265) ∷
    Pulled (pulls.Fault (fault.Connection 265)) ∷
    Refused (refusal.Connection 265) ∷
    Refused (refusal.Connection 265) ∷
    Pulled (pulls.Fault (fault.Connection 265)) ∷
    Shown None (record { sending = 0; receiving = 0 }) 0 ∷
    Refused (refusal.Connection 265) ∷
    Pulled (pulls.Fault (fault.Connection 265)) ∷
    Refused (refusal.Connection 265) ∷
    Pulled (pulls.Fault (fault.Connection 265)) ∷
    Refused (refusal.Connection 265) ∷
    Refused (refusal.Connection 265) ∷
    Refused (refusal.Connection 265) ∷
    Pulled (pulls.Fault (fault.Connection 265)) ∷
    Refused (refusal.Connection 265) ∷
    Pulled (pulls.Fault (fault.Connection 265)) ∷
    Pulled (pulls.Fault (fault.Connection 265)) ∷
    Pulled (pulls.Fault (fault.Connection 265)) ∷
    Pulled (pulls.Fault (fault.Connection 265)) ∷
    Pulled (pulls.Fault (fault.Connection 265)) ∷
    Waits (hex (codes "02")) ∷
    Waits (hex (codes "03")) ∷
    Shown None (record { sending = 0; receiving = 0 }) 0 ∷
    []

abbrev pub case_5_endpoint : EndpointHistory
case_5_endpoint = new_endpoint Server (plain 1000 0 3)

abbrev pub case_5 : List Call
case_5 =
    Deliver 0 (hex (codes "01290000d1d750831af1ffc1528177")) ∷
    Deliver 0 (hex (codes "2f03f2b507aa62d8b543a4bf881d5228353b")) ∷
    Deliver 0 (hex (codes "8e8b4b2bf2b0ff")) ∷
    Deliver 0 (hex (codes "8117dd")) ∷
    DeliverEnd 0 ∷
    Deliver 4 (hex (codes "01")) ∷
    Deliver 4 (hex (codes "0a")) ∷
    PullStream 8 ∷
    Deliver 4 (hex (codes "00")) ∷
    PullStream 12 ∷
    Deliver 4 (hex (codes "00")) ∷
    Deliver 4 (hex (codes "87")) ∷
    PullStream 0 ∷
    Deliver 4 (hex (codes "3d")) ∷
    Deliver 4 (hex (codes "b8")) ∷
    Deliver 4 (hex (codes "84")) ∷
    Deliver 4 (hex (codes "8d")) ∷
    Deliver 4 (hex (codes "36")) ∷
    OpenRequest ∷
    SendTrailer 12 (head (field (hex (codes "782d62")) (hex (codes "32")) ∷ [])) ∷
    Deliver 4 (hex (codes "a3")) ∷
    Deliver 4 (hex (codes "80")) ∷
    DeliverEnd 4 ∷
    Deliver 2 (hex (codes "00048000000b0629c0000000000000")) ∷
    PullStream 4 ∷
    Deliver 2 (hex (codes "070a070108070103")) ∷
    PullStream 12 ∷
    PullStream 0 ∷
    PullStream 4 ∷
    PullStream 8 ∷
    PullStream 12 ∷
    PullStream 14 ∷
    Outgoing 3 ∷
    Outgoing 7 ∷
    Outgoing 11 ∷
    Show ∷
    []

abbrev pub case_5_answers : List Result
case_5_answers =
    Done ∷
    Done ∷
    Done ∷
    Done ∷
    Done ∷
    Done ∷
    Done ∷
    Pulled pulls.Pending ∷
    Done ∷
    Pulled pulls.Pending ∷
    Done ∷
    Done ∷
    Pulled (pulls.Item (item.Head (head (field (hex (codes "3a6d6574686f64")) (hex (codes "474554")) ∷ field (hex (codes "3a736368656d65")) (hex (codes "6874747073")) ∷ field (hex (codes "3a617574686f72697479")) (hex (codes "612e62")) ∷ field (hex (codes "3a70617468")) (hex (codes "2f")) ∷ field (hex (codes "616765")) (hex (codes "37")) ∷ field (hex (codes "782d6c6f6e6765722d6e616d65")) (hex (codes "616e6420612076616c7565")) ∷ field (hex (codes "782d61")) (hex (codes "32")) ∷ field (hex (codes "616363657074")) (hex (codes "2a2f2a")) ∷ [])))) ∷
    Done ∷
    Done ∷
    Done ∷
    Done ∷
    Done ∷
    Refused refusal.NotClient ∷
    Refused refusal.NotOpen ∷
    Done ∷
    Done ∷
    Done ∷
    Done ∷
    Pulled (pulls.Fault (fault.Connection 512)) ∷
    Refused (refusal.Connection 512) ∷
    Pulled (pulls.Fault (fault.Connection 512)) ∷
    Pulled (pulls.Fault (fault.Connection 512)) ∷
    Pulled (pulls.Fault (fault.Connection 512)) ∷
    Pulled (pulls.Fault (fault.Connection 512)) ∷
    Pulled (pulls.Fault (fault.Connection 512)) ∷
    Pulled (pulls.Fault (fault.Connection 512)) ∷
    Waits (hex (codes "0004150643e80800ab603742003300ab6037430001000703")) ∷
    Waits (hex (codes "02")) ∷
    Waits (hex (codes "03")) ∷
    Shown None (record { sending = 0; receiving = 0 }) 0 ∷
    []
