-- Hostile lists of calls of a client, with what the model of scripts/ answers to them. Made by scripts/gate/connection_cases.py.
use Rattle.std.specs.Prelude.{List, [], ◌∷◌, codes, Some, None}
use Rattle.h3_proto.specs.declared.stream.Side.TheVariants.{Client}
use Rattle.h3_connection.specs.declared.event.Item.TheVariants as item
use Rattle.h3_connection.specs.declared.event.Pull.TheVariants as pulls
use Rattle.h3_connection.specs.declared.event.Refusal.TheVariants as refusal
use Rattle.h3_connection.specs.declared.event.Fault.TheVariants as fault
use Rattle.h3_connection.specs.declared.event.StreamFault.TheVariants as stream_fault
use Rattle.h3_connection.specs.Endpoint.{EndpointHistory, new_endpoint}
use Rattle.h3_connection.specs.CallLists.{Call, Result}
use Rattle.h3_connection.specs.CallLists.Call.{OpenRequest, SendHead, SendBody, SendTrailer, Finish, Reset, Goaway, Outgoing, Deliver, DeliverReset, PullStream, Cancel, Show}
use Rattle.h3_connection.specs.CallLists.Result.{Opened, Done, Refused, Waits, Pulled, Shown}
use Rattle.h3_connection_rows.specs.Worked.{hex, field, head, plain}

abbrev pub case_26_endpoint : EndpointHistory
case_26_endpoint = new_endpoint Client (plain 1000 220 2)

abbrev pub case_26 : List Call
case_26 =
    OpenRequest ∷
    OpenRequest ∷
    OpenRequest ∷
    Deliver 3 (hex (codes "0004050140400701")) ∷
    Deliver 11 (hex (codes "03")) ∷
    Deliver 11 [] ∷
    SendHead 8 (head (field (hex (codes "3a6d6574686f64")) (hex (codes "474554")) ∷ field (hex (codes "3a70617468")) (hex (codes "2f78")) ∷ field (hex (codes "736572766572")) (hex (codes "73")) ∷ field (hex (codes "636f6f6b6965")) [] ∷ field (hex (codes "782d6c6f6e6765722d6e616d65")) (hex (codes "616e6420612076616c7565")) ∷ field (hex (codes "782d6c6f6e6765722d6e616d65")) (hex (codes "616e6420612076616c7565")) ∷ field (hex (codes "616765")) (hex (codes "37")) ∷ [])) ∷
    Deliver 11 (hex (codes "01")) ∷
    Deliver 11 (hex (codes "48")) ∷
    SendHead 0 (head (field (hex (codes "3a6d6574686f64")) (hex (codes "474554")) ∷ field (hex (codes "3a70617468")) (hex (codes "2f78")) ∷ field (hex (codes "616765")) (hex (codes "37")) ∷ field (hex (codes "782d62")) (hex (codes "32")) ∷ [])) ∷
    Deliver 11 (hex (codes "80")) ∷
    SendHead 0 (head (field (hex (codes "3a6d6574686f64")) (hex (codes "474554")) ∷ field (hex (codes "3a70617468")) (hex (codes "2f78")) ∷ field (hex (codes "782d62")) (hex (codes "32")) ∷ [])) ∷
    SendHead 0 (head (field (hex (codes "3a6d6574686f64")) (hex (codes "474554")) ∷ field (hex (codes "3a70617468")) (hex (codes "2f78")) ∷ field (hex (codes "782d6c6f6e6765722d6e616d65")) (hex (codes "616e6420612076616c7565")) ∷ field (hex (codes "616765")) (hex (codes "37")) ∷ field (hex (codes "616765")) (hex (codes "37")) ∷ [])) ∷
    Deliver 11 [] ∷
    SendTrailer 8 (head (field (hex (codes "782d62")) (hex (codes "32")) ∷ [])) ∷
    Deliver 11 [] ∷
    Deliver 11 [] ∷
    Reset 0 ∷
    SendTrailer 0 (head (field (hex (codes "3a70617468")) (hex (codes "2f")) ∷ [])) ∷
    Deliver 11 [] ∷
    Reset 8 ∷
    Deliver 11 [] ∷
    SendHead 4 (head (field (hex (codes "3a6d6574686f64")) (hex (codes "474554")) ∷ field (hex (codes "3a70617468")) (hex (codes "2f78")) ∷ field (hex (codes "616765")) (hex (codes "37")) ∷ [])) ∷
    Outgoing 0 ∷
    Outgoing 4 ∷
    Outgoing 8 ∷
    Outgoing 6 ∷
    Outgoing 10 ∷
    Show ∷
    []

abbrev pub case_26_answers : List Result
case_26_answers =
    Opened 0 ∷
    Opened 4 ∷
    Opened 8 ∷
    Done ∷
    Done ∷
    Done ∷
    Done ∷
    Done ∷
    Done ∷
    Done ∷
    Done ∷
    Refused refusal.OutOfOrder ∷
    Refused refusal.OutOfOrder ∷
    Done ∷
    Done ∷
    Done ∷
    Done ∷
    Done ∷
    Refused refusal.OutOfOrder ∷
    Done ∷
    Done ∷
    Done ∷
    Done ∷
    Waits [] ∷
    Waits (hex (codes "01070200d180528177")) ∷
    Waits [] ∷
    Waits (hex (codes "023f21c18263cf")) ∷
    Waits (hex (codes "03")) ∷
    Shown (Some (record { capacity = 64; blocked = 1; section = 4611686018427387903 })) (record { sending = 39; receiving = 0 }) 0 ∷
    []

abbrev pub case_27_endpoint : EndpointHistory
case_27_endpoint = new_endpoint Client (plain 41 31 1)

abbrev pub case_27 : List Call
case_27 =
    OpenRequest ∷
    OpenRequest ∷
    Deliver 0 (hex (codes "010f0000d8c52bf2b0ff81")) ∷
    Deliver 0 (hex (codes "0f5f4d8147db000161011000")) ∷
    Deliver 0 (hex (codes "002f03f2b507aa62d8b543a4bf810f")) ∷
    OpenRequest ∷
    Deliver 3 (hex (codes "00040801404007a701064078210178")) ∷
    Deliver 7 (hex (codes "023f00")) ∷
    PullStream 4 ∷
    Cancel 34 ∷
    PullStream 8 ∷
    PullStream 4 ∷
    PullStream 4 ∷
    PullStream 8 ∷
    PullStream 4 ∷
    PullStream 4 ∷
    SendHead 4 (head (field (hex (codes "3a6d6574686f64")) (hex (codes "504f5354")) ∷ field (hex (codes "3a736368656d65")) (hex (codes "6874747073")) ∷ field (hex (codes "3a617574686f72697479")) (hex (codes "612e62")) ∷ field (hex (codes "3a70617468")) (hex (codes "2f")) ∷ field (hex (codes "736572766572")) (hex (codes "73")) ∷ field (hex (codes "736572766572")) (hex (codes "73")) ∷ field (hex (codes "782d61")) (hex (codes "32")) ∷ field (hex (codes "782d6c6f6e6765722d6e616d65")) (hex (codes "616e6420612076616c7565")) ∷ [])) ∷
    PullStream 4 ∷
    SendTrailer 4 (head (field (hex (codes "782d62")) (hex (codes "32")) ∷ [])) ∷
    SendBody 8 [] ∷
    Finish 0 ∷
    Outgoing 0 ∷
    PullStream 0 ∷
    PullStream 0 ∷
    PullStream 4 ∷
    PullStream 8 ∷
    PullStream 15 ∷
    Outgoing 2 ∷
    Outgoing 6 ∷
    Outgoing 10 ∷
    Show ∷
    []

abbrev pub case_27_answers : List Result
case_27_answers =
    Opened 0 ∷
    Opened 4 ∷
    Done ∷
    Done ∷
    Done ∷
    Opened 8 ∷
    Done ∷
    Done ∷
    Pulled pulls.Pending ∷
    Refused refusal.NotOpen ∷
    Pulled pulls.Pending ∷
    Pulled pulls.Pending ∷
    Pulled pulls.Pending ∷
    Pulled pulls.Pending ∷
    Pulled pulls.Pending ∷
    Pulled pulls.Pending ∷
    Done ∷
    Pulled pulls.Pending ∷
    Done ∷
    Refused refusal.OutOfOrder ∷
    Refused refusal.OutOfOrder ∷
    Waits [] ∷
    Pulled (pulls.Item (item.TooLarge 197)) ∷
    Pulled (pulls.Item (item.Body (hex (codes "61")))) ∷
    Pulled pulls.Pending ∷
    Pulled pulls.Pending ∷
    Pulled pulls.Pending ∷
    Waits (hex (codes "00041406290800ab603742003300ab60374300011f0701")) ∷
    Waits (hex (codes "02")) ∷
    Waits (hex (codes "03")) ∷
    Shown (Some (record { capacity = 64; blocked = 654378560; section = 4611686018427387903 })) (record { sending = 0; receiving = 0 }) 0 ∷
    []

abbrev pub case_28_endpoint : EndpointHistory
case_28_endpoint = new_endpoint Client (plain 41 64 0)

abbrev pub case_28 : List Call
case_28 =
    OpenRequest ∷
    OpenRequest ∷
    Deliver 4 (hex (codes "010c00005f098313efff5f4d8147010600005f4d8147")) ∷
    PullStream 8 ∷
    DeliverReset 4 268 ∷
    Goaway 8 ∷
    Deliver 0 (hex (codes "000161")) ∷
    PullStream 0 ∷
    SendBody 8 (hex (codes "7879")) ∷
    Deliver 3 (hex (codes "0004050140dc07000701000d0105")) ∷
    Reset 0 ∷
    Deliver 7 (hex (codes "023f21")) ∷
    DeliverReset 0 268 ∷
    PullStream 4 ∷
    PullStream 0 ∷
    PullStream 0 ∷
    PullStream 0 ∷
    PullStream 4 ∷
    PullStream 8 ∷
    Outgoing 6 ∷
    Outgoing 10 ∷
    Show ∷
    []

abbrev pub case_28_answers : List Result
case_28_answers =
    Opened 0 ∷
    Opened 4 ∷
    Done ∷
    Pulled pulls.NoMessages ∷
    Done ∷
    Done ∷
    Done ∷
    Pulled (pulls.Fault (fault.Connection 261)) ∷
    Refused (refusal.Closed 261) ∷
    Refused (refusal.Connection 261) ∷
    Refused (refusal.Closed 261) ∷
    Refused (refusal.Connection 261) ∷
    Refused (refusal.Connection 261) ∷
    Pulled (pulls.Fault (fault.Connection 261)) ∷
    Pulled (pulls.Fault (fault.Connection 261)) ∷
    Pulled (pulls.Fault (fault.Connection 261)) ∷
    Pulled (pulls.Fault (fault.Connection 261)) ∷
    Pulled (pulls.Fault (fault.Connection 261)) ∷
    Pulled (pulls.Fault (fault.Connection 261)) ∷
    Waits (hex (codes "02")) ∷
    Waits (hex (codes "0344")) ∷
    Shown None (record { sending = 0; receiving = 0 }) 0 ∷
    []

abbrev pub case_29_endpoint : EndpointHistory
case_29_endpoint = new_endpoint Client (plain 90 0 3)

abbrev pub case_29 : List Call
case_29 =
    OpenRequest ∷
    Deliver 3 (hex (codes "004004080141900643e8")) ∷
    Deliver 3 (hex (codes "070021017807")) ∷
    Deliver 3 (hex (codes "0108")) ∷
    PullStream 0 ∷
    Deliver 4 (hex (codes "01080000")) ∷
    Deliver 4 (hex (codes "5f")) ∷
    PullStream 8 ∷
    Deliver 4 (hex (codes "09830befff")) ∷
    Deliver 4 (hex (codes "0103")) ∷
    PullStream 8 ∷
    Deliver 4 (hex (codes "0000d9")) ∷
    OpenRequest ∷
    Deliver 7 (hex (codes "02")) ∷
    Deliver 4 (hex (codes "00056262")) ∷
    Deliver 4 (hex (codes "61")) ∷
    Deliver 4 (hex (codes "63610005")) ∷
    PullStream 0 ∷
    Deliver 4 (hex (codes "62616363")) ∷
    PullStream 0 ∷
    Deliver 4 (hex (codes "6280")) ∷
    Deliver 4 (hex (codes "0000")) ∷
    Deliver 4 (hex (codes "01")) ∷
    PullStream 8 ∷
    Deliver 4 (hex (codes "0800")) ∷
    PullStream 4 ∷
    Deliver 4 (hex (codes "002bf2b0")) ∷
    Deliver 4 (hex (codes "ff81")) ∷
    Deliver 4 (hex (codes "0f")) ∷
    Show ∷
    Deliver 0 (hex (codes "012d00005f098313efff5f4d81472bf2b47f81172f03f2b507aa62d8b543a4bf881d5228353b8e8b4b2bf2b47f811700026161")) ∷
    DeliverReset 0 268 ∷
    DeliverReset 4 268 ∷
    SendHead 8 (head (field (hex (codes "3a6d6574686f64")) (hex (codes "504f5354")) ∷ field (hex (codes "3a736368656d65")) (hex (codes "6874747073")) ∷ field (hex (codes "3a617574686f72697479")) (hex (codes "7777772e6578616d706c652e636f6d")) ∷ field (hex (codes "3a70617468")) (hex (codes "2f")) ∷ field (hex (codes "616363657074")) (hex (codes "2a2f2a")) ∷ field (hex (codes "636f6f6b6965")) [] ∷ [])) ∷
    PullStream 4 ∷
    PullStream 4 ∷
    SendHead 8 (head (field (hex (codes "3a6d6574686f64")) (hex (codes "474554")) ∷ field (hex (codes "3a736368656d65")) (hex (codes "6874747073")) ∷ field (hex (codes "3a617574686f72697479")) (hex (codes "7777772e6578616d706c652e636f6d")) ∷ field (hex (codes "3a70617468")) (hex (codes "2f")) ∷ field (hex (codes "782d61")) (hex (codes "32")) ∷ field (hex (codes "782d61")) (hex (codes "32")) ∷ field (hex (codes "636f6f6b6965")) [] ∷ field (hex (codes "736572766572")) (hex (codes "73")) ∷ [])) ∷
    PullStream 8 ∷
    PullStream 0 ∷
    PullStream 4 ∷
    PullStream 8 ∷
    PullStream 15 ∷
    Outgoing 2 ∷
    Outgoing 6 ∷
    Outgoing 10 ∷
    Show ∷
    []

abbrev pub case_29_answers : List Result
case_29_answers =
    Opened 0 ∷
    Done ∷
    Done ∷
    Done ∷
    Pulled pulls.Pending ∷
    Refused refusal.NotOpen ∷
    Refused refusal.NotOpen ∷
    Pulled pulls.NoMessages ∷
    Refused refusal.NotOpen ∷
    Refused refusal.NotOpen ∷
    Pulled pulls.NoMessages ∷
    Refused refusal.NotOpen ∷
    Refused (refusal.GoingAway 8) ∷
    Done ∷
    Refused refusal.NotOpen ∷
    Refused refusal.NotOpen ∷
    Refused refusal.NotOpen ∷
    Pulled pulls.Pending ∷
    Refused refusal.NotOpen ∷
    Pulled pulls.Pending ∷
    Refused refusal.NotOpen ∷
    Refused refusal.NotOpen ∷
    Refused refusal.NotOpen ∷
    Pulled pulls.NoMessages ∷
    Refused refusal.NotOpen ∷
    Pulled pulls.NoMessages ∷
    Refused refusal.NotOpen ∷
    Refused refusal.NotOpen ∷
    Refused refusal.NotOpen ∷
    Shown (Some (record { capacity = 400; blocked = 0; section = 1000 })) (record { sending = 0; receiving = 0 }) 0 ∷
    Done ∷
    Done ∷
    Refused refusal.NotOpen ∷
    Refused refusal.NotOpen ∷
    Pulled pulls.NoMessages ∷
    Pulled pulls.NoMessages ∷
    Refused refusal.NotOpen ∷
    Pulled pulls.NoMessages ∷
    Pulled (pulls.Fault (fault.Stream (stream_fault.Reset 268))) ∷
    Pulled pulls.NoMessages ∷
    Pulled pulls.NoMessages ∷
    Pulled pulls.Pending ∷
    Waits (hex (codes "00041506405a0800ab603742003300ab6037430001000703")) ∷
    Waits (hex (codes "023ff102")) ∷
    Waits (hex (codes "0340")) ∷
    Shown (Some (record { capacity = 400; blocked = 0; section = 1000 })) (record { sending = 0; receiving = 0 }) 0 ∷
    []

abbrev pub case_30_endpoint : EndpointHistory
case_30_endpoint = new_endpoint Client (plain 1000 220 2)

abbrev pub case_30 : List Call
case_30 =
    OpenRequest ∷
    OpenRequest ∷
    OpenRequest ∷
    OpenRequest ∷
    OpenRequest ∷
    OpenRequest ∷
    OpenRequest ∷
    OpenRequest ∷
    OpenRequest ∷
    OpenRequest ∷
    Deliver 3 (hex (codes "0004050141900700")) ∷
    Deliver 11 (hex (codes "03")) ∷
    Deliver 11 (hex (codes "40")) ∷
    SendHead 8 (head (field (hex (codes "3a6d6574686f64")) (hex (codes "474554")) ∷ field (hex (codes "3a70617468")) (hex (codes "2f78")) ∷ field (hex (codes "616363657074")) (hex (codes "2a2f2a")) ∷ field (hex (codes "616363657074")) (hex (codes "2a2f2a")) ∷ field (hex (codes "616363657074")) (hex (codes "2a2f2a")) ∷ field (hex (codes "616363657074")) (hex (codes "2a2f2a")) ∷ field (hex (codes "782d6c6f6e6765722d6e616d65")) (hex (codes "31")) ∷ [])) ∷
    Deliver 11 [] ∷
    Deliver 11 [] ∷
    Deliver 11 [] ∷
    SendHead 0 (head (field (hex (codes "3a6d6574686f64")) (hex (codes "474554")) ∷ field (hex (codes "3a70617468")) (hex (codes "2f78")) ∷ field (hex (codes "782d6c6f6e6765722d6e616d65")) (hex (codes "31")) ∷ [])) ∷
    SendHead 8 (head (field (hex (codes "3a6d6574686f64")) (hex (codes "474554")) ∷ field (hex (codes "3a70617468")) (hex (codes "2f78")) ∷ field (hex (codes "616363657074")) (hex (codes "2a2f2a")) ∷ field (hex (codes "616363657074")) (hex (codes "2a2f2a")) ∷ field (hex (codes "636f6f6b6965")) [] ∷ [])) ∷
    Deliver 11 [] ∷
    Deliver 11 [] ∷
    Deliver 11 [] ∷
    SendHead 16 (head (field (hex (codes "3a6d6574686f64")) (hex (codes "474554")) ∷ field (hex (codes "3a70617468")) (hex (codes "2f78")) ∷ field (hex (codes "636f6f6b6965")) [] ∷ field (hex (codes "616363657074")) (hex (codes "2a2f2a")) ∷ [])) ∷
    Deliver 11 (hex (codes "01")) ∷
    Deliver 11 [] ∷
    SendTrailer 20 (head (field (hex (codes "636f6f6b6965")) [] ∷ [])) ∷
    Reset 4 ∷
    Deliver 11 [] ∷
    SendHead 32 (head (field (hex (codes "3a6d6574686f64")) (hex (codes "474554")) ∷ field (hex (codes "3a70617468")) (hex (codes "2f78")) ∷ [])) ∷
    Reset 0 ∷
    SendTrailer 36 (head (field (hex (codes "782d6c6f6e6765722d6e616d65")) (hex (codes "31")) ∷ field (hex (codes "616363657074")) (hex (codes "2a2f2a")) ∷ field (hex (codes "636f6f6b6965")) [] ∷ [])) ∷
    Deliver 11 [] ∷
    Deliver 11 [] ∷
    Outgoing 0 ∷
    Outgoing 4 ∷
    Outgoing 8 ∷
    Outgoing 12 ∷
    Outgoing 16 ∷
    Outgoing 20 ∷
    Outgoing 24 ∷
    Outgoing 28 ∷
    Outgoing 32 ∷
    Outgoing 36 ∷
    Outgoing 6 ∷
    Outgoing 10 ∷
    Show ∷
    []

abbrev pub case_30_answers : List Result
case_30_answers =
    Opened 0 ∷
    Opened 4 ∷
    Opened 8 ∷
    Opened 12 ∷
    Opened 16 ∷
    Opened 20 ∷
    Opened 24 ∷
    Opened 28 ∷
    Opened 32 ∷
    Opened 36 ∷
    Done ∷
    Done ∷
    Done ∷
    Done ∷
    Done ∷
    Done ∷
    Done ∷
    Done ∷
    Refused refusal.OutOfOrder ∷
    Done ∷
    Done ∷
    Done ∷
    Done ∷
    Done ∷
    Done ∷
    Refused refusal.OutOfOrder ∷
    Done ∷
    Done ∷
    Done ∷
    Done ∷
    Refused refusal.OutOfOrder ∷
    Done ∷
    Done ∷
    Waits [] ∷
    Waits [] ∷
    Waits (hex (codes "01190000d1518263cfdddddddd2f03f2b507aa62d8b543a4bf810f")) ∷
    Waits [] ∷
    Waits (hex (codes "01090000d1518263cfc5dd")) ∷
    Waits [] ∷
    Waits [] ∷
    Waits [] ∷
    Waits (hex (codes "01070000d1518263cf")) ∷
    Waits [] ∷
    Waits (hex (codes "023ff102")) ∷
    Waits (hex (codes "03")) ∷
    Shown (Some (record { capacity = 400; blocked = 0; section = 4611686018427387903 })) (record { sending = 0; receiving = 0 }) 0 ∷
    []
