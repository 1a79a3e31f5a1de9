-- Hostile lists of calls of a client, with what the model of scripts/ answers to them. Made by scripts/gate/connection_cases.py.
use Rattle.std.specs.Prelude.{List, [], ◌∷◌, codes, Some, None}
use Rattle.h3_proto.specs.declared.stream.Side.TheVariants.{Client}
use Rattle.h3_connection.specs.declared.event.Item.TheVariants as item
use Rattle.h3_connection.specs.declared.event.Pull.TheVariants as pulls
use Rattle.h3_connection.specs.declared.event.Refusal.TheVariants as refusal
use Rattle.h3_connection.specs.declared.event.Fault.TheVariants as fault
use Rattle.h3_connection.specs.declared.event.StreamFault.TheVariants as stream_fault
use Rattle.h3_connection.specs.declared.event.Malformation.TheVariants as malformation
use Rattle.h3_connection.specs.Endpoint.{EndpointHistory, new_endpoint}
use Rattle.h3_connection.specs.CallLists.{Call, Result}
use Rattle.h3_connection.specs.CallLists.Call.{OpenRequest, SendHead, SendBody, SendTrailer, Finish, Reset, Outgoing, Deliver, DeliverEnd, DeliverReset, PullStream, Show}
use Rattle.h3_connection.specs.CallLists.Result.{Opened, Done, Refused, Waits, Pulled, Shown}
use Rattle.h3_connection_rows.specs.Worked.{hex, field, head, plain}

abbrev pub case_6_endpoint : EndpointHistory
case_6_endpoint = new_endpoint Client (plain 1000 220 2)

abbrev pub case_6 : List Call
case_6 =
    OpenRequest ∷
    OpenRequest ∷
    OpenRequest ∷
    OpenRequest ∷
    OpenRequest ∷
    OpenRequest ∷
    OpenRequest ∷
    OpenRequest ∷
    OpenRequest ∷
    OpenRequest ∷
    Deliver 3 (hex (codes "000404011f0703")) ∷
    Deliver 11 (hex (codes "03")) ∷
    Deliver 11 [] ∷
    SendHead 28 (head (field (hex (codes "3a6d6574686f64")) (hex (codes "474554")) ∷ field (hex (codes "3a70617468")) (hex (codes "2f78")) ∷ field (hex (codes "782d61")) (hex (codes "32")) ∷ field (hex (codes "616363657074")) (hex (codes "2a2f2a")) ∷ field (hex (codes "616363657074")) (hex (codes "2a2f2a")) ∷ field (hex (codes "782d6c6f6e6765722d6e616d65")) (hex (codes "616e6420612076616c7565")) ∷ field (hex (codes "782d6c6f6e6765722d6e616d65")) (hex (codes "616e6420612076616c7565")) ∷ [])) ∷
    SendTrailer 24 (head (field (hex (codes "782d6c6f6e6765722d6e616d65")) (hex (codes "616e6420612076616c7565")) ∷ field (hex (codes "782d6c6f6e6765722d6e616d65")) (hex (codes "616e6420612076616c7565")) ∷ field (hex (codes "782d6c6f6e6765722d6e616d65")) (hex (codes "616e6420612076616c7565")) ∷ field (hex (codes "782d61")) (hex (codes "32")) ∷ field (hex (codes "782d62")) (hex (codes "32")) ∷ [])) ∷
    Deliver 11 [] ∷
    SendHead 36 (head (field (hex (codes "3a6d6574686f64")) (hex (codes "474554")) ∷ field (hex (codes "3a70617468")) (hex (codes "2f78")) ∷ field (hex (codes "782d61")) (hex (codes "32")) ∷ [])) ∷
    Deliver 11 [] ∷
    SendHead 0 (head (field (hex (codes "3a6d6574686f64")) (hex (codes "474554")) ∷ field (hex (codes "3a70617468")) (hex (codes "2f78")) ∷ field (hex (codes "616363657074")) (hex (codes "2a2f2a")) ∷ [])) ∷
    SendTrailer 16 (head (field (hex (codes "782d61")) (hex (codes "32")) ∷ [])) ∷
    Finish 20 ∷
    Deliver 11 [] ∷
    Deliver 11 [] ∷
    Deliver 11 [] ∷
    SendHead 24 (head (field (hex (codes "3a6d6574686f64")) (hex (codes "474554")) ∷ field (hex (codes "3a70617468")) (hex (codes "2f78")) ∷ field (hex (codes "616363657074")) (hex (codes "2a2f2a")) ∷ field (hex (codes "616363657074")) (hex (codes "2a2f2a")) ∷ field (hex (codes "782d6c6f6e6765722d6e616d65")) (hex (codes "616e6420612076616c7565")) ∷ [])) ∷
    SendHead 16 (head (field (hex (codes "3a6d6574686f64")) (hex (codes "474554")) ∷ field (hex (codes "3a70617468")) (hex (codes "2f78")) ∷ field (hex (codes "616363657074")) (hex (codes "2a2f2a")) ∷ field (hex (codes "782d6c6f6e6765722d6e616d65")) (hex (codes "616e6420612076616c7565")) ∷ [])) ∷
    Reset 20 ∷
    Deliver 11 [] ∷
    Deliver 11 [] ∷
    Reset 0 ∷
    Reset 8 ∷
    Deliver 11 [] ∷
    Deliver 11 [] ∷
    Deliver 11 [] ∷
    Deliver 11 [] ∷
    Deliver 11 [] ∷
    Finish 12 ∷
    SendHead 36 (head (field (hex (codes "3a6d6574686f64")) (hex (codes "474554")) ∷ field (hex (codes "3a70617468")) (hex (codes "2f78")) ∷ field (hex (codes "782d6c6f6e6765722d6e616d65")) (hex (codes "616e6420612076616c7565")) ∷ [])) ∷
    Deliver 11 [] ∷
    Deliver 11 [] ∷
    SendHead 32 (head (field (hex (codes "3a6d6574686f64")) (hex (codes "474554")) ∷ field (hex (codes "3a70617468")) (hex (codes "2f78")) ∷ field (hex (codes "782d61")) (hex (codes "32")) ∷ field (hex (codes "616363657074")) (hex (codes "2a2f2a")) ∷ field (hex (codes "782d62")) (hex (codes "32")) ∷ field (hex (codes "782d62")) (hex (codes "32")) ∷ field (hex (codes "782d6c6f6e6765722d6e616d65")) (hex (codes "616e6420612076616c7565")) ∷ [])) ∷
    Deliver 11 [] ∷
    SendTrailer 28 (head (field (hex (codes "782d61")) (hex (codes "32")) ∷ [])) ∷
    SendTrailer 36 (head (field (hex (codes "782d61")) (hex (codes "32")) ∷ field (hex (codes "782d61")) (hex (codes "32")) ∷ field (hex (codes "782d62")) (hex (codes "32")) ∷ [])) ∷
    SendHead 4 (head (field (hex (codes "3a6d6574686f64")) (hex (codes "474554")) ∷ field (hex (codes "3a70617468")) (hex (codes "2f78")) ∷ field (hex (codes "782d6c6f6e6765722d6e616d65")) (hex (codes "616e6420612076616c7565")) ∷ [])) ∷
    Outgoing 0 ∷
    Outgoing 4 ∷
    Outgoing 8 ∷
    Outgoing 12 ∷
    Outgoing 16 ∷
    Outgoing 20 ∷
    Outgoing 24 ∷
    Outgoing 28 ∷
    Outgoing 32 ∷
    Outgoing 36 ∷
    Outgoing 6 ∷
    Outgoing 10 ∷
    Show ∷
    []

abbrev pub case_6_answers : List Result
case_6_answers =
    Opened 0 ∷
    Opened 4 ∷
    Opened 8 ∷
    Opened 12 ∷
    Opened 16 ∷
    Opened 20 ∷
    Opened 24 ∷
    Opened 28 ∷
    Opened 32 ∷
    Opened 36 ∷
    Done ∷
    Done ∷
    Done ∷
    Done ∷
    Refused refusal.OutOfOrder ∷
    Done ∷
    Done ∷
    Done ∷
    Done ∷
    Refused refusal.OutOfOrder ∷
    Refused refusal.OutOfOrder ∷
    Done ∷
    Done ∷
    Done ∷
    Done ∷
    Done ∷
    Done ∷
    Done ∷
    Done ∷
    Done ∷
    Done ∷
    Done ∷
    Done ∷
    Done ∷
    Done ∷
    Done ∷
    Refused refusal.OutOfOrder ∷
    Refused refusal.OutOfOrder ∷
    Done ∷
    Done ∷
    Done ∷
    Done ∷
    Done ∷
    Done ∷
    Done ∷
    Waits [] ∷
    Waits (hex (codes "011c0000d1518263cf2f03f2b507aa62d8b543a4bf881d5228353b8e8b4b")) ∷
    Waits [] ∷
    Waits [] ∷
    Waits (hex (codes "011d0000d1518263cfdd2f03f2b507aa62d8b543a4bf881d5228353b8e8b4b")) ∷
    Waits [] ∷
    Waits (hex (codes "011e0000d1518263cfdddd2f03f2b507aa62d8b543a4bf881d5228353b8e8b4b")) ∷
    Waits (hex (codes "01390000d1518263cf2bf2b0ff8117dddd2f03f2b507aa62d8b543a4bf881d5228353b8e8b4b2f03f2b507aa62d8b543a4bf881d5228353b8e8b4b010800002bf2b0ff8117")) ∷
    Waits (hex (codes "012f0000d1518263cf2bf2b0ff8117dd2bf2b47f81172bf2b47f81172f03f2b507aa62d8b543a4bf881d5228353b8e8b4b")) ∷
    Waits (hex (codes "010d0000d1518263cf2bf2b0ff8117011400002bf2b0ff81172bf2b0ff81172bf2b47f8117")) ∷
    Waits (hex (codes "023f00")) ∷
    Waits (hex (codes "03")) ∷
    Shown (Some (record { capacity = 31; blocked = 3; section = 4611686018427387903 })) (record { sending = 0; receiving = 0 }) 0 ∷
    []

abbrev pub case_7_endpoint : EndpointHistory
case_7_endpoint = new_endpoint Client (plain 90 0 0)

abbrev pub case_7 : List Call
case_7 =
    OpenRequest ∷
    OpenRequest ∷
    Deliver 0 (hex (codes "40")) ∷
    Deliver 0 (hex (codes "41")) ∷
    Deliver 0 (hex (codes "00")) ∷
    PullStream 0 ∷
    Deliver 0 (hex (codes "73")) ∷
    Deliver 0 (hex (codes "6f")) ∷
    Deliver 0 (hex (codes "6d")) ∷
    PullStream 8 ∷
    Deliver 0 (hex (codes "65")) ∷
    Deliver 0 (hex (codes "20")) ∷
    Deliver 0 (hex (codes "72")) ∷
    Deliver 0 (hex (codes "61")) ∷
    PullStream 8 ∷
    Deliver 0 (hex (codes "77")) ∷
    Deliver 0 (hex (codes "20")) ∷
    Deliver 0 (hex (codes "62")) ∷
    Deliver 0 (hex (codes "79")) ∷
    Deliver 0 (hex (codes "74")) ∷
    Deliver 0 (hex (codes "65")) ∷
    Deliver 0 (hex (codes "73")) ∷
    PullStream 0 ∷
    Deliver 27 (hex (codes "00040a0140400680000078070107010c210178")) ∷
    PullStream 0 ∷
    Deliver 31 (hex (codes "02")) ∷
    PullStream 4 ∷
    PullStream 4 ∷
    PullStream 4 ∷
    PullStream 0 ∷
    PullStream 4 ∷
    OpenRequest ∷
    SendTrailer 0 (head (field (hex (codes "636f6f6b6965")) [] ∷ [])) ∷
    PullStream 0 ∷
    PullStream 0 ∷
    PullStream 4 ∷
    PullStream 8 ∷
    PullStream 15 ∷
    Outgoing 2 ∷
    Outgoing 6 ∷
    Outgoing 10 ∷
    Show ∷
    []

abbrev pub case_7_answers : List Result
case_7_answers =
    Opened 0 ∷
    Opened 4 ∷
    Done ∷
    Done ∷
    Done ∷
    Pulled (pulls.Fault (fault.Connection 261)) ∷
    Refused (refusal.Connection 261) ∷
    Refused (refusal.Connection 261) ∷
    Refused (refusal.Connection 261) ∷
    Pulled (pulls.Fault (fault.Connection 261)) ∷
    Refused (refusal.Connection 261) ∷
    Refused (refusal.Connection 261) ∷
    Refused (refusal.Connection 261) ∷
    Refused (refusal.Connection 261) ∷
    Pulled (pulls.Fault (fault.Connection 261)) ∷
    Refused (refusal.Connection 261) ∷
    Refused (refusal.Connection 261) ∷
    Refused (refusal.Connection 261) ∷
    Refused (refusal.Connection 261) ∷
    Refused (refusal.Connection 261) ∷
    Refused (refusal.Connection 261) ∷
    Refused (refusal.Connection 261) ∷
    Pulled (pulls.Fault (fault.Connection 261)) ∷
    Refused (refusal.Connection 261) ∷
    Pulled (pulls.Fault (fault.Connection 261)) ∷
    Refused (refusal.Connection 261) ∷
    Pulled (pulls.Fault (fault.Connection 261)) ∷
    Pulled (pulls.Fault (fault.Connection 261)) ∷
    Pulled (pulls.Fault (fault.Connection 261)) ∷
    Pulled (pulls.Fault (fault.Connection 261)) ∷
    Pulled (pulls.Fault (fault.Connection 261)) ∷
    Refused (refusal.Closed 261) ∷
    Refused (refusal.Closed 261) ∷
    Pulled (pulls.Fault (fault.Connection 261)) ∷
    Pulled (pulls.Fault (fault.Connection 261)) ∷
    Pulled (pulls.Fault (fault.Connection 261)) ∷
    Pulled (pulls.Fault (fault.Connection 261)) ∷
    Pulled (pulls.Fault (fault.Connection 261)) ∷
    Waits (hex (codes "00041506405a0800ab603742003300ab6037430001000700")) ∷
    Waits (hex (codes "02")) ∷
    Waits (hex (codes "03")) ∷
    Shown None (record { sending = 0; receiving = 0 }) 0 ∷
    []

abbrev pub case_8_endpoint : EndpointHistory
case_8_endpoint = new_endpoint Client (plain 1000 64 2)

abbrev pub case_8 : List Call
case_8 =
    OpenRequest ∷
    OpenRequest ∷
    Deliver 4 (hex (codes "010e00005f098313efff2bf2b47f811721017800")) ∷
    PullStream 8 ∷
    Outgoing 0 ∷
    Deliver 0 (hex (codes "010700")) ∷
    Deliver 8 (hex (codes "011900")) ∷
    PullStream 8 ∷
    Deliver 0 (hex (codes "00")) ∷
    PullStream 8 ∷
    Deliver 4 (hex (codes "0000")) ∷
    PullStream 4 ∷
    Deliver 4 (hex (codes "00")) ∷
    SendTrailer 0 (head (field (hex (codes "736572766572")) (hex (codes "73")) ∷ [])) ∷
    Deliver 15 (hex (codes "0004")) ∷
    Deliver 0 (hex (codes "d85f4d")) ∷
    PullStream 0 ∷
    Deliver 0 (hex (codes "81")) ∷
    Deliver 15 (hex (codes "07")) ∷
    Deliver 8 (hex (codes "00")) ∷
    Deliver 0 (hex (codes "4701030000d901030000c1")) ∷
    Deliver 15 (hex (codes "014190070206290d0105070100")) ∷
    DeliverReset 0 268 ∷
    PullStream 8 ∷
    Finish 0 ∷
    Deliver 8 (hex (codes "d82f03f2b507aa62d8b543a4bf881d5228353b8e")) ∷
    Deliver 8 (hex (codes "8b4bc001030000d9000261622101780000")) ∷
    PullStream 8 ∷
    SendHead 4 (head (field (hex (codes "3a6d6574686f64")) (hex (codes "474554")) ∷ field (hex (codes "3a736368656d65")) (hex (codes "6874747073")) ∷ field (hex (codes "3a617574686f72697479")) (hex (codes "612e62")) ∷ field (hex (codes "3a70617468")) (hex (codes "2f")) ∷ field (hex (codes "782d61")) (hex (codes "31")) ∷ field (hex (codes "736572766572")) (hex (codes "73")) ∷ [])) ∷
    PullStream 0 ∷
    PullStream 0 ∷
    PullStream 0 ∷
    PullStream 4 ∷
    PullStream 8 ∷
    Outgoing 6 ∷
    Outgoing 10 ∷
    Show ∷
    []

abbrev pub case_8_answers : List Result
case_8_answers =
    Opened 0 ∷
    Opened 4 ∷
    Done ∷
    Pulled pulls.NoMessages ∷
    Waits [] ∷
    Done ∷
    Refused refusal.NotOpen ∷
    Pulled pulls.NoMessages ∷
    Done ∷
    Pulled pulls.NoMessages ∷
    Done ∷
    Pulled (pulls.Item (item.Head (head (field (hex (codes "3a737461747573")) (hex (codes "323939")) ∷ field (hex (codes "782d62")) (hex (codes "32")) ∷ [])))) ∷
    Done ∷
    Refused refusal.OutOfOrder ∷
    Done ∷
    Done ∷
    Pulled pulls.Pending ∷
    Done ∷
    Done ∷
    Refused refusal.NotOpen ∷
    Done ∷
    Refused (refusal.Connection 261) ∷
    Refused (refusal.Connection 261) ∷
    Pulled (pulls.Fault (fault.Connection 261)) ∷
    Refused (refusal.Closed 261) ∷
    Refused (refusal.Connection 261) ∷
    Refused (refusal.Connection 261) ∷
    Pulled (pulls.Fault (fault.Connection 261)) ∷
    Refused (refusal.Closed 261) ∷
    Pulled (pulls.Fault (fault.Connection 261)) ∷
    Pulled (pulls.Fault (fault.Connection 261)) ∷
    Pulled (pulls.Fault (fault.Connection 261)) ∷
    Pulled (pulls.Fault (fault.Connection 261)) ∷
    Pulled (pulls.Fault (fault.Connection 261)) ∷
    Waits (hex (codes "023ff102")) ∷
    Waits (hex (codes "03")) ∷
    Shown (Some (record { capacity = 400; blocked = 2; section = 41 })) (record { sending = 0; receiving = 0 }) 0 ∷
    []

abbrev pub case_9_endpoint : EndpointHistory
case_9_endpoint = new_endpoint Client (plain 1000 0 0)

abbrev pub case_9 : List Call
case_9 =
    OpenRequest ∷
    OpenRequest ∷
    OpenRequest ∷
    Deliver 0 (hex (codes "011200005f09830befff5f4d81472bf2b0ff")) ∷
    Deliver 0 (hex (codes "8117010800002bf2b0ff8117")) ∷
    DeliverEnd 0 ∷
    Outgoing 8 ∷
    Deliver 4 (hex (codes "01")) ∷
    Deliver 4 (hex (codes "19")) ∷
    Deliver 4 (hex (codes "00")) ∷
    PullStream 0 ∷
    Deliver 4 (hex (codes "00")) ∷
    Deliver 4 (hex (codes "db")) ∷
    Deliver 4 (hex (codes "2b")) ∷
    SendBody 8 [] ∷
    Deliver 4 (hex (codes "f2")) ∷
    PullStream 8 ∷
    Deliver 4 (hex (codes "b0")) ∷
    Deliver 4 (hex (codes "ff")) ∷
    PullStream 4 ∷
    Deliver 4 (hex (codes "81")) ∷
    Deliver 4 (hex (codes "17")) ∷
    Deliver 4 (hex (codes "dd")) ∷
    Deliver 4 (hex (codes "2f")) ∷
    Deliver 4 (hex (codes "03")) ∷
    Deliver 4 (hex (codes "f2")) ∷
    Deliver 4 (hex (codes "b5")) ∷
    Deliver 4 (hex (codes "07")) ∷
    Deliver 4 (hex (codes "aa")) ∷
    SendBody 0 [] ∷
    Deliver 4 (hex (codes "62")) ∷
    Deliver 4 (hex (codes "d8")) ∷
    Deliver 4 (hex (codes "b5")) ∷
    Deliver 4 (hex (codes "43")) ∷
    Deliver 4 (hex (codes "a4")) ∷
    Deliver 4 (hex (codes "bf")) ∷
    Deliver 4 (hex (codes "81")) ∷
    Deliver 4 (hex (codes "0f")) ∷
    Deliver 4 (hex (codes "dd")) ∷
    Deliver 4 (hex (codes "00")) ∷
    Deliver 4 (hex (codes "03")) ∷
    Deliver 4 (hex (codes "63")) ∷
    Deliver 4 (hex (codes "61")) ∷
    PullStream 4 ∷
    Deliver 4 (hex (codes "63")) ∷
    DeliverReset 4 268 ∷
    Deliver 8 (hex (codes "01")) ∷
    Deliver 8 (hex (codes "08")) ∷
    SendTrailer 8 (head (field (hex (codes "782d6c6f6e6765722d6e616d65")) (hex (codes "31")) ∷ [])) ∷
    Deliver 8 (hex (codes "00")) ∷
    Deliver 8 (hex (codes "00")) ∷
    Deliver 8 (hex (codes "5f")) ∷
    Deliver 8 (hex (codes "09")) ∷
    Deliver 8 (hex (codes "83")) ∷
    Deliver 8 (hex (codes "13")) ∷
    PullStream 8 ∷
    Deliver 8 (hex (codes "ef")) ∷
    PullStream 4 ∷
    Deliver 8 (hex (codes "ff")) ∷
    Deliver 8 (hex (codes "00")) ∷
    Deliver 8 (hex (codes "05")) ∷
    Deliver 8 (hex (codes "61")) ∷
    Deliver 8 (hex (codes "62")) ∷
    Deliver 8 (hex (codes "62")) ∷
    Deliver 8 (hex (codes "62")) ∷
    Deliver 8 (hex (codes "62")) ∷
    Deliver 8 (hex (codes "01")) ∷
    PullStream 0 ∷
    SendBody 0 [] ∷
    Deliver 8 (hex (codes "10")) ∷
    Deliver 8 (hex (codes "00")) ∷
    Deliver 8 (hex (codes "00")) ∷
    PullStream 8 ∷
    Deliver 8 (hex (codes "2f")) ∷
    PullStream 8 ∷
    Deliver 8 (hex (codes "03")) ∷
    Deliver 8 (hex (codes "f2")) ∷
    Deliver 8 (hex (codes "b5")) ∷
    PullStream 8 ∷
    Deliver 8 (hex (codes "07")) ∷
    Deliver 8 (hex (codes "aa")) ∷
    Deliver 8 (hex (codes "62")) ∷
    Deliver 8 (hex (codes "d8")) ∷
    Deliver 8 (hex (codes "b5")) ∷
    PullStream 8 ∷
    Deliver 8 (hex (codes "43")) ∷
    Deliver 8 (hex (codes "a4")) ∷
    Deliver 8 (hex (codes "bf")) ∷
    PullStream 0 ∷
    Deliver 8 (hex (codes "81")) ∷
    Deliver 8 (hex (codes "0f")) ∷
    Deliver 8 (hex (codes "01")) ∷
    Deliver 8 (hex (codes "03")) ∷
    PullStream 4 ∷
    PullStream 0 ∷
    PullStream 4 ∷
    SendBody 8 (hex (codes "7879")) ∷
    PullStream 4 ∷
    SendHead 4 (head (field (hex (codes "3a6d6574686f64")) (hex (codes "474554")) ∷ field (hex (codes "3a736368656d65")) (hex (codes "6874747073")) ∷ field (hex (codes "3a617574686f72697479")) (hex (codes "612e62")) ∷ field (hex (codes "3a70617468")) (hex (codes "2f")) ∷ field (hex (codes "782d61")) (hex (codes "31")) ∷ field (hex (codes "616765")) (hex (codes "37")) ∷ [])) ∷
    PullStream 4 ∷
    PullStream 0 ∷
    PullStream 4 ∷
    PullStream 8 ∷
    PullStream 15 ∷
    Outgoing 2 ∷
    Outgoing 6 ∷
    Outgoing 10 ∷
    Show ∷
    []

abbrev pub case_9_answers : List Result
case_9_answers =
    Opened 0 ∷
    Opened 4 ∷
    Opened 8 ∷
    Done ∷
    Done ∷
    Done ∷
    Waits [] ∷
    Done ∷
    Done ∷
    Done ∷
    Pulled (pulls.Item (item.Interim (head (field (hex (codes "3a737461747573")) (hex (codes "313939")) ∷ field (hex (codes "736572766572")) (hex (codes "73")) ∷ field (hex (codes "782d61")) (hex (codes "32")) ∷ [])))) ∷
    Done ∷
    Done ∷
    Done ∷
    Refused refusal.OutOfOrder ∷
    Done ∷
    Pulled pulls.Pending ∷
    Done ∷
    Done ∷
    Pulled pulls.Pending ∷
    Done ∷
    Done ∷
    Done ∷
    Done ∷
    Done ∷
    Done ∷
    Done ∷
    Done ∷
    Done ∷
    Refused refusal.OutOfOrder ∷
    Done ∷
    Done ∷
    Done ∷
    Done ∷
    Done ∷
    Done ∷
    Done ∷
    Done ∷
    Done ∷
    Done ∷
    Done ∷
    Done ∷
    Done ∷
    Pulled (pulls.Item (item.Head (head (field (hex (codes "3a737461747573")) (hex (codes "343034")) ∷ field (hex (codes "782d61")) (hex (codes "32")) ∷ field (hex (codes "616363657074")) (hex (codes "2a2f2a")) ∷ field (hex (codes "616363657074")) (hex (codes "2a2f2a")) ∷ field (hex (codes "782d6c6f6e6765722d6e616d65")) (hex (codes "31")) ∷ [])))) ∷
    Done ∷
    Done ∷
    Done ∷
    Done ∷
    Refused refusal.OutOfOrder ∷
    Done ∷
    Done ∷
    Done ∷
    Done ∷
    Done ∷
    Done ∷
    Pulled pulls.Pending ∷
    Done ∷
    Pulled (pulls.Fault (fault.Stream (stream_fault.Reset 268))) ∷
    Done ∷
    Done ∷
    Done ∷
    Done ∷
    Done ∷
    Done ∷
    Done ∷
    Done ∷
    Done ∷
    Pulled (pulls.Fault (fault.Stream (stream_fault.Malformed malformation.WrongSide))) ∷
    Refused refusal.OutOfOrder ∷
    Done ∷
    Done ∷
    Done ∷
    Pulled (pulls.Item (item.Head (head (field (hex (codes "3a737461747573")) (hex (codes "323939")) ∷ [])))) ∷
    Done ∷
    Pulled (pulls.Item (item.Body (hex (codes "61")))) ∷
    Done ∷
    Done ∷
    Done ∷
    Pulled (pulls.Item (item.Body (hex (codes "62")))) ∷
    Done ∷
    Done ∷
    Done ∷
    Done ∷
    Done ∷
    Pulled (pulls.Item (item.Body (hex (codes "62")))) ∷
    Done ∷
    Done ∷
    Done ∷
    Pulled (pulls.Fault (fault.Stream (stream_fault.Malformed malformation.WrongSide))) ∷
    Done ∷
    Done ∷
    Done ∷
    Done ∷
    Pulled (pulls.Fault (fault.Stream (stream_fault.Reset 268))) ∷
    Pulled (pulls.Fault (fault.Stream (stream_fault.Malformed malformation.WrongSide))) ∷
    Pulled (pulls.Fault (fault.Stream (stream_fault.Reset 268))) ∷
    Refused refusal.OutOfOrder ∷
    Pulled (pulls.Fault (fault.Stream (stream_fault.Reset 268))) ∷
    Done ∷
    Pulled (pulls.Fault (fault.Stream (stream_fault.Reset 268))) ∷
    Pulled (pulls.Fault (fault.Stream (stream_fault.Malformed malformation.WrongSide))) ∷
    Pulled (pulls.Fault (fault.Stream (stream_fault.Reset 268))) ∷
    Pulled (pulls.Item (item.Body (hex (codes "62")))) ∷
    Pulled pulls.Pending ∷
    Waits (hex (codes "0004150643e80800ab603742003300ab6037430001000700")) ∷
    Waits (hex (codes "02")) ∷
    Waits (hex (codes "034440")) ∷
    Shown None (record { sending = 0; receiving = 0 }) 0 ∷
    []

abbrev pub case_10_endpoint : EndpointHistory
case_10_endpoint = new_endpoint Client (plain 1000 220 2)

abbrev pub case_10 : List Call
case_10 =
    OpenRequest ∷
    OpenRequest ∷
    OpenRequest ∷
    Deliver 3 (hex (codes "00040801406e07010640a6")) ∷
    Deliver 11 (hex (codes "03")) ∷
    SendHead 4 (head (field (hex (codes "3a6d6574686f64")) (hex (codes "474554")) ∷ field (hex (codes "3a70617468")) (hex (codes "2f78")) ∷ field (hex (codes "782d61")) (hex (codes "32")) ∷ field (hex (codes "782d6c6f6e6765722d6e616d65")) (hex (codes "31")) ∷ field (hex (codes "736572766572")) (hex (codes "73")) ∷ [])) ∷
    Finish 4 ∷
    Deliver 11 [] ∷
    Deliver 11 [] ∷
    Deliver 11 [] ∷
    Deliver 11 [] ∷
    Deliver 11 [] ∷
    Deliver 11 [] ∷
    SendHead 4 (head (field (hex (codes "3a6d6574686f64")) (hex (codes "474554")) ∷ field (hex (codes "3a70617468")) (hex (codes "2f78")) ∷ field (hex (codes "636f6f6b6965")) [] ∷ [])) ∷
    SendHead 4 (head (field (hex (codes "3a6d6574686f64")) (hex (codes "474554")) ∷ field (hex (codes "3a70617468")) (hex (codes "2f78")) ∷ field (hex (codes "736572766572")) (hex (codes "73")) ∷ field (hex (codes "736572766572")) (hex (codes "73")) ∷ field (hex (codes "736572766572")) (hex (codes "73")) ∷ field (hex (codes "636f6f6b6965")) [] ∷ field (hex (codes "782d6c6f6e6765722d6e616d65")) (hex (codes "31")) ∷ [])) ∷
    Outgoing 0 ∷
    Outgoing 4 ∷
    Outgoing 8 ∷
    Outgoing 6 ∷
    Outgoing 10 ∷
    Show ∷
    []

abbrev pub case_10_answers : List Result
case_10_answers =
    Opened 0 ∷
    Opened 4 ∷
    Opened 8 ∷
    Done ∷
    Done ∷
    Refused (refusal.TooLarge 202) ∷
    Refused refusal.OutOfOrder ∷
    Done ∷
    Done ∷
    Done ∷
    Done ∷
    Done ∷
    Done ∷
    Done ∷
    Refused refusal.OutOfOrder ∷
    Waits [] ∷
    Waits (hex (codes "01050280d110c5")) ∷
    Waits [] ∷
    Waits (hex (codes "023f4fc18263cf")) ∷
    Waits (hex (codes "03")) ∷
    Shown (Some (record { capacity = 110; blocked = 1; section = 166 })) (record { sending = 39; receiving = 0 }) 0 ∷
    []
