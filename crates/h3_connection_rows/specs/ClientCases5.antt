-- Hostile lists of calls of a client, with what the model of scripts/ answers to them. Made by scripts/gate/connection_cases.py.
use Rattle.std.specs.Prelude.{List, [], ◌∷◌, codes, Some, None}
use Rattle.h3_proto.specs.declared.stream.Side.TheVariants.{Client}
use Rattle.h3_connection.specs.declared.event.Item.TheVariants as item
use Rattle.h3_connection.specs.declared.event.Pull.TheVariants as pulls
use Rattle.h3_connection.specs.declared.event.Refusal.TheVariants as refusal
use Rattle.h3_connection.specs.declared.event.Fault.TheVariants as fault
use Rattle.h3_connection.specs.declared.event.StreamFault.TheVariants as stream_fault
use Rattle.h3_connection.specs.Endpoint.{EndpointHistory, new_endpoint}
use Rattle.h3_connection.specs.CallLists.{Call, Result}
use Rattle.h3_connection.specs.CallLists.Call.{OpenRequest, SendHead, SendBody, SendTrailer, Finish, Outgoing, Deliver, DeliverEnd, DeliverReset, PullStream, Show}
use Rattle.h3_connection.specs.CallLists.Result.{Opened, Done, Refused, Waits, Pulled, Shown}
use Rattle.h3_connection_rows.specs.Worked.{hex, field, head, plain}

abbrev pub case_21_endpoint : EndpointHistory
case_21_endpoint = new_endpoint Client (plain 41 64 1)

abbrev pub case_21 : List Call
case_21 =
    OpenRequest ∷
    OpenRequest ∷
    Deliver 7 (hex (codes "023f21d8830befff6af2b5")) ∷
    Deliver 7 (hex (codes "07aa62d8b543a4bf881d5228353b8e")) ∷
    PullStream 0 ∷
    Deliver 7 (hex (codes "8b4b85810f")) ∷
    Show ∷
    Deliver 8 (hex (codes "012d0000d92f03f2b5")) ∷
    Deliver 8 (hex (codes "07aa62d8b543a4bf881d522835")) ∷
    Deliver 8 (hex (codes "3b8e8b4b2f03f2b507aa62d8b543a4bf881d5228")) ∷
    PullStream 0 ∷
    Deliver 8 (hex (codes "353b8e8b4b01")) ∷
    Deliver 8 (hex (codes "03038010")) ∷
    OpenRequest ∷
    Deliver 4 (hex (codes "01100401815f50033230303db8848d36a38001010200802f03f2b507aa62d8b543a4bf810f010b03010a8210010303323030")) ∷
    DeliverReset 4 268 ∷
    Deliver 3 (hex (codes "00040407020629070103")) ∷
    Deliver 15 (hex (codes "4054046869207468657265")) ∷
    Deliver 0 (hex (codes "40bc0378797a01090280102bf2b0ff810f000162")) ∷
    DeliverEnd 0 ∷
    SendHead 4 (head (field (hex (codes "3a6d6574686f64")) (hex (codes "504f5354")) ∷ field (hex (codes "3a736368656d65")) (hex (codes "6874747073")) ∷ field (hex (codes "3a617574686f72697479")) (hex (codes "7777772e6578616d706c652e636f6d")) ∷ field (hex (codes "3a70617468")) (hex (codes "2f")) ∷ field (hex (codes "782d61")) (hex (codes "31")) ∷ field (hex (codes "736572766572")) (hex (codes "73")) ∷ field (hex (codes "616363657074")) (hex (codes "2a2f2a")) ∷ field (hex (codes "636f6f6b6965")) [] ∷ [])) ∷
    PullStream 4 ∷
    SendHead 8 (head (field (hex (codes "3a6d6574686f64")) (hex (codes "504f5354")) ∷ field (hex (codes "3a736368656d65")) (hex (codes "6874747073")) ∷ field (hex (codes "3a617574686f72697479")) (hex (codes "612e62")) ∷ field (hex (codes "3a70617468")) (hex (codes "2f")) ∷ field (hex (codes "782d6c6f6e6765722d6e616d65")) (hex (codes "616e6420612076616c7565")) ∷ field (hex (codes "782d6c6f6e6765722d6e616d65")) (hex (codes "616e6420612076616c7565")) ∷ field (hex (codes "782d61")) (hex (codes "31")) ∷ [])) ∷
    PullStream 4 ∷
    PullStream 4 ∷
    PullStream 8 ∷
    SendHead 4 (head (field (hex (codes "3a6d6574686f64")) (hex (codes "504f5354")) ∷ field (hex (codes "3a736368656d65")) (hex (codes "6874747073")) ∷ field (hex (codes "3a617574686f72697479")) (hex (codes "612e62")) ∷ field (hex (codes "3a70617468")) (hex (codes "2f")) ∷ field (hex (codes "782d61")) (hex (codes "31")) ∷ field (hex (codes "782d61")) (hex (codes "32")) ∷ field (hex (codes "616363657074")) (hex (codes "2a2f2a")) ∷ field (hex (codes "782d6c6f6e6765722d6e616d65")) (hex (codes "31")) ∷ [])) ∷
    Outgoing 4 ∷
    PullStream 8 ∷
    PullStream 0 ∷
    PullStream 0 ∷
    PullStream 0 ∷
    PullStream 0 ∷
    PullStream 4 ∷
    PullStream 8 ∷
    PullStream 15 ∷
    Outgoing 2 ∷
    Outgoing 6 ∷
    Outgoing 10 ∷
    Show ∷
    []

abbrev pub case_21_answers : List Result
case_21_answers =
    Opened 0 ∷
    Opened 4 ∷
    Done ∷
    Done ∷
    Pulled pulls.Pending ∷
    Refused (refusal.Connection 513) ∷
    Shown None (record { sending = 0; receiving = 56 }) 0 ∷
    Refused (refusal.Connection 513) ∷
    Refused (refusal.Connection 513) ∷
    Refused (refusal.Connection 513) ∷
    Pulled (pulls.Fault (fault.Connection 513)) ∷
    Refused (refusal.Connection 513) ∷
    Refused (refusal.Connection 513) ∷
    Refused (refusal.Closed 513) ∷
    Refused (refusal.Connection 513) ∷
    Refused (refusal.Connection 513) ∷
    Refused (refusal.Connection 513) ∷
    Refused (refusal.Connection 513) ∷
    Refused (refusal.Connection 513) ∷
    Refused (refusal.Connection 513) ∷
    Refused (refusal.Closed 513) ∷
    Pulled (pulls.Fault (fault.Connection 513)) ∷
    Refused (refusal.Closed 513) ∷
    Pulled (pulls.Fault (fault.Connection 513)) ∷
    Pulled (pulls.Fault (fault.Connection 513)) ∷
    Pulled (pulls.Fault (fault.Connection 513)) ∷
    Refused (refusal.Closed 513) ∷
    Waits [] ∷
    Pulled (pulls.Fault (fault.Connection 513)) ∷
    Pulled (pulls.Fault (fault.Connection 513)) ∷
    Pulled (pulls.Fault (fault.Connection 513)) ∷
    Pulled (pulls.Fault (fault.Connection 513)) ∷
    Pulled (pulls.Fault (fault.Connection 513)) ∷
    Pulled (pulls.Fault (fault.Connection 513)) ∷
    Pulled (pulls.Fault (fault.Connection 513)) ∷
    Pulled (pulls.Fault (fault.Connection 513)) ∷
    Waits (hex (codes "00041506290800ab603742003300ab603743000140400701")) ∷
    Waits (hex (codes "02")) ∷
    Waits (hex (codes "030101")) ∷
    Shown None (record { sending = 0; receiving = 56 }) 0 ∷
    []

abbrev pub case_22_endpoint : EndpointHistory
case_22_endpoint = new_endpoint Client (plain 1000 220 2)

abbrev pub case_22 : List Call
case_22 =
    OpenRequest ∷
    OpenRequest ∷
    OpenRequest ∷
    OpenRequest ∷
    OpenRequest ∷
    OpenRequest ∷
    OpenRequest ∷
    OpenRequest ∷
    OpenRequest ∷
    OpenRequest ∷
    Deliver 3 (hex (codes "000406014046074064")) ∷
    Deliver 11 (hex (codes "03")) ∷
    Deliver 11 [] ∷
    SendHead 8 (head (field (hex (codes "3a6d6574686f64")) (hex (codes "474554")) ∷ field (hex (codes "3a70617468")) (hex (codes "2f78")) ∷ field (hex (codes "782d61")) (hex (codes "31")) ∷ [])) ∷
    Deliver 11 (hex (codes "48")) ∷
    Deliver 11 (hex (codes "01")) ∷
    Deliver 11 (hex (codes "48")) ∷
    Deliver 11 [] ∷
    SendHead 28 (head (field (hex (codes "3a6d6574686f64")) (hex (codes "474554")) ∷ field (hex (codes "3a70617468")) (hex (codes "2f78")) ∷ [])) ∷
    Deliver 11 (hex (codes "5c")) ∷
    SendHead 28 (head (field (hex (codes "3a6d6574686f64")) (hex (codes "474554")) ∷ field (hex (codes "3a70617468")) (hex (codes "2f78")) ∷ field (hex (codes "782d61")) (hex (codes "7a7a7a7a7a7a7a7a7a7a7a7a7a7a7a7a7a7a7a7a7a7a7a7a7a7a7a7a7a7a")) ∷ field (hex (codes "782d61")) (hex (codes "31")) ∷ [])) ∷
    SendTrailer 8 (head (field (hex (codes "782d6c6f6e6765722d6e616d65")) (hex (codes "616e6420612076616c7565")) ∷ field (hex (codes "782d6c6f6e6765722d6e616d65")) (hex (codes "616e6420612076616c7565")) ∷ field (hex (codes "616765")) (hex (codes "37")) ∷ field (hex (codes "616765")) (hex (codes "37")) ∷ field (hex (codes "782d61")) (hex (codes "31")) ∷ [])) ∷
    SendHead 12 (head (field (hex (codes "3a6d6574686f64")) (hex (codes "474554")) ∷ field (hex (codes "3a70617468")) (hex (codes "2f78")) ∷ field (hex (codes "782d61")) (hex (codes "31")) ∷ [])) ∷
    Deliver 11 (hex (codes "8c")) ∷
    SendHead 20 (head (field (hex (codes "3a6d6574686f64")) (hex (codes "474554")) ∷ field (hex (codes "3a70617468")) (hex (codes "2f78")) ∷ field (hex (codes "782d61")) (hex (codes "7a7a7a7a7a7a7a7a7a7a7a7a7a7a7a7a7a7a7a7a7a7a7a7a7a7a7a7a7a7a")) ∷ field (hex (codes "782d61")) (hex (codes "31")) ∷ field (hex (codes "782d61")) (hex (codes "31")) ∷ [])) ∷
    SendTrailer 24 (head (field (hex (codes "616765")) (hex (codes "37")) ∷ field (hex (codes "782d61")) (hex (codes "7a7a7a7a7a7a7a7a7a7a7a7a7a7a7a7a7a7a7a7a7a7a7a7a7a7a7a7a7a7a")) ∷ field (hex (codes "782d62")) (hex (codes "32")) ∷ [])) ∷
    Deliver 11 (hex (codes "94")) ∷
    SendHead 0 (head (field (hex (codes "3a6d6574686f64")) (hex (codes "474554")) ∷ field (hex (codes "3a70617468")) (hex (codes "2f78")) ∷ field (hex (codes "782d61")) (hex (codes "31")) ∷ field (hex (codes "782d61")) (hex (codes "7a7a7a7a7a7a7a7a7a7a7a7a7a7a7a7a7a7a7a7a7a7a7a7a7a7a7a7a7a7a")) ∷ [])) ∷
    SendTrailer 24 (head (field (hex (codes "782d6c6f6e6765722d6e616d65")) (hex (codes "616e6420612076616c7565")) ∷ field (hex (codes "616765")) (hex (codes "37")) ∷ field (hex (codes "782d61")) (hex (codes "7a7a7a7a7a7a7a7a7a7a7a7a7a7a7a7a7a7a7a7a7a7a7a7a7a7a7a7a7a7a")) ∷ [])) ∷
    Deliver 11 (hex (codes "80")) ∷
    Deliver 11 [] ∷
    Outgoing 0 ∷
    Outgoing 4 ∷
    Outgoing 8 ∷
    Outgoing 12 ∷
    Outgoing 16 ∷
    Outgoing 20 ∷
    Outgoing 24 ∷
    Outgoing 28 ∷
    Outgoing 32 ∷
    Outgoing 36 ∷
    Outgoing 6 ∷
    Outgoing 10 ∷
    Show ∷
    []

abbrev pub case_22_answers : List Result
case_22_answers =
    Opened 0 ∷
    Opened 4 ∷
    Opened 8 ∷
    Opened 12 ∷
    Opened 16 ∷
    Opened 20 ∷
    Opened 24 ∷
    Opened 28 ∷
    Opened 32 ∷
    Opened 36 ∷
    Done ∷
    Done ∷
    Done ∷
    Done ∷
    Done ∷
    Done ∷
    Done ∷
    Done ∷
    Done ∷
    Done ∷
    Refused refusal.OutOfOrder ∷
    Done ∷
    Done ∷
    Done ∷
    Done ∷
    Refused refusal.OutOfOrder ∷
    Done ∷
    Done ∷
    Refused refusal.OutOfOrder ∷
    Done ∷
    Done ∷
    Waits (hex (codes "012a0200d1802bf2b0ff810f2bf2b0ff9bf7efdfbf7efdfbf7efdfbf7efdfbf7efdfbf7efdfbf7efdfbf7eff")) ∷
    Waits [] ∷
    Waits (hex (codes "010a0280d1102bf2b0ff810f013800002f03f2b507aa62d8b543a4bf881d5228353b8e8b4b2f03f2b507aa62d8b543a4bf881d5228353b8e8b4b5281775281772bf2b0ff810f")) ∷
    Waits (hex (codes "010a0200d1802bf2b0ff810f")) ∷
    Waits [] ∷
    Waits (hex (codes "01300200d1802bf2b0ff9bf7efdfbf7efdfbf7efdfbf7efdfbf7efdfbf7efdfbf7efdfbf7eff2bf2b0ff810f2bf2b0ff810f")) ∷
    Waits [] ∷
    Waits (hex (codes "01040200d180")) ∷
    Waits [] ∷
    Waits [] ∷
    Waits (hex (codes "023f27c18263cf")) ∷
    Waits (hex (codes "03")) ∷
    Shown (Some (record { capacity = 70; blocked = 100; section = 4611686018427387903 })) (record { sending = 39; receiving = 0 }) 0 ∷
    []

abbrev pub case_23_endpoint : EndpointHistory
case_23_endpoint = new_endpoint Client (plain 130 0 3)

abbrev pub case_23 : List Call
case_23 =
    OpenRequest ∷
    OpenRequest ∷
    OpenRequest ∷
    Deliver 19 (hex (codes "4054046869207468657265")) ∷
    PullStream 19 ∷
    Finish 8 ∷
    Deliver 7 (hex (codes "02")) ∷
    PullStream 4 ∷
    Deliver 7 (hex (codes "4d")) ∷
    Deliver 7 (hex (codes "78")) ∷
    Deliver 15 (hex (codes "40")) ∷
    Deliver 7 (hex (codes "2d")) ∷
    Deliver 7 (hex (codes "6c")) ∷
    Deliver 7 (hex (codes "6f")) ∷
    Deliver 7 (hex (codes "6e")) ∷
    PullStream 0 ∷
    Deliver 7 (hex (codes "67")) ∷
    Deliver 7 (hex (codes "65")) ∷
    Deliver 7 (hex (codes "72")) ∷
    PullStream 4 ∷
    Deliver 7 (hex (codes "2d")) ∷
    Deliver 7 (hex (codes "6e")) ∷
    Deliver 7 (hex (codes "61")) ∷
    Deliver 0 (hex (codes "01800000030000d90003616163000161")) ∷
    OpenRequest ∷
    Deliver 4 (hex (codes "0114000d5f09830befff")) ∷
    Deliver 4 (hex (codes "c55f4d81472bf2ff8117dd")) ∷
    PullStream 4 ∷
    Deliver 7 (hex (codes "6d")) ∷
    Deliver 7 (hex (codes "65")) ∷
    SendTrailer 8 (head (field (hex (codes "782d61")) (hex (codes "31")) ∷ [])) ∷
    Deliver 7 (hex (codes "a3")) ∷
    Deliver 7 (hex (codes "f7")) ∷
    OpenRequest ∷
    Deliver 3 (hex (codes "00")) ∷
    Deliver 3 (hex (codes "0405030006")) ∷
    PullStream 0 ∷
    Deliver 3 (hex (codes "43")) ∷
    Deliver 3 (hex (codes "e8070100")) ∷
    Deliver 7 (hex (codes "ef")) ∷
    Deliver 7 (hex (codes "df")) ∷
    Deliver 7 (hex (codes "bf")) ∷
    Deliver 7 (hex (codes "7e")) ∷
    Deliver 7 (hex (codes "fd")) ∷
    Deliver 7 (hex (codes "fb")) ∷
    Deliver 7 (hex (codes "f7")) ∷
    Deliver 7 (hex (codes "ef")) ∷
    PullStream 0 ∷
    Deliver 7 (hex (codes "df")) ∷
    Deliver 7 (hex (codes "bf")) ∷
    Deliver 7 (hex (codes "7e")) ∷
    PullStream 8 ∷
    Deliver 7 (hex (codes "fd")) ∷
    Deliver 7 (hex (codes "fb")) ∷
    Deliver 7 (hex (codes "f7")) ∷
    PullStream 7 ∷
    Deliver 7 (hex (codes "ef")) ∷
    PullStream 7 ∷
    Deliver 7 (hex (codes "df")) ∷
    Deliver 7 (hex (codes "bf")) ∷
    Deliver 7 (hex (codes "7e")) ∷
    Deliver 7 (hex (codes "fd")) ∷
    Deliver 7 (hex (codes "fb")) ∷
    Deliver 7 (hex (codes "f7")) ∷
    Deliver 7 (hex (codes "ef")) ∷
    PullStream 7 ∷
    Deliver 7 (hex (codes "df")) ∷
    Deliver 7 (hex (codes "bf")) ∷
    Deliver 7 (hex (codes "7e")) ∷
    PullStream 4 ∷
    Deliver 7 (hex (codes "fd")) ∷
    Deliver 7 (hex (codes "fb")) ∷
    PullStream 0 ∷
    Deliver 7 (hex (codes "f7")) ∷
    PullStream 8 ∷
    Deliver 7 (hex (codes "ef")) ∷
    Deliver 7 (hex (codes "df")) ∷
    Deliver 7 (hex (codes "bf")) ∷
    Deliver 7 (hex (codes "7e")) ∷
    Deliver 7 (hex (codes "fd")) ∷
    Deliver 7 (hex (codes "fb")) ∷
    PullStream 4 ∷
    Deliver 7 (hex (codes "05")) ∷
    PullStream 8 ∷
    Deliver 7 (hex (codes "85")) ∷
    Deliver 7 (hex (codes "a3")) ∷
    SendHead 4 (head (field (hex (codes "3a6d6574686f64")) (hex (codes "504f5354")) ∷ field (hex (codes "3a736368656d65")) (hex (codes "6874747073")) ∷ field (hex (codes "3a617574686f72697479")) (hex (codes "7777772e6578616d706c652e636f6d")) ∷ field (hex (codes "3a70617468")) (hex (codes "2f")) ∷ field (hex (codes "782d6c6f6e6765722d6e616d65")) (hex (codes "31")) ∷ field (hex (codes "782d6c6f6e6765722d6e616d65")) (hex (codes "31")) ∷ [])) ∷
    Deliver 7 (hex (codes "f7")) ∷
    Deliver 7 (hex (codes "ef")) ∷
    PullStream 7 ∷
    Deliver 7 (hex (codes "df")) ∷
    Deliver 7 (hex (codes "bf")) ∷
    Deliver 7 (hex (codes "7e")) ∷
    PullStream 4 ∷
    Deliver 7 (hex (codes "fd")) ∷
    Deliver 7 (hex (codes "fb")) ∷
    Deliver 7 (hex (codes "f7")) ∷
    Deliver 7 (hex (codes "ef")) ∷
    PullStream 8 ∷
    Deliver 7 (hex (codes "df")) ∷
    PullStream 4 ∷
    Deliver 7 (hex (codes "bf")) ∷
    Deliver 7 (hex (codes "7e")) ∷
    Deliver 7 (hex (codes "fd")) ∷
    Deliver 7 (hex (codes "fb")) ∷
    Deliver 7 (hex (codes "f7")) ∷
    Deliver 7 (hex (codes "ef")) ∷
    Finish 8 ∷
    SendBody 0 [] ∷
    PullStream 4 ∷
    PullStream 4 ∷
    SendHead 4 (head (field (hex (codes "3a6d6574686f64")) (hex (codes "504f5354")) ∷ field (hex (codes "3a736368656d65")) (hex (codes "6874747073")) ∷ field (hex (codes "3a617574686f72697479")) (hex (codes "7777772e6578616d706c652e636f6d")) ∷ field (hex (codes "3a70617468")) (hex (codes "2f")) ∷ field (hex (codes "782d6c6f6e6765722d6e616d65")) (hex (codes "616e6420612076616c7565")) ∷ [])) ∷
    PullStream 4 ∷
    PullStream 0 ∷
    PullStream 4 ∷
    PullStream 8 ∷
    PullStream 15 ∷
    Outgoing 2 ∷
    Outgoing 6 ∷
    Outgoing 10 ∷
    Show ∷
    []

abbrev pub case_23_answers : List Result
case_23_answers =
    Opened 0 ∷
    Opened 4 ∷
    Opened 8 ∷
    Done ∷
    Pulled (pulls.Item (item.Session 4)) ∷
    Refused refusal.OutOfOrder ∷
    Done ∷
    Pulled pulls.Pending ∷
    Done ∷
    Done ∷
    Done ∷
    Done ∷
    Done ∷
    Done ∷
    Done ∷
    Pulled pulls.Pending ∷
    Done ∷
    Done ∷
    Done ∷
    Pulled pulls.Pending ∷
    Done ∷
    Done ∷
    Done ∷
    Done ∷
    Opened 12 ∷
    Done ∷
    Done ∷
    Pulled pulls.Pending ∷
    Done ∷
    Done ∷
    Refused refusal.OutOfOrder ∷
    Done ∷
    Done ∷
    Opened 16 ∷
    Done ∷
    Done ∷
    Pulled (pulls.Item (item.Head (head (field (hex (codes "3a737461747573")) (hex (codes "323030")) ∷ [])))) ∷
    Done ∷
    Refused (refusal.Connection 265) ∷
    Refused (refusal.Connection 265) ∷
    Refused (refusal.Connection 265) ∷
    Refused (refusal.Connection 265) ∷
    Refused (refusal.Connection 265) ∷
    Refused (refusal.Connection 265) ∷
    Refused (refusal.Connection 265) ∷
    Refused (refusal.Connection 265) ∷
    Refused (refusal.Connection 265) ∷
    Pulled (pulls.Fault (fault.Connection 265)) ∷
    Refused (refusal.Connection 265) ∷
    Refused (refusal.Connection 265) ∷
    Refused (refusal.Connection 265) ∷
    Pulled (pulls.Fault (fault.Connection 265)) ∷
    Refused (refusal.Connection 265) ∷
    Refused (refusal.Connection 265) ∷
    Refused (refusal.Connection 265) ∷
    Pulled (pulls.Fault (fault.Connection 265)) ∷
    Refused (refusal.Connection 265) ∷
    Pulled (pulls.Fault (fault.Connection 265)) ∷
    Refused (refusal.Connection 265) ∷
    Refused (refusal.Connection 265) ∷
    Refused (refusal.Connection 265) ∷
    Refused (refusal.Connection 265) ∷
    Refused (refusal.Connection 265) ∷
    Refused (refusal.Connection 265) ∷
    Refused (refusal.Connection 265) ∷
    Pulled (pulls.Fault (fault.Connection 265)) ∷
    Refused (refusal.Connection 265) ∷
    Refused (refusal.Connection 265) ∷
    Refused (refusal.Connection 265) ∷
    Pulled (pulls.Fault (fault.Connection 265)) ∷
    Refused (refusal.Connection 265) ∷
    Refused (refusal.Connection 265) ∷
    Pulled (pulls.Fault (fault.Connection 265)) ∷
    Refused (refusal.Connection 265) ∷
    Pulled (pulls.Fault (fault.Connection 265)) ∷
    Refused (refusal.Connection 265) ∷
    Refused (refusal.Connection 265) ∷
    Refused (refusal.Connection 265) ∷
    Refused (refusal.Connection 265) ∷
    Refused (refusal.Connection 265) ∷
    Refused (refusal.Connection 265) ∷
    Pulled (pulls.Fault (fault.Connection 265)) ∷
    Refused (refusal.Connection 265) ∷
    Pulled (pulls.Fault (fault.Connection 265)) ∷
    Refused (refusal.Connection 265) ∷
    Refused (refusal.Connection 265) ∷
    Refused (refusal.Closed 265) ∷
    Refused (refusal.Connection 265) ∷
    Refused (refusal.Connection 265) ∷
    Pulled (pulls.Fault (fault.Connection 265)) ∷
    Refused (refusal.Connection 265) ∷
    Refused (refusal.Connection 265) ∷
    Refused (refusal.Connection 265) ∷
    Pulled (pulls.Fault (fault.Connection 265)) ∷
    Refused (refusal.Connection 265) ∷
    Refused (refusal.Connection 265) ∷
    Refused (refusal.Connection 265) ∷
    Refused (refusal.Connection 265) ∷
    Pulled (pulls.Fault (fault.Connection 265)) ∷
    Refused (refusal.Connection 265) ∷
    Pulled (pulls.Fault (fault.Connection 265)) ∷
    Refused (refusal.Connection 265) ∷
    Refused (refusal.Connection 265) ∷
    Refused (refusal.Connection 265) ∷
    Refused (refusal.Connection 265) ∷
    Refused (refusal.Connection 265) ∷
    Refused (refusal.Connection 265) ∷
    Refused (refusal.Closed 265) ∷
    Refused (refusal.Closed 265) ∷
    Pulled (pulls.Fault (fault.Connection 265)) ∷
    Pulled (pulls.Fault (fault.Connection 265)) ∷
    Refused (refusal.Closed 265) ∷
    Pulled (pulls.Fault (fault.Connection 265)) ∷
    Pulled (pulls.Fault (fault.Connection 265)) ∷
    Pulled (pulls.Fault (fault.Connection 265)) ∷
    Pulled (pulls.Fault (fault.Connection 265)) ∷
    Pulled (pulls.Fault (fault.Connection 265)) ∷
    Waits (hex (codes "0004150640820800ab603742003300ab6037430001000703")) ∷
    Waits (hex (codes "02")) ∷
    Waits (hex (codes "03")) ∷
    Shown None (record { sending = 0; receiving = 0 }) 0 ∷
    []

abbrev pub case_24_endpoint : EndpointHistory
case_24_endpoint = new_endpoint Client (plain 41 64 3)

abbrev pub case_24 : List Call
case_24 =
    OpenRequest ∷
    OpenRequest ∷
    Deliver 7 (hex (codes "02")) ∷
    PullStream 8 ∷
    Deliver 0 (hex (codes "010d0000d95f4d81472bf2b47f81170000")) ∷
    PullStream 0 ∷
    DeliverEnd 0 ∷
    Deliver 15 (hex (codes "000404010007000d0107")) ∷
    PullStream 0 ∷
    PullStream 4 ∷
    PullStream 4 ∷
    PullStream 8 ∷
    Outgoing 6 ∷
    Outgoing 10 ∷
    Show ∷
    []

abbrev pub case_24_answers : List Result
case_24_answers =
    Opened 0 ∷
    Opened 4 ∷
    Done ∷
    Pulled pulls.NoMessages ∷
    Done ∷
    Pulled (pulls.Item (item.TooLarge 117)) ∷
    Done ∷
    Refused (refusal.Connection 261) ∷
    Pulled (pulls.Fault (fault.Connection 261)) ∷
    Pulled (pulls.Fault (fault.Connection 261)) ∷
    Pulled (pulls.Fault (fault.Connection 261)) ∷
    Pulled (pulls.Fault (fault.Connection 261)) ∷
    Waits (hex (codes "02")) ∷
    Waits (hex (codes "03")) ∷
    Shown (Some (record { capacity = 0; blocked = 0; section = 4611686018427387903 })) (record { sending = 0; receiving = 0 }) 0 ∷
    []

abbrev pub case_25_endpoint : EndpointHistory
case_25_endpoint = new_endpoint Client (plain 90 400 1)

abbrev pub case_25 : List Call
case_25 =
    OpenRequest ∷
    OpenRequest ∷
    OpenRequest ∷
    Deliver 0 (hex (codes "01")) ∷
    Deliver 0 (hex (codes "05")) ∷
    PullStream 0 ∷
    Deliver 0 (hex (codes "04")) ∷
    Deliver 0 (hex (codes "82")) ∷
    Deliver 0 (hex (codes "10")) ∷
    PullStream 0 ∷
    Deliver 0 (hex (codes "11")) ∷
    PullStream 8 ∷
    Deliver 0 (hex (codes "12")) ∷
    Deliver 0 (hex (codes "01")) ∷
    Deliver 0 (hex (codes "04")) ∷
    Deliver 0 (hex (codes "05")) ∷
    PullStream 0 ∷
    Deliver 0 (hex (codes "80")) ∷
    Deliver 0 (hex (codes "10")) ∷
    Deliver 0 (hex (codes "80")) ∷
    Deliver 0 (hex (codes "c0")) ∷
    Deliver 0 (hex (codes "00")) ∷
    Deliver 0 (hex (codes "00")) ∷
    Deliver 0 (hex (codes "00")) ∷
    Deliver 0 (hex (codes "00")) ∷
    Deliver 0 (hex (codes "00")) ∷
    Deliver 0 (hex (codes "00")) ∷
    DeliverEnd 14 ∷
    Deliver 0 (hex (codes "00")) ∷
    Deliver 0 (hex (codes "40")) ∷
    Deliver 0 (hex (codes "04")) ∷
    PullStream 0 ∷
    Deliver 0 (hex (codes "61")) ∷
    Deliver 0 (hex (codes "61")) ∷
    Deliver 0 (hex (codes "63")) ∷
    PullStream 8 ∷
    Deliver 0 (hex (codes "62")) ∷
    Deliver 0 (hex (codes "40")) ∷
    Deliver 0 (hex (codes "00")) ∷
    Deliver 0 (hex (codes "02")) ∷
    Deliver 0 (hex (codes "61")) ∷
    Deliver 0 (hex (codes "62")) ∷
    PullStream 8 ∷
    DeliverReset 0 268 ∷
    SendHead 0 (head (field (hex (codes "3a6d6574686f64")) (hex (codes "504f5354")) ∷ field (hex (codes "3a736368656d65")) (hex (codes "6874747073")) ∷ field (hex (codes "3a617574686f72697479")) (hex (codes "612e62")) ∷ field (hex (codes "3a70617468")) (hex (codes "2f")) ∷ [])) ∷
    Deliver 4 (hex (codes "01070781d910c5")) ∷
    Deliver 4 (hex (codes "1181000163")) ∷
    SendTrailer 0 (head (field (hex (codes "736572766572")) (hex (codes "73")) ∷ [])) ∷
    SendHead 8 (head (field (hex (codes "3a6d6574686f64")) (hex (codes "474554")) ∷ field (hex (codes "3a736368656d65")) (hex (codes "6874747073")) ∷ field (hex (codes "3a617574686f72697479")) (hex (codes "7777772e6578616d706c652e636f6d")) ∷ field (hex (codes "3a70617468")) (hex (codes "2f")) ∷ field (hex (codes "616363657074")) (hex (codes "2a2f2a")) ∷ [])) ∷
    Deliver 3 (hex (codes "000408078000ffff0640782101")) ∷
    Deliver 3 (hex (codes "78")) ∷
    SendTrailer 8 (head (field (hex (codes "782d6c6f6e6765722d6e616d65")) (hex (codes "616e6420612076616c7565")) ∷ [])) ∷
    Deliver 7 (hex (codes "023ff102d8830befff6af2b507aa62d8b5")) ∷
    Deliver 7 (hex (codes "43a4bf")) ∷
    Deliver 7 (hex (codes "810f63f2b0ff810fd88313efffff1d8147c281")) ∷
    Deliver 7 (hex (codes "77")) ∷
    Deliver 11 (hex (codes "03010203")) ∷
    SendHead 0 (head (field (hex (codes "3a6d6574686f64")) (hex (codes "474554")) ∷ field (hex (codes "3a736368656d65")) (hex (codes "6874747073")) ∷ field (hex (codes "3a617574686f72697479")) (hex (codes "612e62")) ∷ field (hex (codes "3a70617468")) (hex (codes "2f")) ∷ field (hex (codes "782d6c6f6e6765722d6e616d65")) (hex (codes "616e6420612076616c7565")) ∷ field (hex (codes "782d6c6f6e6765722d6e616d65")) (hex (codes "31")) ∷ field (hex (codes "736572766572")) (hex (codes "73")) ∷ field (hex (codes "616363657074")) (hex (codes "2a2f2a")) ∷ [])) ∷
    PullStream 8 ∷
    PullStream 8 ∷
    PullStream 0 ∷
    PullStream 4 ∷
    PullStream 4 ∷
    PullStream 0 ∷
    PullStream 4 ∷
    PullStream 8 ∷
    PullStream 15 ∷
    Outgoing 2 ∷
    Outgoing 6 ∷
    Outgoing 10 ∷
    Show ∷
    []

abbrev pub case_25_answers : List Result
case_25_answers =
    Opened 0 ∷
    Opened 4 ∷
    Opened 8 ∷
    Done ∷
    Done ∷
    Pulled pulls.Pending ∷
    Done ∷
    Done ∷
    Done ∷
    Pulled pulls.Pending ∷
    Done ∷
    Pulled pulls.Pending ∷
    Done ∷
    Done ∷
    Done ∷
    Done ∷
    Pulled (pulls.Waiting 3) ∷
    Done ∷
    Done ∷
    Done ∷
    Done ∷
    Done ∷
    Done ∷
    Done ∷
    Done ∷
    Done ∷
    Done ∷
    Refused refusal.NotReceiving ∷
    Done ∷
    Done ∷
    Done ∷
    Pulled (pulls.Waiting 3) ∷
    Done ∷
    Done ∷
    Done ∷
    Pulled pulls.Pending ∷
    Done ∷
    Done ∷
    Done ∷
    Done ∷
    Done ∷
    Done ∷
    Pulled pulls.Pending ∷
    Done ∷
    Done ∷
    Done ∷
    Done ∷
    Done ∷
    Done ∷
    Done ∷
    Done ∷
    Done ∷
    Done ∷
    Done ∷
    Done ∷
    Done ∷
    Done ∷
    Refused refusal.OutOfOrder ∷
    Pulled pulls.Pending ∷
    Pulled pulls.Pending ∷
    Pulled (pulls.Fault (fault.Stream (stream_fault.Reset 268))) ∷
    Pulled (pulls.Item (item.TooLarge 191)) ∷
    Pulled (pulls.Item (item.Body (hex (codes "63")))) ∷
    Pulled (pulls.Fault (fault.Stream (stream_fault.Reset 268))) ∷
    Pulled pulls.Pending ∷
    Pulled pulls.Pending ∷
    Pulled pulls.Pending ∷
    Waits (hex (codes "00041606405a0800ab603742003300ab603743000141900701")) ∷
    Waits (hex (codes "02")) ∷
    Waits (hex (codes "034001040184")) ∷
    Shown (Some (record { capacity = 0; blocked = 65535; section = 120 })) (record { sending = 0; receiving = 241 }) 0 ∷
    []
