-- Hostile lists of calls of a server, with what the model of scripts/ answers to them. Made by scripts/gate/connection_cases.py.
use Rattle.std.specs.Prelude.{List, [], ◌∷◌, codes, Some, None}
use Rattle.h3_proto.specs.declared.stream.Side.TheVariants.{Server}
use Rattle.h3_connection.specs.declared.event.Item.TheVariants as item
use Rattle.h3_connection.specs.declared.event.Pull.TheVariants as pulls
use Rattle.h3_connection.specs.declared.event.Refusal.TheVariants as refusal
use Rattle.h3_connection.specs.declared.event.Fault.TheVariants as fault
use Rattle.h3_connection.specs.declared.event.StreamFault.TheVariants as stream_fault
use Rattle.h3_connection.specs.Endpoint.{EndpointHistory, new_endpoint}
use Rattle.h3_connection.specs.CallLists.{Call, Result}
use Rattle.h3_connection.specs.CallLists.Call.{OpenRequest, SendHead, SendTrailer, Finish, Outgoing, Deliver, DeliverEnd, DeliverReset, PullStream, Show}
use Rattle.h3_connection.specs.CallLists.Result.{Done, Refused, Waits, Pulled, Shown}
use Rattle.h3_connection_rows.specs.Worked.{hex, field, head, plain}

abbrev pub case_11_endpoint : EndpointHistory
case_11_endpoint = new_endpoint Server (plain 90 31 0)

abbrev pub case_11 : List Call
case_11 =
    Deliver 18 (hex (codes "0100")) ∷
    SendHead 0 (head (field (hex (codes "3a737461747573")) (hex (codes "313939")) ∷ field (hex (codes "636f6f6b6965")) [] ∷ field (hex (codes "636f6f6b6965")) [] ∷ field (hex (codes "782d6c6f6e6765722d6e616d65")) (hex (codes "616e6420612076616c7565")) ∷ field (hex (codes "782d6c6f6e6765722d6e616d65")) (hex (codes "616e6420612076616c7565")) ∷ [])) ∷
    Deliver 10 (hex (codes "0302")) ∷
    SendHead 8 (head (field (hex (codes "3a737461747573")) (hex (codes "313939")) ∷ field (hex (codes "616363657074")) (hex (codes "2a2f2a")) ∷ field (hex (codes "636f6f6b6965")) [] ∷ [])) ∷
    Deliver 2 (hex (codes "00c000000000000004")) ∷
    PullStream 12 ∷
    Deliver 2 (hex (codes "800000060640780140dc0d010504020640")) ∷
    PullStream 12 ∷
    SendHead 8 (head (field (hex (codes "3a737461747573")) (hex (codes "313939")) ∷ field (hex (codes "782d61")) (hex (codes "31")) ∷ field (hex (codes "782d6c6f6e6765722d6e616d65")) (hex (codes "31")) ∷ field (hex (codes "616765")) (hex (codes "37")) ∷ field (hex (codes "616765")) (hex (codes "37")) ∷ [])) ∷
    Deliver 6 (hex (codes "023f00")) ∷
    SendHead 4 (head (field (hex (codes "3a737461747573")) (hex (codes "343034")) ∷ field (hex (codes "616363657074")) (hex (codes "2a2f2a")) ∷ [])) ∷
    Deliver 0 (hex (codes "01")) ∷
    SendTrailer 8 (head (field (hex (codes "782d61")) (hex (codes "32")) ∷ [])) ∷
    Deliver 14 (hex (codes "21")) ∷
    Deliver 14 (hex (codes "61")) ∷
    Deliver 14 (hex (codes "62")) ∷
    DeliverEnd 14 ∷
    SendHead 4 (head (field (hex (codes "3a737461747573")) (hex (codes "313033")) ∷ field (hex (codes "782d61")) (hex (codes "32")) ∷ field (hex (codes "616363657074")) (hex (codes "2a2f2a")) ∷ field (hex (codes "782d6c6f6e6765722d6e616d65")) (hex (codes "31")) ∷ [])) ∷
    Deliver 18 (hex (codes "01")) ∷
    PullStream 0 ∷
    Deliver 18 (hex (codes "00")) ∷
    SendHead 0 (head (field (hex (codes "3a737461747573")) (hex (codes "313033")) ∷ [])) ∷
    Deliver 0 (hex (codes "13")) ∷
    Deliver 0 (hex (codes "00")) ∷
    Deliver 0 (hex (codes "88")) ∷
    Deliver 0 (hex (codes "00")) ∷
    Deliver 0 (hex (codes "d1")) ∷
    Deliver 0 (hex (codes "d7")) ∷
    PullStream 12 ∷
    Deliver 0 (hex (codes "50")) ∷
    Deliver 0 (hex (codes "8c")) ∷
    Deliver 0 (hex (codes "07")) ∷
    Deliver 0 (hex (codes "01")) ∷
    Deliver 0 (hex (codes "00")) ∷
    Deliver 0 (hex (codes "f1")) ∷
    PullStream 4 ∷
    Deliver 0 (hex (codes "e3")) ∷
    Deliver 0 (hex (codes "c2")) ∷
    Deliver 0 (hex (codes "e5")) ∷
    Deliver 0 (hex (codes "f2")) ∷
    PullStream 8 ∷
    Deliver 0 (hex (codes "3a")) ∷
    Deliver 0 (hex (codes "6b")) ∷
    Deliver 0 (hex (codes "a0")) ∷
    Deliver 0 (hex (codes "ab")) ∷
    Deliver 0 (hex (codes "90")) ∷
    Deliver 0 (hex (codes "f4")) ∷
    Deliver 0 (hex (codes "ff")) ∷
    PullStream 0 ∷
    Deliver 0 (hex (codes "c1")) ∷
    PullStream 0 ∷
    DeliverReset 0 268 ∷
    PullStream 4 ∷
    PullStream 12 ∷
    PullStream 8 ∷
    PullStream 0 ∷
    SendHead 12 (head (field (hex (codes "3a737461747573")) (hex (codes "313033")) ∷ [])) ∷
    PullStream 8 ∷
    PullStream 8 ∷
    PullStream 0 ∷
    PullStream 0 ∷
    PullStream 4 ∷
    PullStream 8 ∷
    PullStream 12 ∷
    PullStream 14 ∷
    Outgoing 3 ∷
    Outgoing 7 ∷
    Outgoing 11 ∷
    Show ∷
    []

abbrev pub case_11_answers : List Result
case_11_answers =
    Refused (refusal.Connection 259) ∷
    Refused (refusal.Closed 259) ∷
    Refused (refusal.Connection 259) ∷
    Refused (refusal.Closed 259) ∷
    Refused (refusal.Connection 259) ∷
    Pulled (pulls.Fault (fault.Connection 259)) ∷
    Refused (refusal.Connection 259) ∷
    Pulled (pulls.Fault (fault.Connection 259)) ∷
    Refused (refusal.Closed 259) ∷
    Refused (refusal.Connection 259) ∷
    Refused (refusal.Closed 259) ∷
    Refused (refusal.Connection 259) ∷
    Refused (refusal.Closed 259) ∷
    Refused (refusal.Connection 259) ∷
    Refused (refusal.Connection 259) ∷
    Refused (refusal.Connection 259) ∷
    Refused (refusal.Connection 259) ∷
    Refused (refusal.Closed 259) ∷
    Refused (refusal.Connection 259) ∷
    Pulled (pulls.Fault (fault.Connection 259)) ∷
    Refused (refusal.Connection 259) ∷
    Refused (refusal.Closed 259) ∷
    Refused (refusal.Connection 259) ∷
    Refused (refusal.Connection 259) ∷
    Refused (refusal.Connection 259) ∷
    Refused (refusal.Connection 259) ∷
    Refused (refusal.Connection 259) ∷
    Refused (refusal.Connection 259) ∷
    Pulled (pulls.Fault (fault.Connection 259)) ∷
    Refused (refusal.Connection 259) ∷
    Refused (refusal.Connection 259) ∷
    Refused (refusal.Connection 259) ∷
    Refused (refusal.Connection 259) ∷
    Refused (refusal.Connection 259) ∷
    Refused (refusal.Connection 259) ∷
    Pulled (pulls.Fault (fault.Connection 259)) ∷
    Refused (refusal.Connection 259) ∷
    Refused (refusal.Connection 259) ∷
    Refused (refusal.Connection 259) ∷
    Refused (refusal.Connection 259) ∷
    Pulled (pulls.Fault (fault.Connection 259)) ∷
    Refused (refusal.Connection 259) ∷
    Refused (refusal.Connection 259) ∷
    Refused (refusal.Connection 259) ∷
    Refused (refusal.Connection 259) ∷
    Refused (refusal.Connection 259) ∷
    Refused (refusal.Connection 259) ∷
    Refused (refusal.Connection 259) ∷
    Pulled (pulls.Fault (fault.Connection 259)) ∷
    Refused (refusal.Connection 259) ∷
    Pulled (pulls.Fault (fault.Connection 259)) ∷
    Refused (refusal.Connection 259) ∷
    Pulled (pulls.Fault (fault.Connection 259)) ∷
    Pulled (pulls.Fault (fault.Connection 259)) ∷
    Pulled (pulls.Fault (fault.Connection 259)) ∷
    Pulled (pulls.Fault (fault.Connection 259)) ∷
    Refused (refusal.Closed 259) ∷
    Pulled (pulls.Fault (fault.Connection 259)) ∷
    Pulled (pulls.Fault (fault.Connection 259)) ∷
    Pulled (pulls.Fault (fault.Connection 259)) ∷
    Pulled (pulls.Fault (fault.Connection 259)) ∷
    Pulled (pulls.Fault (fault.Connection 259)) ∷
    Pulled (pulls.Fault (fault.Connection 259)) ∷
    Pulled (pulls.Fault (fault.Connection 259)) ∷
    Pulled (pulls.Fault (fault.Connection 259)) ∷
    Waits (hex (codes "00041506405a0800ab603742003300ab60374300011f0700")) ∷
    Waits (hex (codes "02")) ∷
    Waits (hex (codes "03")) ∷
    Shown None (record { sending = 0; receiving = 0 }) 0 ∷
    []

abbrev pub case_12_endpoint : EndpointHistory
case_12_endpoint = new_endpoint Server (plain 1000 400 1)

abbrev pub case_12 : List Call
case_12 =
    Deliver 4 (hex (codes "0122")) ∷
    Deliver 0 (hex (codes "01")) ∷
    PullStream 8 ∷
    Deliver 6 (hex (codes "023ff1")) ∷
    Deliver 6 (hex (codes "02c0831af1ff63fc5a1f810f")) ∷
    Show ∷
    Deliver 14 (hex (codes "00040401000701")) ∷
    PullStream 8 ∷
    Deliver 4 (hex (codes "0000d1d750831af1ffc12f03f2b507aa62d8b543a4bf881d5228353b8e8b4b28810f2101780000")) ∷
    Deliver 18 (hex (codes "4054")) ∷
    PullStream 8 ∷
    Deliver 18 (hex (codes "04")) ∷
    SendTrailer 4 (head (field (hex (codes "782d6c6f6e6765722d6e616d65")) (hex (codes "616e6420612076616c7565")) ∷ [])) ∷
    Deliver 0 (hex (codes "070381d1d7c1112101780001629100636262")) ∷
    PullStream 8 ∷
    DeliverEnd 0 ∷
    Deliver 18 (hex (codes "6869")) ∷
    PullStream 0 ∷
    PullStream 0 ∷
    PullStream 0 ∷
    PullStream 4 ∷
    PullStream 8 ∷
    PullStream 8 ∷
    Outgoing 7 ∷
    Outgoing 11 ∷
    Show ∷
    []

abbrev pub case_12_answers : List Result
case_12_answers =
    Done ∷
    Done ∷
    Pulled pulls.Pending ∷
    Done ∷
    Done ∷
    Shown None (record { sending = 0; receiving = 81 }) 0 ∷
    Done ∷
    Pulled pulls.Pending ∷
    Done ∷
    Done ∷
    Pulled pulls.Pending ∷
    Done ∷
    Refused refusal.OutOfOrder ∷
    Done ∷
    Pulled pulls.Pending ∷
    Done ∷
    Done ∷
    Pulled (pulls.Fault (fault.Connection 512)) ∷
    Pulled (pulls.Fault (fault.Connection 512)) ∷
    Pulled (pulls.Fault (fault.Connection 512)) ∷
    Pulled (pulls.Fault (fault.Connection 512)) ∷
    Pulled (pulls.Fault (fault.Connection 512)) ∷
    Pulled (pulls.Fault (fault.Connection 512)) ∷
    Waits (hex (codes "02")) ∷
    Waits (hex (codes "0302")) ∷
    Shown (Some (record { capacity = 0; blocked = 1; section = 4611686018427387903 })) (record { sending = 0; receiving = 81 }) 0 ∷
    []

abbrev pub case_13_endpoint : EndpointHistory
case_13_endpoint = new_endpoint Server (plain 1000 31 1)

abbrev pub case_13 : List Call
case_13 =
    Deliver 0 (hex (codes "40")) ∷
    Deliver 0 (hex (codes "41")) ∷
    Deliver 0 (hex (codes "04")) ∷
    Deliver 0 (hex (codes "73")) ∷
    Deliver 0 (hex (codes "6f")) ∷
    Deliver 0 (hex (codes "6d")) ∷
    Deliver 0 (hex (codes "65")) ∷
    Deliver 0 (hex (codes "20")) ∷
    Deliver 0 (hex (codes "72")) ∷
    Deliver 0 (hex (codes "61")) ∷
    Deliver 0 (hex (codes "77")) ∷
    Deliver 0 (hex (codes "20")) ∷
    Deliver 0 (hex (codes "62")) ∷
    PullStream 4 ∷
    Deliver 0 (hex (codes "79")) ∷
    Deliver 0 (hex (codes "74")) ∷
    PullStream 8 ∷
    Deliver 0 (hex (codes "65")) ∷
    Deliver 0 (hex (codes "73")) ∷
    DeliverEnd 0 ∷
    PullStream 0 ∷
    Deliver 6 [] ∷
    Deliver 4 (hex (codes "01210000d4d750831af1ffc12bf2b0ff810f2f03f2b507aa62d8b543a4bf810f528177")) ∷
    SendTrailer 0 (head (field (hex (codes "736572766572")) (hex (codes "73")) ∷ [])) ∷
    Deliver 8 (hex (codes "0112008280")) ∷
    Deliver 8 (hex (codes "ff8080")) ∷
    PullStream 8 ∷
    SendHead 0 (head (field (hex (codes "3a737461747573")) (hex (codes "313939")) ∷ field (hex (codes "636f6f6b6965")) [] ∷ [])) ∷
    Outgoing 2 ∷
    Deliver 8 (hex (codes "80808080")) ∷
    PullStream 8 ∷
    Deliver 8 (hex (codes "8080808080")) ∷
    Deliver 8 (hex (codes "800012")) ∷
    Deliver 8 (hex (codes "0003626362")) ∷
    Deliver 8 (hex (codes "000561")) ∷
    Deliver 8 (hex (codes "6361636101")) ∷
    PullStream 0 ∷
    Deliver 8 (hex (codes "08")) ∷
    Deliver 8 (hex (codes "00005f")) ∷
    Deliver 8 (hex (codes "098303ef")) ∷
    Deliver 8 (hex (codes "ff")) ∷
    SendHead 0 (head (field (hex (codes "3a737461747573")) (hex (codes "323030")) ∷ field (hex (codes "782d6c6f6e6765722d6e616d65")) (hex (codes "31")) ∷ field (hex (codes "636f6f6b6965")) [] ∷ [])) ∷
    Deliver 12 (hex (codes "0103008111")) ∷
    Deliver 12 (hex (codes "0002")) ∷
    Deliver 12 (hex (codes "6362000361")) ∷
    Deliver 12 (hex (codes "63")) ∷
    Deliver 12 (hex (codes "010600005f")) ∷
    Deliver 12 (hex (codes "4d8147")) ∷
    DeliverReset 12 268 ∷
    Deliver 2 (hex (codes "0040")) ∷
    Deliver 2 (hex (codes "0440070006")) ∷
    Deliver 2 (hex (codes "29011f0d01")) ∷
    Deliver 2 (hex (codes "05")) ∷
    Show ∷
    Deliver 6 (hex (codes "023f00")) ∷
    Deliver 10 (hex (codes "0303010002013f808080808080808080808080003f80808080808080808080808000")) ∷
    PullStream 0 ∷
    Deliver 22 (hex (codes "40")) ∷
    Deliver 22 (hex (codes "54")) ∷
    OpenRequest ∷
    PullStream 0 ∷
    PullStream 4 ∷
    PullStream 8 ∷
    PullStream 12 ∷
    PullStream 14 ∷
    Outgoing 3 ∷
    Outgoing 7 ∷
    Outgoing 11 ∷
    Show ∷
    []

abbrev pub case_13_answers : List Result
case_13_answers =
    Done ∷
    Done ∷
    Done ∷
    Done ∷
    Done ∷
    Done ∷
    Done ∷
    Done ∷
    Done ∷
    Done ∷
    Done ∷
    Done ∷
    Done ∷
    Pulled pulls.Pending ∷
    Done ∷
    Done ∷
    Pulled pulls.Pending ∷
    Done ∷
    Done ∷
    Done ∷
    Pulled (pulls.Item (item.Session 4)) ∷
    Done ∷
    Done ∷
    Refused refusal.OutOfOrder ∷
    Done ∷
    Done ∷
    Pulled pulls.Pending ∷
    Done ∷
    Waits [] ∷
    Done ∷
    Pulled pulls.Pending ∷
    Done ∷
    Done ∷
    Done ∷
    Done ∷
    Done ∷
    Pulled (pulls.Item (item.Raw (hex (codes "73")))) ∷
    Done ∷
    Done ∷
    Done ∷
    Done ∷
    Done ∷
    Done ∷
    Done ∷
    Done ∷
    Done ∷
    Done ∷
    Done ∷
    Done ∷
    Done ∷
    Done ∷
    Refused (refusal.Connection 265) ∷
    Refused (refusal.Connection 265) ∷
    Shown None (record { sending = 0; receiving = 0 }) 0 ∷
    Refused (refusal.Connection 265) ∷
    Refused (refusal.Connection 265) ∷
    Pulled (pulls.Fault (fault.Connection 265)) ∷
    Refused (refusal.Connection 265) ∷
    Refused (refusal.Connection 265) ∷
    Refused (refusal.Closed 265) ∷
    Pulled (pulls.Fault (fault.Connection 265)) ∷
    Pulled (pulls.Fault (fault.Connection 265)) ∷
    Pulled (pulls.Fault (fault.Connection 265)) ∷
    Pulled (pulls.Fault (fault.Connection 265)) ∷
    Pulled (pulls.Fault (fault.Connection 265)) ∷
    Waits (hex (codes "0004150643e80800ab603742003300ab60374300011f0701")) ∷
    Waits (hex (codes "02")) ∷
    Waits (hex (codes "034c")) ∷
    Shown None (record { sending = 0; receiving = 0 }) 0 ∷
    []

abbrev pub case_14_endpoint : EndpointHistory
case_14_endpoint = new_endpoint Server (plain 1000 220 2)

abbrev pub case_14 : List Call
case_14 =
    Deliver 0 [] ∷
    Deliver 4 [] ∷
    Deliver 8 [] ∷
    Deliver 2 (hex (codes "0004050140400702")) ∷
    Deliver 10 (hex (codes "03")) ∷
    Deliver 10 [] ∷
    Deliver 10 [] ∷
    Deliver 10 [] ∷
    SendTrailer 8 (head (field (hex (codes "782d62")) (hex (codes "32")) ∷ field (hex (codes "782d62")) (hex (codes "32")) ∷ field (hex (codes "782d62")) (hex (codes "32")) ∷ field (hex (codes "782d62")) (hex (codes "32")) ∷ field (hex (codes "782d61")) (hex (codes "32")) ∷ [])) ∷
    SendHead 0 (head (field (hex (codes "3a737461747573")) (hex (codes "313939")) ∷ field (hex (codes "782d62")) (hex (codes "32")) ∷ [])) ∷
    Deliver 10 (hex (codes "01")) ∷
    Deliver 10 (hex (codes "80")) ∷
    SendHead 0 (head (field (hex (codes "3a737461747573")) (hex (codes "313939")) ∷ field (hex (codes "782d61")) (hex (codes "7a7a7a7a7a7a7a7a7a7a7a7a7a7a7a7a7a7a7a7a7a7a7a7a7a7a7a7a7a")) ∷ [])) ∷
    SendHead 0 (head (field (hex (codes "3a737461747573")) (hex (codes "313939")) ∷ field (hex (codes "782d61")) (hex (codes "32")) ∷ field (hex (codes "782d61")) (hex (codes "7a7a7a7a7a7a7a7a7a7a7a7a7a7a7a7a7a7a7a7a7a7a7a7a7a7a7a7a7a")) ∷ field (hex (codes "636f6f6b6965")) [] ∷ field (hex (codes "782d62")) (hex (codes "32")) ∷ field (hex (codes "782d62")) (hex (codes "32")) ∷ [])) ∷
    SendHead 4 (head (field (hex (codes "3a737461747573")) (hex (codes "313939")) ∷ field (hex (codes "782d61")) (hex (codes "32")) ∷ field (hex (codes "782d61")) (hex (codes "7a7a7a7a7a7a7a7a7a7a7a7a7a7a7a7a7a7a7a7a7a7a7a7a7a7a7a7a7a")) ∷ field (hex (codes "782d61")) (hex (codes "7a7a7a7a7a7a7a7a7a7a7a7a7a7a7a7a7a7a7a7a7a7a7a7a7a7a7a7a7a")) ∷ [])) ∷
    Deliver 10 (hex (codes "84")) ∷
    SendHead 8 (head (field (hex (codes "3a737461747573")) (hex (codes "313939")) ∷ field (hex (codes "636f6f6b6965")) [] ∷ field (hex (codes "636f6f6b6965")) [] ∷ field (hex (codes "782d61")) (hex (codes "7a7a7a7a7a7a7a7a7a7a7a7a7a7a7a7a7a7a7a7a7a7a7a7a7a7a7a7a7a")) ∷ field (hex (codes "782d62")) (hex (codes "32")) ∷ field (hex (codes "782d62")) (hex (codes "32")) ∷ [])) ∷
    SendTrailer 0 (head ([])) ∷
    Deliver 10 (hex (codes "80")) ∷
    Outgoing 0 ∷
    Outgoing 4 ∷
    Outgoing 8 ∷
    Outgoing 7 ∷
    Outgoing 11 ∷
    Show ∷
    []

abbrev pub case_14_answers : List Result
case_14_answers =
    Done ∷
    Done ∷
    Done ∷
    Done ∷
    Done ∷
    Done ∷
    Done ∷
    Done ∷
    Refused refusal.OutOfOrder ∷
    Done ∷
    Done ∷
    Done ∷
    Done ∷
    Done ∷
    Done ∷
    Done ∷
    Done ∷
    Refused refusal.OutOfOrder ∷
    Done ∷
    Waits (hex (codes "01090280102bf2b47f811701220200802bf2b0ff9af7efdfbf7efdfbf7efdfbf7efdfbf7efdfbf7efdfbf7efdfbf7f01350200802bf2b0ff81172bf2b0ff9af7efdfbf7efdfbf7efdfbf7efdfbf7efdfbf7efdfbf7efdfbf7fc52bf2b47f81172bf2b47f8117")) ∷
    Waits (hex (codes "0140470200802bf2b0ff81172bf2b0ff9af7efdfbf7efdfbf7efdfbf7efdfbf7efdfbf7efdfbf7efdfbf7f2bf2b0ff9af7efdfbf7efdfbf7efdfbf7efdfbf7efdfbf7efdfbf7efdfbf7f")) ∷
    Waits (hex (codes "0130020080c5c52bf2b0ff9af7efdfbf7efdfbf7efdfbf7efdfbf7efdfbf7efdfbf7efdfbf7f2bf2b47f81172bf2b47f8117")) ∷
    Waits (hex (codes "023f21d8830befff")) ∷
    Waits (hex (codes "03")) ∷
    Shown (Some (record { capacity = 64; blocked = 2; section = 4611686018427387903 })) (record { sending = 42; receiving = 0 }) 0 ∷
    []

abbrev pub case_15_endpoint : EndpointHistory
case_15_endpoint = new_endpoint Server (plain 1000 400 2)

abbrev pub case_15 : List Call
case_15 =
    Deliver 34 (hex (codes "033fed013fed01")) ∷
    PullStream 34 ∷
    Deliver 26 (hex (codes "0004070140640702062907010c0d0105")) ∷
    Finish 12 ∷
    Deliver 0 (hex (codes "010a0583d4d710c1dd11121300026361000463626263")) ∷
    PullStream 4 ∷
    DeliverReset 0 268 ∷
    SendHead 12 (head (field (hex (codes "3a737461747573")) (hex (codes "313033")) ∷ field (hex (codes "616363657074")) (hex (codes "2a2f2a")) ∷ [])) ∷
    SendHead 4 (head (field (hex (codes "3a737461747573")) (hex (codes "343034")) ∷ field (hex (codes "782d61")) (hex (codes "31")) ∷ field (hex (codes "782d6c6f6e6765722d6e616d65")) (hex (codes "31")) ∷ [])) ∷
    SendHead 0 (head (field (hex (codes "3a737461747573")) (hex (codes "323030")) ∷ field (hex (codes "782d61")) (hex (codes "32")) ∷ field (hex (codes "782d6c6f6e6765722d6e616d65")) (hex (codes "616e6420612076616c7565")) ∷ field (hex (codes "782d62")) (hex (codes "32")) ∷ field (hex (codes "636f6f6b6965")) [] ∷ [])) ∷
    PullStream 12 ∷
    PullStream 0 ∷
    OpenRequest ∷
    PullStream 4 ∷
    PullStream 12 ∷
    PullStream 0 ∷
    PullStream 8 ∷
    PullStream 0 ∷
    PullStream 4 ∷
    PullStream 8 ∷
    PullStream 12 ∷
    PullStream 14 ∷
    Outgoing 3 ∷
    Outgoing 7 ∷
    Outgoing 11 ∷
    Show ∷
    []

abbrev pub case_15_answers : List Result
case_15_answers =
    Done ∷
    Pulled pulls.NoMessages ∷
    Done ∷
    Refused refusal.NotOpen ∷
    Done ∷
    Pulled pulls.Pending ∷
    Done ∷
    Refused refusal.NotOpen ∷
    Refused refusal.NotOpen ∷
    Refused (refusal.TooLarge 208) ∷
    Pulled pulls.Pending ∷
    Pulled (pulls.Fault (fault.Stream (stream_fault.Reset 268))) ∷
    Refused refusal.NotClient ∷
    Pulled pulls.Pending ∷
    Pulled pulls.Pending ∷
    Pulled (pulls.Fault (fault.Stream (stream_fault.Reset 268))) ∷
    Pulled pulls.Pending ∷
    Pulled (pulls.Fault (fault.Stream (stream_fault.Reset 268))) ∷
    Pulled pulls.Pending ∷
    Pulled pulls.Pending ∷
    Pulled pulls.Pending ∷
    Pulled pulls.Pending ∷
    Waits (hex (codes "0004160643e80800ab603742003300ab603743000141900702")) ∷
    Waits (hex (codes "023f45")) ∷
    Waits (hex (codes "0340")) ∷
    Shown (Some (record { capacity = 100; blocked = 2; section = 41 })) (record { sending = 0; receiving = 0 }) 0 ∷
    []
