-- Hostile lists of calls of a server, with what the model of scripts/ answers to them. Made by scripts/gate/connection_cases.py.
use Rattle.std.specs.Prelude.{List, [], ◌∷◌, codes, Some, None}
use Rattle.h3_proto.specs.declared.stream.Side.TheVariants.{Server}
use Rattle.h3_connection.specs.declared.event.Item.TheVariants as item
use Rattle.h3_connection.specs.declared.event.Pull.TheVariants as pulls
use Rattle.h3_connection.specs.declared.event.Refusal.TheVariants as refusal
use Rattle.h3_connection.specs.declared.event.Fault.TheVariants as fault
use Rattle.h3_connection.specs.declared.event.StreamFault.TheVariants as stream_fault
use Rattle.h3_connection.specs.declared.event.Malformation.TheVariants as malformation
use Rattle.h3_connection.specs.Endpoint.{EndpointHistory, new_endpoint}
use Rattle.h3_connection.specs.CallLists.{Call, Result}
use Rattle.h3_connection.specs.CallLists.Call.{OpenRequest, SendHead, SendBody, SendTrailer, Finish, Reset, Outgoing, Deliver, DeliverEnd, DeliverReset, PullStream, Cancel, Show}
use Rattle.h3_connection.specs.CallLists.Result.{Done, Refused, Waits, Pulled, Shown}
use Rattle.h3_connection_rows.specs.Worked.{hex, field, head, plain}

abbrev pub case_26_endpoint : EndpointHistory
case_26_endpoint = new_endpoint Server (plain 1000 220 2)

abbrev pub case_26 : List Call
case_26 =
    Deliver 0 [] ∷
    Deliver 4 [] ∷
    Deliver 8 [] ∷
    Deliver 12 [] ∷
    Deliver 16 [] ∷
    Deliver 20 [] ∷
    Deliver 24 [] ∷
    Deliver 28 [] ∷
    Deliver 32 [] ∷
    Deliver 36 [] ∷
    Deliver 2 (hex (codes "0004050140400701")) ∷
    Deliver 10 (hex (codes "03")) ∷
    Reset 24 ∷
    Deliver 10 [] ∷
    SendTrailer 36 (head (field (hex (codes "636f6f6b6965")) [] ∷ field (hex (codes "616765")) (hex (codes "37")) ∷ [])) ∷
    SendTrailer 8 (head (field (hex (codes "616765")) (hex (codes "37")) ∷ [])) ∷
    Deliver 10 (hex (codes "80")) ∷
    SendHead 32 (head (field (hex (codes "3a737461747573")) (hex (codes "313033")) ∷ field (hex (codes "616765")) (hex (codes "37")) ∷ field (hex (codes "636f6f6b6965")) [] ∷ [])) ∷
    Deliver 10 [] ∷
    SendHead 8 (head (field (hex (codes "3a737461747573")) (hex (codes "313033")) ∷ field (hex (codes "636f6f6b6965")) [] ∷ field (hex (codes "636f6f6b6965")) [] ∷ field (hex (codes "616765")) (hex (codes "37")) ∷ [])) ∷
    SendHead 24 (head (field (hex (codes "3a737461747573")) (hex (codes "313033")) ∷ field (hex (codes "636f6f6b6965")) [] ∷ field (hex (codes "636f6f6b6965")) [] ∷ field (hex (codes "636f6f6b6965")) [] ∷ [])) ∷
    Deliver 10 [] ∷
    Deliver 10 [] ∷
    Deliver 10 [] ∷
    Deliver 10 [] ∷
    SendTrailer 20 (head (field (hex (codes "636f6f6b6965")) [] ∷ field (hex (codes "616765")) (hex (codes "37")) ∷ field (hex (codes "616765")) (hex (codes "37")) ∷ field (hex (codes "616765")) (hex (codes "37")) ∷ field (hex (codes "616765")) (hex (codes "37")) ∷ [])) ∷
    Deliver 10 [] ∷
    SendHead 36 (head (field (hex (codes "3a737461747573")) (hex (codes "313033")) ∷ [])) ∷
    SendHead 32 (head (field (hex (codes "3a737461747573")) (hex (codes "313033")) ∷ field (hex (codes "636f6f6b6965")) [] ∷ [])) ∷
    Deliver 10 [] ∷
    Reset 4 ∷
    Deliver 10 [] ∷
    SendHead 12 (head (field (hex (codes "3a737461747573")) (hex (codes "313033")) ∷ [])) ∷
    Deliver 10 [] ∷
    Deliver 10 [] ∷
    Deliver 10 [] ∷
    Deliver 10 [] ∷
    Deliver 10 [] ∷
    Deliver 10 [] ∷
    SendHead 4 (head (field (hex (codes "3a737461747573")) (hex (codes "313033")) ∷ field (hex (codes "616765")) (hex (codes "37")) ∷ [])) ∷
    SendTrailer 36 (head (field (hex (codes "616765")) (hex (codes "37")) ∷ [])) ∷
    Deliver 10 [] ∷
    SendHead 36 (head (field (hex (codes "3a737461747573")) (hex (codes "313033")) ∷ field (hex (codes "636f6f6b6965")) [] ∷ field (hex (codes "636f6f6b6965")) [] ∷ [])) ∷
    Deliver 10 [] ∷
    SendHead 8 (head (field (hex (codes "3a737461747573")) (hex (codes "313033")) ∷ field (hex (codes "636f6f6b6965")) [] ∷ [])) ∷
    SendHead 36 (head (field (hex (codes "3a737461747573")) (hex (codes "313033")) ∷ field (hex (codes "616765")) (hex (codes "37")) ∷ field (hex (codes "616765")) (hex (codes "37")) ∷ field (hex (codes "616765")) (hex (codes "37")) ∷ [])) ∷
    Deliver 10 [] ∷
    Outgoing 0 ∷
    Outgoing 4 ∷
    Outgoing 8 ∷
    Outgoing 12 ∷
    Outgoing 16 ∷
    Outgoing 20 ∷
    Outgoing 24 ∷
    Outgoing 28 ∷
    Outgoing 32 ∷
    Outgoing 36 ∷
    Outgoing 7 ∷
    Outgoing 11 ∷
    Show ∷
    []

abbrev pub case_26_answers : List Result
case_26_answers =
    Done ∷
    Done ∷
    Done ∷
    Done ∷
    Done ∷
    Done ∷
    Done ∷
    Done ∷
    Done ∷
    Done ∷
    Done ∷
    Done ∷
    Done ∷
    Done ∷
    Refused refusal.OutOfOrder ∷
    Refused refusal.OutOfOrder ∷
    Refused (refusal.Connection 514) ∷
    Refused (refusal.Closed 514) ∷
    Refused (refusal.Connection 514) ∷
    Refused (refusal.Closed 514) ∷
    Refused (refusal.Closed 514) ∷
    Refused (refusal.Connection 514) ∷
    Refused (refusal.Connection 514) ∷
    Refused (refusal.Connection 514) ∷
    Refused (refusal.Connection 514) ∷
    Refused (refusal.Closed 514) ∷
    Refused (refusal.Connection 514) ∷
    Refused (refusal.Closed 514) ∷
    Refused (refusal.Closed 514) ∷
    Refused (refusal.Connection 514) ∷
    Refused (refusal.Closed 514) ∷
    Refused (refusal.Connection 514) ∷
    Refused (refusal.Closed 514) ∷
    Refused (refusal.Connection 514) ∷
    Refused (refusal.Connection 514) ∷
    Refused (refusal.Connection 514) ∷
    Refused (refusal.Connection 514) ∷
    Refused (refusal.Connection 514) ∷
    Refused (refusal.Connection 514) ∷
    Refused (refusal.Closed 514) ∷
    Refused (refusal.Closed 514) ∷
    Refused (refusal.Connection 514) ∷
    Refused (refusal.Closed 514) ∷
    Refused (refusal.Connection 514) ∷
    Refused (refusal.Closed 514) ∷
    Refused (refusal.Closed 514) ∷
    Refused (refusal.Connection 514) ∷
    Waits [] ∷
    Waits [] ∷
    Waits [] ∷
    Waits [] ∷
    Waits [] ∷
    Waits [] ∷
    Waits [] ∷
    Waits [] ∷
    Waits [] ∷
    Waits [] ∷
    Waits (hex (codes "023f21")) ∷
    Waits (hex (codes "03")) ∷
    Shown (Some (record { capacity = 64; blocked = 1; section = 4611686018427387903 })) (record { sending = 0; receiving = 0 }) 0 ∷
    []

abbrev pub case_27_endpoint : EndpointHistory
case_27_endpoint = new_endpoint Server (plain 90 64 2)

abbrev pub case_27 : List Call
case_27 =
    Deliver 0 (hex (codes "01c00300")) ∷
    Deliver 0 (hex (codes "00d4d75083")) ∷
    PullStream 0 ∷
    Deliver 0 (hex (codes "1af1ff")) ∷
    Deliver 0 (hex (codes "c1")) ∷
    PullStream 4 ∷
    Deliver 0 (hex (codes "2bf2b0")) ∷
    Deliver 0 (hex (codes "ff810f8080")) ∷
    PullStream 0 ∷
    Deliver 0 (hex (codes "0000")) ∷
    Deliver 0 (hex (codes "0462")) ∷
    Deliver 0 (hex (codes "626263")) ∷
    PullStream 8 ∷
    DeliverEnd 0 ∷
    Outgoing 8 ∷
    Deliver 4 (hex (codes "404104736f6d40207261772062f87974c773")) ∷
    DeliverEnd 4 ∷
    Deliver 8 (hex (codes "0121")) ∷
    Deliver 8 (hex (codes "00")) ∷
    Deliver 8 (hex (codes "00d4")) ∷
    Deliver 8 (hex (codes "d7508c")) ∷
    Deliver 8 (hex (codes "f1e3c2e5f2")) ∷
    Deliver 8 (hex (codes "3a6ba0")) ∷
    PullStream 12 ∷
    Deliver 8 (hex (codes "ab90f4ffc1")) ∷
    Deliver 8 (hex (codes "2bf2b0ff81")) ∷
    Deliver 8 (hex (codes "172bf2b4")) ∷
    Deliver 8 (hex (codes "7f")) ∷
    PullStream 8 ∷
    Deliver 8 (hex (codes "8117c5")) ∷
    Deliver 8 (hex (codes "c5000162")) ∷
    Deliver 8 (hex (codes "0080")) ∷
    PullStream 8 ∷
    Deliver 8 (hex (codes "0000016300")) ∷
    PullStream 4 ∷
    Deliver 8 (hex (codes "0268")) ∷
    PullStream 8 ∷
    Deliver 8 (hex (codes "69")) ∷
    DeliverEnd 8 ∷
    Deliver 12 (hex (codes "01020000")) ∷
    Deliver 26 (hex (codes "00040207020d0105")) ∷
    Deliver 30 (hex (codes "02")) ∷
    Deliver 14 (hex (codes "4054c000")) ∷
    Deliver 14 (hex (codes "010000000000")) ∷
    Deliver 14 (hex (codes "78")) ∷
    PullStream 14 ∷
    Deliver 18 (hex (codes "40540468692074")) ∷
    Deliver 18 (hex (codes "68657265")) ∷
    PullStream 8 ∷
    SendHead 4 (head (field (hex (codes "3a737461747573")) (hex (codes "313033")) ∷ field (hex (codes "782d6c6f6e6765722d6e616d65")) (hex (codes "616e6420612076616c7565")) ∷ field (hex (codes "782d61")) (hex (codes "31")) ∷ [])) ∷
    SendHead 12 (head (field (hex (codes "3a737461747573")) (hex (codes "323939")) ∷ field (hex (codes "736572766572")) (hex (codes "73")) ∷ field (hex (codes "616765")) (hex (codes "37")) ∷ field (hex (codes "616765")) (hex (codes "37")) ∷ field (hex (codes "616363657074")) (hex (codes "2a2f2a")) ∷ [])) ∷
    PullStream 8 ∷
    PullStream 4 ∷
    SendTrailer 12 (head (field (hex (codes "616363657074")) (hex (codes "2a2f2a")) ∷ [])) ∷
    PullStream 12 ∷
    SendHead 8 (head (field (hex (codes "3a737461747573")) (hex (codes "323939")) ∷ [])) ∷
    Finish 4 ∷
    PullStream 8 ∷
    SendHead 12 (head (field (hex (codes "3a737461747573")) (hex (codes "323030")) ∷ [])) ∷
    PullStream 0 ∷
    PullStream 4 ∷
    PullStream 8 ∷
    PullStream 12 ∷
    PullStream 14 ∷
    Outgoing 3 ∷
    Outgoing 7 ∷
    Outgoing 11 ∷
    Show ∷
    []

abbrev pub case_27_answers : List Result
case_27_answers =
    Done ∷
    Done ∷
    Pulled pulls.Pending ∷
    Done ∷
    Done ∷
    Pulled pulls.Pending ∷
    Done ∷
    Done ∷
    Pulled pulls.Pending ∷
    Done ∷
    Done ∷
    Done ∷
    Pulled pulls.Pending ∷
    Done ∷
    Waits [] ∷
    Done ∷
    Done ∷
    Done ∷
    Done ∷
    Done ∷
    Done ∷
    Done ∷
    Done ∷
    Pulled pulls.Pending ∷
    Done ∷
    Done ∷
    Done ∷
    Done ∷
    Pulled pulls.Pending ∷
    Done ∷
    Done ∷
    Done ∷
    Pulled (pulls.Item (item.TooLarge 330)) ∷
    Done ∷
    Pulled (pulls.Item (item.Session 4)) ∷
    Done ∷
    Pulled (pulls.Item (item.Body (hex (codes "62")))) ∷
    Done ∷
    Done ∷
    Done ∷
    Done ∷
    Done ∷
    Done ∷
    Done ∷
    Done ∷
    Pulled (pulls.Item (item.Session 1099511627776)) ∷
    Done ∷
    Done ∷
    Pulled (pulls.Item (item.Body (hex (codes "63")))) ∷
    Done ∷
    Done ∷
    Pulled (pulls.Item (item.Body (hex (codes "68")))) ∷
    Pulled (pulls.Item (item.Raw (hex (codes "736f6d40207261772062f87974c773")))) ∷
    Done ∷
    Pulled (pulls.Fault (fault.Stream (stream_fault.Malformed malformation.WrongSide))) ∷
    Done ∷
    Refused refusal.OutOfOrder ∷
    Pulled (pulls.Item (item.Body (hex (codes "69")))) ∷
    Refused refusal.OutOfOrder ∷
    Pulled (pulls.Fault (fault.Connection 262)) ∷
    Pulled (pulls.Fault (fault.Connection 262)) ∷
    Pulled (pulls.Fault (fault.Connection 262)) ∷
    Pulled (pulls.Fault (fault.Connection 262)) ∷
    Pulled (pulls.Fault (fault.Connection 262)) ∷
    Waits (hex (codes "00041606405a0800ab603742003300ab603743000140400702")) ∷
    Waits (hex (codes "02")) ∷
    Waits (hex (codes "034c")) ∷
    Shown (Some (record { capacity = 0; blocked = 2; section = 4611686018427387903 })) (record { sending = 0; receiving = 0 }) 0 ∷
    []

abbrev pub case_28_endpoint : EndpointHistory
case_28_endpoint = new_endpoint Server (plain 1000 0 3)

abbrev pub case_28 : List Call
case_28 =
    Deliver 2 (hex (codes "00")) ∷
    Deliver 0 (hex (codes "4041")) ∷
    SendTrailer 8 (head (field (hex (codes "736572766572")) (hex (codes "73")) ∷ [])) ∷
    Deliver 2 (hex (codes "0407")) ∷
    Deliver 0 (hex (codes "7fff7261772062")) ∷
    Deliver 6 (hex (codes "02")) ∷
    PullStream 4 ∷
    Deliver 0 (hex (codes "7974")) ∷
    PullStream 4 ∷
    Cancel 4 ∷
    SendHead 8 (head (field (hex (codes "3a737461747573")) (hex (codes "343034")) ∷ field (hex (codes "782d61")) (hex (codes "32")) ∷ field (hex (codes "782d6c6f6e6765722d6e616d65")) (hex (codes "616e6420612076616c7565")) ∷ field (hex (codes "782d61")) (hex (codes "31")) ∷ [])) ∷
    Deliver 0 (hex (codes "6573")) ∷
    PullStream 4 ∷
    Deliver 2 (hex (codes "01404007000629")) ∷
    Outgoing 0 ∷
    Deliver 2 (hex (codes "2101")) ∷
    Deliver 2 (hex (codes "78")) ∷
    PullStream 0 ∷
    SendBody 0 (hex (codes "7879")) ∷
    DeliverReset 0 268 ∷
    PullStream 0 ∷
    PullStream 0 ∷
    PullStream 4 ∷
    PullStream 4 ∷
    PullStream 4 ∷
    PullStream 8 ∷
    PullStream 8 ∷
    Outgoing 7 ∷
    Outgoing 11 ∷
    Show ∷
    []

abbrev pub case_28_answers : List Result
case_28_answers =
    Done ∷
    Done ∷
    Refused refusal.NotOpen ∷
    Done ∷
    Done ∷
    Done ∷
    Pulled pulls.Pending ∷
    Done ∷
    Pulled pulls.Pending ∷
    Refused refusal.NotOpen ∷
    Refused refusal.NotOpen ∷
    Done ∷
    Pulled pulls.Pending ∷
    Done ∷
    Waits [] ∷
    Done ∷
    Done ∷
    Pulled (pulls.Item (item.Session 16383)) ∷
    Refused refusal.OutOfOrder ∷
    Done ∷
    Pulled (pulls.Fault (fault.Stream (stream_fault.Reset 268))) ∷
    Pulled (pulls.Fault (fault.Stream (stream_fault.Reset 268))) ∷
    Pulled pulls.Pending ∷
    Pulled pulls.Pending ∷
    Pulled pulls.Pending ∷
    Pulled pulls.Pending ∷
    Pulled pulls.Pending ∷
    Waits (hex (codes "023f21")) ∷
    Waits (hex (codes "0340")) ∷
    Shown (Some (record { capacity = 64; blocked = 0; section = 41 })) (record { sending = 0; receiving = 0 }) 0 ∷
    []

abbrev pub case_29_endpoint : EndpointHistory
case_29_endpoint = new_endpoint Server (plain 1000 31 1)

abbrev pub case_29 : List Call
case_29 =
    Deliver 8 (hex (codes "c0")) ∷
    SendHead 0 (head (field (hex (codes "3a737461747573")) (hex (codes "313939")) ∷ field (hex (codes "782d6c6f6e6765722d6e616d65")) (hex (codes "31")) ∷ field (hex (codes "782d61")) (hex (codes "31")) ∷ [])) ∷
    Deliver 8 (hex (codes "00")) ∷
    Deliver 8 (hex (codes "00")) ∷
    PullStream 4 ∷
    Deliver 8 (hex (codes "00")) ∷
    Deliver 8 (hex (codes "00")) ∷
    Deliver 8 (hex (codes "00")) ∷
    Show ∷
    Deliver 6 (hex (codes "022f")) ∷
    PullStream 0 ∷
    Deliver 4 (hex (codes "01140000d1d750831af1ffc15f4d")) ∷
    Deliver 4 (hex (codes "81472bf2b0ff8117000263620003616361")) ∷
    Deliver 4 (hex (codes "01050000528177")) ∷
    DeliverReset 4 268 ∷
    OpenRequest ∷
    Deliver 8 (hex (codes "00")) ∷
    Deliver 8 (hex (codes "01")) ∷
    Deliver 8 (hex (codes "16")) ∷
    PullStream 8 ∷
    Deliver 8 (hex (codes "00")) ∷
    OpenRequest ∷
    Deliver 8 (hex (codes "00")) ∷
    Deliver 8 (hex (codes "d1")) ∷
    Deliver 8 (hex (codes "d7")) ∷
    Deliver 8 (hex (codes "50")) ∷
    Deliver 8 (hex (codes "83")) ∷
    Deliver 8 (hex (codes "1a")) ∷
    Deliver 8 (hex (codes "f1")) ∷
    Deliver 8 (hex (codes "ff")) ∷
    Deliver 8 (hex (codes "c1")) ∷
    Deliver 8 (hex (codes "2b")) ∷
    Deliver 8 (hex (codes "f2")) ∷
    PullStream 8 ∷
    Deliver 8 (hex (codes "b0")) ∷
    Deliver 8 (hex (codes "ff")) ∷
    PullStream 0 ∷
    Deliver 8 (hex (codes "81")) ∷
    PullStream 0 ∷
    Deliver 8 (hex (codes "0f")) ∷
    Deliver 8 (hex (codes "2b")) ∷
    Deliver 8 (hex (codes "f2")) ∷
    Deliver 8 (hex (codes "b0")) ∷
    Deliver 8 (hex (codes "ff")) ∷
    PullStream 12 ∷
    Deliver 8 (hex (codes "81")) ∷
    PullStream 0 ∷
    Deliver 8 (hex (codes "0f")) ∷
    Deliver 8 (hex (codes "00")) ∷
    Deliver 8 (hex (codes "80")) ∷
    Deliver 8 (hex (codes "00")) ∷
    Deliver 8 (hex (codes "00")) ∷
    PullStream 12 ∷
    Deliver 8 (hex (codes "02")) ∷
    Deliver 0 (hex (codes "01")) ∷
    Deliver 0 (hex (codes "23")) ∷
    Deliver 0 (hex (codes "00")) ∷
    Deliver 0 (hex (codes "00")) ∷
    Deliver 0 (hex (codes "d4")) ∷
    Deliver 8 (hex (codes "63")) ∷
    PullStream 8 ∷
    Deliver 8 (hex (codes "62")) ∷
    Deliver 8 (hex (codes "00")) ∷
    Deliver 8 (hex (codes "02")) ∷
    Deliver 8 (hex (codes "63")) ∷
    Deliver 8 (hex (codes "61")) ∷
    Deliver 8 (hex (codes "01")) ∷
    Deliver 8 (hex (codes "08")) ∷
    Deliver 8 (hex (codes "00")) ∷
    Deliver 8 (hex (codes "00")) ∷
    PullStream 0 ∷
    Deliver 8 (hex (codes "2b")) ∷
    Deliver 8 (hex (codes "f2")) ∷
    Deliver 8 (hex (codes "b4")) ∷
    Deliver 8 (hex (codes "7f")) ∷
    PullStream 12 ∷
    Deliver 8 (hex (codes "81")) ∷
    PullStream 8 ∷
    Deliver 8 (hex (codes "17")) ∷
    PullStream 8 ∷
    Deliver 0 (hex (codes "d7")) ∷
    Deliver 0 (hex (codes "50")) ∷
    PullStream 0 ∷
    Deliver 0 (hex (codes "8c")) ∷
    Deliver 0 (hex (codes "f1")) ∷
    Deliver 0 (hex (codes "e3")) ∷
    Deliver 0 (hex (codes "c2")) ∷
    Deliver 0 (hex (codes "e5")) ∷
    Deliver 0 (hex (codes "f2")) ∷
    Deliver 0 (hex (codes "3a")) ∷
    Deliver 0 (hex (codes "6b")) ∷
    Deliver 0 (hex (codes "a0")) ∷
    Deliver 0 (hex (codes "ab")) ∷
    Deliver 0 (hex (codes "90")) ∷
    Deliver 0 (hex (codes "f4")) ∷
    Deliver 0 (hex (codes "ff")) ∷
    Deliver 0 (hex (codes "c1")) ∷
    Deliver 0 (hex (codes "2b")) ∷
    Deliver 0 (hex (codes "f2")) ∷
    PullStream 0 ∷
    Deliver 0 (hex (codes "b0")) ∷
    Deliver 0 (hex (codes "ff")) ∷
    PullStream 0 ∷
    Deliver 0 (hex (codes "81")) ∷
    Deliver 0 (hex (codes "17")) ∷
    Deliver 0 (hex (codes "2b")) ∷
    SendTrailer 12 (head (field (hex (codes "782d61")) (hex (codes "32")) ∷ [])) ∷
    PullStream 12 ∷
    SendHead 4 (head (field (hex (codes "3a737461747573")) (hex (codes "323939")) ∷ field (hex (codes "782d61")) (hex (codes "32")) ∷ [])) ∷
    SendHead 4 (head (field (hex (codes "3a737461747573")) (hex (codes "313033")) ∷ field (hex (codes "782d6c6f6e6765722d6e616d65")) (hex (codes "616e6420612076616c7565")) ∷ [])) ∷
    SendHead 12 (head (field (hex (codes "3a737461747573")) (hex (codes "313033")) ∷ [])) ∷
    Outgoing 12 ∷
    Finish 8 ∷
    Outgoing 12 ∷
    SendTrailer 8 (head (field (hex (codes "782d62")) (hex (codes "32")) ∷ [])) ∷
    PullStream 4 ∷
    PullStream 4 ∷
    PullStream 0 ∷
    PullStream 4 ∷
    PullStream 8 ∷
    PullStream 12 ∷
    PullStream 14 ∷
    Outgoing 3 ∷
    Outgoing 7 ∷
    Outgoing 11 ∷
    Show ∷
    []

abbrev pub case_29_answers : List Result
case_29_answers =
    Done ∷
    Refused refusal.NotOpen ∷
    Done ∷
    Done ∷
    Pulled pulls.Pending ∷
    Done ∷
    Done ∷
    Done ∷
    Shown None (record { sending = 0; receiving = 0 }) 0 ∷
    Done ∷
    Pulled pulls.Pending ∷
    Done ∷
    Done ∷
    Done ∷
    Done ∷
    Refused refusal.NotClient ∷
    Done ∷
    Done ∷
    Done ∷
    Pulled pulls.Pending ∷
    Done ∷
    Refused refusal.NotClient ∷
    Done ∷
    Done ∷
    Done ∷
    Done ∷
    Done ∷
    Done ∷
    Done ∷
    Done ∷
    Done ∷
    Done ∷
    Done ∷
    Pulled pulls.Pending ∷
    Done ∷
    Done ∷
    Pulled pulls.Pending ∷
    Done ∷
    Pulled pulls.Pending ∷
    Done ∷
    Done ∷
    Done ∷
    Done ∷
    Done ∷
    Pulled pulls.Pending ∷
    Done ∷
    Pulled pulls.Pending ∷
    Done ∷
    Done ∷
    Done ∷
    Done ∷
    Done ∷
    Pulled pulls.Pending ∷
    Done ∷
    Done ∷
    Done ∷
    Done ∷
    Done ∷
    Done ∷
    Done ∷
    Pulled (pulls.Item (item.Head (head (field (hex (codes "3a6d6574686f64")) (hex (codes "474554")) ∷ field (hex (codes "3a736368656d65")) (hex (codes "6874747073")) ∷ field (hex (codes "3a617574686f72697479")) (hex (codes "612e62")) ∷ field (hex (codes "3a70617468")) (hex (codes "2f")) ∷ field (hex (codes "782d61")) (hex (codes "31")) ∷ field (hex (codes "782d61")) (hex (codes "31")) ∷ [])))) ∷
    Done ∷
    Done ∷
    Done ∷
    Done ∷
    Done ∷
    Done ∷
    Done ∷
    Done ∷
    Done ∷
    Pulled pulls.Pending ∷
    Done ∷
    Done ∷
    Done ∷
    Done ∷
    Pulled pulls.Pending ∷
    Done ∷
    Pulled (pulls.Item (item.Body (hex (codes "63")))) ∷
    Done ∷
    Pulled (pulls.Item (item.Body (hex (codes "62")))) ∷
    Done ∷
    Done ∷
    Pulled pulls.Pending ∷
    Done ∷
    Done ∷
    Done ∷
    Done ∷
    Done ∷
    Done ∷
    Done ∷
    Done ∷
    Done ∷
    Done ∷
    Done ∷
    Done ∷
    Done ∷
    Done ∷
    Done ∷
    Done ∷
    Pulled pulls.Pending ∷
    Done ∷
    Done ∷
    Pulled pulls.Pending ∷
    Done ∷
    Done ∷
    Done ∷
    Refused refusal.NotOpen ∷
    Pulled pulls.Pending ∷
    Done ∷
    Refused refusal.OutOfOrder ∷
    Refused refusal.NotOpen ∷
    Waits [] ∷
    Refused refusal.OutOfOrder ∷
    Waits [] ∷
    Refused refusal.OutOfOrder ∷
    Pulled (pulls.Fault (fault.Stream (stream_fault.Reset 268))) ∷
    Pulled (pulls.Fault (fault.Stream (stream_fault.Reset 268))) ∷
    Pulled pulls.Pending ∷
    Pulled (pulls.Fault (fault.Stream (stream_fault.Reset 268))) ∷
    Pulled (pulls.Item (item.Body (hex (codes "63")))) ∷
    Pulled pulls.Pending ∷
    Pulled pulls.Pending ∷
    Waits (hex (codes "0004150643e80800ab603742003300ab60374300011f0701")) ∷
    Waits (hex (codes "02")) ∷
    Waits (hex (codes "0344")) ∷
    Shown None (record { sending = 0; receiving = 0 }) 0 ∷
    []

abbrev pub case_30_endpoint : EndpointHistory
case_30_endpoint = new_endpoint Server (plain 1000 220 2)

abbrev pub case_30 : List Call
case_30 =
    Deliver 0 [] ∷
    Deliver 4 [] ∷
    Deliver 8 [] ∷
    Deliver 12 [] ∷
    Deliver 16 [] ∷
    Deliver 20 [] ∷
    Deliver 24 [] ∷
    Deliver 28 [] ∷
    Deliver 32 [] ∷
    Deliver 36 [] ∷
    Deliver 2 (hex (codes "0004060140dc074064")) ∷
    Deliver 10 (hex (codes "03")) ∷
    SendHead 0 (head (field (hex (codes "3a737461747573")) (hex (codes "313033")) ∷ field (hex (codes "782d62")) (hex (codes "32")) ∷ [])) ∷
    Deliver 10 (hex (codes "01")) ∷
    Deliver 10 (hex (codes "40")) ∷
    SendHead 32 (head (field (hex (codes "3a737461747573")) (hex (codes "313033")) ∷ field (hex (codes "616363657074")) (hex (codes "2a2f2a")) ∷ field (hex (codes "736572766572")) (hex (codes "73")) ∷ [])) ∷
    SendTrailer 0 (head (field (hex (codes "3a70617468")) (hex (codes "2f")) ∷ [])) ∷
    SendHead 0 (head (field (hex (codes "3a737461747573")) (hex (codes "313033")) ∷ field (hex (codes "616363657074")) (hex (codes "2a2f2a")) ∷ field (hex (codes "616363657074")) (hex (codes "2a2f2a")) ∷ field (hex (codes "782d62")) (hex (codes "32")) ∷ [])) ∷
    Deliver 10 (hex (codes "a0")) ∷
    Deliver 10 (hex (codes "01")) ∷
    Deliver 10 [] ∷
    SendTrailer 32 (head (field (hex (codes "782d62")) (hex (codes "32")) ∷ field (hex (codes "736572766572")) (hex (codes "73")) ∷ [])) ∷
    Deliver 10 [] ∷
    SendTrailer 28 (head (field (hex (codes "616363657074")) (hex (codes "2a2f2a")) ∷ field (hex (codes "736572766572")) (hex (codes "73")) ∷ [])) ∷
    Finish 24 ∷
    SendHead 8 (head (field (hex (codes "3a737461747573")) (hex (codes "313033")) ∷ field (hex (codes "782d61")) (hex (codes "32")) ∷ field (hex (codes "782d62")) (hex (codes "32")) ∷ field (hex (codes "782d62")) (hex (codes "32")) ∷ [])) ∷
    SendTrailer 4 (head (field (hex (codes "3a70617468")) (hex (codes "2f")) ∷ [])) ∷
    Reset 12 ∷
    Deliver 10 (hex (codes "48")) ∷
    Deliver 10 (hex (codes "01")) ∷
    SendTrailer 32 (head (field (hex (codes "616363657074")) (hex (codes "2a2f2a")) ∷ field (hex (codes "782d61")) (hex (codes "32")) ∷ [])) ∷
    SendHead 32 (head (field (hex (codes "3a737461747573")) (hex (codes "313033")) ∷ [])) ∷
    SendTrailer 0 (head (field (hex (codes "616363657074")) (hex (codes "2a2f2a")) ∷ field (hex (codes "616363657074")) (hex (codes "2a2f2a")) ∷ field (hex (codes "782d61")) (hex (codes "32")) ∷ field (hex (codes "782d62")) (hex (codes "32")) ∷ field (hex (codes "782d62")) (hex (codes "32")) ∷ [])) ∷
    Deliver 10 (hex (codes "44")) ∷
    Outgoing 0 ∷
    Outgoing 4 ∷
    Outgoing 8 ∷
    Outgoing 12 ∷
    Outgoing 16 ∷
    Outgoing 20 ∷
    Outgoing 24 ∷
    Outgoing 28 ∷
    Outgoing 32 ∷
    Outgoing 36 ∷
    Outgoing 7 ∷
    Outgoing 11 ∷
    Show ∷
    []

abbrev pub case_30_answers : List Result
case_30_answers =
    Done ∷
    Done ∷
    Done ∷
    Done ∷
    Done ∷
    Done ∷
    Done ∷
    Done ∷
    Done ∷
    Done ∷
    Done ∷
    Done ∷
    Done ∷
    Done ∷
    Done ∷
    Done ∷
    Refused refusal.OutOfOrder ∷
    Done ∷
    Done ∷
    Done ∷
    Done ∷
    Refused refusal.OutOfOrder ∷
    Done ∷
    Refused refusal.OutOfOrder ∷
    Refused refusal.OutOfOrder ∷
    Done ∷
    Refused refusal.OutOfOrder ∷
    Done ∷
    Done ∷
    Done ∷
    Refused refusal.OutOfOrder ∷
    Done ∷
    Refused refusal.OutOfOrder ∷
    Done ∷
    Waits (hex (codes "01040280d810010b0000d8dddd2bf2b47f8117")) ∷
    Waits [] ∷
    Waits (hex (codes "01060480d8108181")) ∷
    Waits [] ∷
    Waits [] ∷
    Waits [] ∷
    Waits [] ∷
    Waits [] ∷
    Waits (hex (codes "01050380d8dd1001030000d8")) ∷
    Waits [] ∷
    Waits (hex (codes "023fbd0163f2b47f8117ff1d814763f2b0ff8117")) ∷
    Waits (hex (codes "03")) ∷
    Shown (Some (record { capacity = 220; blocked = 100; section = 4611686018427387903 })) (record { sending = 111; receiving = 0 }) 0 ∷
    []
