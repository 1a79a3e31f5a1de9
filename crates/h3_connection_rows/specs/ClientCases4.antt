-- Hostile lists of calls of a client, with what the model of scripts/ answers to them. Made by scripts/gate/connection_cases.py.
use Rattle.std.specs.Prelude.{List, [], ◌∷◌, codes, Some}
use Rattle.h3_proto.specs.declared.stream.Side.TheVariants.{Client}
use Rattle.h3_connection.specs.declared.event.Item.TheVariants as item
use Rattle.h3_connection.specs.declared.event.Pull.TheVariants as pulls
use Rattle.h3_connection.specs.declared.event.Refusal.TheVariants as refusal
use Rattle.h3_connection.specs.declared.event.Fault.TheVariants as fault
use Rattle.h3_connection.specs.declared.event.StreamFault.TheVariants as stream_fault
use Rattle.h3_connection.specs.declared.event.Malformation.TheVariants as malformation
use Rattle.h3_connection.specs.Endpoint.{EndpointHistory, new_endpoint}
use Rattle.h3_connection.specs.CallLists.{Call, Result}
use Rattle.h3_connection.specs.CallLists.Call.{OpenRequest, SendHead, SendBody, SendTrailer, Reset, Outgoing, Deliver, DeliverEnd, DeliverReset, PullStream, Show}
use Rattle.h3_connection.specs.CallLists.Result.{Opened, Done, Refused, Waits, Pulled, Shown}
use Rattle.h3_connection_rows.specs.Worked.{hex, field, head, plain}

abbrev pub case_16_endpoint : EndpointHistory
case_16_endpoint = new_endpoint Client (plain 1000 31 1)

abbrev pub case_16 : List Call
case_16 =
    OpenRequest ∷
    OpenRequest ∷
    Deliver 15 (hex (codes "00040501419007")) ∷
    Deliver 0 (hex (codes "010a")) ∷
    Deliver 15 (hex (codes "0107")) ∷
    Deliver 4 (hex (codes "404104726177206279746573")) ∷
    Deliver 8 (hex (codes "01210000d92bf2")) ∷
    PullStream 8 ∷
    Deliver 0 (hex (codes "000001dd2bf2b47f81172101780003404104616363000178000362626301030000c1")) ∷
    PullStream 4 ∷
    DeliverReset 4 268 ∷
    DeliverReset 0 268 ∷
    Deliver 8 (hex (codes "b0")) ∷
    Deliver 15 (hex (codes "01000d0107")) ∷
    PullStream 0 ∷
    Deliver 8 (hex (codes "ff")) ∷
    Deliver 8 (hex (codes "810f2f03f2b507")) ∷
    PullStream 0 ∷
    Deliver 8 (hex (codes "aa62d8b543a4bf")) ∷
    PullStream 4 ∷
    Deliver 8 (hex (codes "881d5228353b8e")) ∷
    Deliver 8 (hex (codes "8b4b28810f")) ∷
    SendHead 4 (head (field (hex (codes "3a6d6574686f64")) (hex (codes "474554")) ∷ field (hex (codes "3a736368656d65")) (hex (codes "6874747073")) ∷ field (hex (codes "3a617574686f72697479")) (hex (codes "612e62")) ∷ field (hex (codes "3a70617468")) (hex (codes "2f")) ∷ [])) ∷
    PullStream 0 ∷
    PullStream 4 ∷
    PullStream 4 ∷
    PullStream 8 ∷
    PullStream 8 ∷
    Outgoing 6 ∷
    Outgoing 10 ∷
    Show ∷
    []

abbrev pub case_16_answers : List Result
case_16_answers =
    Opened 0 ∷
    Opened 4 ∷
    Done ∷
    Done ∷
    Done ∷
    Done ∷
    Refused refusal.NotOpen ∷
    Pulled pulls.NoMessages ∷
    Done ∷
    Pulled (pulls.Fault (fault.Connection 261)) ∷
    Refused (refusal.Connection 261) ∷
    Refused (refusal.Connection 261) ∷
    Refused (refusal.Connection 261) ∷
    Refused (refusal.Connection 261) ∷
    Pulled (pulls.Fault (fault.Connection 261)) ∷
    Refused (refusal.Connection 261) ∷
    Refused (refusal.Connection 261) ∷
    Pulled (pulls.Fault (fault.Connection 261)) ∷
    Refused (refusal.Connection 261) ∷
    Pulled (pulls.Fault (fault.Connection 261)) ∷
    Refused (refusal.Connection 261) ∷
    Refused (refusal.Connection 261) ∷
    Refused (refusal.Closed 261) ∷
    Pulled (pulls.Fault (fault.Connection 261)) ∷
    Pulled (pulls.Fault (fault.Connection 261)) ∷
    Pulled (pulls.Fault (fault.Connection 261)) ∷
    Pulled (pulls.Fault (fault.Connection 261)) ∷
    Pulled (pulls.Fault (fault.Connection 261)) ∷
    Waits (hex (codes "023ff102")) ∷
    Waits (hex (codes "03")) ∷
    Shown (Some (record { capacity = 400; blocked = 1; section = 4611686018427387903 })) (record { sending = 0; receiving = 0 }) 0 ∷
    []

abbrev pub case_17_endpoint : EndpointHistory
case_17_endpoint = new_endpoint Client (plain 1000 64 1)

abbrev pub case_17 : List Call
case_17 =
    OpenRequest ∷
    OpenRequest ∷
    OpenRequest ∷
    Deliver 27 (hex (codes "000407064050010007010408064078070a01406421")) ∷
    Deliver 27 (hex (codes "0178")) ∷
    Deliver 31 (hex (codes "02")) ∷
    Deliver 35 (hex (codes "0302")) ∷
    PullStream 8 ∷
    SendTrailer 4 (head (field (hex (codes "782d62")) (hex (codes "32")) ∷ [])) ∷
    Deliver 0 (hex (codes "01100000d92bf2b0ff810fc55f098313efff0300")) ∷
    DeliverEnd 0 ∷
    Show ∷
    Deliver 4 (hex (codes "0d02419001280000d852")) ∷
    PullStream 4 ∷
    Show ∷
    Deliver 4 (hex (codes "8177")) ∷
    Deliver 4 (hex (codes "2f03f2b507")) ∷
    Deliver 4 (hex (codes "aa62d8b543a4bf810f2bf2b0ff810f2f")) ∷
    PullStream 4 ∷
    Deliver 4 (hex (codes "03f2b507aa62d8b543a4bf810f01350000d82b")) ∷
    PullStream 4 ∷
    Deliver 4 (hex (codes "f2b0ff81172f03f2")) ∷
    Deliver 4 (hex (codes "b507aa62d8b543a4bf881d5228353b8e8b4b5281")) ∷
    Deliver 4 (hex (codes "772f03f2b507aa62d8b5")) ∷
    PullStream 4 ∷
    Deliver 4 (hex (codes "43a4bf810f5f098313efff00800000016200c0")) ∷
    PullStream 0 ∷
    Deliver 4 (hex (codes "000000")) ∷
    PullStream 8 ∷
    Deliver 4 (hex (codes "000000")) ∷
    Deliver 4 (hex (codes "00")) ∷
    DeliverEnd 4 ∷
    PullStream 0 ∷
    PullStream 0 ∷
    PullStream 0 ∷
    SendHead 0 (head (field (hex (codes "3a6d6574686f64")) (hex (codes "474554")) ∷ field (hex (codes "3a736368656d65")) (hex (codes "6874747073")) ∷ field (hex (codes "3a617574686f72697479")) (hex (codes "7777772e6578616d706c652e636f6d")) ∷ field (hex (codes "3a70617468")) (hex (codes "2f")) ∷ field (hex (codes "782d6c6f6e6765722d6e616d65")) (hex (codes "616e6420612076616c7565")) ∷ field (hex (codes "782d6c6f6e6765722d6e616d65")) (hex (codes "31")) ∷ field (hex (codes "782d61")) (hex (codes "32")) ∷ field (hex (codes "782d61")) (hex (codes "31")) ∷ [])) ∷
    PullStream 4 ∷
    PullStream 4 ∷
    PullStream 0 ∷
    PullStream 0 ∷
    PullStream 8 ∷
    PullStream 8 ∷
    PullStream 4 ∷
    SendHead 8 (head (field (hex (codes "3a6d6574686f64")) (hex (codes "504f5354")) ∷ field (hex (codes "3a736368656d65")) (hex (codes "6874747073")) ∷ field (hex (codes "3a617574686f72697479")) (hex (codes "612e62")) ∷ field (hex (codes "3a70617468")) (hex (codes "2f")) ∷ field (hex (codes "782d6c6f6e6765722d6e616d65")) (hex (codes "616e6420612076616c7565")) ∷ [])) ∷
    PullStream 0 ∷
    PullStream 4 ∷
    PullStream 8 ∷
    PullStream 15 ∷
    Outgoing 2 ∷
    Outgoing 6 ∷
    Outgoing 10 ∷
    Show ∷
    []

abbrev pub case_17_answers : List Result
case_17_answers =
    Opened 0 ∷
    Opened 4 ∷
    Opened 8 ∷
    Refused (refusal.Connection 261) ∷
    Refused (refusal.Connection 261) ∷
    Refused (refusal.Connection 261) ∷
    Refused (refusal.Connection 261) ∷
    Pulled (pulls.Fault (fault.Connection 261)) ∷
    Refused (refusal.Closed 261) ∷
    Refused (refusal.Connection 261) ∷
    Refused (refusal.Connection 261) ∷
    Shown (Some (record { capacity = 0; blocked = 1; section = 80 })) (record { sending = 0; receiving = 0 }) 0 ∷
    Refused (refusal.Connection 261) ∷
    Pulled (pulls.Fault (fault.Connection 261)) ∷
    Shown (Some (record { capacity = 0; blocked = 1; section = 80 })) (record { sending = 0; receiving = 0 }) 0 ∷
    Refused (refusal.Connection 261) ∷
    Refused (refusal.Connection 261) ∷
    Refused (refusal.Connection 261) ∷
    Pulled (pulls.Fault (fault.Connection 261)) ∷
    Refused (refusal.Connection 261) ∷
    Pulled (pulls.Fault (fault.Connection 261)) ∷
    Refused (refusal.Connection 261) ∷
    Refused (refusal.Connection 261) ∷
    Refused (refusal.Connection 261) ∷
    Pulled (pulls.Fault (fault.Connection 261)) ∷
    Refused (refusal.Connection 261) ∷
    Pulled (pulls.Fault (fault.Connection 261)) ∷
    Refused (refusal.Connection 261) ∷
    Pulled (pulls.Fault (fault.Connection 261)) ∷
    Refused (refusal.Connection 261) ∷
    Refused (refusal.Connection 261) ∷
    Refused (refusal.Connection 261) ∷
    Pulled (pulls.Fault (fault.Connection 261)) ∷
    Pulled (pulls.Fault (fault.Connection 261)) ∷
    Pulled (pulls.Fault (fault.Connection 261)) ∷
    Refused (refusal.Closed 261) ∷
    Pulled (pulls.Fault (fault.Connection 261)) ∷
    Pulled (pulls.Fault (fault.Connection 261)) ∷
    Pulled (pulls.Fault (fault.Connection 261)) ∷
    Pulled (pulls.Fault (fault.Connection 261)) ∷
    Pulled (pulls.Fault (fault.Connection 261)) ∷
    Pulled (pulls.Fault (fault.Connection 261)) ∷
    Pulled (pulls.Fault (fault.Connection 261)) ∷
    Refused (refusal.Closed 261) ∷
    Pulled (pulls.Fault (fault.Connection 261)) ∷
    Pulled (pulls.Fault (fault.Connection 261)) ∷
    Pulled (pulls.Fault (fault.Connection 261)) ∷
    Pulled (pulls.Fault (fault.Connection 261)) ∷
    Waits (hex (codes "0004160643e80800ab603742003300ab603743000140400701")) ∷
    Waits (hex (codes "02")) ∷
    Waits (hex (codes "03")) ∷
    Shown (Some (record { capacity = 0; blocked = 1; section = 80 })) (record { sending = 0; receiving = 0 }) 0 ∷
    []

abbrev pub case_18_endpoint : EndpointHistory
case_18_endpoint = new_endpoint Client (plain 1000 220 2)

abbrev pub case_18 : List Call
case_18 =
    OpenRequest ∷
    OpenRequest ∷
    OpenRequest ∷
    Deliver 3 (hex (codes "00040801406407030640ad")) ∷
    Deliver 11 (hex (codes "03")) ∷
    Deliver 11 [] ∷
    SendHead 8 (head (field (hex (codes "3a6d6574686f64")) (hex (codes "474554")) ∷ field (hex (codes "3a70617468")) (hex (codes "2f78")) ∷ field (hex (codes "782d6c6f6e6765722d6e616d65")) (hex (codes "616e6420612076616c7565")) ∷ field (hex (codes "782d6c6f6e6765722d6e616d65")) (hex (codes "616e6420612076616c7565")) ∷ field (hex (codes "782d6c6f6e6765722d6e616d65")) (hex (codes "616e6420612076616c7565")) ∷ field (hex (codes "782d6c6f6e6765722d6e616d65")) (hex (codes "616e6420612076616c7565")) ∷ field (hex (codes "616765")) (hex (codes "37")) ∷ [])) ∷
    SendHead 0 (head (field (hex (codes "3a6d6574686f64")) (hex (codes "474554")) ∷ field (hex (codes "3a70617468")) (hex (codes "2f78")) ∷ field (hex (codes "782d6c6f6e6765722d6e616d65")) (hex (codes "616e6420612076616c7565")) ∷ field (hex (codes "782d6c6f6e6765722d6e616d65")) (hex (codes "616e6420612076616c7565")) ∷ field (hex (codes "782d6c6f6e6765722d6e616d65")) (hex (codes "616e6420612076616c7565")) ∷ field (hex (codes "616765")) (hex (codes "37")) ∷ field (hex (codes "616765")) (hex (codes "37")) ∷ [])) ∷
    SendHead 0 (head (field (hex (codes "3a6d6574686f64")) (hex (codes "474554")) ∷ field (hex (codes "3a70617468")) (hex (codes "2f78")) ∷ field (hex (codes "616765")) (hex (codes "37")) ∷ field (hex (codes "616765")) (hex (codes "37")) ∷ field (hex (codes "616765")) (hex (codes "37")) ∷ field (hex (codes "782d6c6f6e6765722d6e616d65")) (hex (codes "616e6420612076616c7565")) ∷ field (hex (codes "782d6c6f6e6765722d6e616d65")) (hex (codes "616e6420612076616c7565")) ∷ [])) ∷
    Deliver 11 [] ∷
    SendTrailer 4 (head (field (hex (codes "3a70617468")) (hex (codes "2f")) ∷ [])) ∷
    Deliver 11 [] ∷
    SendHead 8 (head (field (hex (codes "3a6d6574686f64")) (hex (codes "474554")) ∷ field (hex (codes "3a70617468")) (hex (codes "2f78")) ∷ [])) ∷
    Deliver 11 (hex (codes "48")) ∷
    Deliver 11 (hex (codes "01")) ∷
    SendHead 0 (head (field (hex (codes "3a6d6574686f64")) (hex (codes "474554")) ∷ field (hex (codes "3a70617468")) (hex (codes "2f78")) ∷ field (hex (codes "616765")) (hex (codes "37")) ∷ field (hex (codes "616765")) (hex (codes "37")) ∷ field (hex (codes "616765")) (hex (codes "37")) ∷ field (hex (codes "782d6c6f6e6765722d6e616d65")) (hex (codes "616e6420612076616c7565")) ∷ field (hex (codes "782d6c6f6e6765722d6e616d65")) (hex (codes "616e6420612076616c7565")) ∷ [])) ∷
    SendHead 0 (head (field (hex (codes "3a6d6574686f64")) (hex (codes "474554")) ∷ field (hex (codes "3a70617468")) (hex (codes "2f78")) ∷ field (hex (codes "782d6c6f6e6765722d6e616d65")) (hex (codes "616e6420612076616c7565")) ∷ field (hex (codes "782d6c6f6e6765722d6e616d65")) (hex (codes "616e6420612076616c7565")) ∷ field (hex (codes "616765")) (hex (codes "37")) ∷ field (hex (codes "616765")) (hex (codes "37")) ∷ field (hex (codes "616765")) (hex (codes "37")) ∷ [])) ∷
    Reset 4 ∷
    SendHead 0 (head (field (hex (codes "3a6d6574686f64")) (hex (codes "474554")) ∷ field (hex (codes "3a70617468")) (hex (codes "2f78")) ∷ field (hex (codes "782d6c6f6e6765722d6e616d65")) (hex (codes "616e6420612076616c7565")) ∷ [])) ∷
    Deliver 11 (hex (codes "01")) ∷
    SendHead 4 (head (field (hex (codes "3a6d6574686f64")) (hex (codes "474554")) ∷ field (hex (codes "3a70617468")) (hex (codes "2f78")) ∷ field (hex (codes "616765")) (hex (codes "37")) ∷ [])) ∷
    SendTrailer 4 (head (field (hex (codes "616765")) (hex (codes "37")) ∷ field (hex (codes "782d6c6f6e6765722d6e616d65")) (hex (codes "616e6420612076616c7565")) ∷ [])) ∷
    Deliver 11 (hex (codes "40")) ∷
    Deliver 11 [] ∷
    SendHead 8 (head (field (hex (codes "3a6d6574686f64")) (hex (codes "474554")) ∷ field (hex (codes "3a70617468")) (hex (codes "2f78")) ∷ field (hex (codes "782d6c6f6e6765722d6e616d65")) (hex (codes "616e6420612076616c7565")) ∷ [])) ∷
    Deliver 11 [] ∷
    SendHead 8 (head (field (hex (codes "3a6d6574686f64")) (hex (codes "474554")) ∷ field (hex (codes "3a70617468")) (hex (codes "2f78")) ∷ field (hex (codes "782d6c6f6e6765722d6e616d65")) (hex (codes "616e6420612076616c7565")) ∷ field (hex (codes "782d6c6f6e6765722d6e616d65")) (hex (codes "616e6420612076616c7565")) ∷ field (hex (codes "782d6c6f6e6765722d6e616d65")) (hex (codes "616e6420612076616c7565")) ∷ field (hex (codes "616765")) (hex (codes "37")) ∷ field (hex (codes "616765")) (hex (codes "37")) ∷ [])) ∷
    SendHead 4 (head (field (hex (codes "3a6d6574686f64")) (hex (codes "474554")) ∷ field (hex (codes "3a70617468")) (hex (codes "2f78")) ∷ field (hex (codes "616765")) (hex (codes "37")) ∷ [])) ∷
    Deliver 11 [] ∷
    SendHead 8 (head (field (hex (codes "3a6d6574686f64")) (hex (codes "474554")) ∷ field (hex (codes "3a70617468")) (hex (codes "2f78")) ∷ [])) ∷
    Deliver 11 [] ∷
    SendHead 4 (head (field (hex (codes "3a6d6574686f64")) (hex (codes "474554")) ∷ field (hex (codes "3a70617468")) (hex (codes "2f78")) ∷ field (hex (codes "616765")) (hex (codes "37")) ∷ [])) ∷
    SendTrailer 8 (head (field (hex (codes "616765")) (hex (codes "37")) ∷ field (hex (codes "616765")) (hex (codes "37")) ∷ field (hex (codes "616765")) (hex (codes "37")) ∷ field (hex (codes "616765")) (hex (codes "37")) ∷ field (hex (codes "782d6c6f6e6765722d6e616d65")) (hex (codes "616e6420612076616c7565")) ∷ [])) ∷
    SendTrailer 0 (head (field (hex (codes "782d6c6f6e6765722d6e616d65")) (hex (codes "616e6420612076616c7565")) ∷ field (hex (codes "782d6c6f6e6765722d6e616d65")) (hex (codes "616e6420612076616c7565")) ∷ field (hex (codes "782d6c6f6e6765722d6e616d65")) (hex (codes "616e6420612076616c7565")) ∷ field (hex (codes "616765")) (hex (codes "37")) ∷ field (hex (codes "616765")) (hex (codes "37")) ∷ [])) ∷
    Deliver 11 [] ∷
    SendHead 0 (head (field (hex (codes "3a6d6574686f64")) (hex (codes "474554")) ∷ field (hex (codes "3a70617468")) (hex (codes "2f78")) ∷ field (hex (codes "782d6c6f6e6765722d6e616d65")) (hex (codes "616e6420612076616c7565")) ∷ field (hex (codes "616765")) (hex (codes "37")) ∷ field (hex (codes "616765")) (hex (codes "37")) ∷ field (hex (codes "616765")) (hex (codes "37")) ∷ field (hex (codes "616765")) (hex (codes "37")) ∷ [])) ∷
    SendHead 8 (head (field (hex (codes "3a6d6574686f64")) (hex (codes "474554")) ∷ field (hex (codes "3a70617468")) (hex (codes "2f78")) ∷ field (hex (codes "616765")) (hex (codes "37")) ∷ [])) ∷
    SendHead 0 (head (field (hex (codes "3a6d6574686f64")) (hex (codes "474554")) ∷ field (hex (codes "3a70617468")) (hex (codes "2f78")) ∷ field (hex (codes "616765")) (hex (codes "37")) ∷ field (hex (codes "782d6c6f6e6765722d6e616d65")) (hex (codes "616e6420612076616c7565")) ∷ [])) ∷
    Deliver 11 [] ∷
    Deliver 11 [] ∷
    SendTrailer 8 (head (field (hex (codes "616765")) (hex (codes "37")) ∷ [])) ∷
    Deliver 11 [] ∷
    Deliver 11 [] ∷
    Deliver 11 [] ∷
    Outgoing 0 ∷
    Outgoing 4 ∷
    Outgoing 8 ∷
    Outgoing 6 ∷
    Outgoing 10 ∷
    Show ∷
    []

abbrev pub case_18_answers : List Result
case_18_answers =
    Opened 0 ∷
    Opened 4 ∷
    Opened 8 ∷
    Done ∷
    Done ∷
    Done ∷
    Refused (refusal.TooLarge 341) ∷
    Refused (refusal.TooLarge 321) ∷
    Refused (refusal.TooLarge 301) ∷
    Done ∷
    Refused refusal.OutOfOrder ∷
    Done ∷
    Done ∷
    Done ∷
    Done ∷
    Refused (refusal.TooLarge 301) ∷
    Refused (refusal.TooLarge 301) ∷
    Done ∷
    Done ∷
    Done ∷
    Refused refusal.OutOfOrder ∷
    Refused refusal.OutOfOrder ∷
    Done ∷
    Done ∷
    Refused refusal.OutOfOrder ∷
    Done ∷
    Refused refusal.OutOfOrder ∷
    Refused refusal.OutOfOrder ∷
    Done ∷
    Refused refusal.OutOfOrder ∷
    Done ∷
    Refused refusal.OutOfOrder ∷
    Refused (refusal.TooLarge 200) ∷
    Refused (refusal.TooLarge 240) ∷
    Done ∷
    Refused refusal.OutOfOrder ∷
    Refused refusal.OutOfOrder ∷
    Refused refusal.OutOfOrder ∷
    Done ∷
    Done ∷
    Done ∷
    Done ∷
    Done ∷
    Done ∷
    Waits (hex (codes "01050380d18010")) ∷
    Waits [] ∷
    Waits (hex (codes "01040280d11001050000528177")) ∷
    Waits (hex (codes "023f45c18263cf6af2b507aa62d8b543a4bf881d5228353b8e8b4b")) ∷
    Waits (hex (codes "03")) ∷
    Shown (Some (record { capacity = 100; blocked = 3; section = 173 })) (record { sending = 95; receiving = 0 }) 0 ∷
    []

abbrev pub case_19_endpoint : EndpointHistory
case_19_endpoint = new_endpoint Client (plain 90 64 3)

abbrev pub case_19 : List Call
case_19 =
    OpenRequest ∷
    OpenRequest ∷
    OpenRequest ∷
    Deliver 8 (hex (codes "01400800005f09")) ∷
    Deliver 8 (hex (codes "830befff01800000090000db2bf2b47f8117")) ∷
    Deliver 8 (hex (codes "4000016300016201c0000000000000030000dd")) ∷
    DeliverReset 8 268 ∷
    Deliver 0 (hex (codes "010f0000d92bf2b0")) ∷
    PullStream 0 ∷
    Deliver 0 (hex (codes "ff810f2bf2b0ff811700")) ∷
    Deliver 4 (hex (codes "01210000d92f03f2b507aa62d8b543a4bf810f2bf2b0ff81172bf2b47f81175f4d8147")) ∷
    PullStream 8 ∷
    DeliverEnd 4 ∷
    Deliver 0 (hex (codes "026361010800002bf2b0ff")) ∷
    Deliver 0 (hex (codes "810f")) ∷
    SendHead 4 (head (field (hex (codes "3a6d6574686f64")) (hex (codes "474554")) ∷ field (hex (codes "3a736368656d65")) (hex (codes "6874747073")) ∷ field (hex (codes "3a617574686f72697479")) (hex (codes "612e62")) ∷ field (hex (codes "3a70617468")) (hex (codes "2f")) ∷ [])) ∷
    SendBody 8 (hex (codes "7879")) ∷
    Deliver 27 (hex (codes "00")) ∷
    Deliver 27 (hex (codes "04060640780140dc800000070108210178")) ∷
    SendTrailer 0 (head (field (hex (codes "782d61")) (hex (codes "31")) ∷ [])) ∷
    SendHead 4 (head (field (hex (codes "3a6d6574686f64")) (hex (codes "474554")) ∷ field (hex (codes "3a736368656d65")) (hex (codes "6874747073")) ∷ field (hex (codes "3a617574686f72697479")) (hex (codes "7777772e6578616d706c652e636f6d")) ∷ field (hex (codes "3a70617468")) (hex (codes "2f")) ∷ field (hex (codes "636f6f6b6965")) [] ∷ field (hex (codes "736572766572")) (hex (codes "73")) ∷ field (hex (codes "736572766572")) (hex (codes "73")) ∷ field (hex (codes "782d61")) (hex (codes "32")) ∷ [])) ∷
    PullStream 0 ∷
    PullStream 4 ∷
    PullStream 8 ∷
    PullStream 15 ∷
    Outgoing 2 ∷
    Outgoing 6 ∷
    Outgoing 10 ∷
    Show ∷
    []

abbrev pub case_19_answers : List Result
case_19_answers =
    Opened 0 ∷
    Opened 4 ∷
    Opened 8 ∷
    Done ∷
    Done ∷
    Done ∷
    Done ∷
    Done ∷
    Pulled pulls.Pending ∷
    Done ∷
    Done ∷
    Pulled (pulls.Fault (fault.Stream (stream_fault.Reset 268))) ∷
    Done ∷
    Done ∷
    Done ∷
    Done ∷
    Refused refusal.OutOfOrder ∷
    Done ∷
    Done ∷
    Refused refusal.OutOfOrder ∷
    Refused refusal.OutOfOrder ∷
    Pulled (pulls.Item (item.TooLarge 114)) ∷
    Pulled (pulls.Item (item.TooLarge 199)) ∷
    Pulled (pulls.Fault (fault.Stream (stream_fault.Reset 268))) ∷
    Pulled pulls.Pending ∷
    Waits (hex (codes "00041606405a0800ab603742003300ab603743000140400703")) ∷
    Waits (hex (codes "023fbd01")) ∷
    Waits (hex (codes "0348")) ∷
    Shown (Some (record { capacity = 220; blocked = 0; section = 120 })) (record { sending = 0; receiving = 0 }) 0 ∷
    []

abbrev pub case_20_endpoint : EndpointHistory
case_20_endpoint = new_endpoint Client (plain 1000 64 1)

abbrev pub case_20 : List Call
case_20 =
    OpenRequest ∷
    OpenRequest ∷
    Deliver 0 (hex (codes "01270000d92bf2b0ff81172bf2b0ff81172f03f2b507aa62d8b543a4bf881d5228353b8e8b4b28810f011700002f03f2b507aa62d8b543a4bf881d5228353b8e8b4b")) ∷
    PullStream 0 ∷
    SendHead 8 (head (field (hex (codes "3a6d6574686f64")) (hex (codes "474554")) ∷ field (hex (codes "3a736368656d65")) (hex (codes "6874747073")) ∷ field (hex (codes "3a617574686f72697479")) (hex (codes "612e62")) ∷ field (hex (codes "3a70617468")) (hex (codes "2f")) ∷ [])) ∷
    DeliverReset 0 268 ∷
    SendTrailer 0 (head (field (hex (codes "616363657074")) (hex (codes "2a2f2a")) ∷ [])) ∷
    Deliver 15 (hex (codes "00040801404007020643e8")) ∷
    Deliver 11 (hex (codes "8803")) ∷
    PullStream 0 ∷
    PullStream 0 ∷
    PullStream 0 ∷
    PullStream 4 ∷
    PullStream 8 ∷
    PullStream 8 ∷
    PullStream 8 ∷
    Outgoing 6 ∷
    Outgoing 10 ∷
    Show ∷
    []

abbrev pub case_20_answers : List Result
case_20_answers =
    Opened 0 ∷
    Opened 4 ∷
    Done ∷
    Pulled (pulls.Fault (fault.Stream (stream_fault.Malformed malformation.Name))) ∷
    Refused refusal.NotOpen ∷
    Done ∷
    Refused refusal.OutOfOrder ∷
    Done ∷
    Done ∷
    Pulled (pulls.Fault (fault.Stream (stream_fault.Malformed malformation.Name))) ∷
    Pulled (pulls.Fault (fault.Stream (stream_fault.Malformed malformation.Name))) ∷
    Pulled (pulls.Fault (fault.Stream (stream_fault.Malformed malformation.Name))) ∷
    Pulled pulls.Pending ∷
    Pulled pulls.NoMessages ∷
    Pulled pulls.NoMessages ∷
    Pulled pulls.NoMessages ∷
    Waits (hex (codes "023f21")) ∷
    Waits (hex (codes "0340")) ∷
    Shown (Some (record { capacity = 64; blocked = 2; section = 1000 })) (record { sending = 0; receiving = 0 }) 0 ∷
    []
