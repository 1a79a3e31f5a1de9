-- Worked schedules of sides that judge plainly, and of such as are strict or limit what is unfinished.
use Rattle.std.specs.Prelude.{ℕ, Bool, true, false, ◌&&◌, List, [], ◌∷◌, ◌++◌, Some, codes}
use Rattle.h3_header.specs.Head.{Head as Fields, head_fields}
use Rattle.h3_proto.specs.Config.{no_choices, no_extensions}
use Rattle.h3_proto.specs.declared.stream.Side.{Side}
use Rattle.h3_proto.specs.declared.stream.Side.TheVariants.{Client, Server}
use Rattle.h3_connection.specs.declared.event.Fault.TheVariants as fault
use Rattle.h3_connection.specs.declared.event.Item.TheVariants as item
use Rattle.h3_connection.specs.declared.event.Malformation.TheVariants as malformation
use Rattle.h3_connection.specs.declared.event.Pull.TheVariants as pull
use Rattle.h3_connection.specs.declared.event.Refusal.TheVariants as refusal
use Rattle.h3_connection.specs.declared.event.StreamFault.TheVariants as stream_fault
use Rattle.h3_connection.specs.declared.setup.Announced.{Announced}
use Rattle.h3_connection.specs.declared.lists.ListPull.TheVariants as list
use Rattle.h3_world.specs.WorkedHeads.{between, home, plain, status, with_one}
use Rattle.h3_world.specs.WorkedLists.{by_name, in_order, trailer_list}
use Rattle.h3_world.specs.declared.event.Answer.{Answer}
use Rattle.h3_world.specs.declared.event.Answer.TheVariants as answer
use Rattle.h3_world.specs.declared.event.Event.{Event}
use Rattle.h3_world.specs.declared.event.Event.TheVariants as event
use Rattle.h3_world.specs.Setup.{Setup}
use Rattle.h3_headline.specs.Messages.{MessageContent, sent}
use Rattle.h3_headline.specs.Messages.MessageContent.{Byte, FieldSection}
use Rattle.h3_headline.specs.Messages.SectionKind.{OfHead, OfTrailer}
use Rattle.h3_strict.specs.WorkedLimits.{ten}
use Rattle.h3_strict.specs.WorkedStrict.{post_two}
use Rattle.h3_faithful.specs.Sends.{goes_on, is_next}

-- what a server sends of a list with the two bytes h and i and a trailer, and how it comes out as lists
abbrev pub listed_sent : List MessageContent
listed_sent = FieldSection OfHead true in_order ∷ Byte 104 ∷ Byte 105 ∷ FieldSection OfTrailer true trailer_list ∷ []

-- a list that is pulled as a header
abbrev pub mixed_pulled : List MessageContent
mixed_pulled = FieldSection OfHead false (head_fields by_name) ∷ []

-- what a strict client sends that is refused three times, and what comes out
abbrev pub strict_sent : List MessageContent
strict_sent = FieldSection OfHead false (head_fields post_two) ∷ Byte 104 ∷ Byte 105 ∷ []

abbrev pub strict_pulled : List MessageContent
strict_pulled = FieldSection OfHead false (head_fields post_two) ∷ Byte 104 ∷ Byte 105 ∷ []

-- a response that a server sends with content to HEAD, before it reads the request, and what comes out of it
abbrev pub content_length_two : Fields
content_length_two = with_one 200 (codes "content-length") (codes "2")

abbrev pub early_sent : List MessageContent
early_sent = FieldSection OfHead false (head_fields content_length_two) ∷ Byte 104 ∷ Byte 105 ∷ []

abbrev pub early_pulled : List MessageContent
early_pulled = FieldSection OfHead false (head_fields content_length_two) ∷ []

-- Bytes of a control stream open no request stream: a header section on its id is not in order, and is refused.
abbrev pub control_run : List Event
control_run = event.OpenRequest Client ∷ event.Deliver Server 3 1 ∷ event.Head Client 3 home ∷ event.Head Client 0 home ∷ []

abbrev pub control_answers : List Answer
control_answers = answer.Opened 0 ∷ answer.Delivered 1 ∷ answer.Refused refusal.NotOpen ∷ answer.Done ∷ []

-- A stream that was reset goes on no more: what is sent behind that is refused. The other direction goes on. A request of home is 21 bytes long, a
-- response of a status 5
abbrev pub reset_run : List Event
reset_run =
    event.OpenRequest Client ∷ event.Head Client 0 home ∷ event.Deliver Client 0 21 ∷ event.Reset Client 0 ∷ event.Body Client 0 (codes "hi") ∷
    event.Head Server 0 (status 200) ∷ event.Deliver Server 0 5 ∷ event.Pull Client 0 ∷ []

abbrev pub reset_answers : List Answer
reset_answers =
    answer.Opened 0 ∷ answer.Done ∷ answer.Delivered 21 ∷ answer.Done ∷ answer.Refused refusal.OutOfOrder ∷
    answer.Done ∷ answer.Delivered 5 ∷ answer.Pulled (pull.Item (item.Head (status 200))) ∷ []

-- With all delivered a pull pauses behind all that was sent: the encoder stream of the server has its type alone, one byte
abbrev pub delivered_run : List Event
delivered_run =
    event.OpenRequest Client ∷ event.Deliver Client 0 0 ∷ event.Deliver Server 7 1 ∷ event.Head Server 0 (status 200) ∷ event.Deliver Server 0 5 ∷
    event.Pull Client 0 ∷ event.Deliver Server 7 1 ∷ event.Deliver Server 0 1 ∷ event.PullFields Client 0 ∷ []

abbrev pub delivered_answers : List Answer
delivered_answers =
    answer.Opened 0 ∷ answer.Delivered 0 ∷ answer.Delivered 1 ∷ answer.Done ∷ answer.Delivered 5 ∷
    answer.Pulled (pull.Item (item.Head (status 200))) ∷ answer.Short 0 ∷ answer.Short 0 ∷ answer.Listed list.Pending ∷ []

-- A client that asks for a strict connection opens a stream, and then its server goes away: the GOAWAY frame has three bytes, behind 24 of the
-- control stream's type and the settings. No request begins on the stream
abbrev pub careful : Announced
careful = record (plain 1000 0 0) { choices = record no_choices { extensions = record no_extensions { strict_connection = true } } }

abbrev pub careful_client : Setup
careful_client = between careful (plain 1000 0 0)

abbrev pub late_run : List Event
late_run = event.OpenRequest Client ∷ event.Goaway Server 0 ∷ event.Deliver Server 3 27 ∷ event.Head Client 0 home ∷ []

abbrev pub late_answers : List Answer
late_answers = answer.Opened 0 ∷ answer.Done ∷ answer.Delivered 27 ∷ answer.Refused (refusal.GoingAway 0) ∷ []

-- A client that limits what is unfinished to 256 bytes, and takes lists of 64, is sent a longer list before the server knows that: its stream alone is
-- given up, and another one goes on. Eighty bytes of 249 have 28 bits each in the Huffman code (RFC 7541, appendix B). So the header section has 290
-- bytes: two of the prefix, one for the status, four for the name, three of the value's length, which is 280, and these; and the frame three in front
abbrev pub limited : Announced
limited = record (plain 64 0 0) { choices = record no_choices { unfinished_limit = 256 } }

abbrev pub limited_client : Setup
limited_client = between limited (plain 1000 0 0)

abbrev pub rare : Fields
rare = let twenty = ten ++ ten in with_one 200 (codes "x-a") (twenty ++ twenty ++ twenty ++ twenty)

abbrev pub too_long : Answer
too_long = answer.Pulled (pull.Fault (fault.Stream (stream_fault.Malformed malformation.TooLong)))

abbrev pub limited_run : List Event
limited_run =
    event.OpenRequest Client ∷ event.OpenRequest Client ∷ event.Deliver Client 0 0 ∷ event.Deliver Client 4 0 ∷ event.Head Server 0 rare ∷ event.Deliver Server 0 293 ∷
    event.Pull Client 0 ∷ event.Head Server 4 (status 200) ∷ event.Deliver Server 4 5 ∷ event.Pull Client 4 ∷ event.Pull Client 0 ∷ []

abbrev pub limited_answers : List Answer
limited_answers =
    answer.Opened 0 ∷ answer.Opened 4 ∷ answer.Delivered 0 ∷ answer.Delivered 0 ∷ answer.Done ∷ answer.Delivered 293 ∷
    too_long ∷ answer.Done ∷ answer.Delivered 5 ∷ answer.Pulled (pull.Item (item.Head (status 200))) ∷ too_long ∷ []

-- A side that takes any protocol, and a request for one that other sides do not take (RFC 8441, section 4). Its header section has 38 bytes, 17 more
-- than that of home: two of the name's length, 7 of the name (RFC 7541, appendix B), one of the value's length and 7 of the value
abbrev pub curious : Announced
curious = record (plain 1000 0 0) { choices = record no_choices { extensions = record no_extensions { any_protocol = true } } }

abbrev pub curious_client : Setup
curious_client = between curious (plain 1000 0 0)

abbrev pub curious_server : Setup
curious_server = between (plain 1000 0 0) curious

abbrev pub websocket : Fields
websocket = record home { method = Some (codes "CONNECT"); protocol = Some (codes "websocket") }

-- the server finds it malformed, and another stream goes on
abbrev pub asked_run : List Event
asked_run =
    event.OpenRequest Client ∷ event.Head Client 0 websocket ∷ event.Deliver Client 0 38 ∷ event.Pull Server 0 ∷
    event.OpenRequest Client ∷ event.Head Client 4 home ∷ event.Deliver Client 4 21 ∷ event.Pull Server 4 ∷ []

abbrev pub asked_answers : List Answer
asked_answers =
    answer.Opened 0 ∷ answer.Done ∷ answer.Delivered 38 ∷ answer.Pulled (pull.Fault (fault.Stream (stream_fault.Malformed malformation.Value))) ∷
    answer.Opened 4 ∷ answer.Done ∷ answer.Delivered 21 ∷ answer.Pulled (pull.Item (item.Head home)) ∷ []

-- and a client that does not take it sends no such request
abbrev pub unasked_run : List Event
unasked_run = event.OpenRequest Client ∷ event.Head Client 0 websocket ∷ event.Head Client 0 home ∷ []

abbrev pub unasked_answers : List Answer
unasked_answers = answer.Opened 0 ∷ answer.Refused (refusal.Malformed malformation.Value) ∷ answer.Done ∷ []

-- what comes of a response of a status alone
abbrev pub status_pulled : List MessageContent
status_pulled = FieldSection OfHead false (head_fields (status 200)) ∷ []

abbrev pub status_sent : List MessageContent
status_sent = FieldSection OfHead false (head_fields (status 200)) ∷ []

-- which events of a schedule send what is next on the side's stream
abbrev pub nexts_behind : Setup → Side → ℕ → List Event → List Answer → List Event → List Answer → List Bool
nexts_behind setup side id before given (e ∷ events) (a ∷ answers) =
    (goes_on side id before given && is_next setup side id (sent side id before given) e) ∷ nexts_behind setup side id (before ++ e ∷ []) (given ++ a ∷ []) events answers
nexts_behind setup side id before given events answers = []

abbrev pub nexts : Setup → Side → ℕ → List Event → List Answer → List Bool
nexts setup side id events answers = nexts_behind setup side id [] [] events answers
