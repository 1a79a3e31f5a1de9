-- Worked schedules of two sides that ask for strict messages.
use Rattle.std.specs.Prelude.{true, List, [], ◌∷◌, codes, Some, None}
use Rattle.http_header.specs.FieldValue.{plain_value}
use Rattle.http_header.specs.HeaderMap.{append}
use Rattle.h3_header.specs.Head.{Head as Fields}
use Rattle.h3_proto.specs.Config.{no_choices}
use Rattle.h3_proto.specs.declared.stream.Side.TheVariants.{Client, Server}
use Rattle.h3_connection.specs.Codes.{frame_unexpected}
use Rattle.h3_connection.specs.declared.event.Fault.TheVariants as fault
use Rattle.h3_connection.specs.declared.event.Item.TheVariants as item
use Rattle.h3_connection.specs.declared.event.Malformation.{Malformation}
use Rattle.h3_connection.specs.declared.event.Malformation.TheVariants as malformation
use Rattle.h3_connection.specs.declared.event.Pull.TheVariants as pull
use Rattle.h3_connection.specs.declared.event.Refusal.TheVariants as refusal
use Rattle.h3_connection.specs.declared.event.StreamFault.TheVariants as stream_fault
use Rattle.h3_connection.specs.declared.setup.Announced.{Announced}
use Rattle.h3_world.specs.WorkedHeads.{between, home, plain, status, trailer_of, with_one}
use Rattle.h3_world.specs.declared.event.Answer.{Answer}
use Rattle.h3_world.specs.declared.event.Answer.TheVariants as answer
use Rattle.h3_world.specs.declared.event.Event.{Event}
use Rattle.h3_world.specs.declared.event.Event.TheVariants as event
use Rattle.h3_world.specs.Setup.{Setup}

abbrev pub strict : Announced
strict = record (plain 1000 0 0) { choices = record no_choices { strict_messages = true } }

abbrev pub strict_setup : Setup
strict_setup = between strict strict

-- a request without a path, which none may be (RFC 9114, section 4.3.1)
abbrev pub pathless : Fields
pathless = record home { path = None }

-- a request that says two bytes of content
abbrev pub post_two : Fields
post_two = record home { method = Some (codes "POST"); regular = append [] (codes "content-length") (plain_value (codes "2")) }

abbrev pub malformed_as : Malformation → Answer
malformed_as why = answer.Refused (refusal.Malformed why)

-- A head without a path, more content than the head says and an end before all of it are refused, and what is sent comes out. The head is 24
-- bytes long: two of its frame, two of the section's prefix, one for the method (static entry 20), one for the scheme (23), 14 for the
-- authority, one for the path (1), and three for content-length (the name of entry 4, and a value of one byte by the Huffman code). The body is
-- two bytes behind two of its frame
abbrev pub refused_run : List Event
refused_run =
    event.OpenRequest Client ∷ event.Head Client 0 pathless ∷ event.Head Client 0 post_two ∷ event.Body Client 0 (codes "hey") ∷
    event.Finish Client 0 ∷ event.Body Client 0 (codes "hi") ∷ event.Finish Client 0 ∷ event.Deliver Client 0 28 ∷ event.DeliverEnd Client 0 ∷
    event.Pull Server 0 ∷ event.Pull Server 0 ∷ event.Pull Server 0 ∷ []

abbrev pub refused_answers : List Answer
refused_answers =
    answer.Opened 0 ∷ malformed_as malformation.MissingPseudo ∷ answer.Done ∷ malformed_as malformation.ContentLength ∷
    malformed_as malformation.ContentLength ∷ answer.Done ∷ answer.Done ∷ answer.Delivered 28 ∷ answer.Done ∷
    answer.Pulled (pull.Item (item.Head post_two)) ∷ answer.Pulled (pull.Item (item.Body (codes "hi"))) ∷ answer.Pulled (pull.Item item.End) ∷ []

-- the same without the three sends that were refused
abbrev pub left_run : List Event
left_run =
    event.OpenRequest Client ∷ event.Head Client 0 post_two ∷ event.Body Client 0 (codes "hi") ∷ event.Finish Client 0 ∷
    event.Deliver Client 0 28 ∷ event.DeliverEnd Client 0 ∷ event.Pull Server 0 ∷ event.Pull Server 0 ∷ event.Pull Server 0 ∷ []

abbrev pub left_answers : List Answer
left_answers =
    answer.Opened 0 ∷ answer.Done ∷ answer.Done ∷ answer.Done ∷ answer.Delivered 28 ∷ answer.Done ∷
    answer.Pulled (pull.Item (item.Head post_two)) ∷ answer.Pulled (pull.Item (item.Body (codes "hi"))) ∷ answer.Pulled (pull.Item item.End) ∷ []

-- A server that answers a request of HEAD with content before it reads that request: the client finds the response malformed (RFC 9110, section
-- 9.3.2). The head of the response is eight bytes long: two of its frame, two of the prefix, one for the status (static entry 25), and three for
-- content-length. The body is two bytes behind two of its frame
abbrev pub head_request : Fields
head_request = record home { method = Some (codes "HEAD") }

abbrev pub early_run : List Event
early_run =
    event.OpenRequest Client ∷ event.Head Client 0 head_request ∷ event.Deliver Client 0 1 ∷ event.Head Server 0 (with_one 200 (codes "content-length") (codes "2")) ∷
    event.Body Server 0 (codes "hi") ∷ event.Deliver Server 0 12 ∷ event.Pull Client 0 ∷ event.Pull Client 0 ∷ []

abbrev pub early_front : List Event
early_front =
    event.OpenRequest Client ∷ event.Head Client 0 head_request ∷ event.Deliver Client 0 1 ∷ event.Head Server 0 (with_one 200 (codes "content-length") (codes "2")) ∷
    event.Body Server 0 (codes "hi") ∷ event.Deliver Server 0 12 ∷ event.Pull Client 0 ∷ []

abbrev pub early_answers : List Answer
early_answers =
    answer.Opened 0 ∷ answer.Done ∷ answer.Delivered 1 ∷ answer.Done ∷ answer.Done ∷ answer.Delivered 12 ∷
    answer.Pulled (pull.Item (item.Head (with_one 200 (codes "content-length") (codes "2")))) ∷
    answer.Pulled (pull.Fault (fault.Stream (stream_fault.Malformed malformation.ContentLength))) ∷ []

-- A strict client reads a tunnel of a server that is not strict: a trailer in it is a fault of the connection (RFC 9114, section 4.4). A response of a
-- status has 5 bytes, and the trailer 10: two of its frame, two of the prefix, four for its name and two for its value
abbrev pub connect : Fields
connect = record home { method = Some (codes "CONNECT"); scheme = None; authority = Some (codes "a:443"); path = None }

abbrev pub one_strict : Setup
one_strict = between strict (plain 1000 0 0)

abbrev pub tunnel_run : List Event
tunnel_run =
    event.OpenRequest Client ∷ event.Head Client 0 connect ∷ event.Deliver Client 0 0 ∷ event.Head Server 0 (status 200) ∷
    event.Trailer Server 0 (trailer_of (codes "x-t") (codes "1")) ∷ event.Deliver Server 0 5 ∷ event.Pull Client 0 ∷ event.Deliver Server 0 10 ∷ event.Pull Client 0 ∷ []

abbrev pub tunnel_answers : List Answer
tunnel_answers =
    answer.Opened 0 ∷ answer.Done ∷ answer.Delivered 0 ∷ answer.Done ∷
    answer.Done ∷ answer.Delivered 5 ∷ answer.Pulled (pull.Item (item.Head (status 200))) ∷ answer.Delivered 10 ∷
    answer.Pulled (pull.Fault (fault.Connection frame_unexpected)) ∷ []
