-- Worked schedules: lists of fields in the place of headers.
use Rattle.std.specs.Prelude.{true, List, [], ◌∷◌, codes}
use Rattle.http_header.specs.FieldValue.{plain_value}
use Rattle.http_header.specs.HeaderMap.{append}
use Rattle.h3_field.specs.Field.{Field, plain_field}
use Rattle.h3_header.specs.Head.{Head as Fields, response_head}
use Rattle.h3_proto.specs.declared.stream.Side.TheVariants.{Client, Server}
use Rattle.h3_connection.specs.declared.event.Item.TheVariants as item
use Rattle.h3_connection.specs.declared.event.Malformation.TheVariants as malformation
use Rattle.h3_connection.specs.declared.event.Pull.TheVariants as pull
use Rattle.h3_connection.specs.declared.event.Refusal.TheVariants as refusal
use Rattle.h3_connection.specs.declared.lists.ListItem.TheVariants as listed
use Rattle.h3_connection.specs.declared.lists.ListPull.TheVariants as list
use Rattle.h3_world.specs.declared.event.Event.{Event}
use Rattle.h3_world.specs.declared.event.Event.TheVariants as event
use Rattle.h3_world.specs.declared.event.Answer.{Answer}
use Rattle.h3_world.specs.declared.event.Answer.TheVariants as answer
use Rattle.h3_world.specs.WorkedHeads.{x_b}

-- a response with two fields of one name, and one between them that is in no table
abbrev pub in_order : List Field
in_order =
    plain_field (codes ":status") (codes "200") ∷ plain_field (codes "b") (codes "1") ∷
    record { name = codes "a"; value = codes "2"; never_indexed = true } ∷ plain_field (codes "b") (codes "3") ∷ []

-- the header that it reads as: the values of one name together
abbrev pub by_name : Fields
by_name =
    response_head 200 (append (append (append [] (codes "b") (plain_value (codes "1"))) (codes "a") (plain_value (codes "2"))) (codes "b") (plain_value (codes "3")))

abbrev pub trailer_list : List Field
trailer_list = plain_field (codes "x-t") (codes "1") ∷ []

-- a list that is pulled as a list, with a body, a trailer and the end behind it
abbrev pub listed_run : List Event
listed_run =
    event.OpenRequest Client ∷ event.Deliver Client 0 0 ∷ event.PullFields Client 0 ∷ event.Fields Server 0 in_order ∷
    event.Deliver Server 0 16 ∷ event.PullFields Client 0 ∷ event.Deliver Server 0 1 ∷ event.PullFields Client 0 ∷
    event.Body Server 0 (codes "hi") ∷ event.TrailerFields Server 0 trailer_list ∷ event.Finish Server 0 ∷ event.Deliver Server 0 14 ∷
    event.DeliverEnd Server 0 ∷ event.PullFields Client 0 ∷ event.PullFields Client 0 ∷ event.PullFields Client 0 ∷ []

abbrev pub listed_answers : List Answer
listed_answers =
    answer.Opened 0 ∷ answer.Delivered 0 ∷ answer.Listed list.Pending ∷ answer.Done ∷
    answer.Delivered 16 ∷ answer.Listed list.Pending ∷ answer.Delivered 1 ∷ answer.Listed (list.Item (listed.Head in_order)) ∷
    answer.Done ∷ answer.Done ∷ answer.Done ∷ answer.Delivered 14 ∷
    answer.Done ∷ answer.Listed (list.Item (listed.Body (codes "hi"))) ∷ answer.Listed (list.Item (listed.Trailer trailer_list)) ∷ answer.Listed (list.Item listed.End) ∷ []

-- a list that is pulled as a header, and a header that is pulled as its list
abbrev pub mixed_run : List Event
mixed_run =
    event.OpenRequest Client ∷ event.OpenRequest Client ∷ event.Deliver Client 0 0 ∷ event.Deliver Client 4 0 ∷
    event.Fields Server 0 in_order ∷ event.Deliver Server 0 17 ∷ event.Pull Client 0 ∷ event.Head Server 4 (x_b 200) ∷
    event.Deliver Server 4 11 ∷ event.PullFields Client 4 ∷ event.PullFields Client 4 ∷ []

abbrev pub mixed_answers : List Answer
mixed_answers =
    answer.Opened 0 ∷ answer.Opened 4 ∷ answer.Delivered 0 ∷ answer.Delivered 0 ∷
    answer.Done ∷ answer.Delivered 17 ∷ answer.Pulled (pull.Item (item.Head by_name)) ∷ answer.Done ∷
    answer.Delivered 11 ∷ answer.Listed (list.Item (listed.Head (plain_field (codes ":status") (codes "200") ∷ plain_field (codes "x-b") (codes "2") ∷ []))) ∷ answer.Listed list.Pending ∷ []

-- lists that are refused
abbrev pub unlisted_run : List Event
unlisted_run =
    event.Fields Server 0 in_order ∷ event.OpenRequest Client ∷ event.Deliver Client 0 0 ∷
    event.Fields Server 0 (plain_field (codes "B") (codes "1") ∷ []) ∷ event.Fields Server 0 trailer_list ∷ event.TrailerFields Server 0 trailer_list ∷
    event.Fields Server 0 in_order ∷ event.Fields Server 0 (plain_field (codes "B") (codes "1") ∷ []) ∷ event.TrailerFields Server 0 in_order ∷
    event.TrailerFields Server 0 (plain_field (codes ":x") [] ∷ []) ∷ []

abbrev pub unlisted_answers : List Answer
unlisted_answers =
    answer.Refused refusal.NotOpen ∷ answer.Opened 0 ∷ answer.Delivered 0 ∷
    answer.Refused (refusal.Malformed malformation.Name) ∷ answer.Refused refusal.WrongSide ∷ answer.Refused refusal.OutOfOrder ∷
    answer.Done ∷ answer.Refused refusal.OutOfOrder ∷ answer.Refused refusal.PseudoInTrailer ∷
    answer.Refused (refusal.Malformed malformation.Name) ∷ []
